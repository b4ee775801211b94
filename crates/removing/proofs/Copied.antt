-- Words copied one after the other.
use mathlib.Core.Path.{◌≡◌, refl, sym, ap₂, ◌∙◌}
use mathlib.Core.List.{List, [], ◌∷◌, ◌++◌}
use Prim.Native.Nat.{ℕ, ◌+◌, ◌≤◌, ◌<◌}
use native.Mathlib.Numerals.{add-one}
use native.Mathlib.Omega.{arith}
use lib.ListN.{length, get_or, take, set, length-set}
use lib.Seq.{take_all, take-suc, take-suc-set}

-- The first i words of `to` are those of `from`, and there are as many in both.
pub record Copied (from to : List ℕ) (i : ℕ) : Type 0 where
  pub long : length to ≡ length from
  pub same : take i to ≡ take i from

-- No word is copied yet.
pub copied_start : {from to : List ℕ} → length to ≡ length from → Copied from to 0
copied_start h = record { long = h; same = refl }

module _ {from to : List ℕ} {i : ℕ} (c : Copied from to i) where
  -- One word more is copied.
  pub copied_turn : i < length to → {w : ℕ} → w ≡ get_or from i 0 → Copied from (set to i w) (i + 1)
  copied_turn h {w} e =
      record {
        long = length-set to i w ∙ c.long;
        same = rw (add-one i) (take-suc-set to i w h ∙ ap₂ (λ (l : List ℕ) (x : ℕ). l ++ (x ∷ [])) c.same e ∙ sym (take-suc from i 0 (omega (arith, c.long))));
      }

  -- All words are copied.
  pub copied_end : length to ≤ i → to ≡ from
  copied_end h = sym (take_all i to h) ∙ c.same ∙ take_all i from (omega (arith, c.long))
