-- A list whose parts were all replaced, one after the other, is the list of the new parts.
use Prim.Native.Nat.{ℕ, zero, suc, ◌*◌, ◌<◌, ◌≤◌}
use mathlib.Core.Path.{◌≡◌, refl, sym, ap, ap₂, ◌∙◌}
use mathlib.Core.List.{List, ◌++◌, append_assoc, append-nil}
use native.Mathlib.Nat.{suc-mul, zero-mul}
use native.Mathlib.Omega.{arith}
use lib.ListN.{length, take, drop, take-append-drop}
use lib.Seq.{drop_at, take_at, drop-drop, drop-length}
use Rattle.rules.specs.Folds.{flat}
use Rattle.rules.proofs.Folds.{flat-length}
use Rattle.grid.specs.Parts.{part, put, parts}

module _ (f : ℕ → List ℕ → List ℕ) (s : ℕ) (l : List ℕ) where
  abbrev made : ℕ → List ℕ
  made k = f k (part s k l)

  parts-so_far : (n : ℕ) → n * s ≤ length l → ((k : ℕ) → k < n → length (made k) ≡ s) → parts f s n l ≡ flat made n ++ drop (n * s) l
  unfolding parts flat
  parts-so_far zero h e = ap (λ (i : ℕ). drop i l) (sym (zero-mul s))
  parts-so_far (suc n) h e =
      ap (λ (r : List ℕ). put s n (f n (part s n r)) r) (parts-so_far n (omega (arith, suc-mul n s)) (λ k o. e k (omega arith)))
      ∙ ap₂ ◌++◌ (take_at (flat made n) (drop (n * s) l) (n * s) long) (ap (λ (r : List ℕ). f n (take s r) ++ drop s r) (drop_at (flat made n) (drop (n * s) l) (n * s) long))
      ∙ sym (append_assoc (flat made n) (made n) (drop s (drop (n * s) l)))
      ∙ ap (λ (r : List ℕ). (flat made n ++ made n) ++ r) (drop-drop s (n * s) l ∙ ap (λ (i : ℕ). drop i l) (sym (suc-mul n s)))
    where
      long : length (flat made n) ≡ n * s
      long = flat-length made s n (λ k o. e k (omega arith))

  -- Every part made from the part as it was.
  pub parts-flat : (n : ℕ) → length l ≡ n * s → ((k : ℕ) → k < n → length (made k) ≡ s) → parts f s n l ≡ flat made n
  parts-flat n h e =
      parts-so_far n (omega arith) e ∙ ap (λ (i : ℕ). flat made n ++ drop i l) (sym h) ∙ ap (λ (r : List ℕ). flat made n ++ r) (drop-length l) ∙ append-nil (flat made n)

-- Parts that are replaced by themselves.
pub parts_same : (f : ℕ → List ℕ → List ℕ) (s : ℕ) (l : List ℕ) (n : ℕ) → ((k : ℕ) → k < n → part s k l ≡ f k (part s k l)) → l ≡ parts f s n l
unfolding parts
parts_same f s l zero e = refl
parts_same f s l (suc n) e =
    sym (ap (λ (r : List ℕ). put s n (f n (part s n r)) r) (sym (parts_same f s l n (λ k h. e k (omega arith))))
    ∙ ap (λ (p : List ℕ). put s n p l) (sym (e n (omega arith)))
    ∙ ap (λ (r : List ℕ). take (n * s) l ++ r) (take-append-drop s (drop (n * s) l))
    ∙ take-append-drop (n * s) l)
