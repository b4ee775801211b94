-- The table without the contact: the second table opened, marked and built over the contacts that remain.
use mathlib.Core.Path.{◌≡◌, sym, ap, ◌∙◌}
use mathlib.Core.Logic.{inr, ⊎_elim}
use mathlib.Core.List.Memᴰ
use mathlib.Core.List.{List, [], ◌∷◌}
use Prim.Native.Nat.{ℕ, ◌+◌, ◌-◌, ◌≤◌}
use native.Mathlib.Omega.{arith}
use lib.ListN.{length, get_or, take, drop, replicate}
use Rattle.journeys.specs.declared.Contact.{Contact}
use Rattle.journeys.specs.Journey.{In, Same}
use Rattle.rules.specs.Limits.{max_ticks}
use Rattle.rules.specs.Layout.{table_words, animals, ticks, carry}
use Rattle.rules.specs.Checks.{ValidTable}
use Rattle.rules.specs.Opening.{no_intervals}
use Rattle.rules.specs.Fresh.{Fresh}
use Rattle.rules.specs.Removing.{remaining, table_without}
use Rattle.rules.proofs.Decode.{table-animals, table-ticks, table-carry}
use Rattle.rules.proofs.Sound.{table-sizes}
use Rattle.rules.proofs.Fresh.{fresh-map, fresh-unique}
use Rattle.rules.proofs.Removing.{without-fresh}
use Rattle.building.specs.Stage.{MarkedTable}
use Rattle.building.proofs.MarkedTables.{ReadOff, table-long, lent-marks, table-marked, opened-table}
use Rattle.removing.specs.Remaining.{table_opening, MarkedFor, MarkedBesides}

-- The table W is just opened by the opening of T, and there are no marks yet.
pub record SecondOpened (T heads W : List ℕ) : Type 0 where
  pub no-marks : heads ≡ replicate max_ticks 0
  pub words : W ≡ table_words (animals T) (ticks T) (carry T) no_intervals

module _ {T heads W : List ℕ} (s : SecondOpened T heads W) where
  -- It is ready for marks.
  opened : MarkedTable [] heads W
  opened = opened-table (animals T) (ticks T) (carry T) (table-sizes T) heads W s.no-marks s.words

  -- There is a first word.
  pub opened-long : 1 ≤ length W
  opened-long = table-long opened

  -- Its numbers are those of the opening.
  numbers : ReadOff (animals T) (ticks T + 1) (carry T) W
  numbers =
      let z = table-sizes T in
      record {
        animals-are = sym (ap animals s.words ∙ table-animals (animals T) (ticks T) (carry T) z no_intervals);
        size_is = ap (λ (i : ℕ). i + 1) (sym (ap ticks s.words ∙ table-ticks (animals T) (ticks T) (carry T) z no_intervals));
        carry-is = sym (ap carry s.words ∙ table-carry (animals T) (ticks T) (carry T) z no_intervals);
      }

  -- No contact is marked in the words behind its opening word, as they are lent.
  pub opened-marks : MarkedFor (table_opening T) [] heads (take (length W - 1) (drop 1 W))
  opened-marks = lent-marks opened numbers

  -- The contacts that remain are marked there.
  module _ (k : Contact) {heads₁ new : List ℕ} (m : MarkedBesides (table_opening T) [] (In (remaining T k)) heads₁ new) where
    -- No other is.
    left-are : Same (In m.all) (In (remaining T k))
    left-are c = (λ q. ⊎_elim (λ z. absurd (Memᴰ.not-nil z)) (λ z. z) ((m.are c).0 q), λ q. (m.are c).1 (inr q))

    module _ {W₁ : List ℕ} (g : W₁ ≡ get_or W 0 0 ∷ new) where
      -- The table with these words behind its opening word is marked.
      pub left-marked : MarkedTable m.all heads₁ W₁
      left-marked = table-marked opened numbers g m.marked

      -- Built over the contacts that are marked in it, it is the first table without k.
      pub left-built : ValidTable T → {W₂ : List ℕ} → ((ks : List Contact) → MarkedTable ks heads₁ W₁ → Fresh (animals W₁) (ticks W₁) (carry W₁) (In ks) W₂) → W₂ ≡ table_without T k
      left-built p h = fresh-unique (fresh-map (rw (n, τ, δ) at h m.all left-marked) left-are) (without-fresh T p k)
        where
          n : animals W₁ ≡ animals T
          n = ap animals g ∙ sym numbers.animals-are

          τ : ticks W₁ ≡ ticks T
          τ = ap ticks g ∙ omega (arith, numbers.size_is)

          δ : carry W₁ ≡ carry T
          δ = ap carry g ∙ sym numbers.carry-is
