-- What a counted removal answers and leaves, from whether its tally has room.
use Rattle.std.specs.Prelude.{Err, Result, ⊤}
use mathlib.Core.Path.{◌≡◌, refl, sym, ap, ◌∙◌}
use mathlib.Core.Bool.{true, false}
use mathlib.Core.List.{List}
use Prim.Native.Nat.{ℕ}
use Rattle.journeys.specs.declared.Contact.{Contact}
use Rattle.journeys.proofs.Tests.{untrue}
use Rattle.rules.specs.declared.Refusal.{Refusal}
use Rattle.rules.specs.declared.Refusal.TheVariants.{TallyFull}
use Rattle.rules.specs.declared.Tally.{Tally}
use Rattle.rules.specs.Removing.{remove_answer, remove_leaves, remove_work}
use Rattle.rules.specs.Counting.{has_room, counted_removal, counted_removal_leaves, counted_removal_work, raised_by_removal, counted_removal_tally}
use Rattle.rules.proofs.Counted.{removal-cases}

module _ (t : Tally) (T W : List ℕ) (k : Contact) where
  -- The tally, the answer and both tables' words afterwards are those of the counted removal.
  abbrev pub Said : Tally → Result ⊤ Refusal → List ℕ → List ℕ → Type 0
  Said r a U Z = (r ≡ counted_removal_tally t T W k) × ((a ≡ counted_removal t T W k) × ((U ≡ counted_removal_leaves t T W k) × (Z ≡ counted_removal_work t T W k)))

  -- A full tally refuses with 16, and all stays as it was.
  pub full_refused : has_room t ≡ false → Said t (Err TallyFull) T W
  full_refused =
      removal-cases t T W k (λ b a L N s. b ≡ false → (t ≡ s) × ((Err TallyFull ≡ a) × ((T ≡ L) × (W ≡ N)))) (λ h e. (refl, (refl, (refl, refl))))
      (λ h e. untrue (sym e))

  -- With room the answer and the words are those of the uncounted removal, and the number that counts the answer is raised.
  pub room-counted : has_room t ≡ true → (r : Tally) (a : Result ⊤ Refusal) (U Z : List ℕ) → r ≡ raised_by_removal a t → a ≡ remove_answer T W k → U ≡ remove_leaves T W k → Z ≡ remove_work T W k
      → Said r a U Z
  room-counted o r a U Z p q g h =
      removal-cases t T W k (λ b x L N s. b ≡ true → (r ≡ s) × ((a ≡ x) × ((U ≡ L) × (Z ≡ N)))) (λ z e. untrue e)
      (λ z e. (p ∙ ap (λ (x : Result ⊤ Refusal). raised_by_removal x t) q, (q, (g, h)))) o
