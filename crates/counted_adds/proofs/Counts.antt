-- What a counted add answers and leaves, from whether its tally has room.
use Rattle.std.specs.Prelude.{Err, Result}
use mathlib.Core.Path.{◌≡◌, refl, sym, ap, ◌∙◌}
use mathlib.Core.Bool.{true, false}
use mathlib.Core.List.{List}
use Prim.Native.Nat.{ℕ}
use Rattle.journeys.specs.declared.Contact.{Contact}
use Rattle.journeys.proofs.Tests.{untrue}
use Rattle.rules.specs.declared.Refusal.{Refusal}
use Rattle.rules.specs.declared.Refusal.TheVariants.{TallyFull}
use Rattle.rules.specs.declared.Added.{Added}
use Rattle.rules.specs.declared.Tally.{Tally}
use Rattle.rules.specs.Adding.{add_answer, add_leaves}
use Rattle.rules.specs.Counting.{has_room, counted_answer, counted_leaves, raised, counted_tally}
use Rattle.rules.proofs.Counted.{counted-cases}

module _ (t : Tally) (T : List ℕ) (k : Contact) where
  -- The tally, the answer and the table's words afterwards are those of the counted add.
  abbrev pub Said : Tally → Result Added Refusal → List ℕ → Type 0
  Said r a U = (r ≡ counted_tally t T k) × ((a ≡ counted_answer t T k) × (U ≡ counted_leaves t T k))

  -- A full tally refuses with 16, and all stays as it was.
  pub full_refused : has_room t ≡ false → Said t (Err TallyFull) T
  full_refused =
      counted-cases t T k (λ b a L s. b ≡ false → (t ≡ s) × ((Err TallyFull ≡ a) × (T ≡ L))) (λ h e. (refl, (refl, refl))) (λ h e. untrue (sym e))

  -- With room the answer and the words are those of the uncounted add, and the number that counts the answer is raised.
  pub room-counted : has_room t ≡ true → (r : Tally) (a : Result Added Refusal) (U : List ℕ) → r ≡ raised a t → a ≡ add_answer T k → U ≡ add_leaves T k → Said r a U
  room-counted o r a U p q g =
      counted-cases t T k (λ b x L s. b ≡ true → (r ≡ s) × ((a ≡ x) × (U ≡ L))) (λ h e. untrue e)
      (λ h e. (p ∙ ap (λ (x : Result Added Refusal). raised x t) q, (q, g))) o
