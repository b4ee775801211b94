-- What a counted call answers and leaves: a full tally refuses and all stays as it was, else it is the uncounted call, counted.
use Rattle.std.specs.Prelude.{Option, None, Some, Err, Result, ⊤}
use mathlib.Core.Bool.{Bool, true, false}
use mathlib.Core.List.{List}
use Prim.Native.Nat.{ℕ, ◌≤◌, ◌<◌}
use Rattle.journeys.specs.declared.Contact.{Contact}
use Rattle.journeys.proofs.Tests.{Outcome, holds, fails, lt_outcome}
use Rattle.rules.specs.declared.Refusal.{Refusal}
use Rattle.rules.specs.declared.Refusal.TheVariants.{TallyFull}
use Rattle.rules.specs.declared.Added.{Added}
use Rattle.rules.specs.declared.Tally.{Tally}
use Rattle.rules.specs.Answers.{ensure, unless, answer_of}
use Rattle.rules.specs.Adding.{add_answer, add_leaves}
use Rattle.rules.specs.Removing.{remove_answer, remove_leaves, remove_work}
use Rattle.rules.specs.Counting.{full_tally, tally_sum, has_room, full_refusal, counted_answer, counted_leaves, raised, counted_tally, counted_removal, counted_removal_leaves, counted_removal_work, raised_by_removal, counted_removal_tally}

module _ (t : Tally) where
  -- By cases: the tally is full and refuses with 16, or it has room and refuses nothing.
  room-cases : (P : Bool → Option Refusal → Type 0) → (full_tally ≤ tally_sum t → P false (Some TallyFull)) → (tally_sum t < full_tally → P true None) → P (has_room t) (full_refusal t)
  unfolding has_room
  room-cases P full room = go (lt_outcome (tally_sum t) full_tally)
    where
      go : {b : Bool} → Outcome (tally_sum t < full_tally) (full_tally ≤ tally_sum t) b → P b (ensure b TallyFull None)
      go (holds h) = room h
      go (fails h) = full h

  -- By cases: the tally is full and all stays as it was, or it has room and the add is answered and counted.
  pub counted-cases : (T : List ℕ) (k : Contact) (P : Bool → Result Added Refusal → List ℕ → Tally → Type 0) → (full_tally ≤ tally_sum t → P false (Err TallyFull) T t)
      → (tally_sum t < full_tally → P true (add_answer T k) (add_leaves T k) (raised (add_answer T k) t)) → P (has_room t) (counted_answer t T k) (counted_leaves t T k) (counted_tally t T k)
  unfolding counted_answer counted_leaves counted_tally
  counted-cases T k P = room-cases (λ b o. P b (answer_of o (add_answer T k)) (unless o (add_leaves T k) T) (unless o (raised (add_answer T k) t) t))

  -- The same of a removal.
  pub removal-cases : (T W : List ℕ) (k : Contact) (P : Bool → Result ⊤ Refusal → List ℕ → List ℕ → Tally → Type 0) → (full_tally ≤ tally_sum t → P false (Err TallyFull) T W t)
      → (tally_sum t < full_tally → P true (remove_answer T W k) (remove_leaves T W k) (remove_work T W k) (raised_by_removal (remove_answer T W k) t))
      → P (has_room t) (counted_removal t T W k) (counted_removal_leaves t T W k) (counted_removal_work t T W k) (counted_removal_tally t T W k)
  unfolding counted_removal counted_removal_leaves counted_removal_work counted_removal_tally
  removal-cases T W k P =
      room-cases
      (λ b o. P b (answer_of o (remove_answer T W k)) (unless o (remove_leaves T W k) T) (unless o (remove_work T W k) W) (unless o (raised_by_removal (remove_answer T W k) t) t))
