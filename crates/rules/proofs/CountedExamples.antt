-- Counted adds and removals computed: a full tally, one with room for one more, and words that are no table.
use Rattle.std.specs.Prelude.{Ok, Err}
use mathlib.Core.Path.{◌≡◌, refl}
use mathlib.Core.List.{[]}
use Prim.Native.Nat.{ℕ}
use Rattle.journeys.specs.declared.Contact.{Contact}
use Rattle.journeys.specs.Journey.{contact}
use Rattle.rules.specs.declared.Refusal.TheVariants.{NotOpen, NotHeld, TallyFull}
use Rattle.rules.specs.declared.Added.TheVariants.{New, Known}
use Rattle.rules.specs.declared.Tally.{Tally}
use Rattle.words.specs.Layout.{is_of}
use Rattle.rules.specs.Checks.{is_open}
use Rattle.rules.specs.Adding.{add_refusal, add_answer}
use Rattle.rules.specs.Removing.{remove_refusal, remove_answer}
use Rattle.rules.specs.Counting.{tally_sum, has_room, counted_answer, raised, counted_tally, counted_removal, raised_by_removal, counted_removal_tally}

-- A tally of four numbers.
abbrev tally : ℕ → ℕ → ℕ → ℕ → Tally
tally new known refused removed = record { new = new; known = known; refused = refused; removed = removed }

-- Any contact.
abbrev c : Contact
c = contact 0 1 1

-- New raises the first number alone.
new-raised : raised (Ok (New 3)) (tally 5 6 7 8) ≡ tally 6 6 7 8
new-raised = refl

-- Known raises the second.
known-raised : raised (Ok (Known 3)) (tally 5 6 7 8) ≡ tally 5 7 7 8
known-raised = refl

-- A refusal raises the third.
refused-raised : raised (Err NotOpen) (tally 5 6 7 8) ≡ tally 5 6 8 8
refused-raised = refl

-- A removal raises the fourth alone, and one that is refused the third.
removed-raised : raised_by_removal (Ok tt) (tally 5 6 7 8) ≡ tally 5 6 7 9
removed-raised = refl

refused-removal_raised : raised_by_removal (Err NotHeld) (tally 5 6 7 8) ≡ tally 5 6 8 8
refused-removal_raised = refl

-- A tally that is full by its fourth number answers 16 before 5.
full_answer : counted_answer (tally 4294967292 1 1 1) [] c ≡ Err TallyFull
unfolding counted_answer has_room tally_sum
full_answer = refl

full_removal : counted_removal (tally 4294967292 1 1 1) [] [] c ≡ Err TallyFull
unfolding counted_removal has_room tally_sum
full_removal = refl

-- It is not counted.
full_tally_lem : counted_tally (tally 4294967292 1 1 1) [] c ≡ tally 4294967292 1 1 1
unfolding counted_tally has_room tally_sum
full_tally_lem = refl

full_removal_tally : counted_removal_tally (tally 4294967292 1 1 1) [] [] c ≡ tally 4294967292 1 1 1
unfolding counted_removal_tally has_room tally_sum
full_removal_tally = refl

-- With room for one more, 5 is answered.
room-answer : counted_answer (tally 4294967291 1 1 1) [] c ≡ Err NotOpen
unfolding counted_answer has_room tally_sum add_answer add_refusal is_open is_of
room-answer = refl

room-removal : counted_removal (tally 4294967291 1 1 1) [] [] c ≡ Err NotOpen
unfolding counted_removal has_room tally_sum remove_answer remove_refusal is_open is_of
room-removal = refl

-- It is counted.
room-tally : counted_tally (tally 4294967291 1 1 1) [] c ≡ tally 4294967291 1 2 1
unfolding counted_tally has_room tally_sum add_answer add_refusal is_open is_of
room-tally = refl

room-removal_tally : counted_removal_tally (tally 4294967291 1 1 1) [] [] c ≡ tally 4294967291 1 2 1
unfolding counted_removal_tally has_room tally_sum remove_answer remove_refusal is_open is_of
room-removal_tally = refl
