-- Adding a contact, uncounted (document 01, "Adding a contact" and "Lists of calls").
use Rattle.std.specs.Prelude.{ℕ, ◌+◌, ◌≤◌, ◌<◌, ◌≢◌, Bool, true, false, cond, not, ◌&&◌, ◌||◌, List, [], ◌∷◌, ltb, eqb, Option, None, Ok, Result}
use Rattle.journeys.specs.declared.Contact.{Contact}
use Rattle.journeys.specs.declared.Interval.{Interval}
use Rattle.journeys.specs.Journey.{interval}
use Rattle.journeys.specs.Cell.{Cell}
use Rattle.journeys.specs.Adding.{Cells, add}
use Rattle.rules.specs.declared.Refusal.{Refusal}
use Rattle.rules.specs.declared.Refusal.TheVariants.{NoSuchAnimal, SameAnimal, TickOutOfRange}
use Rattle.rules.specs.declared.Added.{Added}
use Rattle.rules.specs.declared.Added.TheVariants.{New, Known}
use Rattle.rules.specs.Answers.{ensure, unless, answer_of}
use Rattle.rules.specs.Folds.{sum_below, count_below, within}
use Rattle.rules.specs.Layout.{table_words, animals, ticks, carry, cells_of}
use Rattle.rules.specs.Checks.{ensure_table}

-- The contact is legal for n animals and τ ticks: two different animals of them, and one of the ticks from 1.
pub record Legal (n τ : ℕ) (k : Contact) : Type 0 where
  pub from_below : k.from < n
  pub to_below : k.to < n
  pub apart : k.from ≢ k.to
  pub from_one : 1 ≤ k.tick
  pub to_last : k.tick ≤ τ

-- The two are equal.
abbrev pub same_contact : Contact → Contact → Bool
same_contact k c = eqb k.from c.from && eqb k.to c.to && eqb k.tick c.tick

-- The two are equal.
abbrev pub same_interval : Interval → Interval → Bool
same_interval i j = eqb i.departure j.departure && eqb i.arrival j.arrival

-- The interval stands in the cell.
unfoldable pub stands : Interval → Cell → Bool
stands i [] = false
stands i (j ∷ c) = same_interval i j || stands i c

-- The two cells are the same list.
unfoldable pub same_cell : Cell → Cell → Bool
same_cell [] [] = true
same_cell [] (j ∷ d) = false
same_cell (i ∷ c) [] = false
same_cell (i ∷ c) (j ∷ d) = same_interval i j && same_cell c d

-- How many cells of n animals are not the same.
unfoldable pub cells_changed : ℕ → Cells → Cells → ℕ
cells_changed n T U = sum_below (λ x. count_below (λ y. not (same_cell (T x y) (U x y))) n) n

-- Two animals: 7 when a number is n or above, 8 when both are the same.
abbrev pub ensure_pair : List ℕ → ℕ → ℕ → Option Refusal → Option Refusal
ensure_pair T u v o = ensure (ltb u (animals T) && ltb v (animals T)) NoSuchAnimal (ensure (not (eqb u v)) SameAnimal o)

-- A contact's tick: 9 when it is not 1 to τ.
abbrev pub ensure_tick : List ℕ → ℕ → Option Refusal → Option Refusal
ensure_tick T t o = ensure (within 1 t (ticks T)) TickOutOfRange o

unfoldable pub add_refusal : List ℕ → Contact → Option Refusal
add_refusal T k = ensure_table T (ensure_pair T k.from k.to (ensure_tick T k.tick None))

-- The cells after the call, from the table before it.
unfoldable pub added_cells : List ℕ → Contact → Cells
added_cells T k = add (carry T) (cells_of T) k

-- The table holds the contact: its own interval stands in the cell of its animals.
unfoldable pub holds : List ℕ → Contact → Bool
holds T k = stands (interval k.tick (k.tick + carry T)) (cells_of T k.from k.to)

-- New or known, and how many cells changed.
abbrev pub added : List ℕ → Contact → Added
added T k = let changed = cells_changed (animals T) (cells_of T) (added_cells T k) in cond (holds T k) (Known changed) (New changed)

unfoldable pub add_answer : List ℕ → Contact → Result Added Refusal
add_answer T k = answer_of (add_refusal T k) (Ok (added T k))

-- The table's words afterwards.
unfoldable pub add_leaves : List ℕ → Contact → List ℕ
add_leaves T k = unless (add_refusal T k) (table_words (animals T) (ticks T) (carry T) (added_cells T k)) T
