-- Which interval answers a question for the earliest arrival or the latest departure (document 02, One). A pair has its minimal intervals, and
-- the intervals of its journeys.
use Rattle.std.specs.Prelude.{ℕ, ◌≤◌}
use Rattle.journeys.specs.declared.Interval.{Interval}

-- The interval is minimal and leaves at first or later, and every journey that leaves then is there no sooner.
pub record Earliest (minimal journeys : Interval → Type 0) (first : ℕ) (i : Interval) : Type 0 where
  pub is_minimal : minimal i
  pub departs : first ≤ i.departure
  pub least : (j : Interval) → journeys j → first ≤ j.departure → i.arrival ≤ j.arrival

-- The interval is minimal and is there by last, and every journey that is there by then leaves no later.
pub record Latest (minimal journeys : Interval → Type 0) (last : ℕ) (i : Interval) : Type 0 where
  pub is_minimal : minimal i
  pub arrives : i.arrival ≤ last
  pub greatest : (j : Interval) → journeys j → j.arrival ≤ last → j.departure ≤ i.departure

-- No journey leaves at first or later.
abbrev pub NoneDeparts : (Interval → Type 0) → ℕ → Type 0
NoneDeparts journeys first = (j : Interval) → journeys j → ¬ (first ≤ j.departure)

-- No journey is there by last.
abbrev pub NoneArrives : (Interval → Type 0) → ℕ → Type 0
NoneArrives journeys last = (j : Interval) → journeys j → ¬ (j.arrival ≤ last)
