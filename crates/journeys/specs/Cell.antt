-- Cells and what is asked of them (document 01, "Words of the table" and "Adding a contact").
use Rattle.std.specs.Prelude.{Bool, false, cond, ◌&&◌, ◌||◌, ℕ, ◌+◌, ◌≤◌, ◌<◌, leb, ltb, Option, None, Some, option_map}
use mathlib.Core.List.{List, [], ◌∷◌, Memᴰ}
use Rattle.journeys.specs.declared.Interval.{Interval}

-- The intervals of an ordered pair, in the order of the rows.
abbrev pub Cell : Type 0
Cell = List Interval

-- The interval departs and arrives before the first of the cell, if there is one.
abbrev pub Before : Interval → Cell → Type 0
Before i [] = Unit {0}
Before i (j ∷ c) = (i.departure < j.departure) × (i.arrival < j.arrival)

-- Departures and arrivals are both strictly rising.
abbrev pub Rising : Cell → Type 0
Rising [] = Unit {0}
Rising (i ∷ c) = Before i c × Rising c

-- The departure is 1 to τ, the arrival is departure + δ to τ + δ.
pub record Limits (τ δ : ℕ) (i : Interval) : Type 0 where
  pub departs : 1 ≤ i.departure
  pub in_time : i.departure ≤ τ
  pub carried : i.departure + δ ≤ i.arrival
  pub arrives : i.arrival ≤ τ + δ

-- A cell is well formed for τ ticks and carry time δ.
pub record WellFormedCell (τ δ : ℕ) (c : Cell) : Type 0 where
  pub rising : Rising c
  pub limits : (i : Interval) → Memᴰ i c → Limits τ δ i

-- Of two intervals the one that departs later; the second may be missing.
unfoldable pub later : Interval → Option Interval → Option Interval
later i None = Some i
later i (Some j) = Some (cond (leb j.departure i.departure) i j)

-- Of two intervals the one that arrives sooner; the second may be missing.
unfoldable pub sooner : Interval → Option Interval → Option Interval
sooner i None = Some i
sooner i (Some j) = Some (cond (leb i.arrival j.arrival) i j)

-- The interval of the cell with the latest departure, of those with arrival at most t, if any.
unfoldable pub latest_departing : Cell → ℕ → Option Interval
latest_departing [] t = None
latest_departing (i ∷ c) t = cond (leb i.arrival t) (later i (latest_departing c t)) (latest_departing c t)

-- The interval of the cell with the earliest arrival, of those with departure at least t, if any.
unfoldable pub earliest_arriving : Cell → ℕ → Option Interval
earliest_arriving [] t = None
earliest_arriving (i ∷ c) t = cond (leb t i.departure) (sooner i (earliest_arriving c t)) (earliest_arriving c t)

-- The latest departure in the cell with arrival at most t, if any.
unfoldable pub latest_departure : Cell → ℕ → Option ℕ
latest_departure c t = option_map (λ i. i.departure) (latest_departing c t)

-- The earliest arrival in the cell with departure at least t, if any.
unfoldable pub earliest_arrival : Cell → ℕ → Option ℕ
earliest_arrival c t = option_map (λ i. i.arrival) (earliest_arriving c t)

-- The interval j lies inside i, or equals it: the inner one stands first.
abbrev pub inside : Interval → Interval → Bool
inside j i = leb i.departure j.departure && leb j.arrival i.arrival

-- An interval inside i, or equal to it, stands in the cell: i is the outer one.
unfoldable pub has_inside : Interval → Cell → Bool
has_inside i [] = false
has_inside i (j ∷ c) = inside j i || has_inside i c

-- The cell without the intervals that contain i: i is the inner one.
unfoldable pub without_containing : Interval → Cell → Cell
without_containing i [] = []
without_containing i (j ∷ c) = cond (inside i j) (without_containing i c) (j ∷ without_containing i c)

-- i put in order of departure.
unfoldable pub put_in_order : Interval → Cell → Cell
put_in_order i [] = i ∷ []
put_in_order i (j ∷ c) = cond (ltb i.departure j.departure) (i ∷ j ∷ c) (j ∷ put_in_order i c)

-- i enters the cell: the cell stays where it has an interval inside i or i itself; otherwise the intervals around i leave, and i takes its
-- place in the order.
unfoldable pub enter : Interval → Cell → Cell
enter i c = cond (has_inside i c) c (put_in_order i (without_containing i c))
