-- The row of a cell that is looked for: its number and its interval.
use Rattle.std.specs.Prelude.{ℕ, zero, suc, ◌+◌, cond, length, get_or, ltb, Option, None, Some, option_map}
use Rattle.journeys.specs.declared.Interval.{Interval}
use Rattle.journeys.specs.Journey.{interval}
use Rattle.journeys.specs.Cell.{Cell}
use Rattle.cells.specs.declared.Row.{Row}
use Rattle.cells.specs.Stored.{departure_end, arrival_end, front_below}

-- Row k of the cell, counted from 0, with its interval; nothing where the cell has no such row.
unfoldable pub row_at : Cell → ℕ → Option Row
row_at c k = cond (ltb k (length c)) (Some (record { index = k; interval = get_or c k (interval 0 0) })) None

-- The row before row k.
abbrev pub row_before : Cell → ℕ → Option Row
row_before c zero = None
row_before c (suc k) = row_at c k

-- The first row that departs at or after t: it stands behind the rows at the front that depart before t.
unfoldable pub first_departing : Cell → ℕ → Option Row
first_departing c t = row_at c (front_below departure_end t c)

-- The last row that arrives by t: it is the last of the rows at the front that arrive before t + 1.
unfoldable pub last_arriving : Cell → ℕ → Option Row
last_arriving c t = row_before c (front_below arrival_end (t + 1) c)

-- The interval of the row, if there is one.
abbrev pub interval_found : Option Row → Option Interval
interval_found = option_map (λ r. r.interval)
