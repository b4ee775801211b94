-- One cell in lent memory: what the functions on it ask, what a search finds, and how a missing tick is said.
use Rattle.std.specs.Prelude.{ℕ, suc, ◌+◌, ◌-◌, ◌≤◌, ◌<◌, ◌≡◌, cond, length, get_or, ltb, Option, None, Some}
use mathlib.Core.List.{List, [], ◌∷◌, Memᴰ}
use Rattle.journeys.specs.declared.Interval.{Interval}
use Rattle.journeys.specs.Cell.{Cell, Rising}
use Rattle.words.specs.Layout.{get}
use Rattle.words.specs.Words.{rows_field}
use Rattle.rules.specs.Limits.{max_arrival, max_cell_words}
use Rattle.rules.specs.Layout.{cell_words, cell_of}

-- The words are those of a rising cell with departures from 1 to the number of its rows and arrivals within their limit.
pub record Stored (xs : List ℕ) : Type 0 where
  pub words : xs ≡ cell_words (length xs - 1) (cell_of xs)
  pub long : 1 ≤ length xs
  pub short : length xs ≤ max_cell_words
  pub rising : Rising (cell_of xs)
  pub departs : (i : Interval) → Memᴰ i (cell_of xs) → 1 ≤ i.departure
  pub in_time : (i : Interval) → Memᴰ i (cell_of xs) → i.departure < length xs
  pub arrives : (i : Interval) → Memᴰ i (cell_of xs) → i.arrival ≤ max_arrival

-- How many rows are in use, as the cell's first word says.
abbrev pub rows_in : List ℕ → ℕ
rows_in cell = get rows_field (get_or cell 0 0)

-- The rows in use end within the cell.
abbrev pub RowsFit : List ℕ → Type 0
RowsFit cell = rows_in cell + 1 ≤ length cell

-- The rows in use end within the words, and they rise; whatever stands behind them.
pub record RowsInUse (xs : List ℕ) : Type 0 where
  pub within : rows_in xs < length xs
  pub rising : Rising (cell_of xs)

-- The two ends of an interval, as functions.
abbrev pub departure_end : Interval → ℕ
departure_end i = i.departure

abbrev pub arrival_end : Interval → ℕ
arrival_end i = i.arrival

-- How many intervals at the front of the cell have their end f below t.
unfoldable pub front_below : (Interval → ℕ) → ℕ → Cell → ℕ
front_below f t [] = 0
front_below f t (i ∷ c) = cond (ltb (f i) t) (suc (front_below f t c)) 0

-- A tick, or 0 where there is none; ticks begin at 1.
abbrev pub or_zero : Option ℕ → ℕ
or_zero None = 0
or_zero (Some t) = t
