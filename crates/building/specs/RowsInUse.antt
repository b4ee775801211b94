-- An interval put at the end of a cell, and the words of a cell with something behind its rows in use.
use Rattle.std.specs.Prelude.{ℕ, ◌+◌, ◌≤◌, ◌<◌, ◌≡◌, cond, length, drop, leb, Option, None, Some}
use mathlib.Core.List.{List, [], ◌∷◌, ◌++◌, map, Memᴰ}
use Rattle.journeys.specs.declared.Interval.{Interval}
use Rattle.journeys.specs.Journey.{interval}
use Rattle.journeys.specs.Cell.{Cell, Rising}
use Rattle.words.specs.Words.{count_word, interval_word}
use Rattle.rules.specs.Limits.{max_arrival, max_cell_words}
use Rattle.rules.specs.Layout.{cell_of}

-- i put at the end of the cell: nothing where the last departs as late or later; in the last's place where that arrives
-- as late or later; else behind it.
unfoldable pub put_last : Interval → Cell → Cell
put_last i [] = i ∷ []
put_last i (j ∷ []) = cond (leb i.departure j.departure) (j ∷ []) (cond (leb i.arrival j.arrival) (i ∷ []) (j ∷ i ∷ []))
put_last i (j ∷ k ∷ c) = j ∷ put_last i (k ∷ c)

-- The same, where the departure may be missing.
unfoldable pub put_last_from : Option ℕ → ℕ → Cell → Cell
put_last_from None a c = c
put_last_from (Some d) a c = put_last (interval d a) c

-- The words of a cell: its rows in use, then others.
unfoldable pub with_rows : Cell → List ℕ → List ℕ
with_rows c rest = count_word (length c) ∷ (map interval_word c ++ rest)

-- The words after the interval was put at the end of the rows in use.
abbrev pub put_words : Interval → List ℕ → List ℕ
put_words i xs = with_rows (put_last i (cell_of xs)) (drop (length (put_last i (cell_of xs)) + 1) xs)

-- The words are a count, rising rows with departures from 1 to the number of rows and arrivals within their limit, and
-- whatever stands behind them.
pub record InUse (xs : List ℕ) : Type 0 where
  pub words : xs ≡ with_rows (cell_of xs) (drop (length (cell_of xs) + 1) xs)
  pub fits : length (cell_of xs) < length xs
  pub short : length xs ≤ max_cell_words
  pub rising : Rising (cell_of xs)
  pub departs : (i : Interval) → Memᴰ i (cell_of xs) → 1 ≤ i.departure
  pub in_time : (i : Interval) → Memᴰ i (cell_of xs) → i.departure < length xs
  pub arrives : (i : Interval) → Memᴰ i (cell_of xs) → i.arrival ≤ max_arrival

-- The interval [d, a] can be put at the end of the rows in use.
pub record CanPutLast (d a : ℕ) (xs : List ℕ) : Type 0 where
  pub in_use : InUse xs
  pub departs : 1 ≤ d
  pub in_time : d < length xs
  pub arrives : a ≤ max_arrival
