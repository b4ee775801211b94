-- Adding a contact as the loops do it: the cells from one animal after those from another, each cell's words replaced in their place.
use Rattle.std.specs.Prelude.{ℕ, zero, suc, ◌+◌, ◌-◌, ◌*◌, ◌<◌, ◌≡◌, Bool, false, cond, not, List, length, get_or, drop, eqb, Option, None, Some}
use Rattle.journeys.specs.Journey.{interval}
use Rattle.journeys.specs.Cell.{Cell, latest_departure, earliest_arrival, has_inside}
use Rattle.journeys.specs.Adding.{enter_both}
use Rattle.rules.specs.Folds.{count_below}
use Rattle.rules.specs.Layout.{animals, ticks, cell_words, cell_of}
use Rattle.grid.specs.Parts.{part, parts}
use Rattle.grid.specs.Cells.{cell_in}
use Rattle.cells.specs.Stored.{or_zero}

-- ---- departures and arrivals

-- The tick at x that a contact joins: t for the contact's own animal, for another what is looked up by t in a cell's words.
abbrev pub tick_by : (Cell → ℕ → Option ℕ) → ℕ → ℕ → ℕ → List ℕ → Option ℕ
tick_by look own t x xs = cond (eqb x own) (Some t) (look (cell_of xs) t)

-- The departure of x: t for u itself, for another the latest that cell (x, u) has with an arrival by t.
unfoldable pub departing : ℕ → ℕ → List ℕ → ℕ → ℕ → ℕ → Option ℕ
departing n s body u t x = tick_by latest_departure u t x (cell_in n s body x u)

-- The arrival at y: a for v itself, for another the earliest in cell (v, y) with departure at least a.
unfoldable pub arriving : ℕ → ℕ → List ℕ → ℕ → ℕ → ℕ → Option ℕ
arriving n s body v a y = tick_by earliest_arrival v a y (cell_in n s body v y)

-- The array holds the ticks f of the first n animals, 0 where there is none.
abbrev pub Listed : ℕ → (ℕ → Option ℕ) → List ℕ → Type 0
Listed n f l = (k : ℕ) → k < n → get_or l k 0 ≡ or_zero (f k)

-- The array holds the departures of the table's animals that a contact from u at t joins.
abbrev pub Departures : List ℕ → ℕ → ℕ → List ℕ → Type 0
Departures T u t d = Listed (animals T) (departing (animals T) (ticks T + 1) (drop 1 T) u t) d

-- The array holds the arrivals at the table's animals that a contact reaching v at a joins.
abbrev pub Arrivals : List ℕ → ℕ → ℕ → List ℕ → Type 0
Arrivals T v a e = Listed (animals T) (arriving (animals T) (ticks T + 1) (drop 1 T) v a) e

-- The ticks of the first n animals lie below m.
abbrev pub Below : ℕ → ℕ → List ℕ → Type 0
Below n m l = (k : ℕ) → k < n → get_or l k 0 < m

-- A tick in an array of ticks, where 0 says that there is none.
abbrev pub tick_of : ℕ → Option ℕ
tick_of zero = None
tick_of (suc t) = Some (suc t)

-- ---- entering

-- What becomes of the words of cell (x, y), for the departure d of x and the arrival a at y.
unfoldable pub entered : ℕ → ℕ → ℕ → ℕ → List ℕ → List ℕ
entered x y d a xs = cond (eqb x y) xs (cell_words (length xs - 1) (enter_both (tick_of d) (tick_of a) (cell_of xs)))

-- The same, for the arrivals e.
unfoldable pub entered_at : ℕ → ℕ → List ℕ → ℕ → List ℕ → List ℕ
entered_at x d e y xs = entered x y d (get_or e y 0) xs

-- What becomes of the cells from x, for the departures d and the arrivals e of n animals.
unfoldable pub entered_from : ℕ → ℕ → List ℕ → List ℕ → ℕ → List ℕ → List ℕ
entered_from n s d e x cells = parts (entered_at x (get_or d x 0) e) s n cells

-- ---- changes

-- Whether entering between these ends changes the cell.
abbrev pub changes_both : Option ℕ → Option ℕ → Cell → Bool
changes_both None e c = false
changes_both (Some d) None c = false
changes_both (Some d) (Some e) c = not (has_inside (interval d e) c)

-- Whether cell (x, y) changes.
unfoldable pub changes : ℕ → ℕ → ℕ → ℕ → List ℕ → Bool
changes x y d a xs = cond (eqb x y) false (changes_both (tick_of d) (tick_of a) (cell_of xs))

-- Whether cell y of the cells from x changes, for the arrivals e.
unfoldable pub changes_at : ℕ → ℕ → ℕ → List ℕ → List ℕ → ℕ → Bool
changes_at s x d e cells y = changes x y d (get_or e y 0) (part s y cells)

-- How many of the cells from x change.
unfoldable pub changes_from : ℕ → ℕ → List ℕ → List ℕ → List ℕ → ℕ → ℕ
changes_from n s d e body x = count_below (changes_at s x (get_or d x 0) e (part (n * s) x body)) n
