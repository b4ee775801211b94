-- The rows in use of a cell in lent memory.
use mathlib.Core.Path.{◌≡◌, ap, ◌∙◌}
use mathlib.Core.List.{List, [], ◌∷◌, map}
use Prim.Native.Nat.{ℕ, ◌+◌, ◌-◌, ◌≤◌, ◌<◌}
use native.Mathlib.Numerals.{add-one}
use native.Mathlib.Omega.{arith}
use lib.ListN.{length, get_or, take, drop, length-take, length-map, get_or-map}
use lib.Seq.{get_or-take}
use Rattle.journeys.specs.declared.Interval.{Interval}
use Rattle.journeys.specs.Cell.{Rising}
use Rattle.words.specs.Layout.{get}
use Rattle.words.specs.Words.{rows_field, interval_of}
use Rattle.words.proofs.Packed.{rows_of_word}
use Rattle.rules.specs.Layout.{cell_words, cell_of}
use Rattle.cells.specs.Stored.{Stored, RowsInUse, front_below}

-- A cell has no more intervals than rows.
cell-short : (w : ℕ) (ws : List ℕ) → length (cell_of (w ∷ ws)) ≤ length ws
unfolding cell_of
cell-short w ws = omega (arith, length-map (take (get rows_field w) ws) interval_of, length-take (get rows_field w) ws)

-- The count word says how many intervals the cell has.
pub count-is : (xs : List ℕ) → Stored xs → get rows_field (get_or xs 0 0) ≡ length (cell_of xs)
unfolding cell_words
count-is [] s = absurd (omega (arith, s.long))
count-is (w ∷ ws) s =
    ap (λ (l : List ℕ). get rows_field (get_or l 0 0)) s.words
    ∙ rows_of_word (length (cell_of (w ∷ ws))) (omega (arith, cell-short w ws, s.short))

-- The rows in use end within the cell.
pub count_fits : (xs : List ℕ) → Stored xs → get rows_field (get_or xs 0 0) + 1 ≤ length xs
count_fits [] s = absurd (omega (arith, s.long))
count_fits (w ∷ ws) s = omega (arith, count-is (w ∷ ws) s, cell-short w ws)

-- So a stored cell has its rows in use within it.
pub stored-in_use : {xs : List ℕ} → Stored xs → RowsInUse xs
stored-in_use {xs} s = record { within = omega (arith, count_fits xs s); rising = s.rising }

-- Where the rows in use end within the words, their count is that of the cell's intervals.
pub in-use_length : (xs : List ℕ) → RowsInUse xs → length (cell_of xs) ≡ get rows_field (get_or xs 0 0)
unfolding cell_of
in-use_length [] s = absurd (omega (arith, s.within))
in-use_length (w ∷ ws) s = omega (arith, s.within, length-map (take (get rows_field w) ws) interval_of, length-take (get rows_field w) ws)

-- The rows in use, lent, are the cell's intervals.
pub lent_is : (xs : List ℕ) (e : ℕ) → e ≡ get rows_field (get_or xs 0 0) + 1 → 1 ≤ length xs → map interval_of (take (e - 1) (drop 1 xs)) ≡ cell_of xs
unfolding cell_of
lent_is [] e h l = absurd (omega arith)
lent_is (w ∷ ws) e h l = let k : e - 1 ≡ get rows_field w = omega arith in ap (λ (n : ℕ). map interval_of (take n ws)) k

-- Row k of the cell is the word at k + 1.
pub row_is : (xs : List ℕ) (k : ℕ) → k < length (cell_of xs) → get_or (cell_of xs) k (interval_of 0) ≡ interval_of (get_or xs (k + 1) 0)
unfolding cell_of
row_is [] k l = absurd (omega arith)
row_is (w ∷ ws) k l =
    let h : k < get rows_field w = omega (arith, length-map (take (get rows_field w) ws) interval_of, length-take (get rows_field w) ws) in
    get_or-map interval_of (take (get rows_field w) ws) k 0
    ∙ rw (add-one k) (ap interval_of (get_or-take (get rows_field w) ws k 0 h))

-- ---- a search of the lent rows

module _ (xs : List ℕ) (e : ℕ) (s : RowsInUse xs) (h : e ≡ get rows_field (get_or xs 0 0) + 1) where
  -- The rows lent as cell[1..e] rise.
  pub lent-rising : Rising (map interval_of (take (e - 1) (drop 1 xs)))
  lent-rising = rw (lent_is xs e h (omega (arith, s.within))) s.rising

  -- What a search finds in them it finds in the cell.
  pub found-is : (f : Interval → ℕ) (t : ℕ) {r : ℕ} → r ≡ front_below f t (map interval_of (take (e - 1) (drop 1 xs))) → r ≡ front_below f t (cell_of xs)
  found-is f t p = p ∙ ap (front_below f t) (lent_is xs e h (omega (arith, s.within)))
