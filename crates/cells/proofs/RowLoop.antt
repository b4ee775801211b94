-- A loop that reads the rows in use of a cell.
use mathlib.Core.Path.{◌≡◌, refl, sym, ap, ap₂, ◌∙◌}
use mathlib.Core.List.{List, [], ◌∷◌, map}
use Prim.Native.Nat.{ℕ, ◌+◌, ◌≤◌, ◌<◌}
use native.Mathlib.Numerals.{add-one}
use native.Mathlib.Omega.{arith}
use lib.ListN.{length, get_or, take, drop, length-map, length-take, drop_of_length-le}
use lib.Seq.{drop-cons, get_or-take, length-take-le}
use Rattle.journeys.specs.Cell.{Cell}
use Rattle.words.specs.Words.{interval_of}
use Rattle.rules.specs.Layout.{cell_of}
use Rattle.cells.specs.Stored.{rows_in, RowsFit}

-- The intervals of the rows from i on, of those that end at e.
unfoldable pub rows_from : List ℕ → ℕ → ℕ → Cell
rows_from xs e i = map interval_of (drop i (take e xs))

-- The rows in use end at e, and those before i are passed.
pub record RowLoop (xs : List ℕ) (e i : ℕ) : Type 0 where
  pub below : i ≤ e
  pub inside : e ≤ length xs

-- No row is passed yet: all rows in use are left.
pub rows-begin : (xs : List ℕ) (k : ℕ) → k ≡ rows_in xs → RowsFit xs → RowLoop xs (k + 1) 1
rows-begin xs k e h = record { below = omega arith; inside = omega arith }

pub rows_all : (xs : List ℕ) (k : ℕ) → k ≡ rows_in xs → RowsFit xs → rows_from xs (k + 1) 1 ≡ cell_of xs
unfolding rows_from cell_of
rows_all xs k e h = ap (λ (n : ℕ). map interval_of (drop 1 (take (n + 1) xs))) e ∙ go xs h
  where
    go : (ys : List ℕ) → RowsFit ys → map interval_of (drop 1 (take (rows_in ys + 1) ys)) ≡ cell_of ys
    go [] h = absurd (omega arith)
    go (w ∷ ws) h = rw (add-one (rows_in (w ∷ ws))) refl

module _ {xs : List ℕ} {e i : ℕ} (w : RowLoop xs e i) where
  -- The next row, then those after it.
  pub rows_next : i < e → rows_from xs e i ≡ interval_of (get_or xs i 0) ∷ rows_from xs e (i + 1)
  unfolding rows_from
  rows_next h =
      ap (map interval_of)
      (drop-cons (take e xs) i 0 (omega (arith, length-take e xs, w.inside)) ∙ ap₂ (λ (w n : ℕ). w ∷ drop n (take e xs)) (get_or-take e xs i 0 h) (sym (add-one i)))

  -- One more row is passed.
  pub rows-turn : i < e → RowLoop xs e (i + 1)
  rows-turn h = record { below = omega arith; inside = w.inside }

  -- At the end none is left.
  pub rows_end : e ≤ i → rows_from xs e i ≡ []
  unfolding rows_from
  rows_end h = ap (map interval_of) (drop_of_length-le (take e xs) {i = i} (omega (arith, length-take e xs)))

-- A cell has as many intervals as rows in use.
pub rows-count : (xs : List ℕ) → RowsFit xs → length (cell_of xs) ≡ rows_in xs
unfolding cell_of
rows-count [] h = absurd (omega arith)
rows-count (w ∷ ws) h = length-map (take (rows_in (w ∷ ws)) ws) interval_of ∙ length-take-le (rows_in (w ∷ ws)) ws (omega arith)
