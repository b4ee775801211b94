-- The texts of a cell's rows and of a table's cells, as the loops over them see them.
use mathlib.Core.Path.{◌≡◌, refl, sym, ap, ◌∙◌}
use mathlib.Core.List.{List, [], ◌∷◌, ◌++◌, map}
use Prim.Native.Nat.{ℕ, ◌+◌, ◌-◌, ◌*◌, ◌/◌, ◌%◌, ◌≤◌, ◌<◌}
use native.Mathlib.Numerals.{add-one}
use native.Mathlib.Omega.{arith}
use lib.ListN.{length, get_or, take, drop, drop_of_length-le}
use lib.Seq.{drop-cons}
use Rattle.journeys.specs.Cell.{Cell}
use Rattle.words.specs.Words.{interval_of}
use Rattle.rules.specs.Folds.{flat}
use Rattle.rules.specs.Layout.{animals, ticks, carry, cell_of, cells_of}
use Rattle.rules.specs.Checks.{ValidTable}
use Rattle.rules.specs.Logs.{held_contacts}
use Rattle.rules.specs.Sheet.{decimal, space, newline, interval_text, intervals_text, cell_text, first_line, table_text}
use Rattle.rules.proofs.Folds.{flat-same}
use Rattle.grid.specs.Cells.{Grid}
use Rattle.grid.proofs.Places.{cell_in_lem}
use Rattle.grid.proofs.CellNumbers.{CellGiven, lists_left, lists-all, lists-next, lists-none}
use Rattle.cells.specs.Stored.{rows_in, Stored}
use Rattle.tables.specs.declared.Opening.{Opening}
use Rattle.tables.proofs.Stored.{stored-cells}
use Rattle.cells.proofs.Lent.{count-is, count_fits, lent_is}
use Rattle.table_text.specs.Lines.{text_in, cell_lines}

-- ---- the rows of a cell

-- The text of the rows R from row i on.
abbrev pub rows_left : List ℕ → ℕ → List ℕ
rows_left R i = intervals_text (map interval_of (drop i R))

-- At first it is the text of the cell whose rows in use are lent, then the next row's and that of those after it, at last none.
pub all_left : (xs : List ℕ) (k : ℕ) → k ≡ rows_in xs → Stored xs → rows_left (take (k + 1 - 1) (drop 1 xs)) 0 ≡ intervals_text (cell_of xs)
all_left xs k e h = ap intervals_text (lent_is xs (k + 1) (ap (λ (n : ℕ). n + 1) e) (omega (arith, count_fits xs h)))

pub next-left : (R : List ℕ) (i : ℕ) → i < length R → rows_left R i ≡ interval_text (interval_of (get_or R i 0)) ++ rows_left R (i + 1)
unfolding intervals_text
next-left R i h = ap (λ (l : List ℕ). intervals_text (map interval_of l)) (drop-cons R i 0 h) ∙ rw (add-one i) refl

pub none_left : (R : List ℕ) (i : ℕ) → length R ≤ i → rows_left R i ≡ []
unfolding intervals_text
none_left R i h = ap (λ (l : List ℕ). intervals_text (map interval_of l)) (drop_of_length-le R h)

module _ (xs : List ℕ) (u v : ℕ) (h : Stored xs) where
  -- An empty cell has no line.
  pub no_line : rows_in xs ≡ 0 → cell_text u v (cell_of xs) ≡ []
  unfolding cell_text
  no_line e = go (cell_of xs) (sym (count-is xs h) ∙ e)
    where
      go : (c : Cell) → length c ≡ 0 → cell_text u v c ≡ []
      go [] i = refl
      go (i ∷ c) j = absurd (omega arith)

  -- Any other has one.
  pub one_line : (rows_in xs ≡ 0 → ⊥) → cell_text u v (cell_of xs) ≡ decimal u ++ (space ∷ (decimal v ++ (intervals_text (cell_of xs) ++ newline)))
  unfolding cell_text
  one_line n = go (cell_of xs) (λ e. n (count-is xs h ∙ e))
    where
      go : (c : Cell) → (length c ≡ 0 → ⊥) → cell_text u v c ≡ decimal u ++ (space ∷ (decimal v ++ (intervals_text c ++ newline)))
      go [] i = absurd (i refl)
      go (i ∷ c) j = refl

-- ---- the cells of a table

-- The text of the cells from cell k on, of n × n cells of s words.
abbrev pub cells_left : ℕ → ℕ → List ℕ → ℕ → List ℕ
cells_left n s body k = lists_left n (text_in n s body) k

module _ (n s : ℕ) (body : List ℕ) {k : ℕ} where
  -- At the end there is none.
  pub cells-none : n * n ≤ k → cells_left n s body k ≡ []
  cells-none h = lists-none n (text_in n s body) h

  -- That of cell k, whose words are `cell`, then that of the cells after it.
  pub cells-next : {cell : List ℕ} {i k_then : ℕ} → CellGiven Stored n s body cell i → i ≡ k → k_then ≡ k + 1
      → cells_left n s body k ≡ cell_text (i / n) (i % n) (cell_of cell) ++ cells_left n s body k_then
  unfolding text_in
  cells-next {i} {k_then} c e f =
      lists-next n (text_in n s body) (omega (arith, c.left)) e f
      ∙ ap (λ (x : List ℕ). cell_text (i / n) (i % n) (cell_of x) ++ cells_left n s body k_then) (sym c.lent)

-- The text of the cells in the words after the opening word is that of the table's cells.
cells-text : (T : List ℕ) → let n = animals T in flat (λ u. flat (text_in n (ticks T + 1) (drop 1 T) u) n) n ≡ cell_lines T
unfolding cell_lines text_in cells_of
cells-text T = let n = animals T in flat-same _ _ n (λ u h. flat-same _ _ n (λ v k. ap (λ (l : List ℕ). cell_text u v (cell_of l)) (cell_in_lem n (ticks T) T u v)))

-- The table T and the opening that was read off it.
module _ (T : List ℕ) {o : Opening} (e : (o.animals ≡ animals T) × (o.ticks ≡ ticks T) × (o.carry ≡ carry T)) where
  -- The words of its cells.
  pub cells-stored : ValidTable T → Grid Stored o.animals (o.ticks + 1) (drop 1 T)
  cells-stored p = rw (e.0, e.1) (stored-cells T p)

  -- From cell 0 on the text is that of all cells.
  pub cells-all : {k : ℕ} → k ≡ 0 → cells_left o.animals (o.ticks + 1) (drop 1 T) k ≡ cell_lines T
  cells-all z = lists-all o.animals (text_in o.animals (o.ticks + 1) (drop 1 T)) z ∙ rw (e.0, e.1) (cells-text T)

  -- The first line and the text of the cells are the text of the table.
  pub table-text : (held : ℕ) → held ≡ length (held_contacts T) → first_line o.animals o.ticks o.carry held ++ cell_lines T ≡ table_text T
  unfolding table_text cell_lines
  table-text held h = rw (e.0, e.1, e.2, h) refl
