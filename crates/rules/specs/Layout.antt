-- A table as words, and the cells read off it (document 01, "Words of the table").
use Rattle.std.specs.Prelude.{ℕ, ◌+◌, ◌-◌, ◌*◌, List, [], ◌∷◌, ◌++◌, map, length, get_or, take, drop, replicate}
use Rattle.journeys.specs.Cell.{Cell}
use Rattle.journeys.specs.Adding.{Cells}
use Rattle.words.specs.Layout.{get}
use Rattle.words.specs.Words.{opening_word, animals_of, ticks_of, carry_of, count_word, rows_field, interval_word, interval_of, unused_word}
use Rattle.rules.specs.Folds.{flat}

-- The length of a table is exactly 1 + n·n·(τ+1) words.
abbrev pub table_length : ℕ → ℕ → ℕ
table_length n τ = 1 + n * n * (τ + 1)

-- The words of a cell: how many rows are in use, these rows, and unused words up to τ rows.
unfoldable pub cell_words : ℕ → Cell → List ℕ
cell_words τ c = count_word (length c) ∷ (map interval_word c ++ replicate (τ - length c) unused_word)

-- The words of a table: the opening word, then the cells, in the order of the animals that they are from and among these of those that they
-- lead to.
unfoldable pub table_words : ℕ → ℕ → ℕ → Cells → List ℕ
table_words n τ δ T = opening_word n τ δ ∷ flat (λ u. flat (λ v. cell_words τ (T u v)) n) n

-- ---- what a table's words say

-- The number of animals, the number of ticks and the carry time of the table's first word.
abbrev pub animals : List ℕ → ℕ
animals T = animals_of (get_or T 0 0)

abbrev pub ticks : List ℕ → ℕ
ticks T = ticks_of (get_or T 0 0)

abbrev pub carry : List ℕ → ℕ
carry T = carry_of (get_or T 0 0)

-- The words of cell (u, v) in a table of n animals and τ ticks.
unfoldable pub cell_at : ℕ → ℕ → List ℕ → ℕ → ℕ → List ℕ
cell_at n τ T u v = take (τ + 1) (drop (1 + (u * n + v) * (τ + 1)) T)

-- The intervals in use of a cell's words.
unfoldable pub cell_of : List ℕ → Cell
cell_of [] = []
cell_of (w ∷ ws) = map interval_of (take (get rows_field w) ws)

-- The cells of a table's words.
unfoldable pub cells_of : List ℕ → Cells
cells_of T u v = cell_of (cell_at (animals T) (ticks T) T u v)
