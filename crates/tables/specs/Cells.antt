-- What the loops over the cells of a table compute: a test of every cell, and cells made empty.
use Rattle.std.specs.Prelude.{ℕ, ◌+◌, ◌-◌, ◌*◌, Bool, cond, List, [], length, eqb}
use Rattle.rules.specs.Folds.{all_below}
use Rattle.rules.specs.Layout.{cell_words}
use Rattle.rules.specs.Checks.{cell_well_formed}
use Rattle.grid.specs.Parts.{part}

-- The most rows in use of cell (u, v): none where u is v, else τ.
unfoldable pub most_rows : ℕ → ℕ → ℕ → ℕ
most_rows τ u v = cond (eqb u v) 0 τ

-- Cell v of the cells from u is well formed.
unfoldable pub cell_of_well_formed : ℕ → ℕ → ℕ → List ℕ → ℕ → Bool
cell_of_well_formed τ δ u cells v = cell_well_formed τ δ (most_rows τ u v) (part (τ + 1) v cells)

-- The n cells from u are well formed, among those from n animals.
unfoldable pub cells_from_well_formed : ℕ → ℕ → ℕ → List ℕ → ℕ → Bool
cells_from_well_formed τ δ n body u = all_below (cell_of_well_formed τ δ u (part (n * (τ + 1)) u body)) n

-- The n cells from each of n animals are well formed.
unfoldable pub all_cells_well_formed : ℕ → ℕ → ℕ → List ℕ → Bool
all_cells_well_formed τ δ n body = all_below (cells_from_well_formed τ δ n body) n

-- The words of a cell made empty.
unfoldable pub emptied : ℕ → List ℕ → List ℕ
emptied k cell = cell_words (length cell - 1) []
