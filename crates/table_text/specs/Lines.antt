-- A text at the front of a list, and the text of the cells of a table.
use Rattle.std.specs.Prelude.{ℕ, List, ◌++◌, length, drop}
use Rattle.rules.specs.Folds.{flat}
use Rattle.rules.specs.Layout.{animals, cell_of, cells_of}
use Rattle.rules.specs.Sheet.{cell_text}
use Rattle.grid.specs.Cells.{cell_in}

-- The text at the front of the list, the rest as it was.
unfoldable pub overwrite_front : List ℕ → List ℕ → List ℕ
overwrite_front text l = text ++ drop (length text) l

-- The text of cell (u, v), among n × n cells of s words.
unfoldable pub text_in : ℕ → ℕ → List ℕ → ℕ → ℕ → List ℕ
text_in n s body u v = cell_text u v (cell_of (cell_in n s body u v))

-- The text of the table's cells, cell by cell.
unfoldable pub cell_lines : List ℕ → List ℕ
cell_lines T = flat (λ u. flat (λ v. cell_text u v (cells_of T u v)) (animals T)) (animals T)
