-- n × n cells of s words: where each lies, and that all satisfy a property.
use Rattle.std.specs.Prelude.{ℕ, ◌+◌, ◌*◌, ◌≤◌, ◌<◌, ◌≡◌, List, length}
use Rattle.rules.specs.Limits.{max_animals, max_cell_words}
use Rattle.grid.specs.Parts.{part}

-- The words of cell (x, y), where a cell has s words and the n cells from one animal stand together.
unfoldable pub cell_in : ℕ → ℕ → List ℕ → ℕ → ℕ → List ℕ
cell_in n s body x y = part s (x * n + y) body

-- n × n cells of s words, every one of which satisfies P.
pub record Grid (P : List ℕ → Type 0) (n s : ℕ) (body : List ℕ) : Type 0 where
  pub few : n ≤ max_animals
  pub short : s ≤ max_cell_words
  pub long : length body ≡ n * n * s
  pub every : (x y : ℕ) → x < n → y < n → P (cell_in n s body x y)

-- The n cells of s words from one animal, every one of which satisfies P.
pub record CellsFrom (P : List ℕ → Type 0) (n s : ℕ) (cells : List ℕ) : Type 0 where
  pub few : n ≤ max_animals
  pub long : length cells ≡ n * s
  pub every : (y : ℕ) → y < n → P (part s y cells)
