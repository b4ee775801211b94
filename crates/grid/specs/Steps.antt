-- The cells of n × n one after the other, each with its pair, which is named by counting on.
use Rattle.std.specs.Prelude.{ℕ, zero, suc, ◌+◌, ◌*◌, ◌<◌, ◌≡◌, cond, ltb}
use Rattle.grid.specs.declared.CellPlace.{CellPlace}

-- The first cell, that of (0, 0).
unfoldable pub first_cell : CellPlace
first_cell = record { at = 0; from = 0; to = 0 }

-- The cell after c, where a cell has s words and there are n animals: it begins where c ends, and of its pair the second number is
-- counted on, or, where that was the last animal, the first is counted on and the second starts anew at 0.
unfoldable pub next_cell : ℕ → ℕ → CellPlace → CellPlace
next_cell n s c =
    let more = ltb (c.to + 1) n in
    record { at = c.at + s; from = cond more c.from (c.from + 1); to = cond more (c.to + 1) 0 }

-- The cell after k steps from the first.
unfoldable pub cell_after : ℕ → ℕ → ℕ → CellPlace
cell_after n s zero = first_cell
cell_after n s (suc k) = next_cell n s (cell_after n s k)

-- After k steps from (0, 0) the pair of cell k is named, and where the cell begins: cell (u, v) is that of number u·n + v.
unfoldable pub NamesEveryCell : Type 0
NamesEveryCell = (n s u v : ℕ) → v < n → cell_after n s (u * n + v) ≡ record { at = (u * n + v) * s; from = u; to = v }
