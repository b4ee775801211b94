-- `first_cell` meets its contract.
use mathlib.Core.Path.{refl}
use Rattle.grid.specs.Steps.{first_cell}
use Rattle.grid.proofs.first_cell.Goals as goal

pub returns : goal.returns
returns c = unfold first_cell in refl
