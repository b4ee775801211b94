-- `all_cells_well_formed` meets its contract: an animal with a cell that fails ends the check, and any other is passed.
use Rattle.grid.proofs.Reading.{tested-start, tested-next, tested-fails, tested-end}
use mathlib.Core.Path.{refl}
use Rattle.tables.specs.Cells.{all_cells_well_formed}
use Rattle.tables.proofs.all_cells_well_formed.Goals as goal

pub loop-u-init : goal.loop-u-init
loop-u-init c = tested-start _ _

pub returns-then-not-cells_from_well_formed : goal.returns-then-not-cells_from_well_formed
unfolding all_cells_well_formed
returns-then-not-cells_from_well_formed c = tested-fails c.loop-u.invariant c.loop-u-test.true c.if-not-cells_from_well_formed.ensures

pub loop-u-preserved : goal.loop-u-preserved
loop-u-preserved c = tested-next c.loop-u.invariant c.loop-u-test.true refl refl c.if-not-cells_from_well_formed.ensures

pub returns : goal.returns
unfolding all_cells_well_formed
returns c = tested-end c.loop-u.invariant c.loop-u-test.false
