-- `write_cells` meets its contract: each cell is written in its place.
use native.Mathlib.Omega.{arith}
use Rattle.grid.proofs.Walk.{walk_first, walk_next, walk_end}
use Rattle.tables.specs.Cells.{emptied}
use Rattle.tables.proofs.write_cells.Goals as goal

pub loop-k-init : goal.loop-k-init
loop-k-init c = walk_first _ _ _ _

pub loop-k-preserved : goal.loop-k-preserved
unfolding emptied
loop-k-preserved c = walk_next c.loop-k.invariant (omega arith) (omega arith) c.write_empty.new.cell c.write_empty.auto.cell c.write_empty.ensures

pub returns : goal.returns
returns c = walk_end c.loop-k.invariant (omega arith)
