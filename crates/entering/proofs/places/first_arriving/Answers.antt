-- `places::first_arriving` meets its contract. The loop's invariant: the answer is at most `lo`.
use native.Mathlib.Omega.{arith}
use Rattle.cells.proofs.Lent.{in-use_length}
use Rattle.entering.proofs.Slots.{step-stops, step-goes}
use Rattle.entering.proofs.places.first_arriving.Goals as goal

pub offset_bounds-cell-lo : goal.offset_bounds-cell-lo
offset_bounds-cell-lo c = omega (arith, c.requires.rows_in_use.within, in-use_length c.args.cell.now c.requires.rows_in_use, c.loop-lo.invariant)

pub bounds-cell-lo : goal.bounds-cell-lo
bounds-cell-lo c = omega (arith, c.requires.rows_in_use.within, in-use_length c.args.cell.now c.requires.rows_in_use, c.loop-lo.invariant)

pub loop-lo-preserved : goal.loop-lo-preserved
loop-lo-preserved c = omega (arith, c.loop-lo.invariant, step-goes c.args.cell.now c.requires.rows_in_use c.args.a c.loop-lo.lo (omega arith) c.loop-lo.invariant.1 (omega arith))

pub returns-else-arrival_of-a : goal.returns-else-arrival_of-a
returns-else-arrival_of-a c = omega (arith, c.loop-lo.invariant, step-stops c.args.cell.now c.requires.rows_in_use c.args.a c.loop-lo.lo (omega arith) c.loop-lo.invariant.1 (omega arith))
