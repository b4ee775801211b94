-- `mark_cell` meets its contract. The loop's invariant: the contacts of the rows passed are marked, but for the one left out.
use mathlib.Core.Path.{ap}
use Prim.Native.Nat.{◌+◌}
use native.Mathlib.Omega.{arith}
use Rattle.cells.proofs.Lent.{count_fits}
use Rattle.logs.proofs.Passes.{all_left, next-left, none_left}
use Rattle.removing.proofs.MarkedSets.{marked-kept, so_far_start, so_far_next, so_far_turn, so_far_end}
use Rattle.removing.proofs.mark_cell.Goals as goal

pub slice_bounds-w-items-end : goal.slice_bounds-w-items-end
slice_bounds-w-items-end c = omega (arith, c.rows_of.ensures, count_fits _ c.requires.stored)

pub loop-w-init : goal.loop-w-init
loop-w-init c = so_far_start (all_left _ _ _ c.args.cell.now (ap (λ n. n + 1) c.rows_of.ensures) c.requires.stored)

pub mark_row-requires : goal.mark_row-requires
mark_row-requires c = so_far_next c.loop-w.invariant _ _ (next-left _ _ _ _ c.loop-w.w-index c.loop-w-test.true) c.requires.can_mark_all

pub loop-w-preserved : goal.loop-w-preserved
loop-w-preserved c = so_far_turn c.loop-w.invariant _ _ (next-left _ _ _ _ c.loop-w.w-index c.loop-w-test.true) c.mark_row.ensures

pub shape_of-body : goal.shape_of-body
shape_of-body c = marked-kept c.requires.can_mark_all c.loop-w.invariant.marks

pub returns : goal.returns
returns c = so_far_end c.loop-w.invariant (none_left _ _ _ _ c.loop-w.w-index c.loop-w-test.false)
