-- Each row's interval goes behind the part written.
use Rattle.std.proofs.Common.{arith}
use Rattle.cells.proofs.Lent.{count_fits}
use Rattle.table_text.proofs.Writing.{inside, start, fits, piece, end}
use Rattle.table_text.proofs.Texts.{all_left, next-left, none_left}
use Rattle.table_text.proofs.cell.put_intervals.Goals as goal

pub slice_bounds-w-items-end : goal.slice_bounds-w-items-end
slice_bounds-w-items-end c = omega (arith, count_fits c.args.cell.now c.requires.stored, c.rows_of.ensures)

pub loop-w-init : goal.loop-w-init
loop-w-init c = start _ _ _ (all_left c.args.cell.now _ c.rows_of.ensures c.requires.stored) c.requires.cell_in_bounds

pub put_interval-at-requires : goal.put_interval-at-requires
put_interval-at-requires c = fits c.loop-w.invariant _ _ (next-left _ c.loop-w.w-index c.loop-w-test.true)

pub overflow_add-at : goal.overflow_add-at
overflow_add-at c =
    let w = piece c.loop-w.invariant _ _ _ _ (next-left _ c.loop-w.w-index c.loop-w-test.true) c.put_interval-at.ensures.value c.put_interval-at.ensures.out_after in
    omega (arith, inside w)

pub loop-w-preserved : goal.loop-w-preserved
loop-w-preserved c =
    piece c.loop-w.invariant _ _ _ _ (next-left _ c.loop-w.w-index c.loop-w-test.true) c.put_interval-at.ensures.value c.put_interval-at.ensures.out_after

pub returns-clause-value : goal.returns-clause-value
returns-clause-value c = (end c.loop-w.invariant (none_left _ c.loop-w.w-index c.loop-w-test.false)).0

pub returns-clause-out_after : goal.returns-clause-out_after
returns-clause-out_after c = (end c.loop-w.invariant (none_left _ c.loop-w.w-index c.loop-w-test.false)).1
