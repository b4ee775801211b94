-- `join_cell` meets its contract. The loop's invariant: the contacts of the rows passed are added.
use native.Mathlib.Omega.{arith}
use Rattle.cells.proofs.Lent.{count_fits}
use Rattle.logs.proofs.Passes.{all_left, next-left, none_left}
use Rattle.adding_lists.proofs.Adds.{added-kept, added-start, added-addable, added-few, added-turn, added-end}
use Rattle.joining.proofs.join_cell.Goals as goal

pub slice_bounds-w-items-end : goal.slice_bounds-w-items-end
slice_bounds-w-items-end c = omega (arith, c.rows_of.ensures, count_fits _ c.requires.carry_le_max_carry.1)

pub loop-w-init : goal.loop-w-init
loop-w-init c = added-start _ _ c.args.first.now (all_left _ _ _ c.args.cell.now (omega (arith, c.rows_of.ensures)) c.requires.carry_le_max_carry.1)

pub join_row-new-requires : goal.join_row-new-requires
join_row-new-requires c =
    record {
      carry_le_max_carry = c.requires.carry_le_max_carry.0;
      addable = added-addable c.loop-w.invariant _ _ (next-left _ _ _ _ c.loop-w.w-index c.loop-w-test.true) c.requires.addable;
    }

pub overflow_add-new : goal.overflow_add-new
overflow_add-new c =
    let h = added-few c.loop-w.invariant _ _ (next-left _ _ _ _ c.loop-w.w-index c.loop-w-test.true) c.join_row-new.ensures.value c.requires.addable in
    omega arith

pub loop-w-preserved : goal.loop-w-preserved
loop-w-preserved c =
    added-turn c.loop-w.invariant _ _ (next-left _ _ _ _ c.loop-w.w-index c.loop-w-test.true) c.join_row-new.ensures.value c.join_row-new.ensures.first_after

pub shape_of-first : goal.shape_of-first
shape_of-first c = added-kept c.loop-w.invariant c.requires.addable

pub returns : goal.returns
returns c =
    let r = added-end c.loop-w.invariant (none_left _ _ _ _ c.loop-w.w-index c.loop-w-test.false) in
    record { value = r.0; first_after = r.1 }
