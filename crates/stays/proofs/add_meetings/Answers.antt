-- `add_meetings` meets its contract. The loop's invariant: the contacts from the animals passed are added. The measure is how many animals
-- are left.
use native.Mathlib.Omega.{arith}
use Rattle.adding_lists.proofs.Adds.{below-start, below-addable, below-few, below-turn, below-kept, below_end}
use Rattle.stays.specs.Meetings.{meetings_at}
use Rattle.stays.proofs.add_meetings.Goals as goal

pub loop-u-init : goal.loop-u-init
loop-u-init c = below-start _ _ _

pub add_meetings_from-new-requires : goal.add_meetings_from-new-requires
unfolding meetings_at
add_meetings_from-new-requires c =
    record {
      n_le_max_animals = (c.requires.n_le_max_animals, c.loop-u-test.true);
      addable = below-addable c.loop-u.invariant c.loop-u-test.true c.requires.addable;
    }

pub overflow_add-new : goal.overflow_add-new
unfolding meetings_at
overflow_add-new c = let h = below-few c.loop-u.invariant c.loop-u-test.true c.add_meetings_from-new.ensures.value c.requires.addable in
    omega arith

pub loop-u-preserved : goal.loop-u-preserved
loop-u-preserved c =
    below-turn c.loop-u.invariant c.loop-u-test.true c.add_meetings_from-new.ensures.value c.add_meetings_from-new.ensures.table_after

pub shape_of-table : goal.shape_of-table
unfolding meetings_at
shape_of-table c = below-kept c.loop-u.invariant c.requires.addable

pub returns : goal.returns
unfolding meetings_at
returns c =
    let r = below_end c.loop-u.invariant c.loop-u-test.false in
    record { value = r.0; table_after = r.1 }
