-- `add_meetings_from` meets its contract. The loop's invariant: the contacts with the animals passed are added. The measure is how many
-- animals are left.
use native.Mathlib.Omega.{arith}
use Rattle.adding_lists.proofs.Adds.{none-added, below-start, below-addable, below-few, below-turn, below-kept, below_end}
use Rattle.stays.specs.Meetings.{meetings_from}
use Rattle.stays.proofs.Meetings.{penless_none}
use Rattle.stays.proofs.add_meetings_from.Goals as goal

pub returns-then-pens-u-eq0 : goal.returns-then-pens-u-eq0
returns-then-pens-u-eq0 c =
    let r = none-added _ _ (penless_none c.args.pens.now c.args.n c.args.t c.args.u (omega (arith, c.if-pens-u-eq0.true))) in
    record { value = r.0; table_after = r.1 }

pub loop-v-init : goal.loop-v-init
loop-v-init c = below-start _ _ _

pub add_meeting-new-requires : goal.add_meeting-new-requires
unfolding meetings_from
add_meeting-new-requires c =
    record {
      u_lt_max_animals = omega arith;
      addable = below-addable c.loop-v.invariant c.loop-v-test.true c.requires.addable;
    }

pub overflow_add-new : goal.overflow_add-new
unfolding meetings_from
overflow_add-new c = let h = below-few c.loop-v.invariant c.loop-v-test.true c.add_meeting-new.ensures.value c.requires.addable in
    omega arith

pub loop-v-preserved : goal.loop-v-preserved
loop-v-preserved c = below-turn c.loop-v.invariant c.loop-v-test.true c.add_meeting-new.ensures.value c.add_meeting-new.ensures.table_after

pub shape_of-table : goal.shape_of-table
unfolding meetings_from
shape_of-table c = below-kept c.loop-v.invariant c.requires.addable

pub returns : goal.returns
unfolding meetings_from
returns c =
    let r = below_end c.loop-v.invariant c.loop-v-test.false in
    record { value = r.0; table_after = r.1 }
