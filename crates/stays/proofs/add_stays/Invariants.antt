-- `add_stays` meets its contract. The loop's invariant: the contacts of the ticks passed are added. The measure is how many ticks are left.
use Prim.Native.Nat.{◌-◌}
use Rattle.adding_lists.proofs.Adds.{AddedBelow}
use Rattle.stays.proofs.Meetings.{contacts_at}
use Rattle.stays.proofs.add_stays.Given as goal

abbrev pub invariant-loop-i : goal.invariant-loop-i
invariant-loop-i l = AddedBelow (contacts_at l.initial.table l.stays) l.ticks l.initial.table l.table l.new l.i

abbrev pub decreases-loop-i : goal.decreases-loop-i
decreases-loop-i l = l.ticks - l.i
