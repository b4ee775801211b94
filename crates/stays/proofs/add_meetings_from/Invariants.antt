-- `add_meetings_from` meets its contract. The loop's invariant: the contacts with the animals passed are added. The measure is how many
-- animals are left.
use Prim.Native.Nat.{◌-◌}
use Rattle.adding_lists.proofs.Adds.{AddedBelow}
use Rattle.stays.specs.Meetings.{meeting}
use Rattle.stays.proofs.add_meetings_from.Given as goal

abbrev pub invariant-loop-v : goal.invariant-loop-v
invariant-loop-v l = AddedBelow (meeting l.pens l.t l.u) l.n l.initial.table l.table l.new l.v

abbrev pub decreases-loop-v : goal.decreases-loop-v
decreases-loop-v l = l.n - l.v
