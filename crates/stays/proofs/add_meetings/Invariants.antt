-- `add_meetings` meets its contract. The loop's invariant: the contacts from the animals passed are added. The measure is how many animals
-- are left.
use Prim.Native.Nat.{◌-◌}
use Rattle.adding_lists.proofs.Adds.{AddedBelow}
use Rattle.stays.specs.Meetings.{meetings_from}
use Rattle.stays.proofs.add_meetings.Given as goal

abbrev pub invariant-loop-u : goal.invariant-loop-u
invariant-loop-u l = AddedBelow (meetings_from l.pens l.n l.t) l.n l.initial.table l.table l.new l.u

abbrev pub decreases-loop-u : goal.decreases-loop-u
decreases-loop-u l = l.n - l.u
