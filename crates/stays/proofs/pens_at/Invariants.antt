-- `pens_at` meets its contract. The loop's invariant: the pens of the records passed are marked. The measure is how many are left.
use Prim.Native.Nat.{◌-◌, ◌/◌, ◌≤◌}
use lib.ListN.{length}
use Rattle.stays.specs.Meetings.{PensBy}
use Rattle.stays.proofs.pens_at.Given as goal

abbrev pub invariant-loop-i : goal.invariant-loop-i
invariant-loop-i l = (l.i ≤ length l.stays / 4) × PensBy l.stays l.t l.i l.pens

abbrev pub decreases-loop-i : goal.decreases-loop-i
decreases-loop-i l = l.count - l.i
