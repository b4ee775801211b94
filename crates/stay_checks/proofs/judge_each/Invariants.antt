-- `judge_each` meets its contract. The loop's invariant: the records passed are stays. The measure is how many are left.
use Prim.Native.Nat.{◌-◌}
use Rattle.stay_checks.proofs.Judged.{Judging}
use Rattle.stay_checks.proofs.judge_each.Given as goal

abbrev pub invariant-loop-i : goal.invariant-loop-i
invariant-loop-i l = Judging l.animals l.ticks l.stays l.i

abbrev pub decreases-loop-i : goal.decreases-loop-i
decreases-loop-i l = l.count - l.i
