-- `judge_each` meets its contract. The loop's invariant: the words passed are legal.
use Rattle.log_checks.proofs.Logged.{Judging}
use Rattle.log_checks.proofs.judge_each.Given as goal

abbrev pub invariant-loop-w : goal.invariant-loop-w
invariant-loop-w l = Judging l.animals l.ticks l.words l.w-index
