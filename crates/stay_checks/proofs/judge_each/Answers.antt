-- `judge_each` meets its contract. The loop's invariant: the records passed are stays. The measure is how many are left.
use native.Mathlib.Omega.{arith}
use Rattle.stay_checks.proofs.Judged.{judging_start, judging_refused, judging_turn, judging_end}
use Rattle.stay_checks.proofs.judge_each.Goals as goal

pub loop-i-init : goal.loop-i-init
loop-i-init c = judging_start _ _ _

pub returns-in_err-ensure : goal.returns-in_err-ensure
returns-in_err-ensure c = judging_refused c.loop-i.invariant (omega arith) c.stay_at-stay.ensures c.is_stay.ensures c.ensure.ensures c.in_err-ensure.was c.from_residual.ensures.1

pub loop-i-preserved : goal.loop-i-preserved
loop-i-preserved c = judging_turn c.loop-i.invariant (omega arith) c.stay_at-stay.ensures c.is_stay.ensures c.ensure.ensures c.in_ok-ensure.was

pub returns : goal.returns
returns c = judging_end c.loop-i.invariant (omega arith)
