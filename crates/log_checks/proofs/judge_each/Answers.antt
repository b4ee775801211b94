-- `judge_each` meets its contract. The loop's invariant: the words passed are legal.
use native.Mathlib.Omega.{arith}
use Rattle.log_checks.proofs.Logged.{judging_start, judging_refused, judging_turn, judging_end}
use Rattle.log_checks.proofs.judge_each.Goals as goal

pub loop-w-init : goal.loop-w-init
loop-w-init c = judging_start _ _ _

pub returns-in_err-judge_word : goal.returns-in_err-judge_word
returns-in_err-judge_word c = judging_refused c.loop-w.invariant (omega arith) c.judge_word.ensures c.in_err-judge_word.was c.from_residual.ensures.1

pub loop-w-preserved : goal.loop-w-preserved
loop-w-preserved c = judging_turn c.loop-w.invariant (omega arith) c.judge_word.ensures c.in_ok-judge_word.was

pub returns : goal.returns
returns c = judging_end c.loop-w.invariant (omega arith)
