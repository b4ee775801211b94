-- `latest` meets its contract: each return is a case of the rule.
use Rattle.questions.proofs.Asking.{judged_exit}
use Rattle.std.proofs.Common.{rules}
use Rattle.rules.specs.Questions.{latest_answer}
use Rattle.questions.proofs.Intervals.{asked-pair, latest-answered}
use Rattle.questions.proofs.latest.Goals as goal

pub returns-in_err-table : goal.returns-in_err-table
unfolding latest_answer
returns-in_err-table c = judged_exit _ _ _ c.judge_moment.ensures c.in_err-table.was c.from_residual.ensures.1

pub last_arriving-requires : goal.last_arriving-requires
last_arriving-requires c = asked-pair _ _ _ _ c.judge_moment.ensures c.in_ok-table.was

pub returns : goal.returns
returns c = latest-answered _ _ _ _ c.judge_moment.ensures c.in_ok-table.was (search rules)
