-- `earliest` meets its contract: each return is a case of the rule.
use Rattle.questions.proofs.Asking.{judged_exit}
use Rattle.std.proofs.Common.{rules}
use Rattle.rules.specs.Questions.{earliest_answer}
use Rattle.questions.proofs.Intervals.{asked-pair, earliest-answered}
use Rattle.questions.proofs.earliest.Goals as goal

pub returns-in_err-table : goal.returns-in_err-table
unfolding earliest_answer
returns-in_err-table c = judged_exit _ _ _ c.judge_moment.ensures c.in_err-table.was c.from_residual.ensures.1

pub first_departing-requires : goal.first_departing-requires
first_departing-requires c = asked-pair _ _ _ _ c.judge_moment.ensures c.in_ok-table.was

pub returns : goal.returns
returns c = earliest-answered _ _ _ _ c.judge_moment.ensures c.in_ok-table.was (search rules)
