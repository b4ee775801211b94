-- `connected` meets its contract: each return is a case of the rule.
use Rattle.std.specs.Prelude.{Ok, List, ℕ}
use mathlib.Core.Path.{ap}
use Rattle.rules.specs.Questions.{connects, connected_answer}
use Rattle.questions.proofs.Asking.{judged_exit, judged_answer}
use Rattle.questions.proofs.connected.Goals as goal

pub returns-in_err-table : goal.returns-in_err-table
unfolding connected_answer
returns-in_err-table c = judged_exit _ _ _ c.judge_connected.ensures c.in_err-table.was c.from_residual.ensures.1

pub returns : goal.returns
unfolding connected_answer
returns c = judged_answer _ _ (λ (T : List ℕ). Ok (connects T c.args.first c.args.last)) c.judge_connected.ensures c.in_ok-table.was (ap Ok c.connects.ensures)
