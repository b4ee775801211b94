-- The record has the answer of a single reach.
use mathlib.Core.Path.{ap, ◌∙◌}
use Rattle.rules.specs.QuestionList.{record_answer_of, asked}
use Rattle.question_lists.proofs.Planned.{with_answer}
use Rattle.question_lists.proofs.asked.Goals as goal

pub returns : goal.returns
unfolding asked
returns c = ap (with_answer c.args.q) (c.record_answer.ensures ∙ ap record_answer_of c.reach_checked-reply.ensures)
