-- `reach_checked` meets its contract: each return is a case of the rule, behind 5 and 6.
use Rattle.std.specs.Prelude.{Ok}
use mathlib.Core.Path.{ap, ◌∙◌}
use Rattle.rules.specs.Questions.{reach_refusal, reach_answer}
use Rattle.rules.proofs.Asked.{pair-behind}
use Rattle.checks.proofs.Judged.{refused_at, passed_at, verdict_passed}
use Rattle.questions.proofs.Asking.{reach-verdict}
use Rattle.questions.proofs.reach_checked.Goals as goal

pub returns-in_err-judge_question : goal.returns-in_err-judge_question
unfolding reach_answer
returns-in_err-judge_question c =
    let a = c.args in
    let e = reach-verdict a.table.now a.u a.v a.first a.last c.cells.ensures.valid c.words.ensures c.judge_question.ensures in
    refused_at _ _ e c.in_err-judge_question.was c.from_residual.ensures.1

pub reaches-requires : goal.reaches-requires
unfolding reach_refusal
reaches-requires c =
    let a = c.args in
    let e = reach-verdict a.table.now a.u a.v a.first a.last c.cells.ensures.valid c.words.ensures c.judge_question.ensures in
    let p = (pair-behind a.table.now a.u a.v (verdict_passed e c.in_ok-judge_question.was)).0 in
    (p.from_below, p.to_below)

pub returns : goal.returns
unfolding reach_answer
returns c =
    let a = c.args in
    let e = reach-verdict a.table.now a.u a.v a.first a.last c.cells.ensures.valid c.words.ensures c.judge_question.ensures in
    ap Ok c.reaches.ensures ∙ passed_at _ _ e c.in_ok-judge_question.was
