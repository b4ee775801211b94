-- `reach` meets its contract: a table refused is the answer, and else the answer is the one behind its checks.
use Rattle.std.specs.Prelude.{List, ℕ}
use mathlib.Core.Path.{ap, ◌∙◌}
use Rattle.rules.specs.Questions.{reach_refusal, reach_answer}
use Rattle.rules.proofs.Groups.{table-group}
use Rattle.checks.proofs.Judged.{refused_with}
use Rattle.questions.proofs.Asking.{judged_refused, judged_given}
use Rattle.questions.proofs.reach.Goals as goal

pub returns-in_err-table : goal.returns-in_err-table
unfolding reach_answer reach_refusal
returns-in_err-table c =
    rw ((table-group c.args.table.now).refuses _ (judged_refused c.args.table.now c.judge_table.ensures c.in_err-table.was) _) (refused_with _ c.from_residual.ensures.1)

pub returns : goal.returns
returns c =
    let a = c.args in
    c.reach_checked.ensures ∙ ap (λ (T : List ℕ). reach_answer T a.u a.v a.first a.last) (judged_given a.table.now c.judge_table.ensures c.in_ok-table.was).1
