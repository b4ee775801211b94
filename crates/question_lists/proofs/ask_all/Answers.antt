-- The records are answered one by one, each in its place, on a table that passed 5 and 6.
use Rattle.std.specs.Prelude.{Ok}
use Rattle.std.proofs.Common.{◌≡◌, ℕ, List, length, refl, ap, ◌∙◌, arith}
use Rattle.rules.specs.QuestionList.{asked, list_answer, list_leaves}
use Rattle.questions.proofs.Asking.{judged_given}
use Rattle.question_lists.proofs.Planned.{upto, upto-all, one-more}
use Rattle.question_lists.proofs.ask_all.Goals as goal

pub loop-q-init : goal.loop-q-init
loop-q-init c = refl

pub loop-q-preserved : goal.loop-q-preserved
loop-q-preserved c = one-more (asked _) c.loop-q.q-index c.args.list.now c.loop-q.list c.asked.result _ c.loop-q.invariant c.asked.ensures

pub returns : goal.returns
unfolding list_leaves list_answer
returns c =
    let f = asked c.args.table.now in
    let ys = c.args.list.now in
    let g = judged_given c.args.table.now c.judge_table.ensures c.in_ok-table.was in
    let n : c.loop-q.q-index ≡ length ys = omega (arith, c.loop-q-test.false, c.loop-q.auto.q-index-end) in
    let all = c.loop-q.invariant ∙ ap (λ (T : List ℕ). upto (asked T) c.loop-q.q-index ys) g.1 ∙ ap (λ (k : ℕ). upto f k ys) n ∙ upto-all f ys in
    (rw g.0 all, rw g.0 (ap Ok c.loop-q.auto.list))
