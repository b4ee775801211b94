-- `reached` meets its contract: each return is a case of the rule.
use Rattle.std.specs.Prelude.{None, Ok, List, ℕ, ◌<◌, ◌≡◌}
use mathlib.Core.Path.{sym, ap, ◌∙◌, subst}
use Rattle.rules.specs.declared.AnimalSet.{AnimalSet}
use Rattle.rules.specs.Folds.{count_below}
use Rattle.rules.specs.Layout.{animals}
use Rattle.rules.specs.Windows.{ensure_window}
use Rattle.rules.specs.Questions.{is_reached, set_words, reached_refusal, reached_words, reached_count, reached_set}
use Rattle.checks.proofs.Judged.{animal-behind}
use Rattle.questions.proofs.Asking.{judged_given, reached_exit, reached-said}
use Rattle.questions.proofs.reached.Goals as goal

pub collect-requires : goal.collect-requires
unfolding reached_refusal
collect-requires c =
    let a = c.args in
    let g = judged_given a.table.now c.judge_reached.ensures c.in_ok-table.was in
    subst (λ (T : List ℕ). a.u < animals T) (sym g.1) (animal-behind a.table.now a.u (ensure_window a.table.now a.first a.last None) g.0).1

pub returns-in_err-table : goal.returns-in_err-table
returns-in_err-table c =
    let a = c.args in
    let e = reached_exit a.table.now a.u a.first a.last c.judge_reached.ensures c.in_err-table.was c.from_residual.ensures.1 in
    let s = reached-said a.table.now a.u a.first a.last e in
    record { set = e; found = s.0; words = s.1; count = s.2 }

pub returns : goal.returns
unfolding reached_set reached_words reached_count
returns c =
    let a = c.args in
    let g = judged_given a.table.now c.judge_reached.ensures c.in_ok-table.was in
    let set : List ℕ → AnimalSet = λ T. record { words = set_words T a.u a.first a.last; count = count_below (is_reached T a.u a.first a.last) (animals T) } in
    let e : Ok c.collect.result ≡ reached_set a.table.now a.u a.first a.last = rw g.0 (ap Ok (c.collect.ensures ∙ ap set g.1)) in
    let s = reached-said a.table.now a.u a.first a.last e in
    record { set = e; found = s.0; words = s.1; count = s.2 }
