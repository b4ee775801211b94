-- `walks::connects` meets its contract: the range tests all animals.
use Rattle.std.proofs.Common.{rules, ◌≡◌, ◌∙◌, ap, refl, arith}
use Rattle.std.specs.List.{list_all, range_with_len}
use Rattle.std.proofs.lemmas.Iterator.{YieldsList-from_range}
use Rattle.std.proofs.lemmas.Iterator.Search.{all_from_yields_List}
use Rattle.rules.specs.Folds.{all_below}
use Rattle.rules.specs.Questions.{connects}
use Rattle.animal_loops.specs.Walks.{joins, joins_all}
use Rattle.animal_loops.proofs.Joined.{all-in-range}
use Rattle.animal_loops.proofs.walks.connects.Goals as goal

pub returns : goal.returns
unfolding connects joins_all joins
returns c =
    let a = c.args in
    let n = c.animals-n.result in
    let p = joins_all a.table.now a.first a.last in
    let ran : c.all.result ≡ list_all p (range_with_len 0 n) = all_from_yields_List p _ _ _ c.all.ensures.ran (YieldsList-from_range 0 n n refl (omega arith)) (λ x b q k. search rules) in
    ran ∙ all-in-range p n ∙ ap (all_below p) c.animals-n.ensures
