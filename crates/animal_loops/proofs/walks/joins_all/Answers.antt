-- `walks::joins_all` meets its contract: the range tests all animals.
use Rattle.std.proofs.Common.{rules, ◌≡◌, ◌∙◌, ◌-◌, ap, refl, arith}
use Rattle.std.specs.List.{list_all, range_with_len}
use Rattle.std.proofs.lemmas.Iterator.{YieldsList-from_range}
use Rattle.std.proofs.lemmas.Iterator.Search.{all_from_yields_List}
use Rattle.rules.specs.Folds.{all_below}
use Rattle.animal_loops.specs.Walks.{joins, joins_all}
use Rattle.animal_loops.proofs.Joined.{all-in-range}
use Rattle.animal_loops.proofs.walks.joins_all.Goals as goal

pub returns : goal.returns
unfolding joins_all
returns c =
    let a = c.args in
    let p = joins a.table.now a.first a.last a.u in
    let ran : c.all.result ≡ list_all p (range_with_len 0 a.n) = all_from_yields_List p _ _ _ c.all.ensures.ran (YieldsList-from_range 0 a.n a.n refl (omega arith)) (λ x b q k. search rules) in
    ran ∙ all-in-range p a.n ∙ ap (all_below p) c.requires.1
