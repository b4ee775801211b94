-- `sets::with_reached` meets its contract: each return is a case of the test of animal i.
use mathlib.Core.Path.{◌∙◌}
use native.Mathlib.Omega.{arith}
use Rattle.rules.proofs.Sound.{table-sizes}
use Rattle.animal_loops.proofs.Collecting.{collected-missed, collected-room, collected-new, reached-self, reached-other}
use Rattle.animal_loops.proofs.sets.with_reached.Goals as goal

pub returns-then-u-i : goal.returns-then-u-i
returns-then-u-i c =
    let a = c.args in
    collected-missed c.requires.collected (reached-self a.table.now a.u a.first a.last a.i c.requires.u_bound.1 c.if-u-i.true)

pub returns-then-not-reaches : goal.returns-then-not-reaches
returns-then-not-reaches c =
    let a = c.args in
    let r = reached-other a.table.now a.u a.first a.last a.i c.requires.u_bound.1 c.if-u-i.false c.reaches.ensures in
    collected-missed c.requires.collected (r ∙ c.if-not-reaches.true)

pub with_animal-requires : goal.with_animal-requires
with_animal-requires c =
    collected-room c.requires.collected (omega (c.requires.u_bound.1, (table-sizes c.args.table.now).n_high, arith))

pub returns : goal.returns
returns c =
    let a = c.args in
    let r = reached-other a.table.now a.u a.first a.last a.i c.requires.u_bound.1 c.if-u-i.false c.reaches.ensures in
    let n = c.with_animal.ensures in
    collected-new c.requires.collected _ _ (omega (c.requires.u_bound.1, (table-sizes a.table.now).n_high, arith)) (r ∙ c.if-not-reaches.false) n.words_value n.count_value
