-- `steps::lowest` meets its contract. The loop's invariant: no contact leads to an animal passed.
use mathlib.Core.Path.{ap, ◌∙◌}
use Rattle.rules.specs.Chains.{leads, lowest}
use Rattle.chains.proofs.Leading.{none_yet, none-next, found_here, found_none}
use Rattle.chains.proofs.steps.lowest.Goals as goal

pub loop-to-init : goal.loop-to-init
loop-to-init c = none_yet _

pub returns-in-Some-clause-lowest_value : goal.returns-in-Some-clause-lowest_value
returns-in-Some-clause-lowest_value c =
    let a = c.args in
    found_here (leads a.table.now a.goal a.b a.from a.tick) c.loop-to.to _ c.loop-to-test.true c.loop-to.invariant c.lead_to.ensures.lead_value c.in-Some.is
    ∙ ap (lowest (leads a.table.now a.goal a.b a.from a.tick)) c.animals-n.ensures

pub loop-to-preserved : goal.loop-to-preserved
loop-to-preserved c = none-next _ c.loop-to.to c.loop-to.invariant c.lead_to.ensures.lead_value c.in_default.is

pub returns-clause-lowest_value : goal.returns-clause-lowest_value
returns-clause-lowest_value c =
    let a = c.args in
    found_none (leads a.table.now a.goal a.b a.from a.tick) c.loop-to.to _ c.loop-to-test.false c.loop-to.auto.to-end c.loop-to.invariant
    ∙ ap (lowest (leads a.table.now a.goal a.b a.from a.tick)) c.animals-n.ensures
