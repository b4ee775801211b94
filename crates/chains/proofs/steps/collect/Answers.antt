-- `steps::collect` meets its contract. The loop's invariant: the words kept are those of the contacts so far, and with the chain that is
-- left they are the whole.
use mathlib.Core.Path.{refl, ◌∙◌}
use native.Mathlib.Omega.{arith}
use lib.ListN.{length-set}
use Rattle.rules.proofs.Sound.{table-sizes}
use Rattle.chains.specs.Found.{collected}
use Rattle.chains.proofs.Walking.{walk_start, walk_stuck, walk_long, walk_animal, walk_there, walk_on}
use Rattle.chains.proofs.steps.collect.Goals as goal

pub loop-k-init : goal.loop-k-init
loop-k-init c =
    let a = c.args in
    let p = c.requires in
    walk_start a.table.now a.goal a.b a.u a.d _ _ c.animals-n.ensures p.0 p.2 p.3 refl

pub lowest-requires : goal.lowest-requires
lowest-requires c = let w = c.loop-k.invariant in (w.at-animal, c.requires.1, w.to_last)

pub returns-in_err-to-clause-words_value : goal.returns-in_err-to-clause-words_value
returns-in_err-to-clause-words_value c = rw c.from_residual.ensures (walk_stuck c.loop-k.invariant c.animals-n.ensures (omega arith) c.lowest.ensures.lowest_value c.in_err-to.was)

pub contact_word-requires : goal.contact_word-requires
contact_word-requires c =
    let z = table-sizes c.args.table.now in
    let w = c.loop-k.invariant in
    -- The next animal is one of the table.
    let next = walk_animal w c.animals-n.ensures (omega arith) c.lowest.ensures.lowest_value c.in_ok-to.was in
    (omega (arith, z.n_high, w.at-animal), omega (arith, z.n_high, next), w.from_one, w.to_last)

pub returns-in_default-clause-words_value : goal.returns-in_default-clause-words_value
unfolding collected
returns-in_default-clause-words_value c =
    walk_there c.loop-k.invariant c.animals-n.ensures (omega arith) c.lowest.ensures.lowest_value c.in_ok-to.was _ c.contact_word.ensures c.in_default.is

pub returns-in_default-clause-count_bound : goal.returns-in_default-clause-count_bound
returns-in_default-clause-count_bound c =
    record { below = omega (arith, c.animals-n.ensures, c.loop-k-test.true); long = length-set c.loop-k.kept c.loop-k.k _ ∙ c.loop-k.invariant.long }

pub loop-k-preserved : goal.loop-k-preserved
loop-k-preserved c =
    walk_on c.loop-k.invariant c.animals-n.ensures (omega arith) c.lowest.ensures.lowest_value c.in_ok-to.was _ c.contact_word.ensures c.in_ok-to.ensures.lead_bound c.in-On.is

pub returns-clause-words_value : goal.returns-clause-words_value
returns-clause-words_value c = walk_long c.loop-k.invariant c.animals-n.ensures (omega arith)
