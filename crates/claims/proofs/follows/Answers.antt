-- `follows` meets its contract. The loop's invariant: what is left of the test equals the whole test.
use mathlib.Core.Path.{refl}
use Rattle.claims.proofs.Words.{follows-turn, follows-stop, follows-end}
use Rattle.claims.proofs.follows.Goals as goal

pub loop-w-init : goal.loop-w-init
loop-w-init c = refl

pub returns-then-not-goes_on : goal.returns-then-not-goes_on
returns-then-not-goes_on c = follows-stop c.args.table.now c.args.v c.args.first c.args.last c.loop-w.x c.loop-w.a c.args.chain.now c.loop-w.w-index c.loop-w.invariant c.loop-w-test.true c.goes_on.ensures c.if-not-goes_on.true

pub loop-w-preserved : goal.loop-w-preserved
loop-w-preserved c =
    follows-turn c.args.table.now c.args.v c.args.first c.args.last c.loop-w.x c.loop-w.a c.args.chain.now c.loop-w.w-index c.loop-w.invariant _ _ _ c.loop-w-test.true
    c.goes_on.ensures c.if-not-goes_on.false c.to_of-x.ensures c.tick_of.ensures c.carry-carry.ensures

pub returns : goal.returns
returns c = follows-end c.args.table.now c.args.v c.args.first c.args.last c.loop-w.x c.loop-w.a c.args.chain.now c.loop-w.w-index c.loop-w.invariant c.loop-w-test.false
