-- `follows` meets its contract. The loop's invariant: what is left of the test equals the whole test.
use mathlib.Core.Path.{◌≡◌}
use lib.ListN.{drop}
use Rattle.claims.specs.Following.{follows}
use Rattle.claims.proofs.follows.Given as goal

abbrev pub invariant-loop-w : goal.invariant-loop-w
invariant-loop-w l = follows l.table l.v l.first l.last l.x l.a (drop l.w-index l.chain) ≡ follows l.table l.v l.first l.last l.u 0 l.chain
