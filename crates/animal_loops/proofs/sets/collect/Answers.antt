-- `sets::collect` meets its contract. The loop's invariant: the set holds the animals reached among those passed. The measure is how many
-- animals are left.
use mathlib.Core.Path.{subst}
use Prim.Native.Nat.{ℕ, ◌≤◌, ◌<◌}
use native.Mathlib.Omega.{arith}
use Rattle.animal_loops.proofs.Collecting.{collected-start, collected-set}
use Rattle.animal_loops.proofs.sets.collect.Goals as goal

pub loop-i-init : goal.loop-i-init
loop-i-init c = (omega arith, collected-start _ _ _ c.empty-found.ensures.words_value c.empty-found.ensures.count_value)

pub with_reached-found-requires : goal.with_reached-found-requires
with_reached-found-requires c =
    let h : c.loop-i.i < c.animals-n.result = omega arith in
    record { u_bound = (c.requires, subst (λ (k : ℕ). c.loop-i.i < k) c.animals-n.ensures h); collected = c.loop-i.invariant.1 }

pub loop-i-preserved : goal.loop-i-preserved
loop-i-preserved c = (omega arith, c.with_reached-found.ensures)

pub returns : goal.returns
returns c =
    let a = c.args in
    let h : c.animals-n.result ≤ c.loop-i.i = omega arith in
    let w = c.loop-i.invariant in
    collected-set a.table.now a.u a.first a.last c.animals-n.ensures h w.0 w.1
