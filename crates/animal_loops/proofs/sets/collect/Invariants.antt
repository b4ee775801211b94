-- `sets::collect` meets its contract. The loop's invariant: the set holds the animals reached among those passed. The measure is how many
-- animals are left.
use Prim.Native.Nat.{◌-◌, ◌≤◌}
use Rattle.rules.specs.Questions.{is_reached}
use Rattle.animal_loops.specs.Collected.{Collected}
use Rattle.animal_loops.proofs.sets.collect.Given as goal

abbrev pub invariant-loop-i : goal.invariant-loop-i
invariant-loop-i l = (l.i ≤ l.n) × Collected (is_reached l.table l.u l.first l.last) l.i l.found.words l.found.count

abbrev pub decreases-loop-i : goal.decreases-loop-i
decreases-loop-i l = l.n - l.i
