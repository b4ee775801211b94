-- `steps::enter_all_cells` meets its contract. The loop's invariant: the cells from the animals passed are replaced, and those that changed are
-- counted.
use Prim.Native.Nat.{◌*◌}
use mathlib.Core.Path.{◌≡◌}
use Rattle.rules.specs.Folds.{sum_below}
use Rattle.grid.proofs.Walk.{Walk}
use Rattle.adding.specs.Steps.{entered_from, changes_from}
use Rattle.adding.proofs.steps.enter_all_cells.Given as goal

abbrev pub invariant-loop-x : goal.invariant-loop-x
invariant-loop-x l = Walk (entered_from l.n l.size l.d l.e) l.width l.n l.initial.body l.body (l.x * l.width) l.x
    × (l.changed ≡ sum_below (changes_from l.n l.size l.d l.e l.initial.body) l.x)
