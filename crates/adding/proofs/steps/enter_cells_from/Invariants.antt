-- `steps::enter_cells_from` meets its contract. The loop's invariant: the cells passed are replaced, and those that changed are counted.
use Prim.Native.Nat.{◌*◌}
use mathlib.Core.Path.{◌≡◌}
use Rattle.rules.specs.Folds.{count_below}
use Rattle.grid.proofs.Walk.{Walk}
use Rattle.adding.specs.Steps.{entered_at, changes_at}
use Rattle.adding.proofs.steps.enter_cells_from.Given as goal

abbrev pub invariant-loop-y : goal.invariant-loop-y
invariant-loop-y l = Walk (entered_at l.x l.d l.e) l.size l.n l.initial.cells l.cells (l.y * l.size) l.y
    × (l.changed ≡ count_below (changes_at l.size l.x l.d l.e l.initial.cells) l.y)
