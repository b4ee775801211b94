-- `places::first_arriving` meets its contract. The loop's invariant: the answer is at most `lo`.
use Prim.Native.Nat.{◌≤◌}
use lib.ListN.{length}
use Rattle.rules.specs.Layout.{cell_of}
use Rattle.cells.specs.Stored.{arrival_end, front_below}
use Rattle.entering.proofs.places.first_arriving.Given as goal

abbrev pub invariant-loop-lo : goal.invariant-loop-lo
invariant-loop-lo l = (front_below arrival_end l.a (cell_of l.cell) ≤ l.lo) × (l.lo ≤ length (cell_of l.cell))

abbrev pub decreases-loop-lo : goal.decreases-loop-lo
decreases-loop-lo l = l.lo
