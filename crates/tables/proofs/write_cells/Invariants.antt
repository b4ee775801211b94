-- `write_cells` meets its contract. The loop's invariant: the first k cells are empty.
use Prim.Native.Nat.{◌*◌}
use Rattle.grid.proofs.Walk.{Walk}
use Rattle.tables.specs.Cells.{emptied}
use Rattle.tables.proofs.write_cells.Given as goal

abbrev pub invariant-loop-k : goal.invariant-loop-k
invariant-loop-k l = Walk emptied l.size l.count l.initial.body l.body (l.k * l.size) l.k
