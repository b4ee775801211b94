-- `join_held` meets its contract. The loop's invariant: the contacts of the cells passed are added.
use Prim.Native.Nat.{◌*◌}
use lib.ListN.{drop}
use Rattle.std.specs.Iterator.Adapters.{enumerate_source, enumerate_count}
use Rattle.std.specs.Slice.Iter.{chunks_exact_rest, chunks_exact_size}
use Rattle.grid.proofs.Reading.{Chunks}
use Rattle.logs.specs.Ordered.{table_contacts}
use Rattle.logs.proofs.Numbered.{cells_left}
use Rattle.adding_lists.proofs.Adds.{AddedSoFar}
use Rattle.joining.proofs.join_held.Given as goal

abbrev pub invariant-loop-k : goal.invariant-loop-k
invariant-loop-k l =
    let o = l.opening in
    let body = drop 1 l.second in
    let cells = enumerate_source l.k-iterator in
    let k = enumerate_count l.k-iterator in
    Chunks l.size (o.animals * o.animals) body (chunks_exact_rest cells) (chunks_exact_size cells) k
    × AddedSoFar (table_contacts l.second) (cells_left o.carry o.animals l.size body k) l.initial.first l.first l.new
