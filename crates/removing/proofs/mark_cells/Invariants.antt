-- `mark_cells` meets its contract. The loop's invariant: the contacts of the cells passed are marked, but for the one left out.
use Prim.Native.Nat.{◌*◌}
use lib.ListN.{drop}
use Rattle.std.specs.Iterator.Adapters.{enumerate_source, enumerate_count}
use Rattle.std.specs.Slice.Iter.{chunks_exact_rest, chunks_exact_size}
use Rattle.grid.proofs.Reading.{Chunks}
use Rattle.logs.specs.Ordered.{table_contacts}
use Rattle.logs.proofs.Numbered.{cells_left}
use Rattle.removing.proofs.MarkedSets.{MarkedSoFar}
use Rattle.removing.proofs.mark_cells.Given as goal

abbrev pub invariant-loop-k : goal.invariant-loop-k
invariant-loop-k l =
    let o = l.opening in
    let words = drop 1 l.table in
    let cells = enumerate_source l.k-iterator in
    let k = enumerate_count l.k-iterator in
    Chunks l.size (o.animals * o.animals) words (chunks_exact_rest cells) (chunks_exact_size cells) k
    × MarkedSoFar o l.contact (table_contacts l.table) (cells_left o.carry o.animals l.size words k) l.initial.heads l.initial.body l.heads l.body
