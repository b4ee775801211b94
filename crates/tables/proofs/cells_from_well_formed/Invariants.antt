-- `cells_from_well_formed` meets its contract. The loop's invariant: the cells so far are well formed.
use Prim.Native.Nat.{◌+◌, ◌*◌}
use Rattle.std.specs.Iterator.Adapters.{enumerate_source, enumerate_count}
use Rattle.std.specs.Slice.Iter.{chunks_exact_rest, chunks_exact_size}
use Rattle.grid.specs.Parts.{part}
use Rattle.grid.proofs.Reading.{Chunks, Tested}
use Rattle.tables.specs.Cells.{cell_of_well_formed}
use Rattle.tables.proofs.cells_from_well_formed.Given as goal

abbrev pub invariant-loop-v : goal.invariant-loop-v
invariant-loop-v l =
    let cells = enumerate_source l.v-iterator in
    let v = enumerate_count l.v-iterator in
    let from = part (l.n * (l.ticks + 1)) l.u l.body in
    Chunks (l.ticks + 1) l.n from (chunks_exact_rest cells) (chunks_exact_size cells) v
    × Tested (cell_of_well_formed l.ticks l.carry l.u from) l.n v
