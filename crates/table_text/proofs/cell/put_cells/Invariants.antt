-- The text of the cells passed is written.
use Prim.Native.Nat.{◌*◌}
use lib.ListN.{drop}
use Rattle.std.specs.Iterator.Adapters.{enumerate_source, enumerate_count}
use Rattle.std.specs.Slice.Iter.{chunks_exact_rest, chunks_exact_size}
use Rattle.grid.proofs.Reading.{Chunks}
use Rattle.table_text.specs.Lines.{cell_lines}
use Rattle.table_text.proofs.Writing.{Writing}
use Rattle.table_text.proofs.Texts.{cells_left}
use Rattle.table_text.proofs.cell.put_cells.Given as goal

abbrev pub invariant-loop-k : goal.invariant-loop-k
invariant-loop-k l =
    let words = drop 1 l.table in
    let cells = enumerate_source l.k-iterator in
    let k = enumerate_count l.k-iterator in
    Chunks l.size (l.n * l.n) words (chunks_exact_rest cells) (chunks_exact_size cells) k
    × Writing (cell_lines l.table) l.initial.out l.out l.end (cells_left l.n l.size words k)
