-- `write_opened` meets its contract: the opening word and the empty cells are the whole table.
use native.Mathlib.Omega.{arith}
use Prim.Native.Nat.{◌-◌}
use mathlib.Core.Path.{◌∙◌}
use lib.ListN.{length, set, length-set}
use borrow.Rule.Slice.PartMut.{same_len_mid}
use Rattle.grid.proofs.Places.{rest-length}
use Rattle.tables.proofs.Cells.{opened-table}
use Rattle.tables.proofs.write_opened.Goals as goal

pub slice_bounds-write_cells-count : goal.slice_bounds-write_cells-count
slice_bounds-write_cells-count c = omega (arith, (length-set c.args.table.now 0 c.opening_word.result))

pub slice_bounds-write_cells-start : goal.slice_bounds-write_cells-start
slice_bounds-write_cells-start c = omega (arith, (length-set c.args.table.now 0 c.opening_word.result))

pub write_cells-requires : goal.write_cells-requires
write_cells-requires c = omega (arith, (length-set c.args.table.now 0 c.opening_word.result), c.requires, rest-length ((set c.args.table.now 0 c.opening_word.result)))

pub shape_of-table : goal.shape_of-table
shape_of-table c = same_len_mid 1 (length ((set c.args.table.now 0 c.opening_word.result)) - 1) ((set c.args.table.now 0 c.opening_word.result)) c.write_cells.new.body c.write_cells.auto.body ∙ (length-set c.args.table.now 0 c.opening_word.result)

pub returns : goal.returns
returns c = opened-table _ _ _ c.opening_word.result c.args.table.now c.write_cells.new.body
    (omega (arith, c.requires.table_len)) c.opening_word.ensures c.write_cells.ensures
