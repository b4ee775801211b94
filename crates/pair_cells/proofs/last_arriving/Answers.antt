-- `last_arriving` meets its contract: the cell read is the one from u to v.
use Rattle.cells.specs.Rows.{last_arriving}
use Rattle.cells.proofs.Lent.{stored-in_use}
use Rattle.tables.proofs.Stored.{cell-read}
use Rattle.pair_cells.proofs.last_arriving.Goals as goal

pub last_arriving-requires : goal.last_arriving-requires
last_arriving-requires c = stored-in_use c.cell.ensures.stored

pub returns : goal.returns
returns c = cell-read (λ d. last_arriving d c.args.last) c.args.table.now c.args.u c.args.v _ c.cell.ensures.words c.last_arriving.ensures
