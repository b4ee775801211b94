-- `first_departing` meets its contract: the cell read is the one from u to v.
use Rattle.cells.specs.Rows.{first_departing}
use Rattle.cells.proofs.Lent.{stored-in_use}
use Rattle.tables.proofs.Stored.{cell-read}
use Rattle.pair_cells.proofs.first_departing.Goals as goal

pub first_departing-requires : goal.first_departing-requires
first_departing-requires c = stored-in_use c.cell.ensures.stored

pub returns : goal.returns
returns c = cell-read (λ d. first_departing d c.args.first) c.args.table.now c.args.u c.args.v _ c.cell.ensures.words c.first_departing.ensures
