-- `stands` meets its contract: the cell read is the one from u to v.
use Rattle.rules.specs.Adding.{stands}
use Rattle.cells.proofs.Lent.{stored-in_use}
use Rattle.tables.proofs.Stored.{cell-read}
use Rattle.pair_cells.proofs.stands.Goals as goal

pub stands-requires : goal.stands-requires
stands-requires c = stored-in_use c.cell.ensures.stored

pub returns : goal.returns
returns c = cell-read (stands c.args.interval) c.args.table.now c.args.u c.args.v _ c.cell.ensures.words c.stands.ensures
