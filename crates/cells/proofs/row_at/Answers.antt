-- `cells::row_at` meets its contract: the rows in use stand behind the count word.
use native.Mathlib.Omega.{arith}
use Rattle.cells.proofs.Rows.{row-missing, row_read}
use Rattle.cells.proofs.row_at.Goals as goal

pub returns-then-rows-index : goal.returns-then-rows-index
returns-then-rows-index c = row-missing c.args.cell.now c.requires _ c.args.index c.rows_of-rows.ensures c.if-rows-index.true

pub returns : goal.returns
returns c = row_read c.args.cell.now c.requires _ c.args.index c.rows_of-rows.ensures (omega arith) c.interval_of-interval.ensures
