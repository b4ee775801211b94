-- `most_rows` meets its contract.
use Rattle.std.proofs.Common.{rules}
use Rattle.tables.specs.Cells.{most_rows}
use Rattle.tables.proofs.most_rows.Goals as goal

pub returns-then-u-v : goal.returns-then-u-v
unfolding most_rows
returns-then-u-v c = search rules

pub returns-else-u-v : goal.returns-else-u-v
unfolding most_rows
returns-else-u-v c = search rules
