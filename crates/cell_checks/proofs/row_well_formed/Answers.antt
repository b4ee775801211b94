-- `row_well_formed` meets its contract: where all tests but the last pass, the last decides, and where one of them fails, the word is no row.
use Rattle.std.proofs.Common.{rules}
use mathlib.Core.Path.{◌∙◌}
use Rattle.cell_checks.proofs.Checks.{row-passed, row-failed}
use Rattle.cell_checks.proofs.row_well_formed.Goals as goal

pub returns-then-d-carry : goal.returns-then-d-carry
returns-then-d-carry c = row-passed _ _ _ _ _ c.is_interval.ensures c.departure_of-d.ensures c.arrival_of-a.ensures (search rules)

pub returns-else-d-carry : goal.returns-else-d-carry
returns-else-d-carry c = c.if-d-carry.false
    ∙ row-failed c.args.ticks c.args.carry c.args.p c.args.q c.args.w c.is_interval.ensures c.departure_of-d.ensures c.arrival_of-a.ensures (search rules)
