-- `cells::latest_departure` meets its contract: the last row that arrives by t has the latest departure.
use mathlib.Core.Path.{sym, ◌∙◌}
use Rattle.cells.proofs.Rows.{departure-found}
use Rattle.cells.proofs.latest_departure.Goals as goal

pub returns-in_err-row : goal.returns-in_err-row
returns-in_err-row c = rw c.from_residual.ensures (departure-found _ c.args.t c.requires.rising (sym c.in_err-row.was ∙ c.last_arriving.ensures))

pub returns : goal.returns
returns c = departure-found _ c.args.t c.requires.rising (sym c.in_ok-row.was ∙ c.last_arriving.ensures)
