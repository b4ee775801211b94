-- `cells::earliest_arrival` meets its contract: the first row that departs at or after t has the earliest arrival.
use mathlib.Core.Path.{sym, ◌∙◌}
use Rattle.cells.proofs.Rows.{arrival-found}
use Rattle.cells.proofs.earliest_arrival.Goals as goal

pub returns-in_err-row : goal.returns-in_err-row
returns-in_err-row c = rw c.from_residual.ensures (arrival-found _ c.args.t c.requires.rising (sym c.in_err-row.was ∙ c.first_departing.ensures))

pub returns : goal.returns
returns c = arrival-found _ c.args.t c.requires.rising (sym c.in_ok-row.was ∙ c.first_departing.ensures)
