-- `cells::first_departing` meets its contract: the search finds how many rows depart before t.
use mathlib.Core.Path.{ap, ◌∙◌}
use Rattle.rules.specs.Layout.{cell_of}
use Rattle.cells.specs.Stored.{departure_end}
use Rattle.cells.specs.Rows.{row_at, first_departing}
use Rattle.cells.proofs.Lent.{lent-rising, found-is}
use Rattle.cells.proofs.first_departing.Goals as goal

pub lower_bound_departure-requires : goal.lower_bound_departure-requires
lower_bound_departure-requires c = lent-rising c.args.cell.now _ c.requires c.rows_end-end.ensures.0

pub returns : goal.returns
unfolding first_departing
returns c = c.row_at.ensures ∙ ap (row_at (cell_of c.args.cell.now)) (found-is c.args.cell.now _ c.requires c.rows_end-end.ensures.0 departure_end c.args.t c.lower_bound_departure.ensures)
