-- `cells::last_arriving` meets its contract: the search finds how many rows arrive by t, and the last of them is the row.
use mathlib.Core.Path.{◌∙◌}
use Prim.Native.Nat.{◌+◌}
use Rattle.rules.specs.Layout.{cell_of}
use Rattle.cells.specs.Stored.{arrival_end}
use Rattle.cells.proofs.Lent.{lent-rising, found-is}
use Rattle.cells.proofs.Rows.{none-last, last-is}
use Rattle.cells.proofs.last_arriving.Goals as goal

pub upper_bound_arrival-front-requires : goal.upper_bound_arrival-front-requires
upper_bound_arrival-front-requires c = lent-rising c.args.cell.now _ c.requires c.rows_end-end.ensures.0

pub returns-in_err-checked_sub : goal.returns-in_err-checked_sub
returns-in_err-checked_sub c =
    let found = found-is c.args.cell.now _ c.requires c.rows_end-end.ensures.0 arrival_end (c.args.t + 1) c.upper_bound_arrival-front.ensures in
    c.from_residual.ensures ∙ none-last (cell_of c.args.cell.now) c.args.t found c.in_err-checked_sub.ensures

pub returns : goal.returns
returns c =
    let found = found-is c.args.cell.now _ c.requires c.rows_end-end.ensures.0 arrival_end (c.args.t + 1) c.upper_bound_arrival-front.ensures in
    c.row_at.ensures ∙ last-is (cell_of c.args.cell.now) c.args.t found c.in_ok-checked_sub.ensures
