-- `cell::departure_by` meets its contract.
use mathlib.Core.Path.{ap, ◌∙◌}
use Rattle.std.specs.Prelude.{Some}
use native.Mathlib.Omega.{arith}
use Rattle.building.proofs.RowsInUse.{counted, searchable, latest-empty, latest-last}
use Rattle.building.proofs.cell.departure_by.Goals as goal

pub returns-then-end-eq0 : goal.returns-then-end-eq0
returns-then-end-eq0 c = latest-empty _ (counted c.requires c.rows_of-end.ensures) c.if-end-eq0.true

pub offset_bounds-cell-end : goal.offset_bounds-cell-end
offset_bounds-cell-end c = let p = counted c.requires c.rows_of-end.ensures in omega arith

pub bounds-cell-end : goal.bounds-cell-end
bounds-cell-end c = let p = counted c.requires c.rows_of-end.ensures in omega arith

pub returns-then-arrival_of-t : goal.returns-then-arrival_of-t
returns-then-arrival_of-t c =
    ap Some c.departure_of.ensures ∙ latest-last _ (counted c.requires c.rows_of-end.ensures) c.if-end-eq0.false (omega (arith, c.arrival_of.ensures))

pub latest_departure-requires : goal.latest_departure-requires
latest_departure-requires c = searchable c.requires

pub returns : goal.returns
returns c = c.latest_departure.ensures
