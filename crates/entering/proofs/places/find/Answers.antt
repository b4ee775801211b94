-- `places::find` meets its contract: the first row that departs at or after the interval says whether a row lies inside it, and where the step back may start.
use mathlib.Core.Path.{sym, ◌∙◌}
use native.Mathlib.Omega.{arith}
use Rattle.rules.specs.Layout.{cell_of}
use Rattle.cells.specs.Stored.{arrival_end}
use Rattle.cells.proofs.Search.{front_length}
use Rattle.cells.proofs.Lent.{in-use_length}
use Rattle.entering.proofs.Slots.{slot-behind, row_within, row_inside, row-arrives, slot-same, slot-other}
use Rattle.entering.proofs.places.find.Goals as goal

pub first_arriving-lo-requires-clause-cell_bound : goal.first_arriving-lo-requires-clause-cell_bound
first_arriving-lo-requires-clause-cell_bound c =
    omega (arith, c.rows_of-hi.ensures, in-use_length c.args.cell.now c.requires, front_length arrival_end c.args.interval.arrival (cell_of c.args.cell.now))

pub returns-in_default : goal.returns-in_default
returns-in_default c =
    slot-behind c.args.interval _ c.requires.rising c.first_departing.ensures c.in_default.is c.first_arriving-lo.ensures
    (c.rows_of-hi.ensures ∙ sym (in-use_length c.args.cell.now c.requires))

pub returns-then-row-interval : goal.returns-then-row-interval
returns-then-row-interval c = row_inside c.args.interval _ c.requires.rising c.first_departing.ensures c.in-Some.is c.if-row-interval.true

pub first_arriving-lo-requires-2-clause-cell_bound : goal.first_arriving-lo-requires-2-clause-cell_bound
first_arriving-lo-requires-2-clause-cell_bound c =
    row-arrives c.args.interval _ c.requires.rising c.first_departing.ensures c.in-Some.is (omega arith)

pub overflow_add-hi : goal.overflow_add-hi
overflow_add-hi c =
    omega (
      arith,
      row_within c.args.interval _ c.requires.rising c.first_departing.ensures c.in-Some.is,
      in-use_length c.args.cell.now c.requires,
      c.requires.within,
    )

pub returns-then-same : goal.returns-then-same
returns-then-same c =
    slot-same c.args.interval _ c.requires.rising c.first_departing.ensures c.in-Some.is (omega arith) c.first_arriving-lo-2.ensures (omega arith)

pub returns-else-same : goal.returns-else-same
returns-else-same c =
    slot-other c.args.interval _ c.requires.rising c.first_departing.ensures c.in-Some.is (omega arith) c.first_arriving-lo-2.ensures c.if-same.false
