-- `rows_well_formed` meets its contract: a row that fails ends the check, and any other is passed.
use native.Mathlib.Omega.{arith}
use mathlib.Core.Path.{refl}
use Rattle.cell_checks.proofs.Checks.{rows-turn, rows-stop, rows_end}
use Rattle.cell_checks.proofs.rows_well_formed.Goals as goal

pub loop-w-init : goal.loop-w-init
loop-w-init c = refl

pub returns-then-not-row_well_formed : goal.returns-then-not-row_well_formed
returns-then-not-row_well_formed c = rows-stop _ _ _ _ c.args.rows.now c.loop-w.w-index c.loop-w.invariant (omega arith) c.if-not-row_well_formed.ensures

pub loop-w-preserved : goal.loop-w-preserved
loop-w-preserved c = rw (c.departure_of-p.ensures, c.arrival_of-q.ensures)
    (rows-turn _ _ _ _ c.args.rows.now c.loop-w.w-index c.loop-w.invariant (omega arith) c.if-not-row_well_formed.ensures)

pub returns : goal.returns
returns c = rows_end _ _ _ _ c.args.rows.now c.loop-w.w-index c.loop-w.invariant c.loop-w-test.false
