-- `cells::is_well_formed` meets its contract: each of its returns is a part of the check of the cell.
use native.Mathlib.Omega.{arith}
use mathlib.Core.Path.{sym, ◌∙◌}
use Prim.Native.Nat.{◌+◌}
use Rattle.cell_checks.proofs.Checks.{cell-kind, cell-many, cell-rows, cell-rest}
use Rattle.cell_checks.proofs.is_well_formed.Goals as goal

pub returns-then-not-is_count : goal.returns-then-not-is_count
returns-then-not-is_count c = sym (cell-kind _ _ _ _ (omega arith) (sym c.if-not-is_count.ensures))

pub returns-then-most-rows : goal.returns-then-most-rows
returns-then-most-rows c = sym (cell-many _ _ _ _ (omega arith) (sym c.if-not-is_count.ensures) (omega arith))

pub returns-then-not-rows_well_formed : goal.returns-then-not-rows_well_formed
returns-then-not-rows_well_formed c = sym
    (cell-rows _ _ _ _ (omega arith) (sym c.if-not-is_count.ensures) (c.rows_of-rows.result + 1) (omega arith) (omega arith)
    (sym c.if-not-rows_well_formed.ensures))

pub returns : goal.returns
returns c = c.all_unused.ensures
    ∙ sym
    (cell-rest _ _ _ _ (omega arith) (sym c.if-not-is_count.ensures) (c.rows_of-rows.result + 1) (omega arith) (omega arith)
    (sym c.if-not-rows_well_formed.ensures))
