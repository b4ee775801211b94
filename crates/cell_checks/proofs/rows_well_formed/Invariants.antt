-- `rows_well_formed` meets its contract. The loop's invariant: what is left of the check equals the whole check.
use mathlib.Core.Path.{◌≡◌}
use lib.ListN.{drop}
use Rattle.rules.specs.Checks.{rows_well_formed}
use Rattle.cell_checks.proofs.rows_well_formed.Given as goal

abbrev pub invariant-loop-w : goal.invariant-loop-w
invariant-loop-w l = rows_well_formed l.ticks l.carry l.p l.q (drop l.w-index l.rows) ≡ rows_well_formed l.ticks l.carry 0 0 l.rows
