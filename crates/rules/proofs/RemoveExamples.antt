-- Every removal of the table gives what it says; all are computed at once, and one law reads off each.
use mathlib.Core.Path.{◌≡◌, refl}
use mathlib.Core.List.{map}
use Rattle.journeys.specs.Cell.{latest_departure, earliest_arrival, latest_departing, earliest_arriving, later, sooner, has_inside, without_containing, put_in_order, enter}
use Rattle.journeys.specs.Adding as Rule
use Rattle.words.specs.Layout.{is_of}
use Rattle.rules.specs.Folds.{flat, all_below}
use Rattle.rules.specs.Layout.{cell_words, table_words, cell_at, cell_of, cells_of}
use Rattle.rules.specs.Checks.{is_open, row_well_formed, rows_well_formed, all_unused, cell_well_formed, well_formed}
use Rattle.rules.specs.Adding.{stands, holds}
use Rattle.rules.specs.Orders.{listed, in_log_order}
use Rattle.rules.specs.Removing.{remove_refusal, remaining, table_without, remove_answer, remove_leaves, remove_work}
use Rattle.rules.specs.RemoveExamples.{RemoveRow, remove_of, remove_rows, RemovesWorked}
use Rattle.rules.proofs.Folds.{map-agree}

computed : map remove_of remove_rows ≡ map (λ r. r.given) remove_rows
unfolding
    table_words flat cell_words is_open is_of well_formed all_below cell_well_formed rows_well_formed row_well_formed all_unused
    cells_of cell_at cell_of Rule.cells_over Rule.add_all Rule.add Rule.departure_of Rule.arrival_of Rule.enter_both enter put_in_order without_containing has_inside latest_departure earliest_arrival latest_departing earliest_arriving later sooner
    stands holds in_log_order listed remove_refusal remaining table_without remove_answer remove_leaves remove_work
computed = refl

pub removes_worked : RemovesWorked
removes_worked = map-agree remove_of (λ (r : RemoveRow). r.given) remove_rows computed
