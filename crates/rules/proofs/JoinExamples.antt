-- Every join of the table gives what it says; all are computed at once, and one law reads off each.
use mathlib.Core.Path.{◌≡◌, refl}
use mathlib.Core.List.{map}
use Rattle.journeys.specs.Cell.{latest_departure, earliest_arrival, latest_departing, earliest_arriving, later, sooner, has_inside, without_containing, put_in_order, enter}
use Rattle.journeys.specs.Adding as Rule
use Rattle.words.specs.Layout.{is_of}
use Rattle.rules.specs.Folds.{flat, all_below, sum_below, count_below}
use Rattle.rules.specs.Layout.{cell_words, table_words, cell_at, cell_of, cells_of}
use Rattle.rules.specs.Checks.{is_open, row_well_formed, rows_well_formed, all_unused, cell_well_formed, well_formed}
use Rattle.rules.specs.Adding.{stands, same_cell, cells_changed, add_refusal, added_cells, holds, add_answer, add_leaves}
use Rattle.rules.specs.Logs.{held_contacts}
use Rattle.rules.specs.Orders.{listed, in_log_order}
use Rattle.rules.specs.CallLists.{run, new_adds}
use Rattle.rules.specs.Joining.{join_refusal, join_answer, join_leaves}
use Rattle.rules.specs.JoinExamples.{JoinRow, join_of, join_rows, JoinsWorked}
use Rattle.rules.proofs.Folds.{map-agree}

computed : map join_of join_rows ≡ map (λ r. r.given) join_rows
unfolding
    table_words flat cell_words run new_adds add_leaves add_answer add_refusal is_open is_of well_formed all_below cell_well_formed rows_well_formed row_well_formed all_unused
    cells_of cell_at cell_of added_cells Rule.add Rule.departure_of Rule.arrival_of Rule.enter_both enter put_in_order without_containing has_inside latest_departure earliest_arrival latest_departing earliest_arriving later sooner
    stands holds same_cell cells_changed sum_below count_below in_log_order listed held_contacts join_refusal join_answer join_leaves
computed = refl

pub joins_worked : JoinsWorked
joins_worked = map-agree join_of (λ (r : JoinRow). r.given) join_rows computed
