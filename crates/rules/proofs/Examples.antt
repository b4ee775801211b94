-- The worked examples hold: all that the rows say is computed at once, and one law reads off each.
use mathlib.Core.Path.{◌≡◌, refl}
use mathlib.Core.List.{List, map}
use Rattle.journeys.specs.Cell.{later, sooner, latest_departing, earliest_arriving, latest_departure, earliest_arrival, has_inside, without_containing, put_in_order, enter}
use Rattle.journeys.specs.Adding as Rule
use Rattle.words.specs.Layout.{is_of}
use Rattle.rules.specs.Folds.{flat, all_below, sum_below, count_below}
use Rattle.rules.specs.Layout.{cell_words, table_words, cell_at, cell_of, cells_of}
use Rattle.rules.specs.Checks.{is_open, row_well_formed, rows_well_formed, all_unused, cell_well_formed, well_formed}
use Rattle.rules.specs.Opening.{open_refusal, open_leaves}
use Rattle.rules.specs.Adding.{stands, same_cell, cells_changed, add_refusal, added_cells, holds, add_answer, add_leaves}
use Rattle.rules.specs.Questions.{reached_set, reached_words, reaches, reach_refusal, reach_answer, moment_refusal, earliest_answer, latest_answer, connects, connected_refusal, connected_answer, is_reached, set_word, set_words, reached_refusal, reached_answer, reached_count, reached_leaves}
use Rattle.rules.specs.Chains.{departure_with, leads, lowest, chain_from, chain_of, chain_refusal, chain_answer, chain_leaves}
use Rattle.rules.specs.Claims.{held_word, goes_on, form_journey, claimed_answer}
use Rattle.rules.specs.CallLists.{run}
use Rattle.rules.specs.Examples.{Given, gives, Row, ExampleTable, example_table, AllHold, marked, Marked, worked, Worked}
use Rattle.rules.proofs.Folds.{map-agree}

-- What the calls of a table's rows give, and what the rows say of them.
abbrev all_given : ExampleTable → List Given
all_given s = map (λ r. gives (example_table s) r.call) s.rows

abbrev all_said : ExampleTable → List Given
all_said s = map (λ r. r.given) s.rows

-- Where they are the same for every table, every row holds.
all_hold : (l : List ExampleTable) → map all_given l ≡ map all_said l → AllHold l
all_hold l e s m = map-agree (λ (r : Row). gives (example_table s) r.call) (λ r. r.given) s.rows (map-agree all_given all_said l e s m)

computed : (map all_given marked ≡ map all_said marked) × (map all_given worked ≡ map all_said worked)
unfolding
    open_leaves open_refusal table_words flat cell_words run add_leaves add_answer add_refusal is_open is_of well_formed all_below cell_well_formed rows_well_formed row_well_formed all_unused
    cells_of cell_at cell_of added_cells Rule.add Rule.departure_of Rule.arrival_of Rule.enter_both enter put_in_order without_containing has_inside latest_departure earliest_arrival latest_departing earliest_arriving later sooner
    stands holds same_cell cells_changed sum_below count_below reaches reach_refusal reach_answer moment_refusal earliest_answer latest_answer connects connected_refusal connected_answer
    is_reached set_word set_words reached_refusal reached_set reached_words reached_answer reached_count reached_leaves departure_with leads lowest chain_from chain_of chain_refusal chain_answer chain_leaves
    held_word goes_on form_journey claimed_answer
computed = (refl, refl)

pub marked_hold : Marked
marked_hold = all_hold marked computed.0

pub worked_hold : Worked
worked_hold = all_hold worked computed.1
