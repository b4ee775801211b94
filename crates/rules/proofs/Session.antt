-- Document 01's session: the text printed for its log.
use mathlib.Core.Path.{◌≡◌, refl}
use Rattle.journeys.specs.Cell.{later, sooner, latest_departing, earliest_arriving, latest_departure, earliest_arrival, has_inside, without_containing, put_in_order, enter}
use Rattle.journeys.specs.Adding.{departure_of, arrival_of, enter_both, add}
use Rattle.words.specs.Layout.{is_of}
use Rattle.rules.specs.Folds.{flat, all_below}
use Rattle.rules.specs.Layout.{cell_words, table_words, cell_at, cell_of, cells_of}
use Rattle.rules.specs.Checks.{is_open, row_well_formed, rows_well_formed, all_unused, cell_well_formed, well_formed}
use Rattle.rules.specs.Opening.{open_refusal, open_leaves}
use Rattle.rules.specs.Adding.{stands, add_refusal, added_cells, add_leaves, holds}
use Rattle.rules.specs.Logs.{held_contacts}
use Rattle.rules.specs.Orders.{listed, in_log_order}
use Rattle.rules.specs.CallLists.{run}
use Rattle.rules.specs.Reading.{between, logged_contacts, is_true_end, is_legal, ensure_word, ensure_words, read_refusal, read_answer, read_leaves}
use Rattle.rules.specs.Sheet.{words_of, decimal_within, interval_text, intervals_text, cell_text, first_line, table_text, is_beyond, log_text, sheet_text}
use Rattle.rules.specs.Session.{session_bytes, session_text}

pub session_printed : sheet_text session_bytes ≡ session_text
unfolding
    sheet_text words_of is_beyond log_text read_answer read_leaves read_refusal between logged_contacts is_true_end is_legal ensure_word ensure_words
    table_text first_line cell_text intervals_text interval_text decimal_within held_contacts in_log_order listed run open_refusal open_leaves add_refusal added_cells add_leaves holds stands
    is_open row_well_formed rows_well_formed all_unused cell_well_formed well_formed flat all_below cell_words table_words cell_at cell_of cells_of is_of add enter_both departure_of arrival_of
    later sooner latest_departing earliest_arriving latest_departure earliest_arrival has_inside without_containing put_in_order enter
session_printed = refl
