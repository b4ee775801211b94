-- The list's definitions meet its rule, and the list on the session comes out as written.
use Rattle.std.specs.Prelude.{None}
use mathlib.Core.Path.{◌≡◌, refl, sym, ap, subst}
use mathlib.Core.List.{List, [], ◌∷◌, map}
use Prim.Native.Nat.{ℕ, zero, suc, ◌<◌}
use native.Mathlib.Omega.{arith}
use lib.ListN.{length, get_or, length-map}
use Rattle.journeys.specs.Cell.{later, sooner, latest_departing, earliest_arriving, latest_departure, earliest_arrival, has_inside, without_containing, put_in_order, enter}
use Rattle.journeys.specs.Adding.{departure_of, arrival_of, enter_both, add}
use Rattle.words.specs.Layout.{is_of}
use Rattle.rules.specs.declared.Question.{Question}
use Rattle.rules.specs.Folds.{flat, all_below}
use Rattle.rules.specs.Layout.{cell_words, table_words, cell_at, cell_of, cells_of}
use Rattle.rules.specs.Checks.{is_open, row_well_formed, rows_well_formed, all_unused, cell_well_formed, well_formed, ensure_table}
use Rattle.rules.specs.Opening.{open_refusal, open_leaves}
use Rattle.rules.specs.Adding.{stands, add_refusal, added_cells, add_leaves, holds}
use Rattle.rules.specs.Questions.{reaches, reach_refusal, reach_answer}
use Rattle.rules.specs.CallLists.{run}
use Rattle.rules.specs.QuestionList.{record_answer_of, asked, list_answer, list_leaves}
use Rattle.rules.specs.ListRule.{Filled, ListRule, ListExamples}

-- One record asked is filled.
asked-filled : (T : List ℕ) (q : Question) → Filled T q (asked T q)
unfolding asked
asked-filled T q =
    record {
      same_from = refl;
      same_to = refl;
      same_first = refl;
      same_last = refl;
      yes = λ e. ap record_answer_of e;
      no = λ e. ap record_answer_of e;
      refused = λ k e. ap record_answer_of e;
    }

-- Each record of a list is asked in its place.
asked-at : (T : List ℕ) (l : List Question) (i : ℕ) → i < length l → (d : Question) → get_or (map (asked T) l) i d ≡ asked T (get_or l i d)
asked-at T [] i h d = absurd (omega arith)
asked-at T (q ∷ l) zero h d = refl
asked-at T (q ∷ l) (suc i) h d = asked-at T l i (omega arith) d

-- So it is in a list that is answered.
pub answered-at : (T : List ℕ) → ensure_table T None ≡ None → (l : List Question) (i : ℕ) → i < length l → (d : Question) → get_or (list_leaves T l) i d ≡ asked T (get_or l i d)
unfolding list_leaves
answered-at T e l i h d = rw e (asked-at T l i h d)

-- The rule holds of all lists.
pub list_rule : ListRule
unfolding list_answer list_leaves
list_rule =
    record {
      list_refused = λ T l k e. (rw e refl, rw e refl);
      list_answered = λ T l e. (rw e refl, rw e (length-map l (asked T)));
      each_filled = λ T l e i h d. subst (Filled T (get_or l i d)) (sym (answered-at T e l i h d)) (asked-filled T (get_or l i d));
    }

-- The examples come out by computation.
pub list_examples : ListExamples
unfolding
    list_answer list_leaves asked reach_answer reach_refusal reaches run open_refusal open_leaves add_refusal added_cells add_leaves holds stands
    is_open row_well_formed rows_well_formed all_unused cell_well_formed well_formed flat all_below cell_words table_words cell_at cell_of cells_of is_of add enter_both departure_of arrival_of
    later sooner latest_departing earliest_arriving latest_departure earliest_arrival has_inside without_containing put_in_order enter
list_examples =
    record {
      session_filled = refl;
      session_counted = refl;
      none_counted = refl;
      no_table = refl;
      no_table_left = refl;
      zero_table = refl;
      zero_table_left = refl;
    }
