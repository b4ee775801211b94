-- What a list of question records leaves and answers, record by record, and one list on document 01's session.
use Rattle.std.specs.Prelude.{ℕ, ◌<◌, ◌≡◌, List, [], ◌∷◌, length, get_or, replicate, None, Some, Ok, Err, Result, Option, Bool, true, false}
use Rattle.journeys.specs.Journey.{contact}
use Rattle.rules.specs.declared.Refusal.{Refusal}
use Rattle.rules.specs.declared.Refusal.TheVariants.{NotOpen, NotWellFormed}
use Rattle.rules.specs.declared.Question.{Question}
use Rattle.rules.specs.Answers.{number_of}
use Rattle.rules.specs.Layout.{table_length}
use Rattle.rules.specs.Checks.{ensure_table}
use Rattle.rules.specs.Questions.{reach_answer}
use Rattle.rules.specs.CallLists.{table_with}
use Rattle.rules.specs.QuestionList.{list_answer, list_leaves}

-- The record r is q filled: its question is that of q, and its answer is what a single reach answers, a refusal by its number.
pub record Filled (T : List ℕ) (q r : Question) : Type 0 where
  pub same_from : r.from ≡ q.from
  pub same_to : r.to ≡ q.to
  pub same_first : r.first ≡ q.first
  pub same_last : r.last ≡ q.last
  pub yes : reach_answer T q.from q.to q.first q.last ≡ Ok true → r.answer ≡ Some (Ok true)
  pub no : reach_answer T q.from q.to q.first q.last ≡ Ok false → r.answer ≡ Some (Ok false)
  pub refused : (k : Refusal) → reach_answer T q.from q.to q.first q.last ≡ Err k → r.answer ≡ Some (Err (number_of k))

-- 5 and 6 refuse the whole list and leave it; else every record is filled in its own place, and their number is the answer.
pub record ListRule : Type 0 where
  pub list_refused : (T : List ℕ) (l : List Question) (k : Refusal) → ensure_table T None ≡ Some k → (list_answer T l ≡ Err k) × (list_leaves T l ≡ l)
  pub list_answered : (T : List ℕ) (l : List Question) → ensure_table T None ≡ None → (list_answer T l ≡ Ok (length l)) × (length (list_leaves T l) ≡ length l)
  pub each_filled : (T : List ℕ) (l : List Question) → ensure_table T None ≡ None → (i : ℕ) → i < length l → (d : Question) → Filled T (get_or l i d) (get_or (list_leaves T l) i d)

-- A record with the answer that it holds.
abbrev holding : Option (Result Bool ℕ) → ℕ → ℕ → ℕ → ℕ → Question
holding a u v first last = record { from = u; to = v; first = first; last = last; answer = a }

-- The table of the session.
abbrev session_table : List ℕ
session_table = table_with 4 6 1 (replicate (table_length 4 6) 0) (contact 0 1 1 ∷ contact 0 1 2 ∷ contact 1 3 4 ∷ [])

-- A list before it is asked: P1, P2 and P3, then an animal that is none, one animal twice, a window past the last tick, one turned round, and one
-- that is both.
abbrev unasked : List Question
unasked =
    holding None 0 3 1 4
    ∷ holding None 0 3 1 3
    ∷ holding None 3 0 1 6
    ∷ holding None 0 4 1 6
    ∷ holding None 2 2 1 6
    ∷ holding None 0 3 1 7
    ∷ holding None 0 3 5 1
    ∷ holding None 0 3 7 1
    ∷ []

-- The list once it is asked.
abbrev filled : List Question
filled =
    holding (Some (Ok true)) 0 3 1 4
    ∷ holding (Some (Ok false)) 0 3 1 3
    ∷ holding (Some (Ok false)) 3 0 1 6
    ∷ holding (Some (Err 7)) 0 4 1 6
    ∷ holding (Some (Err 8)) 2 2 1 6
    ∷ holding (Some (Err 9)) 0 3 1 7
    ∷ holding (Some (Err 19)) 0 3 5 1
    ∷ holding (Some (Err 9)) 0 3 7 1
    ∷ []

-- Lists that are answered and lists that are refused.
pub record ListExamples : Type 0 where
  pub session_filled : list_leaves session_table unasked ≡ filled
  pub session_counted : list_answer session_table unasked ≡ Ok 8
  pub none_counted : list_answer session_table [] ≡ Ok 0
  pub no_table : list_answer [] unasked ≡ Err NotOpen
  pub no_table_left : list_leaves [] unasked ≡ unasked
  pub zero_table : list_answer (0x80000000 ∷ 0 ∷ 0 ∷ []) unasked ≡ Err NotWellFormed
  pub zero_table_left : list_leaves (0x80000000 ∷ 0 ∷ 0 ∷ []) unasked ≡ unasked
