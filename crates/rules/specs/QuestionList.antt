-- A list of question records (document 01, "Questions").
use Rattle.std.specs.Prelude.{ℕ, length, Option, None, Some, Ok, Err, Result, Bool, true, false}
use mathlib.Core.List.{List, map}
use Rattle.rules.specs.declared.Refusal.{Refusal}
use Rattle.rules.specs.declared.Question.{Question}
use Rattle.rules.specs.Answers.{number_of, unless, answer_of}
use Rattle.rules.specs.Checks.{ensure_table}
use Rattle.rules.specs.Questions.{reach_answer}

-- Yes, no, or a refusal's number.
abbrev pub record_answer_of : Result Bool Refusal → Option (Result Bool ℕ)
record_answer_of (Ok true) = Some (Ok true)
record_answer_of (Ok false) = Some (Ok false)
record_answer_of (Err r) = Some (Err (number_of r))

-- The record filled as a single reach would answer.
unfoldable pub asked : List ℕ → Question → Question
asked T q =
    record {
      from = q.from;
      to = q.to;
      first = q.first;
      last = q.last;
      answer = record_answer_of (reach_answer T q.from q.to q.first q.last);
    }

-- 5 and 6 refuse the whole list.
abbrev pub list_refusal : List ℕ → Option Refusal
list_refusal T = ensure_table T None

-- How many records there are.
unfoldable pub list_answer : List ℕ → List Question → Result ℕ Refusal
list_answer T l = answer_of (list_refusal T) (Ok (length l))

-- Each record answered in its own record.
unfoldable pub list_leaves : List ℕ → List Question → List Question
list_leaves T l = unless (list_refusal T) (map (asked T) l) l
