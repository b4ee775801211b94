-- Worked examples as tables: contacts, questions and what each is answered. `marked` has document 01's examples P1 to P9, `worked` those that it
-- leaves unmarked and others on the session's table.
use Rattle.std.specs.Prelude.{ℕ, ◌≡◌, replicate, Ok, Err, Some, None, Result, Option, Bool, true, false, ⊤}
use mathlib.Core.List.{List, [], ◌∷◌, Memᴰ}
use Rattle.journeys.specs.declared.Contact.{Contact}
use Rattle.journeys.specs.Journey.{contact, interval}
use Rattle.journeys.specs.Cell.{Cell}
use Rattle.words.specs.Words.{contact_word}
use Rattle.rules.specs.declared.Refusal.{Refusal}
use Rattle.rules.specs.declared.Refusal.TheVariants.{NoSuchAnimal, SameAnimal, TickOutOfRange, FirstAfterLast, ChainBufferTooShort}
use Rattle.journeys.specs.declared.Interval.{Interval}
use Rattle.rules.specs.declared.AnimalSet.{AnimalSet}
use Rattle.rules.specs.declared.Added.{Added}
use Rattle.rules.specs.declared.Added.TheVariants.{New, Known}
use Rattle.rules.specs.Answers.{done}
use Rattle.rules.specs.Layout.{table_length, cells_of}
use Rattle.rules.specs.Adding.{add_answer}
use Rattle.rules.specs.Questions.{reach_answer, earliest_answer, latest_answer, connected_answer, reached_answer, reached_set, reached_count, reached_leaves}
use Rattle.rules.specs.Chains.{chain_answer, chain_leaves}
use Rattle.rules.specs.Claims.{claimed_answer}
use Rattle.rules.specs.CallLists.{table_with}

-- A call on a table, with the words lent to it beside the table.
pub data Call : Type 0 where
  cell : (u v : ℕ) → Call
  reach : (u v first last : ℕ) → Call
  earliest : (u v first : ℕ) → Call
  latest : (u v last : ℕ) → Call
  connected : (first last : ℕ) → Call
  reached : (u first last : ℕ) (set : List ℕ) → Call
  chain : (u v first last : ℕ) (buffer : List ℕ) → Call
  claimed : (u v first last : ℕ) (words : List ℕ) → Call
  add : (u v t : ℕ) → Call

-- The set whose first word is w and whose others are 0, of k animals.
abbrev pub set_of : ℕ → ℕ → Result AnimalSet Refusal
set_of w k = Ok (record { words = w ∷ replicate 7 0; count = k })

-- What it gives: its answer, and the words left where some are written.
pub data Given : Type 0 where
  intervals : Cell → Given
  asked : Result Bool Refusal → Given
  found : Result (Option Interval) Refusal → Given
  set : Result ⊤ Refusal → Result AnimalSet Refusal → (count : ℕ) → (left : List ℕ) → Given
  chained : Result (Option ℕ) Refusal → (left : List ℕ) → Given
  added : Result Added Refusal → Given

-- What the call gives on the table.
abbrev pub gives : List ℕ → Call → Given
gives T (cell u v) = intervals (cells_of T u v)
gives T (reach u v first last) = asked (reach_answer T u v first last)
gives T (earliest u v first) = found (earliest_answer T u v first)
gives T (latest u v last) = found (latest_answer T u v last)
gives T (connected first last) = asked (connected_answer T first last)
gives T (reached u first last B) = set (reached_answer T u first last) (reached_set T u first last) (reached_count T u first last) (reached_leaves T u first last B)
gives T (chain u v first last B) = chained (chain_answer T u v first last B) (chain_leaves T u v first last B)
gives T (claimed u v first last ws) = asked (claimed_answer T u v first last ws)
gives T (add u v t) = added (add_answer T (contact u v t))

-- A call and what it gives.
pub record Row : Type 0 where
  pub call : Call
  pub given : Given

abbrev is : Call → Given → Row
is c g = record { call = c; given = g }

-- A table given by its opening and its contacts, with the rows about it.
pub record ExampleTable : Type 0 where
  pub animals : ℕ
  pub ticks : ℕ
  pub carry : ℕ
  pub contacts : List Contact
  pub rows : List Row

abbrev pub example_table : ExampleTable → List ℕ
example_table s = table_with s.animals s.ticks s.carry (replicate (table_length s.animals s.ticks) 0) s.contacts

-- Every row of every table holds.
abbrev pub AllHold : List ExampleTable → Type 0
AllHold l = (s : ExampleTable) → Memᴰ s l → (r : Row) → Memᴰ r s.rows → gives (example_table s) r.call ≡ r.given

abbrev session : List Contact
session = contact 0 1 1 ∷ contact 0 1 2 ∷ contact 1 3 4 ∷ []

-- P1 to P9, each window as document 02, Five, restates it.
abbrev pub marked : List ExampleTable
marked =
    record {
      animals = 4;
      ticks = 6;
      carry = 1;
      contacts = session;
      rows =
          is (reach 0 3 1 4) (asked (Ok true))
          ∷ is (reach 0 3 2 4) (asked (Ok true))
          ∷ is (reach 0 3 1 3) (asked (Ok false))
          ∷ is (reach 0 3 3 6) (asked (Ok false))
          ∷ is (reach 3 0 1 6) (asked (Ok false))
          ∷ is (earliest 0 3 2) (found (Ok (Some (record { departure = 2; arrival = 5 }))))
          ∷ is (earliest 0 3 3) (found (Ok None))
          ∷ is (latest 0 3 5) (found (Ok (Some (record { departure = 2; arrival = 5 }))))
          ∷ is (latest 0 3 4) (found (Ok None))
          ∷ is (chain 0 3 1 6 (91 ∷ 92 ∷ 93 ∷ 94 ∷ [])) (chained (Ok (Some 2)) (contact_word (contact 0 1 2) ∷ contact_word (contact 1 3 4) ∷ 93 ∷ 94 ∷ []))
          ∷ [];
    }
    ∷ record { animals = 4; ticks = 6; carry = 2; contacts = session; rows = is (cell 0 3) (intervals (interval 2 6 ∷ [])) ∷ [] }
    ∷ record { animals = 4; ticks = 6; carry = 3; contacts = session; rows = is (cell 0 3) (intervals (interval 1 7 ∷ [])) ∷ [] }
    ∷ record {
      animals = 5;
      ticks = 6;
      carry = 1;
      contacts = contact 0 2 1 ∷ contact 2 3 2 ∷ contact 0 1 1 ∷ contact 1 3 4 ∷ contact 3 4 6 ∷ [];
      rows =
          is (cell 0 3) (intervals (interval 1 3 ∷ []))
          ∷ is (cell 0 4) (intervals (interval 1 7 ∷ []))
          ∷ is (chain 0 4 1 6 (91 ∷ 92 ∷ 93 ∷ 94 ∷ [])) (chained (Ok (Some 3)) (contact_word (contact 0 1 1) ∷ contact_word (contact 1 3 4) ∷ contact_word (contact 3 4 6) ∷ 94 ∷ []))
          ∷ [];
    }
    ∷ []

abbrev pub Marked : Type 0
Marked = AllHold marked

-- The two contacts of the chain from 0 to 3 on the session's table.
abbrev from_second : List ℕ
from_second = contact_word (contact 0 1 2) ∷ contact_word (contact 1 3 4) ∷ []

-- On the session's table: connected, reached and claimed, the limits of ticks and windows, windows turned round, buffers too short; the same
-- contacts with carry time 2; then tables that are connected, one of them of a single animal.
abbrev pub worked : List ExampleTable
worked =
    record {
      animals = 4;
      ticks = 6;
      carry = 1;
      contacts = session;
      rows =
          is (connected 1 6) (asked (Ok false))
          ∷ is (connected 0 6) (asked (Err TickOutOfRange))
          ∷ is (connected 1 7) (asked (Err TickOutOfRange))
          ∷ is (connected 6 0) (asked (Err TickOutOfRange))
          ∷ is (connected 6 1) (asked (Err FirstAfterLast))
          ∷ is (connected 6 6) (asked (Ok false))
          ∷ is (reached 0 1 6 (90 ∷ 91 ∷ 92 ∷ 93 ∷ 94 ∷ 95 ∷ 96 ∷ 97 ∷ 98 ∷ [])) (set done (set_of 10 2) 2 (10 ∷ 0 ∷ 0 ∷ 0 ∷ 0 ∷ 0 ∷ 0 ∷ 0 ∷ 98 ∷ []))
          ∷ is (reached 0 1 4 (90 ∷ 91 ∷ [])) (set done (set_of 10 2) 2 (10 ∷ 0 ∷ []))
          ∷ is (reached 0 1 3 (90 ∷ 91 ∷ [])) (set done (set_of 2 1) 1 (2 ∷ 0 ∷ []))
          ∷ is (reached 3 1 6 (90 ∷ [])) (set done (set_of 0 0) 0 (0 ∷ []))
          ∷ is (reached 4 1 6 (90 ∷ 91 ∷ [])) (set (Err NoSuchAnimal) (Err NoSuchAnimal) 0 (90 ∷ 91 ∷ []))
          ∷ is (reached 0 1 7 (90 ∷ 91 ∷ [])) (set (Err TickOutOfRange) (Err TickOutOfRange) 0 (90 ∷ 91 ∷ []))
          ∷ is (reached 0 7 6 (90 ∷ 91 ∷ [])) (set (Err TickOutOfRange) (Err TickOutOfRange) 0 (90 ∷ 91 ∷ []))
          ∷ is (reached 0 6 5 (90 ∷ 91 ∷ [])) (set (Err FirstAfterLast) (Err FirstAfterLast) 0 (90 ∷ 91 ∷ []))
          ∷ is (reached 4 6 5 (90 ∷ 91 ∷ [])) (set (Err NoSuchAnimal) (Err NoSuchAnimal) 0 (90 ∷ 91 ∷ []))
          ∷ is (reached 0 2 2 (90 ∷ 91 ∷ [])) (set done (set_of 2 1) 1 (2 ∷ 0 ∷ []))
          ∷ is (claimed 0 3 1 6 from_second) (asked (Ok true))
          ∷ is (claimed 0 3 2 4 from_second) (asked (Ok true))
          ∷ is (claimed 0 3 1 3 from_second) (asked (Ok false))
          ∷ is (claimed 0 3 3 6 from_second) (asked (Ok false))
          ∷ is (claimed 0 3 1 7 from_second) (asked (Err TickOutOfRange))
          ∷ is (claimed 0 3 4 0 from_second) (asked (Err TickOutOfRange))
          ∷ is (claimed 0 3 4 2 from_second) (asked (Err FirstAfterLast))
          ∷ is (claimed 0 1 2 2 (contact_word (contact 0 1 2) ∷ [])) (asked (Ok true))
          ∷ is (claimed 0 3 1 6 (contact_word (contact 0 1 1) ∷ contact_word (contact 1 3 4) ∷ [])) (asked (Ok true))
          ∷ is (claimed 0 3 2 6 (contact_word (contact 0 1 1) ∷ contact_word (contact 1 3 4) ∷ [])) (asked (Ok false))
          ∷ is (claimed 0 3 1 6 (contact_word (contact 0 1 3) ∷ contact_word (contact 1 3 4) ∷ [])) (asked (Ok false))
          ∷ is (claimed 0 3 1 6 (contact_word (contact 1 3 4) ∷ contact_word (contact 0 1 2) ∷ [])) (asked (Ok false))
          ∷ is (claimed 0 3 1 6 []) (asked (Ok false))
          ∷ is (claimed 0 0 1 6 []) (asked (Err SameAnimal))
          ∷ is (reach 0 3 1 6) (asked (Ok true))
          ∷ is (reach 0 3 6 6) (asked (Ok false))
          ∷ is (reach 0 3 1 7) (asked (Err TickOutOfRange))
          ∷ is (reach 0 3 7 7) (asked (Err TickOutOfRange))
          ∷ is (reach 0 3 0 4) (asked (Err TickOutOfRange))
          ∷ is (reach 0 3 7 2) (asked (Err TickOutOfRange))
          ∷ is (reach 0 3 5 0) (asked (Err TickOutOfRange))
          ∷ is (reach 0 3 7 0) (asked (Err TickOutOfRange))
          ∷ is (reach 0 3 5 2) (asked (Err FirstAfterLast))
          ∷ is (reach 0 3 2 1) (asked (Err FirstAfterLast))
          ∷ is (reach 0 3 6 1) (asked (Err FirstAfterLast))
          ∷ is (reach 0 4 5 2) (asked (Err NoSuchAnimal))
          ∷ is (reach 3 3 5 2) (asked (Err SameAnimal))
          ∷ is (reach 0 1 2 2) (asked (Ok true))
          ∷ is (earliest 0 3 7) (found (Ok None))
          ∷ is (earliest 0 3 8) (found (Err TickOutOfRange))
          ∷ is (latest 0 3 7) (found (Ok (Some (record { departure = 2; arrival = 5 }))))
          ∷ is (latest 0 3 8) (found (Err TickOutOfRange))
          ∷ is (latest 0 4 5) (found (Err NoSuchAnimal))
          ∷ is (chain 0 3 2 4 (91 ∷ 92 ∷ 93 ∷ [])) (chained (Ok (Some 2)) (contact_word (contact 0 1 2) ∷ contact_word (contact 1 3 4) ∷ 93 ∷ []))
          ∷ is (chain 0 3 1 3 (91 ∷ 92 ∷ 93 ∷ [])) (chained (Ok None) (91 ∷ 92 ∷ 93 ∷ []))
          ∷ is (chain 0 3 3 6 (91 ∷ 92 ∷ 93 ∷ [])) (chained (Ok None) (91 ∷ 92 ∷ 93 ∷ []))
          ∷ is (chain 0 3 1 7 (91 ∷ 92 ∷ 93 ∷ [])) (chained (Err TickOutOfRange) (91 ∷ 92 ∷ 93 ∷ []))
          ∷ is (chain 0 3 7 4 (91 ∷ 92 ∷ 93 ∷ [])) (chained (Err TickOutOfRange) (91 ∷ 92 ∷ 93 ∷ []))
          ∷ is (chain 0 3 4 2 (91 ∷ 92 ∷ 93 ∷ [])) (chained (Err FirstAfterLast) (91 ∷ 92 ∷ 93 ∷ []))
          ∷ is (chain 0 3 4 2 (91 ∷ 92 ∷ [])) (chained (Err FirstAfterLast) (91 ∷ 92 ∷ []))
          ∷ is (chain 0 1 2 2 (91 ∷ 92 ∷ 93 ∷ [])) (chained (Ok (Some 1)) (contact_word (contact 0 1 2) ∷ 92 ∷ 93 ∷ []))
          ∷ is (chain 0 3 1 6 (91 ∷ 92 ∷ [])) (chained (Err ChainBufferTooShort) (91 ∷ 92 ∷ []))
          ∷ is (add 0 1 6) (added (Ok (New 1)))
          ∷ is (add 0 1 7) (added (Err TickOutOfRange))
          ∷ is (add 0 1 1) (added (Ok (Known 0)))
          ∷ [];
    }
    ∷ record {
      animals = 4;
      ticks = 6;
      carry = 2;
      contacts = session;
      rows =
          is (reach 0 3 2 4) (asked (Ok true))
          ∷ is (reach 0 3 2 3) (asked (Ok false))
          ∷ is (reach 0 3 3 4) (asked (Ok false))
          ∷ is (reach 0 3 1 7) (asked (Err TickOutOfRange))
          ∷ is (reach 0 3 1 8) (asked (Err TickOutOfRange))
          ∷ is (claimed 0 3 2 4 from_second) (asked (Ok true))
          ∷ is (claimed 0 3 2 3 from_second) (asked (Ok false))
          ∷ is (claimed 0 3 3 4 from_second) (asked (Ok false))
          ∷ is (chain 0 3 2 4 (91 ∷ 92 ∷ 93 ∷ [])) (chained (Ok (Some 2)) (contact_word (contact 0 1 2) ∷ contact_word (contact 1 3 4) ∷ 93 ∷ []))
          ∷ is (latest 0 3 5) (found (Ok None))
          ∷ is (latest 0 3 8) (found (Ok (Some (record { departure = 2; arrival = 6 }))))
          ∷ is (latest 0 3 9) (found (Err TickOutOfRange))
          ∷ [];
    }
    ∷ record {
      animals = 2;
      ticks = 2;
      carry = 1;
      contacts = contact 0 1 1 ∷ contact 1 0 2 ∷ [];
      rows = is (connected 1 2) (asked (Ok true)) ∷ is (connected 1 1) (asked (Ok false)) ∷ is (connected 2 2) (asked (Ok false)) ∷ [];
    }
    ∷ record {
      animals = 1;
      ticks = 2;
      carry = 1;
      contacts = [];
      rows =
          is (connected 1 2) (asked (Ok true))
          ∷ is (reached 0 1 2 []) (set done (set_of 0 0) 0 [])
          ∷ is (reach 0 0 1 2) (asked (Err SameAnimal))
          ∷ is (reach 0 1 1 2) (asked (Err NoSuchAnimal))
          ∷ is (add 1 1 1) (added (Err NoSuchAnimal))
          ∷ [];
    }
    ∷ []

abbrev pub Worked : Type 0
Worked = AllHold worked
