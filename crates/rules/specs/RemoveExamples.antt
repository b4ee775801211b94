-- Removals worked out, as one table: two tables and a contact, what the removal answers, and the words of both tables afterwards.
use Rattle.std.specs.Prelude.{ℕ, ◌≡◌, drop, Ok, Err, Result, ⊤}
use mathlib.Core.List.{List, [], ◌∷◌, Memᴰ}
use Rattle.journeys.specs.declared.Contact.{Contact}
use Rattle.journeys.specs.Journey.{contact, interval}
use Rattle.rules.specs.declared.Refusal.{Refusal}
use Rattle.rules.specs.declared.Refusal.TheVariants.{NotOpen, NotWellFormed, NoSuchAnimal, SameAnimal, TickOutOfRange, DifferentLengths, NotHeld}
use Rattle.rules.specs.Removing.{remove_answer, remove_leaves, remove_work}
use Rattle.rules.specs.JoinExamples.{stored, none, early, chained, damaged}

-- What a removal gives: its answer, and the words of the first table and of the second.
pub record RemoveGiven : Type 0 where
  pub answer : Result ⊤ Refusal
  pub left : List ℕ
  pub work : List ℕ

-- Two tables and a contact, and what its removal gives.
pub record RemoveRow : Type 0 where
  pub table : List ℕ
  pub work : List ℕ
  pub removed : Contact
  pub given : RemoveGiven

-- A removal that is done: both tables hold the same words.
abbrev removes : List ℕ → List ℕ → Contact → List ℕ → RemoveRow
removes T W k U = record { table = T; work = W; removed = k; given = record { answer = (Ok tt); left = U; work = U } }

-- A removal that is refused: both tables keep their words.
abbrev refuses : List ℕ → List ℕ → Contact → Result ⊤ Refusal → RemoveRow
refuses T W k a = record { table = T; work = W; removed = k; given = record { answer = a; left = T; work = W } }

-- What the removal of a row gives.
abbrev pub remove_of : RemoveRow → RemoveGiven
remove_of r =
    record {
      answer = remove_answer r.table r.work r.removed;
      left = remove_leaves r.table r.work r.removed;
      work = remove_work r.table r.work r.removed;
    }

-- The table over (1, 2, 2); `none` is the one without contacts, `early` that over (0, 1, 1), and `chained` that over both.
abbrev late : List ℕ
late = stored [] (interval 2 3 ∷ []) []

abbrev pub remove_rows : List RemoveRow
remove_rows =
    -- One of two contacts, and with it the interval that both made; what the second table held does not matter.
    removes chained none (contact 0 1 1) late
    ∷ removes chained (damaged chained) (contact 1 2 2) early
    -- The last contact.
    ∷ removes early chained (contact 0 1 1) none
    -- (0, 2, 2) displaced [1,3] in cell (0, 2), which comes back.
    ∷ removes (stored (interval 1 2 ∷ []) (interval 2 3 ∷ []) (interval 2 3 ∷ [])) early (contact 0 2 2) chained
    -- One of two contacts of a pair.
    ∷ removes (stored (interval 1 2 ∷ interval 2 3 ∷ []) [] []) none (contact 0 1 2) early
    -- Tables that no adds built: [1,3] enters cell (0, 2), an interval longer than the carry time goes.
    ∷ removes (stored (interval 1 2 ∷ []) (interval 2 3 ∷ interval 3 4 ∷ []) []) none (contact 1 2 3) chained
    ∷ removes (stored [] (interval 2 3 ∷ interval 3 4 ∷ []) (interval 1 4 ∷ [])) none (contact 1 2 3) late
    -- 5 and 6 of the first table, whatever the second is and the contact.
    ∷ refuses [] none (contact 9 9 0) (Err NotOpen)
    ∷ refuses (damaged early) [] (contact 9 9 0) (Err NotWellFormed)
    -- 20, whatever the contact: a second table that is shorter, and one that is longer.
    ∷ refuses early (drop 1 early) (contact 9 9 0) (Err DifferentLengths)
    ∷ refuses early (0 ∷ early) (contact 0 1 1) (Err DifferentLengths)
    -- 7, then 8, then 9, each of a contact that is not held either.
    ∷ refuses early none (contact 3 3 0) (Err NoSuchAnimal)
    ∷ refuses early none (contact 1 1 0) (Err SameAnimal)
    ∷ refuses early none (contact 0 1 4) (Err TickOutOfRange)
    ∷ refuses early none (contact 0 1 0) (Err TickOutOfRange)
    -- 21: another tick, the pair turned round, an interval that no contact made alone.
    ∷ refuses early none (contact 0 1 2) (Err NotHeld)
    ∷ refuses early none (contact 1 0 1) (Err NotHeld)
    ∷ refuses chained none (contact 0 2 1) (Err NotHeld)
    ∷ []

-- Every removal gives what its row says.
abbrev pub RemovesWorked : Type 0
RemovesWorked = (r : RemoveRow) → Memᴰ r remove_rows → remove_of r ≡ r.given
