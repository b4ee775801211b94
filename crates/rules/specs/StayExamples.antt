-- Stays worked out, as one table: a table and a list of stays, what is answered, and the table's words afterwards.
use Rattle.std.specs.Prelude.{ℕ, ◌+◌, ◌≡◌, cond, ◌&&◌, set, eqb, Ok, Err, Result}
use mathlib.Core.List.{List, [], ◌∷◌, ◌++◌, Memᴰ}
use Rattle.journeys.specs.Journey.{interval}
use Rattle.journeys.specs.Cell.{Cell}
use Rattle.rules.specs.declared.Refusal.{Refusal}
use Rattle.rules.specs.declared.Refusal.TheVariants.{NotOpen, NotWellFormed, IllegalStay}
use Rattle.rules.specs.Layout.{table_words}
use Rattle.rules.specs.Opening.{no_intervals}
use Rattle.rules.specs.Stays.{stays_answer, stays_leaves}

-- What a list of stays gives: the answer, and the table's words.
pub record StaysGiven : Type 0 where
  pub answer : Result ℕ Refusal
  pub left : List ℕ

-- A table, the words of stays, and what they give.
pub record StaysRow : Type 0 where
  pub table : List ℕ
  pub stays : List ℕ
  pub given : StaysGiven

abbrev gives : List ℕ → List ℕ → Result ℕ Refusal → List ℕ → StaysRow
gives T W a left = record { table = T; stays = W; given = record { answer = a; left = left } }

-- What the stays of a row give.
abbrev pub stays_given : StaysRow → StaysGiven
stays_given r = record { answer = stays_answer r.table r.stays; left = stays_leaves r.table r.stays }

-- The table of two animals, three ticks and carry time 1 with these intervals in its cells (0, 1) and (1, 0), which no adds need have built.
abbrev pair : Cell → Cell → List ℕ
pair a b = table_words 2 3 1 (λ u v. cond (eqb u v) [] (cond (eqb u 0) a b))

abbrev none : List ℕ
none = pair [] []

-- The table over (0, 1, 2) and (1, 0, 2).
abbrev together : List ℕ
together = pair (interval 2 3 ∷ []) (interval 2 3 ∷ [])

-- The table of three animals over (0, 1, 1), (1, 0, 1), (1, 2, 2) and (2, 1, 2).
abbrev three : List ℕ
three =
    table_words 3 3 1
    (λ u v. cond (eqb (u + v) 1) (interval 1 2 ∷ []) (cond (eqb (u + v) 3) (interval 2 3 ∷ []) (cond (eqb u 0 && eqb v 2) (interval 1 3 ∷ []) [])))

-- Animal 0 in pen 63 at ticks 1 and 2, animal 1 there at ticks 2 and 3.
abbrev sharing : List ℕ
sharing = 0 ∷ 63 ∷ 1 ∷ 2 ∷ 1 ∷ 63 ∷ 2 ∷ 3 ∷ []

abbrev pub stays_rows : List StaysRow
stays_rows =
    -- Two stays that share one tick, where one ends and the other begins; the same in the other order.
    gives none sharing (Ok 2) together
    ∷ gives none (1 ∷ 63 ∷ 2 ∷ 3 ∷ 0 ∷ 63 ∷ 1 ∷ 2 ∷ []) (Ok 2) together
    -- Three animals: who met the second can have reached the third.
    ∷ gives (table_words 3 3 1 no_intervals) (0 ∷ 7 ∷ 1 ∷ 1 ∷ 1 ∷ 7 ∷ 1 ∷ 2 ∷ 2 ∷ 7 ∷ 2 ∷ 2 ∷ []) (Ok 4) three
    -- Other pens; one tick after the other; one animal alone, in one pen and in two.
    ∷ gives none (0 ∷ 0 ∷ 1 ∷ 3 ∷ 1 ∷ 1 ∷ 1 ∷ 3 ∷ []) (Ok 0) none
    ∷ gives none (0 ∷ 0 ∷ 1 ∷ 1 ∷ 1 ∷ 0 ∷ 2 ∷ 2 ∷ []) (Ok 0) none
    ∷ gives none (0 ∷ 0 ∷ 1 ∷ 2 ∷ 0 ∷ 0 ∷ 2 ∷ 3 ∷ 0 ∷ 1 ∷ 2 ∷ 2 ∷ []) (Ok 0) none
    -- In two pens at once; together in both, and told twice.
    ∷ gives none (0 ∷ 62 ∷ 1 ∷ 3 ∷ 0 ∷ 63 ∷ 2 ∷ 2 ∷ 1 ∷ 63 ∷ 1 ∷ 3 ∷ []) (Ok 2) together
    ∷ gives none (0 ∷ 62 ∷ 2 ∷ 2 ∷ 0 ∷ 63 ∷ 2 ∷ 2 ∷ 1 ∷ 62 ∷ 2 ∷ 2 ∷ 1 ∷ 63 ∷ 2 ∷ 2 ∷ 1 ∷ 63 ∷ 1 ∷ 2 ∷ []) (Ok 2) together
    -- One contact known, and one new; both known.
    ∷ gives (pair (interval 2 3 ∷ []) []) sharing (Ok 1) together
    ∷ gives together sharing (Ok 0) together
    -- A table that no adds built: the longer interval goes.
    ∷ gives (pair (interval 1 4 ∷ []) []) sharing (Ok 2) together
    -- No record, and one.
    ∷ gives together [] (Ok 0) together
    ∷ gives together (0 ∷ 0 ∷ 1 ∷ 3 ∷ []) (Ok 0) together
    -- 18: animal 2, pen 64, ticks 0 and 4, first after last, each behind records that are stays; incomplete records.
    ∷ gives none (sharing ++ (2 ∷ 0 ∷ 1 ∷ 1 ∷ [])) (Err IllegalStay) none
    ∷ gives none (sharing ++ (0 ∷ 64 ∷ 1 ∷ 1 ∷ [])) (Err IllegalStay) none
    ∷ gives none (sharing ++ (0 ∷ 0 ∷ 0 ∷ 1 ∷ [])) (Err IllegalStay) none
    ∷ gives none (sharing ++ (0 ∷ 0 ∷ 1 ∷ 4 ∷ [])) (Err IllegalStay) none
    ∷ gives none (sharing ++ (0 ∷ 0 ∷ 2 ∷ 1 ∷ [])) (Err IllegalStay) none
    ∷ gives none (sharing ++ (0 ∷ 0 ∷ 1 ∷ [])) (Err IllegalStay) none
    ∷ gives none (sharing ++ (0 ∷ 0 ∷ [])) (Err IllegalStay) none
    ∷ gives none (0 ∷ []) (Err IllegalStay) none
    -- The bad record first.
    ∷ gives none (2 ∷ 0 ∷ 1 ∷ 1 ∷ sharing) (Err IllegalStay) none
    -- 5 and 6 before it.
    ∷ gives [] (0 ∷ []) (Err NotOpen) []
    ∷ gives (set none 1 0) (0 ∷ []) (Err NotWellFormed) (set none 1 0)
    ∷ []

-- Every list of stays gives what its row says.
abbrev pub StaysWorked : Type 0
StaysWorked = (r : StaysRow) → Memᴰ r stays_rows → stays_given r ≡ r.given
