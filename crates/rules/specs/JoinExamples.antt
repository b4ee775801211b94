-- Joins worked out, as one table: two tables, what the join answers, and the first table's words afterwards.
use Rattle.std.specs.Prelude.{ℕ, ◌≡◌, cond, ◌&&◌, set, eqb, Ok, Err, Result}
use mathlib.Core.List.{List, [], ◌∷◌, Memᴰ}
use Rattle.journeys.specs.Journey.{interval}
use Rattle.journeys.specs.Cell.{Cell}
use Rattle.rules.specs.declared.Refusal.{Refusal}
use Rattle.rules.specs.declared.Refusal.TheVariants.{NotOpen, NotWellFormed, DifferentOpenings}
use Rattle.rules.specs.Layout.{table_words}
use Rattle.rules.specs.Opening.{no_intervals}
use Rattle.rules.specs.Joining.{join_answer, join_leaves}

-- What a join gives: its answer, and the first table's words.
pub record JoinGiven : Type 0 where
  pub answer : Result ℕ Refusal
  pub left : List ℕ

-- Two tables, and what their join gives.
pub record JoinRow : Type 0 where
  pub first : List ℕ
  pub second : List ℕ
  pub given : JoinGiven

abbrev joins : List ℕ → List ℕ → Result ℕ Refusal → List ℕ → JoinRow
joins F S a left = record { first = F; second = S; given = record { answer = a; left = left } }

-- What the join of a row gives.
abbrev pub join_of : JoinRow → JoinGiven
join_of r = record { answer = join_answer r.first r.second; left = join_leaves r.first r.second }

-- The table of three animals, three ticks and carry time 1 with these intervals in its cells (0, 1), (1, 2) and (0, 2), which no adds need have built.
abbrev pub stored : Cell → Cell → Cell → List ℕ
stored a b c = table_words 3 3 1 (λ u v. cond (eqb u 0 && eqb v 1) a (cond (eqb u 1 && eqb v 2) b (cond (eqb u 0 && eqb v 2) c [])))

-- The table without contacts, and those over (0, 1, 1), over (1, 2, 3), over both, and over (0, 1, 1) and (1, 2, 2).
abbrev pub none : List ℕ
none = stored [] [] []

abbrev pub early : List ℕ
early = stored (interval 1 2 ∷ []) [] []

abbrev late : List ℕ
late = stored [] (interval 3 4 ∷ []) []

abbrev both : List ℕ
both = stored (interval 1 2 ∷ []) (interval 3 4 ∷ []) (interval 1 4 ∷ [])

abbrev pub chained : List ℕ
chained = stored (interval 1 2 ∷ []) (interval 2 3 ∷ []) (interval 1 3 ∷ [])

-- A table with a first cell that is not well formed.
abbrev pub damaged : List ℕ → List ℕ
damaged T = set T 1 0

abbrev pub join_rows : List JoinRow
join_rows =
    -- Two yards, the second of which has a contact at the last tick; either may be joined into the other.
    joins early late (Ok 1) both
    ∷ joins late early (Ok 1) both
    -- One contact known, and one new.
    ∷ joins early both (Ok 1) both
    -- A table joined into an equal one, and into and from one without contacts.
    ∷ joins chained chained (Ok 0) chained
    ∷ joins none chained (Ok 2) chained
    ∷ joins chained none (Ok 0) chained
    -- A table that no adds built, joined into an equal one: no contact is new, and [1,3] enters cell (0, 2).
    ∷ joins (stored (interval 1 2 ∷ []) (interval 2 3 ∷ []) []) (stored (interval 1 2 ∷ []) (interval 2 3 ∷ []) []) (Ok 0) chained
    -- An interval longer than the carry time is no contact of the second, and stays in the first.
    ∷ joins none (stored [] [] (interval 1 3 ∷ [])) (Ok 0) none
    ∷ joins (stored [] [] (interval 1 3 ∷ [])) late (Ok 1) (stored [] (interval 3 4 ∷ []) (interval 1 3 ∷ []))
    -- 5 and 6 of the first, whatever the second is.
    ∷ joins [] (damaged none) (Err NotOpen) []
    ∷ joins (damaged none) [] (Err NotWellFormed) (damaged none)
    -- 5 of the second; then its 6, though the opening words differ.
    ∷ joins early [] (Err NotOpen) early
    ∷ joins early (damaged (table_words 2 3 1 no_intervals)) (Err NotWellFormed) early
    -- 17: another number of animals, of ticks, another carry time.
    ∷ joins early (table_words 2 3 1 no_intervals) (Err DifferentOpenings) early
    ∷ joins early (table_words 3 2 1 (λ u v. cond (eqb u 0 && eqb v 1) (interval 1 2 ∷ []) [])) (Err DifferentOpenings) early
    ∷ joins early (table_words 3 3 2 (λ u v. cond (eqb u 1 && eqb v 2) (interval 1 3 ∷ []) [])) (Err DifferentOpenings) early
    ∷ []

-- Every join gives what its row says.
abbrev pub JoinsWorked : Type 0
JoinsWorked = (r : JoinRow) → Memᴰ r join_rows → join_of r ≡ r.given
