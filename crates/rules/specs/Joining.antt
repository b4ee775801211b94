-- Joining a second table into a first (document 02, Two).
use Rattle.std.specs.Prelude.{ℕ, List, get_or, eqb, Option, None, Ok, Result}
use Rattle.rules.specs.declared.Refusal.{Refusal}
use Rattle.rules.specs.declared.Refusal.TheVariants.{DifferentOpenings}
use Rattle.rules.specs.Answers.{ensure, unless, answer_of}
use Rattle.rules.specs.Checks.{ensure_table}
use Rattle.rules.specs.Logs.{held_contacts}
use Rattle.rules.specs.CallLists.{engine, run, new_adds}

-- 17 when the opening words of the two tables differ.
abbrev pub ensure_same_opening : List ℕ → List ℕ → Option Refusal → Option Refusal
ensure_same_opening F S o = ensure (eqb (get_or F 0 0) (get_or S 0 0)) DifferentOpenings o

-- 5 and 6 for the first table F, then for the second S, then 17.
unfoldable pub join_refusal : List ℕ → List ℕ → Option Refusal
join_refusal F S = ensure_table F (ensure_table S (ensure_same_opening F S None))

-- How many of the second's contacts, added to the first in log order, are new to it.
unfoldable pub join_answer : List ℕ → List ℕ → Result ℕ Refusal
join_answer F S = answer_of (join_refusal F S) (Ok (new_adds engine F (held_contacts S)))

-- The first table's words afterwards: the second's contacts added in log order. The second is only read.
unfoldable pub join_leaves : List ℕ → List ℕ → List ℕ
join_leaves F S = unless (join_refusal F S) (run engine F (held_contacts S)) F
