-- Opening a table (document 01, "Animals, ticks, carry time").
use Rattle.std.specs.Prelude.{ℕ, ◌≤◌, List, [], length, eqb, Option, None, Result, ⊤}
use Rattle.journeys.specs.Adding.{Cells}
use Rattle.rules.specs.declared.Refusal.{Refusal}
use Rattle.rules.specs.declared.Refusal.TheVariants.{AnimalsBeyondLimit, TicksBeyondLimit, CarryBeyondLimit, WrongLength}
use Rattle.rules.specs.Limits.{max_animals, max_ticks, max_carry}
use Rattle.rules.specs.Answers.{ensure, unless, answer_of, done}
use Rattle.rules.specs.Folds.{within}
use Rattle.rules.specs.Layout.{table_length, table_words}

-- The three numbers of an opening lie within their limits.
pub record Sizes (n τ δ : ℕ) : Type 0 where
  pub n_low : 1 ≤ n
  pub n_high : n ≤ max_animals
  pub τ-low : 1 ≤ τ
  pub τ-high : τ ≤ max_ticks
  pub δ-low : 1 ≤ δ
  pub δ-high : δ ≤ max_carry

-- 1, 2, 3 when n, τ, δ are beyond their limits, in this order.
abbrev pub ensure_sizes : ℕ → ℕ → ℕ → Option Refusal → Option Refusal
ensure_sizes n τ δ o =
    ensure (within 1 n max_animals) AnimalsBeyondLimit
    (ensure (within 1 τ max_ticks) TicksBeyondLimit
    (ensure (within 1 δ max_carry) CarryBeyondLimit
    o))

-- Then 4 when the table's length is not the formula's.
unfoldable pub open_refusal : ℕ → ℕ → ℕ → List ℕ → Option Refusal
open_refusal n τ δ T = ensure_sizes n τ δ (ensure (eqb (length T) (table_length n τ)) WrongLength None)

-- Every cell is empty.
abbrev pub no_intervals : Cells
no_intervals u v = []

unfoldable pub open_answer : ℕ → ℕ → ℕ → List ℕ → Result ⊤ Refusal
open_answer n τ δ T = answer_of (open_refusal n τ δ T) done

-- The table's words afterwards: opening writes the whole table, every cell empty.
unfoldable pub open_leaves : ℕ → ℕ → ℕ → List ℕ → List ℕ
open_leaves n τ δ T = unless (open_refusal n τ δ T) (table_words n τ δ no_intervals) T
