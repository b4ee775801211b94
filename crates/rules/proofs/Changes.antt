-- What the tests on cells mean, and when entering changes a cell.
use mathlib.Core.Path.{◌≡◌, refl, sym, ap₂, subst}
use mathlib.Core.Logic.{◌⊎◌, inr, ⊎_elim, ◌≢◌}
use mathlib.Core.Bool.{Bool, true, cond}
use mathlib.Core.List.Memᴰ
use mathlib.Core.List.{[], ◌∷◌, Memᴰ, cons-eq-cons, cons≢nil}
use native.Mathlib.Nat.{le_refl}
use Rattle.journeys.specs.declared.Interval.{Interval}
use Rattle.journeys.specs.Cell.{Cell, has_inside, enter, put_in_order, without_containing}
use Rattle.journeys.proofs.Tests.{Outcome, holds, fails, eq_outcome, and_outcome}
use Rattle.journeys.proofs.Cover.{Covers, interval-path, departure-path, arrival-path, has_inside-outcome}
use Rattle.journeys.proofs.Enter.{enter-iff}
use Rattle.rules.specs.Adding.{same_interval, stands, same_cell}
use Rattle.rules.proofs.Folds.{member-outcome}

pub same_interval-outcome : (i j : Interval) → Outcome (i ≡ j) (i ≢ j) (same_interval i j)
same_interval-outcome i j = go (and_outcome (eq_outcome i.departure j.departure) (eq_outcome i.arrival j.arrival))
  where
    go : {b : Bool} → Outcome ((i.departure ≡ j.departure) × (i.arrival ≡ j.arrival)) ((i.departure ≢ j.departure) ⊎ (i.arrival ≢ j.arrival)) b → Outcome (i ≡ j) (i ≢ j) b
    go (holds e) = holds (interval-path i j e.0 e.1)
    go (fails n) = fails (λ e. ⊎_elim (λ m. m (departure-path e)) (λ m. m (arrival-path e)) n)

-- The test `stands` is membership.
pub stands-outcome : (i : Interval) (c : Cell) → Outcome (Memᴰ i c) (¬ Memᴰ i c) (stands i c)
unfolding stands
stands-outcome i [] = fails Memᴰ.not-nil
stands-outcome i (j ∷ c) = member-outcome (same_interval-outcome i j) (stands-outcome i c)

-- The test `same_cell` is equality.
pub same_cell-outcome : (c d : Cell) → Outcome (c ≡ d) (c ≢ d) (same_cell c d)
unfolding same_cell
same_cell-outcome [] [] = holds refl
same_cell-outcome [] (j ∷ d) = fails (λ e. cons≢nil (sym e))
same_cell-outcome (i ∷ c) [] = fails cons≢nil
same_cell-outcome (i ∷ c) (j ∷ d) = go (and_outcome (same_interval-outcome i j) (same_cell-outcome c d))
  where
    go : {b : Bool} → Outcome ((i ≡ j) × (c ≡ d)) ((i ≢ j) ⊎ (c ≢ d)) b → Outcome (i ∷ c ≡ j ∷ d) (i ∷ c ≢ j ∷ d) b
    go (holds e) = holds (ap₂ ◌∷◌ e.0 e.1)
    go (fails n) = fails (λ e. ⊎_elim (λ m. m (cons-eq-cons.0 e).0) (λ m. m (cons-eq-cons.0 e).1) n)

-- Where an interval inside stands there, nothing changes.
pub enter-inside : (i : Interval) (c : Cell) → Covers i c → enter i c ≡ c
unfolding enter
enter-inside i c v = go (has_inside-outcome i c)
  where
    go : {b : Bool} → Outcome (Covers i c) (¬ Covers i c) b → cond b c (put_in_order i (without_containing i c)) ≡ c
    go (holds w) = refl
    go (fails n) = absurd (n v)

-- Entering leaves a cell as it was exactly when an interval inside stands there.
pub enter-same : (i : Interval) (c : Cell) → same_cell c (enter i c) ≡ has_inside i c
enter-same i c = go (has_inside-outcome i c) (same_cell-outcome c (enter i c))
  where
    go : {a b : Bool} → Outcome (Covers i c) (¬ Covers i c) a → Outcome (c ≡ enter i c) (c ≢ enter i c) b → b ≡ a
    go (holds v) (holds e) = refl
    go (holds v) (fails n) = absurd (n (sym (enter-inside i c v)))
    go (fails n) (holds e) = absurd (n (subst (Covers i) (sym e) ((enter-iff i i c).1 (inr (le_refl i.departure, le_refl i.arrival)))))
    go (fails n) (fails m) = refl

-- A cell is the same as itself.
pub same_cell-refl : (c : Cell) → same_cell c c ≡ true
same_cell-refl c = go (same_cell-outcome c c)
  where
    go : {b : Bool} → Outcome (c ≡ c) (c ≢ c) b → b ≡ true
    go (holds e) = refl
    go (fails n) = absurd (n refl)
