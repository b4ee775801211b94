-- A test with its meaning: what holds where it passes, and what holds where it fails.
use mathlib.Core.Path.{◌≡◌, refl, ap}
use mathlib.Core.Logic.{◌↔◌, ◌⊎◌, inl, inr, ◌≢◌}
use mathlib.Core.Bool.{Bool, true, false, cond, ◌&&◌, ◌||◌}
use Prim.Native.Nat.{ℕ, ◌≤◌, ◌<◌}
use native.Mathlib.Omega.{arith}
use lib.Dec.{leb, ltb, eqb}
use borrow.Author.Tests.{leb-true, leb-false, ltb-true, ltb-false, eqb-true, eqb-false}
use Rattle.journeys.specs.declared.Interval.{Interval}
use Rattle.journeys.specs.Journey.{Inside}
use Rattle.journeys.specs.Cell.{inside}

-- 0 is not 1, so anything follows.
pub never : {A : Type 0} → ◌≡◌ {A = ℕ} 0 1 → A
never e = absurd (omega arith)

-- A failed test has not passed.
pub untrue : {A : Type 0} → false ≡ true → A
untrue e = never (ap (λ (t : Bool). cond t 1 0) e)

-- What holds where a test passes, and what where it fails.
pub data Outcome (P Q : Type 0) : Bool → Type 0 where
  holds : P → Outcome P Q true
  fails : Q → Outcome P Q false

pub outcome : {P Q : Type 0} (b : Bool) → (b ≡ true → P) → (b ≡ false → Q) → Outcome P Q b
outcome true f g = holds (f refl)
outcome false f g = fails (g refl)

-- A test that is some fact, as an equation.
pub outcome-iff : {P Q : Type 0} {b : Bool} → (Q → P → ⊥) → Outcome P Q b → (b ≡ true) ↔ P
outcome-iff x (holds p) = (λ e. p, λ q. refl)
outcome-iff x (fails q) = (λ e. untrue e, λ p. absurd (x q p))

-- Two tests of which neither passes where the other fails are the same.
pub same_outcome : {P Q R S : Type 0} {a b : Bool} → (P → S → ⊥) → (Q → R → ⊥) → Outcome P Q a → Outcome R S b → a ≡ b
same_outcome x y (holds p) (holds r) = refl
same_outcome x y (holds p) (fails s) = absurd (x p s)
same_outcome x y (fails q) (holds r) = absurd (y q r)
same_outcome x y (fails q) (fails s) = refl

pub le_outcome : (a b : ℕ) → Outcome (a ≤ b) (b < a) (leb a b)
le_outcome a b = outcome (leb a b) (leb-true a b) (leb-false a b)

-- Of two numbers one is at most the other.
pub either : (a b : ℕ) → (a ≤ b) ⊎ (b ≤ a)
either a b = go (le_outcome a b)
  where
    go : {t : Bool} → Outcome (a ≤ b) (b < a) t → (a ≤ b) ⊎ (b ≤ a)
    go (holds h) = inl h
    go (fails h) = inr (omega arith)

pub lt_outcome : (a b : ℕ) → Outcome (a < b) (b ≤ a) (ltb a b)
lt_outcome a b = outcome (ltb a b) (ltb-true a b) (ltb-false a b)

pub eq_outcome : (a b : ℕ) → Outcome (a ≡ b) (a ≢ b) (eqb a b)
eq_outcome a b = outcome (eqb a b) (eqb-true a b) (eqb-false a b)

-- Both tests pass, or the first fails, or the second does.
pub and_outcome : {P Q R S : Type 0} {a b : Bool} → Outcome P Q a → Outcome R S b → Outcome (P × R) (Q ⊎ S) (a && b)
and_outcome (holds p) (holds r) = holds (p, r)
and_outcome (holds p) (fails s) = fails (inr s)
and_outcome (fails q) o = fails (inl q)

-- One of the tests passes, or both fail.
pub or_outcome : {P Q R S : Type 0} {a b : Bool} → Outcome P Q a → Outcome R S b → Outcome (P ⊎ R) (Q × S) (a || b)
or_outcome (holds p) o = holds (inl p)
or_outcome (fails q) (holds r) = holds (inr r)
or_outcome (fails q) (fails s) = fails (q, s)

-- Where it fails, the interval departs earlier or arrives later.
pub inside-outcome : (j i : Interval) → Outcome (Inside j i) ((j.departure < i.departure) ⊎ (i.arrival < j.arrival)) (inside j i)
inside-outcome j i = and_outcome (le_outcome i.departure j.departure) (le_outcome j.arrival i.arrival)
