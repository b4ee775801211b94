-- The digits of a number: the last one, and those before it.
use mathlib.Core.Path.{◌≡◌, refl, ap}
use mathlib.Core.Bool.{Bool, cond}
use mathlib.Core.List.{List, [], ◌∷◌, ◌++◌}
use Prim.Native.Nat.{ℕ, zero, suc, ◌+◌, ◌/◌, ◌%◌, ◌≤◌, ◌<◌}
use native.Mathlib.Omega.{arith}
use borrow.Author.Tests.{lt-ltb, le-ltb}
use Rattle.journeys.proofs.Tests.{Outcome, holds, fails, lt_outcome}
use Rattle.rules.specs.Sheet.{decimal_within, decimal}

-- A number below ten is its digit.
small-within : (f k : ℕ) → k < 10 → decimal_within f k ≡ (48 + k) ∷ []
unfolding decimal_within
small-within zero k h = refl
small-within (suc f) k h = rw (lt-ltb k 10 h) refl

-- Any fuel from the number on gives the same digits.
same-within : (f g k : ℕ) → k ≤ f → k ≤ g → decimal_within f k ≡ decimal_within g k
unfolding decimal_within
same-within zero g k h i = rw (small-within g k (omega arith)) refl
same-within (suc f) zero k h i = small-within (suc f) k (omega arith)
same-within (suc f) (suc g) k h i = go (lt_outcome k 10) (same-within f g (k / 10))
  where
    go : {b : Bool} → Outcome (k < 10) (10 ≤ k) b → (k / 10 ≤ f → k / 10 ≤ g → decimal_within f (k / 10) ≡ decimal_within g (k / 10))
        → cond b ((48 + k) ∷ []) (decimal_within f (k / 10) ++ ((48 + k % 10) ∷ [])) ≡ cond b ((48 + k) ∷ []) (decimal_within g (k / 10) ++ ((48 + k % 10) ∷ []))
    go (holds o) r = refl
    go (fails o) r = ap (λ (l : List ℕ). l ++ ((48 + k % 10) ∷ [])) (r (omega arith) (omega arith))

-- The last digit stands behind the others.
large_within : (f k : ℕ) → 10 ≤ k → k ≤ f → decimal_within f k ≡ decimal (k / 10) ++ ((48 + k % 10) ∷ [])
unfolding decimal_within
large_within zero k h i = absurd (omega arith)
large_within (suc f) k h i =
    rw (le-ltb k 10 h) (ap (λ (l : List ℕ). l ++ ((48 + k % 10) ∷ [])) (same-within f (k / 10) (k / 10) (omega arith) (omega arith)))

-- A number below ten is one digit, and any other has its last digit behind the others.
pub one-digit : (k : ℕ) → k < 10 → decimal k ≡ (48 + k) ∷ []
one-digit k h = small-within k k h

pub last-digit : (k : ℕ) → 10 ≤ k → decimal k ≡ decimal (k / 10) ++ ((48 + k % 10) ∷ [])
last-digit k h = large_within k k h (omega arith)
