-- Sets of pens as numbers, one bit for each pen: a set shares a pen with another exactly when their common bits are not 0.
use mathlib.Core.Path.{◌≡◌, sym, ap, ap₂, ◌∙◌}
use mathlib.Core.Bool.{Bool}
use mathlib.Core.Logic.{◌↔◌, ◌⊎◌, inl, inr, ◌≢◌}
use Prim.Native.Nat.{ℕ, ◌+◌, ◌*◌, ◌/◌, ◌%◌, ◌^◌, ◌≤◌, ◌<◌, min, max}
use native.Mathlib.Nat.{one-mul}
use native.Mathlib.Omega.{arith}
use lib.Arith.{bin_ind}
use lib.Bits.{bit_and, bit_or, and_step, or_step, and_zero_l, or_zero_l, and_comm, and_self, and_shifted, or_add_and, and_le_l, and_le_r, and_shr, or_shr}
use lib.Pow.{pow_pos, pow-lt, shl_exact}
use Rattle.rules.specs.Limits.{max_pen}
use Rattle.journeys.proofs.Tests.{Outcome, holds, fails, lt_outcome, eq_outcome}

-- ---- the common bits of a union

-- The lowest digits.
digits-share : (x y z : ℕ) → min (max x y) z ≡ max (min x z) (min y z)
digits-share x y z = omega arith

or_odd : (a b : ℕ) → bit_or a b % 2 ≡ max (a % 2) (b % 2)
or_odd a b = let e = or_step a b in let h : max (a % 2) (b % 2) < 2 = omega arith in omega arith

and_odd : (a b : ℕ) → bit_and a b % 2 ≡ min (a % 2) (b % 2)
and_odd a b = let e = and_step a b in let h : min (a % 2) (b % 2) < 2 = omega arith in omega arith

-- The common bits of a union with c are those of each part.
and_or : (a b c : ℕ) → bit_and (bit_or a b) c ≡ bit_or (bit_and a c) (bit_and b c)
and_or =
    bin_ind (λ (a : ℕ). (b c : ℕ) → bit_and (bit_or a b) c ≡ bit_or (bit_and a c) (bit_and b c))
    (λ b c. ap (λ (x : ℕ). bit_and x c) (or_zero_l b) ∙ sym (ap (λ (x : ℕ). bit_or x (bit_and b c)) (and_zero_l c) ∙ or_zero_l (bit_and b c)))
    (λ a ih b c.
    and_step (bit_or a b) c
    ∙ ap₂ (λ (x y : ℕ). x * 2 + y) (ap (λ (x : ℕ). bit_and x (c / 2)) (or_shr a b 1) ∙ ih (b / 2) (c / 2)) (ap (λ (x : ℕ). min x (c % 2)) (or_odd a b) ∙ digits-share (a % 2) (b % 2) (c % 2))
    ∙ sym (or_step (bit_and a c) (bit_and b c)
    ∙ ap₂ (λ (x y : ℕ). x * 2 + y) (ap₂ bit_or (and_shr a c 1) (and_shr b c 1)) (ap₂ max (and_odd a c) (and_odd b c))))

-- A union is empty exactly when both parts are.
or_zero_lem : (x y : ℕ) → bit_or x y ≡ 0 → (x ≡ 0) × (y ≡ 0)
or_zero_lem x y z = (omega (arith, z, or_add_and x y, and_le_r x y), omega (arith, z, or_add_and x y, and_le_l x y))

zero_or : {x y : ℕ} → x ≡ 0 → y ≡ 0 → bit_or x y ≡ 0
zero_or e f = ap₂ bit_or e f ∙ or_zero_l 0

-- A union shares a bit with c exactly when one of its parts does.
pub or_shares : (a b c : ℕ) → (bit_and (bit_or a b) c ≢ 0) ↔ ((bit_and a c ≢ 0) ⊎ (bit_and b c ≢ 0))
or_shares a b c = (λ d. to d (eq_outcome (bit_and a c) 0), of)
  where
    to : bit_and (bit_or a b) c ≢ 0 → {t : Bool} → Outcome (bit_and a c ≡ 0) (bit_and a c ≢ 0) t → (bit_and a c ≢ 0) ⊎ (bit_and b c ≢ 0)
    to d (holds e) = inr (λ f. d (and_or a b c ∙ zero_or e f))
    to d (fails n) = inl n

    of : (bit_and a c ≢ 0) ⊎ (bit_and b c ≢ 0) → bit_and (bit_or a b) c ≢ 0
    of (inl n) e = n (or_zero_lem (bit_and a c) (bit_and b c) (sym (and_or a b c) ∙ e)).0
    of (inr n) e = n (or_zero_lem (bit_and a c) (bit_and b c) (sym (and_or a b c) ∙ e)).1

-- ---- single bits

higher_apart : (p q : ℕ) → p < q → bit_and (2 ^ q) (2 ^ p) ≡ 0
higher_apart p q h = ap (λ (x : ℕ). bit_and x (2 ^ p)) (sym (one-mul (2 ^ q))) ∙ and_shifted 1 q (2 ^ p) (pow-lt h)

-- Two bits are shared exactly when they are the same.
pub bits-share : (p q : ℕ) → (bit_and (2 ^ p) (2 ^ q) ≢ 0) ↔ (p ≡ q)
bits-share p q = (λ d. to d (lt_outcome p q) (lt_outcome q p), of)
  where
    to : bit_and (2 ^ p) (2 ^ q) ≢ 0 → {s t : Bool} → Outcome (p < q) (q ≤ p) s → Outcome (q < p) (p ≤ q) t → p ≡ q
    to d (holds h) o = absurd (d (and_comm (2 ^ p) (2 ^ q) ∙ higher_apart p q h))
    to d (fails h) (holds k) = absurd (d (higher_apart q p k))
    to d (fails h) (fails k) = omega arith

    of : p ≡ q → bit_and (2 ^ p) (2 ^ q) ≢ 0
    of e z = let s : 2 ^ p ≡ 0 = sym (and_self (2 ^ p)) ∙ ap (λ (i : ℕ). bit_and (2 ^ p) (2 ^ i)) e ∙ z in omega (arith, pow_pos p)

-- One shifted by a pen's number is its bit.
pub shifted : (p : ℕ) → p ≤ max_pen → (1 * 2 ^ p) % 2 ^ 64 ≡ 2 ^ p
shifted p h = shl_exact 1 p 64 (omega arith) (omega arith) ∙ one-mul (2 ^ p)
