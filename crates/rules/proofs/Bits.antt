-- The bits of a sum of powers of two, each taken or not.
use mathlib.Core.Path.{◌≡◌, sym, ap, ◌∙◌}
use mathlib.Core.Bool.{Bool, true, false, cond}
use Prim.Native.Nat.{ℕ, zero, suc, ◌+◌, ◌-◌, ◌*◌, ◌/◌, ◌%◌, ◌^◌, ◌≤◌, ◌<◌}
use native.Mathlib.Nat.{add_comm, add-mul, mul_assoc, zero-add, zero-mul}
use native.Mathlib.Omega.{arith}
use lib.Pow.{pow-add}
use Rattle.words.proofs.Fields.{get-field}
use Rattle.rules.specs.Folds.{sum_below}

module _ (q : ℕ → Bool) where
  -- The power of two at b, where the test passes.
  abbrev power : ℕ → ℕ
  power b = cond (q b) (2 ^ b) 0

  abbrev bit : ℕ → ℕ
  bit b = cond (q b) 1 0

  power-is : (b : ℕ) → power b ≡ bit b * 2 ^ b
  power-is b = go (q b)
    where
      go : (t : Bool) → cond t (2 ^ b) 0 ≡ cond t 1 0 * 2 ^ b
      go true = omega arith
      go false = omega arith

  double : (b : ℕ) → 2 ^ (b + 1) ≡ 2 ^ b + 2 ^ b
  double b = pow-add 2 b 1 ∙ omega arith

  small : (b : ℕ) → power b ≤ 2 ^ b
  small b = go (q b)
    where
      go : (t : Bool) → cond t (2 ^ b) 0 ≤ 2 ^ b
      go true = omega arith
      go false = omega arith

  sum-small : (m : ℕ) → sum_below power m < 2 ^ m
  unfolding sum_below
  sum-small zero = omega arith
  sum-small (suc m) =
      let a = sum-small m in
      let b = small m in
      let d : 2 ^ suc m ≡ 2 ^ m + 2 ^ m = ap (λ i. 2 ^ i) (let e : suc m ≡ m + 1 = omega arith in e) ∙ double m in
      omega arith

  -- The sum of m powers is that of the first b + 1, and a multiple of 2 ^ (b + 1).
  high_part : (b m : ℕ) → (h : ℕ) × (sum_below power (m + (b + 1)) ≡ h * 2 ^ (b + 1) + sum_below power (b + 1))
  unfolding sum_below
  high_part b zero = (0, ap (sum_below power) (zero-add (b + 1)) ∙ sym (zero-add (sum_below power (b + 1))) ∙ ap (λ i. i + sum_below power (b + 1)) (sym (zero-mul (2 ^ (b + 1)))))
  high_part b (suc m) =
      let r = high_part b m in
      let h = r.0 in
      let e : suc m + (b + 1) ≡ suc (m + (b + 1)) = omega arith in
      let c = bit (m + (b + 1)) in
      let p : power (m + (b + 1)) ≡ c * 2 ^ m * 2 ^ (b + 1) = power-is (m + (b + 1)) ∙ ap (λ i. c * i) (pow-add 2 m (b + 1)) ∙ sym (mul_assoc c (2 ^ m) (2 ^ (b + 1))) in
      let s : (h + c * 2 ^ m) * 2 ^ (b + 1) ≡ h * 2 ^ (b + 1) + c * 2 ^ m * 2 ^ (b + 1) = add-mul h (c * 2 ^ m) (2 ^ (b + 1)) in
      (h + c * 2 ^ m, ap (sum_below power) e ∙ omega (arith, r.1, p, s))

  -- Bit b of the sum is set exactly where the test passes.
  pub sum-bit : (b m : ℕ) → b < m → sum_below power m / 2 ^ b % 2 ≡ bit b
  unfolding sum_below
  sum-bit b m l =
      let k = m - (b + 1) in
      let e : k + (b + 1) ≡ m = omega arith in
      let r = high_part b k in
      let g : sum_below power (b + 1) ≡ bit b * 2 ^ b + sum_below power b = ap (sum_below power) (let z : b + 1 ≡ suc b = omega arith in z) ∙ add_comm (sum_below power b) (power b) ∙ ap (λ i. i + sum_below power b) (power-is b) in
      let w : sum_below power m ≡ r.0 * 2 ^ (b + 1) + (bit b * 2 ^ b + sum_below power b) = ap (sum_below power) (sym e) ∙ r.1 ∙ ap (λ i. r.0 * 2 ^ (b + 1) + i) g in
      ap (λ i. i / 2 ^ b % 2) w ∙ get-field (record { shift = b; width = 1 }) r.0 (omega arith) (one (q b)) (sum-small b)
    where
      one : (t : Bool) → cond t 1 0 < 2
      one true = omega arith
      one false = omega arith
