-- A test of all animals, as a range tests it.
use mathlib.Core.Path.{◌≡◌, refl, sym, ap, ◌∙◌}
use mathlib.Core.Bool.{Bool, true, false, ◌&&◌}
use Prim.Native.Nat.{ℕ, zero, suc, ◌+◌}
use native.Mathlib.Omega.{arith}
use Rattle.std.specs.List.{list_all, range_with_len}
use Rattle.rules.specs.Folds.{all_below}

-- The last number of a range is tested behind the others.
range-more : (p : ℕ → Bool) (a n : ℕ) → list_all p (range_with_len a (suc n)) ≡ (list_all p (range_with_len a n) && p (a + n))
range-more p a zero = let e : a + zero ≡ a = omega arith in first (p a) ∙ ap p (sym e)
  where
    first : (b : Bool) → (b && true) ≡ b
    first true = refl
    first false = refl
range-more p a (suc n) =
    let e : a + 1 + n ≡ a + suc n = omega arith in
    ap (λ (b : Bool). p a && b) (range-more p (a + 1) n) ∙ again (p a) (list_all p (range_with_len (a + 1) n)) (p (a + 1 + n)) ∙ ap (λ (k : ℕ). list_all p (range_with_len a (suc n)) && p k) e
  where
    again : (b x y : Bool) → (b && (x && y)) ≡ ((b && x) && y)
    again true x y = refl
    again false x y = refl

-- A range from 0 tests all numbers below its end.
pub all-in-range : (p : ℕ → Bool) (n : ℕ) → list_all p (range_with_len 0 n) ≡ all_below p n
unfolding all_below
all-in-range p zero = refl
all-in-range p (suc n) =
    let e : 0 + n ≡ n = omega arith in
    range-more p 0 n ∙ ap (λ (k : ℕ). list_all p (range_with_len 0 n) && p k) e ∙ ap (λ (b : Bool). b && p n) (all-in-range p n)
