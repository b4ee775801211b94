-- The cells of a grid by their numbers: cell (u, v) of n animals has the number u·n + v.
use mathlib.Core.Path.{◌≡◌, sym, ap, ◌∙◌}
use mathlib.Core.Bool.{Bool, ◌&&◌, and_assoc, and-true}
use mathlib.Core.List.{List, ◌++◌, append-nil, append_assoc}
use Prim.Native.Nat.{ℕ, zero, suc, ◌+◌, ◌*◌}
use native.Mathlib.Nat.{suc-mul, zero-mul, add-zero, add-suc}
use Rattle.rules.specs.Folds.{flat, all_below}

-- The first a of a + b lists, then the others.
pub flat-add : {A : Type 0} (f : ℕ → List A) (a b : ℕ) → flat f (a + b) ≡ flat f a ++ flat (λ j. f (a + j)) b
unfolding flat
flat-add f a zero = ap (flat f) (add-zero a) ∙ sym (append-nil (flat f a))
flat-add f a (suc b) =
    ap (flat f) (add-suc a b) ∙ ap (λ r. r ++ f (a + b)) (flat-add f a b) ∙ append_assoc (flat f a) (flat (λ j. f (a + j)) b) (f (a + b))

-- Lists by their numbers are lists by their pairs.
pub flat-square : {A : Type 0} (f : ℕ → List A) (n m : ℕ) → flat f (m * n) ≡ flat (λ u. flat (λ v. f (u * n + v)) n) m
unfolding flat
flat-square f n zero = ap (flat f) (zero-mul n)
flat-square f n (suc m) = ap (flat f) (suc-mul m n) ∙ flat-add f (m * n) n ∙ ap (λ r. r ++ flat (λ v. f (m * n + v)) n) (flat-square f n m)

-- The first a of a + b tests, then the others.
pub all-add : (p : ℕ → Bool) (a b : ℕ) → all_below p (a + b) ≡ (all_below p a && all_below (λ j. p (a + j)) b)
unfolding all_below
all-add p a zero = ap (all_below p) (add-zero a) ∙ sym (and-true (all_below p a))
all-add p a (suc b) =
    ap (all_below p) (add-suc a b) ∙ ap (λ r. r && p (a + b)) (all-add p a b) ∙ and_assoc (all_below p a) (all_below (λ j. p (a + j)) b) (p (a + b))

-- Tests by their numbers are tests by their pairs.
pub all-square : (p : ℕ → Bool) (n m : ℕ) → all_below p (m * n) ≡ all_below (λ u. all_below (λ v. p (u * n + v)) n) m
unfolding all_below
all-square p n zero = ap (all_below p) (zero-mul n)
all-square p n (suc m) = ap (all_below p) (suc-mul m n) ∙ all-add p (m * n) n ∙ ap (λ r. r && all_below (λ v. p (m * n + v)) n) (all-square p n m)
