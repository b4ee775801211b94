-- A record with its answer, and what the records hold once a number of them is answered.
use mathlib.Core.Path.{◌≡◌, refl, ap}
use mathlib.Core.List.{List, [], ◌∷◌, map}
use Prim.Native.Nat.{ℕ, zero, suc, ◌+◌}
use native.Mathlib.Numerals.{add-one}
use lib.ListN.{length, set, get_or}
use Rattle.std.specs.Prelude.{Bool, Option, Result}
use Rattle.rules.specs.declared.Question.{Question}

-- The record with another answer.
abbrev pub with_answer : Question → Option (Result Bool ℕ) → Question
with_answer q a = record { from = q.from; to = q.to; first = q.first; last = q.last; answer = a }

-- The first i records changed by f, the others as they were.
abbrev pub upto : (Question → Question) → ℕ → List Question → List Question
upto f zero ys = ys
upto f (suc i) [] = []
upto f (suc i) (y ∷ ys) = f y ∷ upto f i ys

-- Record i changed in its place is one more.
pub set-upto : (f : Question → Question) (i : ℕ) (ys : List Question) (d : Question) → set (upto f i ys) i (f (get_or (upto f i ys) i d)) ≡ upto f (suc i) ys
set-upto f zero [] d = refl
set-upto f zero (y ∷ ys) d = refl
set-upto f (suc i) [] d = refl
set-upto f (suc i) (y ∷ ys) d = ap (λ (zs : List Question). f y ∷ zs) (set-upto f i ys d)

-- All records changed.
pub upto-all : (f : Question → Question) (ys : List Question) → upto f (length ys) ys ≡ map f ys
upto-all f [] = refl
upto-all f (y ∷ ys) = ap (λ (zs : List Question). f y ∷ zs) (upto-all f ys)

-- One more record answered in its place.
pub one-more : (f : Question → Question) (i : ℕ) (ys zs : List Question) (r d : Question) → zs ≡ upto f i ys → r ≡ f (get_or zs i d) → set zs i r ≡ upto f (i + 1) ys
one-more f i ys zs r d e q = rw (q, e, set-upto f i ys d, add-one)
