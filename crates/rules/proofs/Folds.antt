-- Laws of lists, tests and sums over the numbers below n.
use mathlib.Core.Path.{◌≡◌, refl, sym, ap, ap₂, ◌∙◌, subst}
use mathlib.Core.Logic.{◌↔◌, ◌⊎◌, inl, inr, ⊎_elim, ◌≢◌}
use mathlib.Core.Bool.{Bool, true, false, cond, ◌&&◌, ◌||◌, and-eq-true_iff, false≢true}
use mathlib.Core.List.Memᴰ
use mathlib.Core.List.{List, [], ◌∷◌, ◌++◌, map, append-nil, append_assoc, Memᴰ}
use Prim.Native.Nat.{ℕ, zero, suc, ◌+◌, ◌-◌, ◌*◌, ◌≤◌, ◌<◌}
use native.Mathlib.Nat.{mul-le-mul_right, suc-mul, zero-mul, mul_assoc, add-mul, le_of_eq}
use native.Mathlib.Omega.{arith}
use lib.ListN.{length, take, drop, length-append, length-drop, take-append-drop}
use lib.Seq.{take_all, take-append-le, drop-append-le, drop_at, drop-drop, take-add}
use Rattle.journeys.proofs.Tests.{untrue, Outcome, holds, fails, lt_outcome, or_outcome}
use Rattle.rules.specs.Folds.{flat, all_below, sum_below, count_below, any_of}

-- ---- tests

pub and_left : (a b : Bool) → (a && b) ≡ true → a ≡ true
and_left a b e = ((and-eq-true_iff a b).0 e).0

pub and_right : (a b : Bool) → (a && b) ≡ true → b ≡ true
and_right a b e = ((and-eq-true_iff a b).0 e).1

pub and_intro : (a b : Bool) → a ≡ true → b ≡ true → (a && b) ≡ true
and_intro a b p q = (and-eq-true_iff a b).1 (p, q)

-- Both tests pass exactly when what they say holds.
pub both_iff : {P Q : Type 0} {a b : Bool} → (a ≡ true) ↔ P → (b ≡ true) ↔ Q → ((a && b) ≡ true) ↔ (P × Q)
both_iff {a = a} {b = b} p q = (λ e. (p.0 (and_left a b e), q.0 (and_right a b e)), λ h. and_intro a b (p.1 h.0) (q.1 h.1))

-- Two tests that pass in the same cases are the same.
pub tests_same : {P Q : Type 0} {a b : Bool} → (a ≡ true) ↔ P → (b ≡ true) ↔ Q → P ↔ Q → a ≡ b
tests_same {a = true} {b = true} p q e = refl
tests_same {a = true} {b = false} p q e = sym (q.1 (e.0 (p.0 refl)))
tests_same {a = false} {b = true} p q e = p.1 (e.1 (q.0 refl))
tests_same {a = false} {b = false} p q e = refl

-- A test that means P passes exactly when P holds.
pub passes-iff : {P : Type 0} {b : Bool} → Outcome P (¬ P) b → (b ≡ true) ↔ P
passes-iff (holds p) = (λ e. p, λ q. refl)
passes-iff (fails n) = (λ e. absurd (false≢true e), λ p. absurd (n p))

-- What holds below n and at n holds below n + 1.
last-or_below : (P : ℕ → Type 0) (n k : ℕ) → k < suc n → (k < n → P k) → P n → P k
last-or_below P n k h f e = go (lt_outcome k n)
  where
    go : {b : Bool} → Outcome (k < n) (n ≤ k) b → P k
    go (holds o) = f o
    go (fails o) = let z : n ≡ k = omega arith in subst P z e

pub all-below : (p : ℕ → Bool) (n : ℕ) → ((k : ℕ) → k < n → p k ≡ true) → all_below p n ≡ true
unfolding all_below
all-below p zero e = refl
all-below p (suc n) e = and_intro (all_below p n) (p n) (all-below p n (λ k h. e k (omega arith))) (e n (omega arith))

pub below_all : (p : ℕ → Bool) (n : ℕ) → all_below p n ≡ true → (k : ℕ) → k < n → p k ≡ true
unfolding all_below
below_all p zero e k h = absurd (omega arith)
below_all p (suc n) e k h = last-or_below (λ i. p i ≡ true) n k h (below_all p n (and_left (all_below p n) (p n) e) k) (and_right (all_below p n) (p n) e)

-- ---- lengths and parts

-- The y-th of n parts of s words ends inside the n parts.
pub part-inside : (y n s : ℕ) → y < n → y * s + s ≤ n * s
part-inside y n s h = rw (← suc-mul y s) (mul-le-mul_right s h)

pub flat-length : {A : Type 0} (f : ℕ → List A) (s n : ℕ) → ((k : ℕ) → k < n → length (f k) ≡ s) → length (flat f n) ≡ n * s
unfolding flat
flat-length f s zero e = sym (zero-mul s)
flat-length f s (suc n) e =
    length-append (flat f n) (f n) ∙ ap₂ ◌+◌ (flat-length f s n (λ k h. e k (omega arith))) (e n (omega arith)) ∙ sym (suc-mul n s)

-- At most s for each number.
pub flat-few : {A : Type 0} (f : ℕ → List A) (s n : ℕ) → ((k : ℕ) → k < n → length (f k) ≤ s) → length (flat f n) ≤ n * s
unfolding flat
flat-few f s zero e = omega (arith, zero-mul s)
flat-few f s (suc n) e =
    let a = flat-few f s n (λ k h. e k (omega arith)) in
    let b = e n (omega arith) in
    omega (arith, length-append (flat f n) (f n), suc-mul n s)

-- At most one for each number, and none for u.
pub flat-skip : {A : Type 0} (f : ℕ → List A) (u n : ℕ) → u < n → ((k : ℕ) → length (f k) ≤ 1) → length (f u) ≡ 0 → length (flat f n) + 1 ≤ n
unfolding flat
flat-skip f u zero h e z = absurd (omega arith)
flat-skip f u (suc n) h e z = go (lt_outcome u n) (λ o. flat-skip f u n o e z)
  where
    go : {b : Bool} → Outcome (u < n) (n ≤ u) b → (u < n → length (flat f n) + 1 ≤ n) → length (flat f n ++ f n) + 1 ≤ suc n
    go (holds o) r = let a = r o in omega (arith, length-append (flat f n) (f n), e n)
    go (fails o) r =
        let q : u ≡ n = omega arith in
        let a = flat-few f 1 n (λ k l. e k) in
        let b = ap (λ (i : ℕ). length (f i)) q in
        omega (arith, length-append (flat f n) (f n))

-- The k-th part of a list made part by part.
pub flat-part : {A : Type 0} (f : ℕ → List A) (s n : ℕ) → ((k : ℕ) → k < n → length (f k) ≡ s) → (k : ℕ) → k < n → take s (drop (k * s) (flat f n)) ≡ f k
unfolding flat
flat-part f s zero e k h = absurd (omega arith)
flat-part f s (suc n) e k h = last-or_below (λ i. take s (drop (i * s) (flat f n ++ f n)) ≡ f i) n k h (λ o. before o (flat-part f s n (λ k h. e k (omega arith)) k o)) final
  where
    l : length (flat f n) ≡ n * s
    l = flat-length f s n (λ k h. e k (omega arith))

    before : k < n → take s (drop (k * s) (flat f n)) ≡ f k → take s (drop (k * s) (flat f n ++ f n)) ≡ f k
    before o r =
        let w = part-inside k n s o in
        ap (take s) (drop-append-le (k * s) (flat f n) (f n) (omega (arith, l)))
        ∙ take-append-le s (drop (k * s) (flat f n)) (f n) (omega (arith, l, length-drop (k * s) (flat f n))) ∙ r

    final : take s (drop (n * s) (flat f n ++ f n)) ≡ f n
    final = let q : length (f n) ≡ s = e n (omega arith) in ap (take s) (drop_at (flat f n) (f n) (n * s) l) ∙ take_all s (f n) (omega arith)

pub flat-same : {A : Type 0} (f g : ℕ → List A) (n : ℕ) → ((k : ℕ) → k < n → f k ≡ g k) → flat f n ≡ flat g n
unfolding flat
flat-same f g zero e = refl
flat-same f g (suc n) e = ap₂ ◌++◌ (flat-same f g n (λ k h. e k (omega arith))) (e n (omega arith))

-- The place of part (x, y) among n rows of n parts of s words.
pub place_of : (x y n s : ℕ) → x * (n * s) + y * s ≡ (x * n + y) * s
place_of x y n s = ap (λ (i : ℕ). i + y * s) (sym (mul_assoc x n s)) ∙ sym (add-mul (x * n) y s)

-- Rows of parts.
module _ {A : Type 0} (f : ℕ → ℕ → List A) (s n : ℕ) (e : (x y : ℕ) → x < n → y < n → length (f x y) ≡ s) where
  row-length : (x : ℕ) → x < n → length (flat (f x) n) ≡ n * s
  row-length x h = flat-length (f x) s n (λ y k. e x y h k)

  pub body-length : length (flat (λ x. flat (f x) n) n) ≡ n * n * s
  body-length = flat-length (λ x. flat (f x) n) (n * s) n row-length ∙ sym (mul_assoc n n s)

  pub body-part : (x y : ℕ) → x < n → y < n → take s (drop ((x * n + y) * s) (flat (λ x. flat (f x) n) n)) ≡ f x y
  body-part x y h k =
      ap (λ (i : ℕ). take s (drop i b)) (sym (place_of x y n s))
      ∙ ap (take s) (sym (drop-drop (y * s) (x * (n * s)) b))
      ∙ ap (λ (l : List A). take s (drop (y * s) l)) (sym (take-append-drop (n * s) r) ∙ ap (λ (l : List A). l ++ drop (n * s) r) q)
      ∙ ap (take s) (drop-append-le (y * s) (flat (f x) n) (drop (n * s) r) (omega (arith, w, row-length x h)))
      ∙ take-append-le s (drop (y * s) (flat (f x) n)) (drop (n * s) r) (omega (arith, w, row-length x h, length-drop (y * s) (flat (f x) n)))
      ∙ flat-part (f x) s n (λ y k. e x y h k) y k
    where
      b : List A
      b = flat (λ x. flat (f x) n) n

      r : List A
      r = drop (x * (n * s)) b

      w : y * s + s ≤ n * s
      w = part-inside y n s k

      q : take (n * s) r ≡ flat (f x) n
      q = flat-part (λ x. flat (f x) n) (n * s) n row-length x h

-- A list is its parts.
take-parts : {A : Type 0} (s n : ℕ) (l : List A) → take (n * s) l ≡ flat (λ k. take s (drop (k * s) l)) n
unfolding flat
take-parts s zero l = ap (λ (i : ℕ). take i l) (zero-mul s)
take-parts s (suc n) l = ap (λ (i : ℕ). take i l) (suc-mul n s) ∙ take-add (n * s) s l ∙ ap (λ (r : List _). r ++ take s (drop (n * s) l)) (take-parts s n l)

pub body-parts : {A : Type 0} (s n : ℕ) (l : List A) → length l ≡ n * n * s → l ≡ flat (λ x. flat (λ y. take s (drop ((x * n + y) * s) l)) n) n
body-parts {A} s n l e =
    sym (take_all (n * (n * s)) l (le_of_eq (e ∙ mul_assoc n n s))) ∙ take-parts (n * s) n l ∙ flat-same _ _ n row
  where
    row : (x : ℕ) → x < n → take (n * s) (drop (x * (n * s)) l) ≡ flat (λ y. take s (drop ((x * n + y) * s) l)) n
    row x h = take-parts s n (drop (x * (n * s)) l) ∙ flat-same _ _ n part
      where
        part : (y : ℕ) → y < n → take s (drop (y * s) (drop (x * (n * s)) l)) ≡ take s (drop ((x * n + y) * s) l)
        part y k = ap (take s) (drop-drop (y * s) (x * (n * s)) l) ∙ ap (λ (i : ℕ). take s (drop i l)) (place_of x y n s)

-- ---- members

-- Mapping there and back leaves a list as it was.
pub map_back : {A B : Type 0} (f : A → B) (g : B → A) (l : List A) → ((a : A) → Memᴰ a l → g (f a) ≡ a) → map g (map f l) ≡ l
map_back f g [] e = refl
map_back f g (a ∷ l) e = ap₂ ◌∷◌ (e a (Memᴰ.head refl)) (map_back f g l (λ b m. e b (Memᴰ.tail m)))

-- The test for the first element or the test for the rest is the test for membership.
pub member-outcome : {A : Type 0} {a b : A} {l : List A} {s t : Bool} → Outcome (a ≡ b) (a ≢ b) s → Outcome (Memᴰ a l) (¬ Memᴰ a l) t
    → Outcome (Memᴰ a (b ∷ l)) (¬ Memᴰ a (b ∷ l)) (s || t)
member-outcome {A} {a} {b} {l} p q = go (or_outcome p q)
  where
    go : {t : Bool} → Outcome ((a ≡ b) ⊎ Memᴰ a l) ((a ≢ b) × (¬ Memᴰ a l)) t → Outcome (Memᴰ a (b ∷ l)) (¬ Memᴰ a (b ∷ l)) t
    go (holds o) = holds (⊎_elim Memᴰ.head Memᴰ.tail o)
    go (fails n) = fails (λ m. ⊎_elim n.0 n.1 (Memᴰ.cases_cons m))

pub flat-member : {A : Type 0} {a : A} (f : ℕ → List A) (n k : ℕ) → k < n → Memᴰ a (f k) → Memᴰ a (flat f n)
unfolding flat
flat-member f zero k h m = absurd (omega arith)
flat-member {A} {a} f (suc n) k h m =
    last-or_below (λ i. Memᴰ a (f i) → Memᴰ a (flat f n ++ f n)) n k h (λ o q. Memᴰ.append_left (f n) (flat-member f n k o q)) (Memᴰ.append_right (flat f n)) m

pub member-flat : {A : Type 0} {a : A} (f : ℕ → List A) (n : ℕ) → Memᴰ a (flat f n) → (k : ℕ) × (k < n) × Memᴰ a (f k)
unfolding flat
member-flat f zero m = absurd (Memᴰ.not-nil m)
member-flat {A} {a} f (suc n) m = go (Memᴰ.append_cases (flat f n) m) (member-flat f n)
  where
    go : Memᴰ a (flat f n) ⊎ Memᴰ a (f n) → (Memᴰ a (flat f n) → (k : ℕ) × (k < n) × Memᴰ a (f k)) → (k : ℕ) × (k < suc n) × Memᴰ a (f k)
    go (inl l) r = let q = r l in (q.0, omega (arith, q.1), q.2)
    go (inr l) r = (n, omega arith, l)

-- ---- sums

pub sum_same : (f g : ℕ → ℕ) (n : ℕ) → ((k : ℕ) → k < n → f k ≡ g k) → sum_below f n ≡ sum_below g n
unfolding sum_below
sum_same f g zero e = refl
sum_same f g (suc n) e = ap₂ ◌+◌ (sum_same f g n (λ k h. e k (omega arith))) (e n (omega arith))

pub count_same : (p q : ℕ → Bool) (n : ℕ) → ((k : ℕ) → k < n → p k ≡ q k) → count_below p n ≡ count_below q n
unfolding count_below
count_same p q zero e = refl
count_same p q (suc n) e = ap₂ ◌+◌ (count_same p q n (λ k h. e k (omega arith))) (ap (λ (b : Bool). cond b 1 0) (e n (omega arith)))

-- ---- lists mapped

-- One more at the end.
pub map_snoc : {A B : Type 0} (f : A → B) (l : List A) (a : A) → map f (l ++ (a ∷ [])) ≡ map f l ++ (f a ∷ [])
map_snoc f [] a = refl
map_snoc f (b ∷ l) a = ap (λ r. f b ∷ r) (map_snoc f l a)

-- A member of a mapped list comes from one of the list.
pub member-map : {A B : Type 0} (f : A → B) (l : List A) (b : B) → Memᴰ b (map f l) → (a : A) × Memᴰ a l × (b ≡ f a)
member-map f [] b m = absurd (Memᴰ.not-nil m)
member-map f (a ∷ l) b m = ⊎_elim (λ e. (a, Memᴰ.head refl, e)) (λ q. let r = member-map f l b q in (r.0, Memᴰ.tail r.1, r.2)) (Memᴰ.cases_cons m)

-- A member of the list goes to one of the mapped list.
pub map-member : {A B : Type 0} (f : A → B) (l : List A) (a : A) → Memᴰ a l → Memᴰ (f a) (map f l)
map-member {A = A} {B = B} f [] a x' = elim x' [ ]
map-member f (b ∷ l) a (Memᴰ.head e) = Memᴰ.head (ap f e)
map-member f (b ∷ l) a (Memᴰ.tail m) = Memᴰ.tail (map-member f l a m)

-- Two functions that map a list alike agree on its elements.
pub map-agree : {A B : Type 0} (f g : A → B) (l : List A) → map f l ≡ map g l → (a : A) → Memᴰ a l → f a ≡ g a
map-agree f g [] e a m = absurd (Memᴰ.not-nil m)
map-agree f g (b ∷ l) e a m =
    let p : f b ≡ g b = cc in
    let q : map f l ≡ map g l = cc in
    ⊎_elim (λ h. subst (λ c. f c ≡ g c) (sym h) p) (map-agree f g l q a) (Memᴰ.cases_cons m)

-- No part has an element.
pub flat-none : {A : Type 0} (f : ℕ → List A) (n : ℕ) → ((k : ℕ) → f k ≡ []) → flat f n ≡ []
unfolding flat
flat-none f zero h = refl
flat-none f (suc n) h = rw (flat-none f n h, h n) refl

-- ---- the parts from one on

-- f i, f (i + 1), .., k of them, one after the other.
unfoldable pub flat_from : {A : Type 0} → (ℕ → List A) → ℕ → ℕ → List A
flat_from f i zero = []
flat_from f i (suc k) = f i ++ flat_from f (i + 1) k

flat-then_from : {A : Type 0} (f : ℕ → List A) (i k : ℕ) → flat f i ++ flat_from f i k ≡ flat f (i + k)
unfolding flat flat_from
flat-then_from f i zero = append-nil (flat f i) ∙ ap (flat f) (let e : i ≡ i + 0 = omega arith in e)
flat-then_from {A} f i (suc k) =
    sym (append_assoc (flat f i) (f i) (flat_from f (i + 1) k))
    ∙ ap (λ (l : List A). l ++ flat_from f (i + 1) k) (ap (flat f) (let e : suc i ≡ i + 1 = omega arith in e))
    ∙ flat-then_from f (i + 1) k ∙ ap (flat f) (let e : i + 1 + k ≡ i + suc k = omega arith in e)

-- All m parts are left at 0, one fewer after each, and none at m.
pub from_all : {A : Type 0} (f : ℕ → List A) (m : ℕ) → flat_from f 0 (m - 0) ≡ flat f m
unfolding flat
from_all f m = flat-then_from f 0 (m - 0) ∙ ap (flat f) (let e : 0 + (m - 0) ≡ m = omega arith in e)

pub from_next : {A : Type 0} (f : ℕ → List A) (m i : ℕ) → i < m → flat_from f i (m - i) ≡ f i ++ flat_from f (i + 1) (m - (i + 1))
unfolding flat_from
from_next f m i h = ap (flat_from f i) (let e : m - i ≡ suc (m - (i + 1)) = omega arith in e)

pub from-none : {A : Type 0} (f : ℕ → List A) (m i : ℕ) → m ≤ i → flat_from f i (m - i) ≡ []
unfolding flat_from
from-none f m i h = ap (flat_from f i) (let e : m - i ≡ 0 = omega arith in e)

-- ---- a test over a list

-- Some element passes the test exactly when one of the list does.
pub any_iff : {A : Type 0} (p : A → Bool) (l : List A) → (any_of p l ≡ true) ↔ ((a : A) × Memᴰ a l × (p a ≡ true))
unfolding any_of
any_iff p [] = (λ e. untrue e, λ h. absurd (Memᴰ.not-nil h.1))
any_iff {A} p (b ∷ l) = let r = any_iff p l in (to (p b) refl r.0, of r.1)
  where
    to : (t : Bool) → p b ≡ t → (any_of p l ≡ true → (a : A) × Memᴰ a l × (p a ≡ true)) → (t || any_of p l) ≡ true → (a : A) × Memᴰ a (b ∷ l) × (p a ≡ true)
    to true e f h = (b, Memᴰ.head refl, e)
    to false e f h = let r = f h in (r.0, Memᴰ.tail r.1, r.2)

    later : (t : Bool) → any_of p l ≡ true → (t || any_of p l) ≡ true
    later true h = refl
    later false h = h

    of : ((a : A) × Memᴰ a l × (p a ≡ true) → any_of p l ≡ true) → (a : A) × Memᴰ a (b ∷ l) × (p a ≡ true) → (p b || any_of p l) ≡ true
    of f (a, m, e) = ⊎_elim (λ q. ap (λ t. t || any_of p l) (subst (λ x. p x ≡ true) q e)) (λ q. later (p b) (f (a, q, e))) (Memᴰ.cases_cons m)
