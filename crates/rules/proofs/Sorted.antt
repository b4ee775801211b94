-- Lists in strict order: joined end to end, and made part by part.
use mathlib.Core.Path.{◌≡◌, refl, sym, ap₂, ◌∙◌, subst}
use mathlib.Core.Logic.{◌↔◌, ◌⊎◌, inl, inr, ⊎_elim}
use mathlib.Core.Bool.{Bool, true, false, cond}
use mathlib.Core.List.Memᴰ
use mathlib.Core.List.{List, [], ◌∷◌, ◌++◌, Memᴰ}
use Prim.Native.Nat.{ℕ, zero, suc, ◌<◌}
use native.Mathlib.Omega.{arith}
use Rattle.rules.specs.Folds.{flat}
use Rattle.journeys.specs.declared.Contact.{Contact}
use Rattle.rules.specs.Orders.{BeforeHead, Sorted, Earlier, Pair, Lower}
use Rattle.rules.proofs.Folds.{member-flat}
use Rattle.rules.proofs.Distinct.{Once}

module _ {A : Type 0} (R : A → A → Type 0) where
  first-append : (a : A) (l m : List A) → BeforeHead R a l → ((b : A) → Memᴰ b m → R a b) → BeforeHead R a (l ++ m)
  first-append a [] [] h f = tt
  first-append a [] (b ∷ m) h f = f b (Memᴰ.head refl)
  first-append a (b ∷ l) m h f = h

  -- Two sorted lists, every element of the first before every element of the second.
  pub sorted-append : (l m : List A) → Sorted R l → Sorted R m → ((a b : A) → Memᴰ a l → Memᴰ b m → R a b) → Sorted R (l ++ m)
  sorted-append [] m u v f = v
  sorted-append (a ∷ l) m u v f = (
    first-append a l m u.0 (λ b h. f a b (Memᴰ.head refl) h),
    sorted-append l m u.1 v (λ c b h k. f c b (Memᴰ.tail h) k),
  )

  -- Sorted parts, each before the next.
  pub sorted-flat : (f : ℕ → List A) (n : ℕ) → ((k : ℕ) → k < n → Sorted R (f k)) → ((j k : ℕ) → j < k → k < n → (a b : A) → Memᴰ a (f j) → Memᴰ b (f k) → R a b)
      → Sorted R (flat f n)
  unfolding flat
  sorted-flat f zero s h = tt
  sorted-flat f (suc n) s h =
      sorted-append (flat f n) (f n) (sorted-flat f n (λ k l. s k (omega arith)) (λ j k o l. h j k o (omega arith))) (s n (omega arith))
      (λ a b p q. let r = member-flat f n p in h r.0 n r.1 (omega arith) a b r.2 q)

-- One element, where a test passes.
pub sorted-one : {A : Type 0} (R : A → A → Type 0) (t : Bool) (a : A) → Sorted R (cond t (a ∷ []) [])
sorted-one R true a = (tt, tt)
sorted-one R false a = tt

pub member-one : {A : Type 0} (t : Bool) (a b : A) → Memᴰ b (cond t (a ∷ []) []) → (b ≡ a) × (t ≡ true)
member-one {A = A} false a b x' = elim x' [ ]
member-one {A = A} true a b (Memᴰ.tail x6) = elim x6 [ ]
member-one true a b (Memᴰ.head e) = (e, refl)

-- ---- a strictly sorted list is known by its members

-- The first of a sorted list stands before the others.
pub sorted_after : {A : Type 0} (R : A → A → Type 0) → ((a b c : A) → R a b → R b c → R a c) → (a b : A) (l : List A) → Sorted R (a ∷ l) → Memᴰ b l → R a b
sorted_after {A = A} R t a b [] s x'' = elim x'' [ ]
sorted_after R t a b (c ∷ l) s (Memᴰ.head e) = subst (R a) (sym e) s.0
sorted_after R t a b (c ∷ l) s (Memᴰ.tail m) = t a c b s.0 (sorted_after R t c b l s.1 m)

module _ {A : Type 0} (R : A → A → Type 0) (irreflexive : (a : A) → ¬ R a a) (transitive : (a b c : A) → R a b → R b c → R a c) where
  abbrev after : (a b : A) (l : List A) → Sorted R (a ∷ l) → Memᴰ b l → R a b
  after = sorted_after R transitive

  -- No element comes twice in a strictly sorted list.
  pub sorted-once : (l : List A) → Sorted R l → Once l
  sorted-once [] s = tt
  sorted-once (a ∷ l) s = (λ m. irreflexive a (after a a l s m), sorted-once l s.1)

  tail-members : (a b : A) (l m : List A) → a ≡ b → Sorted R (a ∷ l) → ((x : A) → Memᴰ x (a ∷ l) → Memᴰ x (b ∷ m)) → (x : A) → Memᴰ x l → Memᴰ x m
  tail-members a b l m e s f x p = go (Memᴰ.cases_cons (f x (Memᴰ.tail p)))
    where
      go : (x ≡ b) ⊎ Memᴰ x m → Memᴰ x m
      go (inl q) = absurd (irreflexive a (subst (R a) (q ∙ sym e) (after a x l s p)))
      go (inr q) = q

  pub sorted-unique : (l m : List A) → Sorted R l → Sorted R m → ((a : A) → Memᴰ a l ↔ Memᴰ a m) → l ≡ m
  sorted-unique [] [] s u f = refl
  sorted-unique [] (b ∷ m) s u f = absurd (Memᴰ.not-nil ((f b).1 (Memᴰ.head refl)))
  sorted-unique (a ∷ l) [] s u f = absurd (Memᴰ.not-nil ((f a).0 (Memᴰ.head refl)))
  sorted-unique (a ∷ l) (b ∷ m) s u f =
      let e = heads (Memᴰ.cases_cons ((f a).0 (Memᴰ.head refl))) (Memᴰ.cases_cons ((f b).1 (Memᴰ.head refl))) in
      ap₂ ◌∷◌ e (sorted-unique l m s.1 u.1 (λ x. (tail-members a b l m e s (λ y. (f y).0) x, tail-members b a m l (sym e) u (λ y. (f y).1) x)))
    where
      heads : (a ≡ b) ⊎ Memᴰ a m → (b ≡ a) ⊎ Memᴰ b l → a ≡ b
      heads (inl e) q = e
      heads (inr p) (inl e) = sym e
      heads (inr p) (inr q) = absurd (irreflexive a (transitive a b a (after a b l s q) (after b a m u p)))

-- The order of two numbers, the first deciding.
then-below : (a b c p q r : ℕ) → (a < b) ⊎ ((a ≡ b) × (p < q)) → (b < c) ⊎ ((b ≡ c) × (q < r)) → (a < c) ⊎ ((a ≡ c) × (p < r))
then-below a b c p q r (inl h) (inl k) = inl (omega arith)
then-below a b c p q r (inl h) (inr k) = inl (omega (arith, k.0))
then-below a b c p q r (inr h) (inl k) = inl (omega (arith, h.0))
then-below a b c p q r (inr h) (inr k) = inr (h.0 ∙ k.0, omega (arith, h.1, k.1))

pub lower-irreflexive : (p : Pair) → ¬ Lower p p
lower-irreflexive p (inl h) = omega arith
lower-irreflexive p (inr h) = omega (arith, h.1)

pub lower-transitive : (p q r : Pair) → Lower p q → Lower q r → Lower p r
lower-transitive p q r h k = then-below p.from q.from r.from p.to q.to r.to h k

pub earlier-irreflexive : (k : Contact) → ¬ Earlier k k
earlier-irreflexive k (inl h) = omega arith
earlier-irreflexive k (inr h) = ⊎_elim (λ a. omega arith) (λ a. omega (arith, a.1)) h.1

pub earlier-transitive : (a b c : Contact) → Earlier a b → Earlier b c → Earlier a c
earlier-transitive a b c (inl h) (inl k) = inl (omega arith)
earlier-transitive a b c (inl h) (inr k) = inl (omega (arith, k.0))
earlier-transitive a b c (inr h) (inl k) = inl (omega (arith, h.0))
earlier-transitive a b c (inr h) (inr k) = inr (h.0 ∙ k.0, then-below a.from b.from c.from a.to b.to c.to h.1 k.1)
