-- Contacts listed in log order by a test: which they are, that they are in order, and how many they can be.
use mathlib.Core.Path.{◌≡◌, refl, sym, ap, ◌∙◌, subst}
use mathlib.Core.Logic.{◌↔◌, inl, inr}
use mathlib.Core.Bool.{Bool, true, false, cond}
use mathlib.Core.List.{List, [], ◌∷◌, Memᴰ}
use Prim.Native.Nat.{ℕ, ◌+◌, ◌-◌, ◌*◌, ◌≤◌, ◌<◌}
use native.Mathlib.Omega.{arith}
use lib.ListN.{length}
use Rattle.journeys.specs.declared.Contact.{Contact}
use Rattle.journeys.specs.Journey.{contact}
use Rattle.rules.specs.Folds.{flat}
use Rattle.rules.specs.Orders.{Sorted, Earlier, listed, in_log_order}
use Rattle.rules.proofs.Folds.{flat-few, flat-skip, flat-member, member-flat}
use Rattle.rules.proofs.Distinct.{Once}
use Rattle.rules.proofs.Sorted.{sorted-flat, sorted-one, member-one, sorted-once, earlier-irreflexive, earlier-transitive}

module _ (n τ : ℕ) (p : Contact → Bool) where
  -- The contacts of tick t + 1 from animal u.
  abbrev row : ℕ → ℕ → List Contact
  row t u = flat (λ v. listed p (contact u v (t + 1))) n

  -- The contacts of tick t + 1.
  abbrev rows : ℕ → List Contact
  rows t = flat (row t) n

  -- Where a listed contact stands.
  record At (t : ℕ) (k : Contact) : Type 0 where
    pub from_below : k.from < n
    pub to_below : k.to < n
    pub tick_is : k.tick ≡ t + 1
    pub passes : p k ≡ true

  listed_at : (u v t : ℕ) (k : Contact) → Memᴰ k (listed p (contact u v (t + 1))) → (k ≡ contact u v (t + 1)) × (p k ≡ true)
  unfolding listed
  listed_at u v t k m = let r = member-one (p (contact u v (t + 1))) (contact u v (t + 1)) k m in (r.0, subst (λ c. p c ≡ true) (sym r.0) r.1)

  row-at : (t u : ℕ) (k : Contact) → u < n → Memᴰ k (row t u) → (k.from ≡ u) × At t k
  row-at t u k h m =
      let r = member-flat (λ v. listed p (contact u v (t + 1))) n m in
      let e = listed_at u r.0 t k r.2 in
      let f = ap (λ c. c.from) e.0 in
      let g = ap (λ c. c.to) e.0 in
      (f, record { from_below = omega arith; to_below = omega (arith, r.1); tick_is = ap (λ c. c.tick) e.0; passes = e.1 })

  rows_at : (t : ℕ) (k : Contact) → Memᴰ k (rows t) → At t k
  rows_at t k m = let r = member-flat (row t) n m in (row-at t r.0 k r.1 r.2).1

  one-sorted : (k : Contact) → Sorted Earlier (listed p k)
  unfolding listed
  one-sorted k = sorted-one Earlier (p k) k

  row-sorted : (t u : ℕ) → Sorted Earlier (row t u)
  row-sorted t u = sorted-flat Earlier (λ v. listed p (contact u v (t + 1))) n (λ v h. one-sorted (contact u v (t + 1))) order
    where
      order : (i j : ℕ) → i < j → j < n → (a b : Contact) → Memᴰ a (listed p (contact u i (t + 1))) → Memᴰ b (listed p (contact u j (t + 1))) → Earlier a b
      order i j o h a b r q =
          let e = (listed_at u i t a r).0 in
          let f = (listed_at u j t b q).0 in
          let g = ap (λ c. c.to) e in
          let l = ap (λ c. c.to) f in
          inr (ap (λ c. c.tick) e ∙ sym (ap (λ c. c.tick) f), inr (ap (λ c. c.from) e ∙ sym (ap (λ c. c.from) f), omega arith))

  rows-sorted : (t : ℕ) → Sorted Earlier (rows t)
  rows-sorted t = sorted-flat Earlier (row t) n (λ u h. row-sorted t u) order
    where
      order : (i j : ℕ) → i < j → j < n → (a b : Contact) → Memᴰ a (row t i) → Memᴰ b (row t j) → Earlier a b
      order i j o h a b r q =
          let e = row-at t i a (omega arith) r in
          let f = row-at t j b h q in
          inr (e.1.tick_is ∙ sym f.1.tick_is, inl (omega (arith, e.0, f.0)))

  -- They are listed by t, then u, then v.
  pub order-sorted : Sorted Earlier (in_log_order n τ p)
  unfolding in_log_order
  order-sorted = sorted-flat Earlier rows τ (λ t h. rows-sorted t) order
    where
      order : (i j : ℕ) → i < j → j < τ → (a b : Contact) → Memᴰ a (rows i) → Memᴰ b (rows j) → Earlier a b
      order i j o h a b r q = inl (omega (arith, (rows_at i a r).tick_is, (rows_at j b q).tick_is))

  -- None is listed twice.
  pub order-once : Once (in_log_order n τ p)
  order-once = sorted-once Earlier earlier-irreflexive earlier-transitive (in_log_order n τ p) order-sorted

  -- Which contacts are listed.
  pub record Listed (k : Contact) : Type 0 where
    pub from_below : k.from < n
    pub to_below : k.to < n
    pub from_one : 1 ≤ k.tick
    pub to_last : k.tick ≤ τ
    pub passes : p k ≡ true

  pub order-iff : (k : Contact) → Memᴰ k (in_log_order n τ p) ↔ Listed k
  unfolding in_log_order listed
  order-iff k = (to, of)
    where
      to : Memᴰ k (in_log_order n τ p) → Listed k
      to m =
          let r = member-flat rows τ m in
          let a = rows_at r.0 k r.2 in
          record { from_below = a.from_below; to_below = a.to_below; from_one = omega (arith, a.tick_is); to_last = omega (arith, a.tick_is, r.1); passes = a.passes }

      here : p k ≡ true → Memᴰ k (listed p k)
      here e = subst (λ b. Memᴰ k (cond b (k ∷ []) [])) (sym e) (Memᴰ.head refl)

      of : Listed k → Memᴰ k (in_log_order n τ p)
      of l =
          let t : ℕ = k.tick - 1 in
          let e : t + 1 ≡ k.tick = omega (arith, l.from_one) in
          flat-member rows τ t (omega (arith, l.from_one, l.to_last))
          (flat-member (row t) n k.from l.from_below
          (flat-member (λ v. listed p (contact k.from v (t + 1))) n k.to l.to_below
          (subst (λ s. Memᴰ k (listed p (contact k.from k.to s))) (sym e) (here l.passes))))

  at_most_one : (b : Bool) (k : Contact) → length (cond b (k ∷ []) []) ≤ 1
  at_most_one true k = omega arith
  at_most_one false k = omega arith

  -- Where no contact of an animal with itself passes, they are n·(n−1)·τ at most.
  pub order-few : ((u t : ℕ) → u < n → p (contact u u t) ≡ false) → length (in_log_order n τ p) ≤ τ * (n * (n - 1))
  unfolding in_log_order listed
  order-few none = flat-few rows (n * (n - 1)) τ (λ t h. flat-few (row t) (n - 1) n (λ u k. one-row t u k))
    where
      one-row : (t u : ℕ) → u < n → length (row t u) ≤ n - 1
      one-row t u h =
          let e : length (listed p (contact u u (t + 1))) ≡ 0 = rw (none u (t + 1) h) refl in
          let a = flat-skip (λ v. listed p (contact u v (t + 1))) u n h (λ v. at_most_one (p (contact u v (t + 1))) (contact u v (t + 1))) e in
          omega arith
