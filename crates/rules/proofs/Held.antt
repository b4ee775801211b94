-- The contacts that a table holds: which they are, that they are listed in order, and how many they can be.
use mathlib.Core.Path.{◌≡◌, refl, ap, ◌∙◌, subst}
use mathlib.Core.Logic.{◌↔◌, ◌≢◌}
use mathlib.Core.Bool.{Bool, true}
use mathlib.Core.List.Memᴰ
use mathlib.Core.List.{List, [], Memᴰ}
use Prim.Native.Nat.{ℕ, ◌+◌, ◌-◌, ◌*◌, ◌≤◌, ◌<◌}
use native.Mathlib.Nat.{mul-le-mul_left}
use native.Mathlib.Omega.{arith}
use lib.ListN.{length}
use Rattle.journeys.specs.declared.Contact.{Contact}
use Rattle.journeys.specs.Journey.{contact, Contacts, interval}
use Rattle.journeys.specs.Adding.{Cells}
use Rattle.journeys.proofs.Theorems.{contacts-stand}
use Rattle.rules.specs.Limits.{max_contacts, max_chain}
use Rattle.rules.specs.Layout.{animals, ticks, carry, cells_of}
use Rattle.rules.specs.Checks.{ValidTable}
use Rattle.rules.specs.Adding.{Legal, stands}
use Rattle.rules.specs.Adding as Adding
use Rattle.rules.specs.Logs.{held_contacts}
use Rattle.rules.specs.Fresh.{Fresh}
use Rattle.rules.specs.Orders.{Sorted, Earlier}
use Rattle.rules.proofs.Folds.{passes-iff}
use Rattle.rules.proofs.Sound.{table-sizes, passes-good}
use Rattle.rules.proofs.Changes.{stands-outcome}
use Rattle.rules.proofs.Laid.{Laid, laid-animals, laid-ticks, laid-carry, laid_cells, valid-laid}
use Rattle.rules.proofs.Fresh.{fresh-laid}
use Rattle.rules.proofs.Distinct.{Once}
use Rattle.rules.proofs.LogOrder.{order-sorted, order-once, Listed, order-iff, order-few}

module _ (T : List ℕ) where
  -- The contacts are listed by t, then u, then v, each once.
  pub held-sorted : Sorted Earlier (held_contacts T)
  unfolding held_contacts
  held-sorted = order-sorted (animals T) (ticks T) (Adding.holds T)

  -- No contact is listed twice.
  pub held-once : Once (held_contacts T)
  unfolding held_contacts
  held-once = order-once (animals T) (ticks T) (Adding.holds T)

  -- Which contacts are listed.
  pub held-iff : (k : Contact) → Memᴰ k (held_contacts T) ↔ Listed (animals T) (ticks T) (Adding.holds T) k
  unfolding held_contacts
  held-iff = order-iff (animals T) (ticks T) (Adding.holds T)

-- n·(n−1)·τ contacts, and the two other words of their log, are fewer than the end word's field can say.
pub pairs-few : (T : List ℕ) {m : ℕ} → m ≤ ticks T * (animals T * (animals T - 1)) → m + 2 < max_contacts
pairs-few T {m} h =
    let z = table-sizes T in
    let n = animals T in
    let h₂ : n - 1 ≤ max_chain = omega (arith, z.n_high) in
    let a : n * (n - 1) ≤ n * max_chain = mul-le-mul_left n h₂ in
    let b : n * (n - 1) ≤ 65280 = omega (arith, z.n_high) in
    let c : ticks T * (n * (n - 1)) ≤ ticks T * 65280 = mul-le-mul_left (ticks T) b in
    omega (arith, z.τ-high)

-- A table holds no more than n·(n−1)·τ contacts.
pub held-few : (T : List ℕ) → ValidTable T → length (held_contacts T) + 2 < max_contacts
unfolding held_contacts Adding.holds
held-few T p = pairs-few T (order-few (animals T) (ticks T) (Adding.holds T) (λ u t h. rw ((passes-good T p).diagonal u h) (unfold stands in refl)))

-- ---- on a table laid out from well-formed cells

module _ {n τ δ : ℕ} {C : Cells} {T : List ℕ} (f : Laid n τ δ C T) where
  -- It holds a contact of its animals exactly when its own interval stands in their cell.
  pub laid-holds : (k : Contact) → k.from < n → k.to < n → (Adding.holds T k ≡ true) ↔ Memᴰ (interval k.tick (k.tick + δ)) (C k.from k.to)
  unfolding Adding.holds
  laid-holds k h j = rw (laid-carry f, laid_cells f k.from k.to h j) (passes-iff (stands-outcome (interval k.tick (k.tick + δ)) (C k.from k.to)))

  -- No interval stands in a cell from an animal to itself.
  own-apart : (k : Contact) → Memᴰ (interval k.tick (k.tick + δ)) (C k.from k.to) → k.from ≢ k.to
  own-apart k m e = Memᴰ.not-nil (subst (λ c. Memᴰ (interval k.tick (k.tick + δ)) c) (subst (λ v. C k.from v ≡ []) e (f.formed.diagonal k.from)) m)

  -- Its listed contacts are the legal ones whose own intervals stand.
  pub laid-held : (k : Contact) → Memᴰ k (held_contacts T) ↔ (Legal n τ k × Memᴰ (interval k.tick (k.tick + δ)) (C k.from k.to))
  laid-held k = (to, of)
    where
      to : Memᴰ k (held_contacts T) → Legal n τ k × Memᴰ (interval k.tick (k.tick + δ)) (C k.from k.to)
      to m =
          let l = (held-iff T k).0 m in
          let a : k.from < n = omega (arith, l.from_below, laid-animals f) in
          let b : k.to < n = omega (arith, l.to_below, laid-animals f) in
          let s = (laid-holds k a b).0 l.passes in
          (record { from_below = a; to_below = b; apart = own-apart k s; from_one = l.from_one; to_last = omega (arith, l.to_last, laid-ticks f) }, s)

      of : Legal n τ k × Memᴰ (interval k.tick (k.tick + δ)) (C k.from k.to) → Memᴰ k (held_contacts T)
      of (l, m) =
          (held-iff T k).1
          (record {
            from_below = omega (arith, l.from_below, laid-animals f);
            to_below = omega (arith, l.to_below, laid-animals f);
            from_one = l.from_one;
            to_last = omega (arith, l.to_last, laid-ticks f);
            passes = (laid-holds k l.from_below l.to_below).1 m;
          })

-- The contacts listed of a table that passes 5 and 6 are legal for it.
pub held-legal : (T : List ℕ) → ValidTable T → (k : Contact) → Memᴰ k (held_contacts T) → Legal (animals T) (ticks T) k
held-legal T p k m = ((laid-held (valid-laid T p) k).0 m).0

-- Such a table holds a contact of its animals exactly when it lists it.
pub valid-holds : (T : List ℕ) → ValidTable T → (k : Contact) → k.from < animals T → k.to < animals T → (Adding.holds T k ≡ true) ↔ Memᴰ k (held_contacts T)
valid-holds T p k h j = (to, λ m. ((held-iff T k).0 m).passes)
  where
    to : Adding.holds T k ≡ true → Memᴰ k (held_contacts T)
    to e =
        let f = valid-laid T p in
        let l = (f.formed.cells k.from k.to).limits (interval k.tick (k.tick + carry T)) ((laid-holds f k h j).0 e) in
        (held-iff T k).1 (record { from_below = h; to_below = j; from_one = l.departs; to_last = l.in_time; passes = e })

-- ---- on a fresh table

module _ {n τ δ : ℕ} {S : Contacts} {T : List ℕ} (f : Fresh n τ δ S T) where
  -- The own interval of a contact stands in the cells of a set exactly when the contact is in the set.
  own-iff : (k : Contact) → Memᴰ (interval k.tick (k.tick + δ)) (f.cells k.from k.to) ↔ S k
  own-iff k = (
    λ m. (contacts-stand δ S f.cells f.sizes.δ-low f.minimal k.from k.to k.tick (own-apart (fresh-laid f) k m)).0 m,
    λ s. (contacts-stand δ S f.cells f.sizes.δ-low f.minimal k.from k.to k.tick (f.legal k s).apart).1 s,
  )

  -- A fresh table holds a contact of its animals exactly when it is in its set.
  pub fresh_holds : (k : Contact) → k.from < n → k.to < n → (Adding.holds T k ≡ true) ↔ S k
  fresh_holds k h j = let a = laid-holds (fresh-laid f) k h j in let b = own-iff k in (λ e. b.0 (a.0 e), λ s. a.1 (b.1 s))

  -- Its listed contacts are those of its set.
  pub fresh-held : (k : Contact) → Memᴰ k (held_contacts T) ↔ S k
  fresh-held k = let a = laid-held (fresh-laid f) k in let b = own-iff k in (λ m. b.0 (a.0 m).1, λ s. a.1 (f.legal k s, b.1 s))

-- A table holds a contact where its interval, of which a is the arrival, stands in its cell.
pub holds_at : (T : List ℕ) (u v t a : ℕ) {r : Bool} → a ≡ t + carry T → r ≡ Adding.stands (interval t a) (cells_of T u v) → r ≡ Adding.holds T (contact u v t)
unfolding Adding.holds
holds_at T u v t a e f = f ∙ ap (λ (i : ℕ). Adding.stands (interval t i) (cells_of T u v)) e
