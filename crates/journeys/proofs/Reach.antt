-- Journeys with waiting, on top of the intervals that stand in some cells: whoever is at x at a can be at y by b, by standing still, by an
-- interval of the cells T before, between and after the contacts of S, and by these contacts.
-- Where the cells are empty and the animals differ, that is "some journey lies within [a, b]"; with one contact more it splits in two.
use mathlib.Core.Path.{◌≡◌, refl, sym, subst}
use mathlib.Core.Logic.{◌↔◌, ◌⊎◌, inl, inr, ⊎_elim, ◌≢◌}
use mathlib.Core.List.{[], Memᴰ}
use Prim.Native.Nat.{ℕ, ◌+◌, ◌≤◌}
use native.Mathlib.Nat.{le_refl}
use native.Mathlib.Omega.{arith}
use Rattle.journeys.specs.declared.Contact.{Contact}
use Rattle.journeys.specs.declared.Interval.{Interval}
use Rattle.journeys.specs.Journey.{contact, Contacts, With, interval, Inside, JourneyTo, single, onward, Journey}
use Rattle.journeys.specs.Adding.{Cells}
use Rattle.journeys.proofs.Cover.{Covers, covers-find, covers-wider}

-- From x at a one is at y by b without a contact: by standing still, or by an interval of the cells.
pub data Direct (T : Cells) (x a y b : ℕ) : Type 0 where
  stay : x ≡ y → a ≤ b → Direct T x a y b
  stored : x ≢ y → Covers (interval a b) (T x y) → Direct T x a y b

-- From x at a one can be at y by b.
pub data Reach (T : Cells) (S : Contacts) (δ y b : ℕ) : ℕ → ℕ → Type 0 where
  direct : {x a : ℕ} → Direct T x a y b → Reach T S δ y b x a
  step : {x a : ℕ} (u v t : ℕ) → Direct T x a u t → S (contact u v t) → Reach T S δ y b v (t + δ) → Reach T S δ y b x a

-- No interval of the cells arrives before it departs.
abbrev pub Forward : Cells → Type 0
Forward T = (x y : ℕ) (i : Interval) → Memᴰ i (T x y) → i.departure ≤ i.arrival

-- No intervals at all.
abbrev pub empty : Cells
empty x y = []

pub empty-forward : Forward empty
empty-forward x y i m = elim m [ ]

-- Some journey lies within i.
abbrev pub Within : Contacts → ℕ → ℕ → ℕ → Interval → Type 0
Within S δ x y i = (j : Interval) × Journey S δ x y j × Inside j i

-- ---- time

pub direct-le : {T : Cells} → Forward T → {x a y b : ℕ} → Direct T x a y b → a ≤ b
direct-le w (stay e h) = h
direct-le w {x} {a} {y} {b} (stored n v) = let r = covers-find v in let f = w x y r.0 r.1 in omega (arith, r.2)

direct-wider : {T : Cells} {x a y b : ℕ} (p q : ℕ) → p ≤ a → b ≤ q → Direct T x a y b → Direct T x p y q
direct-wider p q h k (stay e l) = stay e (omega arith)
direct-wider p q h k (stored n v) = stored n (covers-wider (h, k) v)

module _ {T : Cells} {S : Contacts} {δ y b : ℕ} where
  pub reach-le : Forward T → {x a : ℕ} → Reach T S δ y b x a → a ≤ b
  reach-le w (direct g) = direct-le w g
  reach-le w (step u v t g c r) = let h = direct-le w g in let k = reach-le w r in omega arith

  pub reach-wait : {x a : ℕ} (p : ℕ) → p ≤ a → Reach T S δ y b x a → Reach T S δ y b x p
  reach-wait p h (direct g) = direct (direct-wider p b h (omega arith) g)
  reach-wait p h (step u v t g c r) = step u v t (direct-wider p t h (omega arith) g) c r

reach-later : {T : Cells} {S : Contacts} {δ y q x a : ℕ} (b : ℕ) → q ≤ b → Reach T S δ y q x a → Reach T S δ y b x a
reach-later {a = a} b h (direct g) = direct (direct-wider a b (omega arith) h g)
reach-later b h (step u v t g c r) = step u v t g c (reach-later b h r)

-- More contacts reach no less.
pub reach-map : {T : Cells} {S R : Contacts} {δ y b x a : ℕ} → ((k : Contact) → S k → R k) → Reach T S δ y b x a → Reach T R δ y b x a
reach-map f (direct g) = direct g
reach-map f (step u v t g c r) = step u v t g (f (contact u v t) c) (reach-map f r)

-- ---- journeys

module _ {S : Contacts} {δ y b : ℕ} where
  pub journey-reach : {x a : ℕ} → JourneyTo S δ y b x a → Reach empty S δ y b x a
  journey-reach {x} {a} (single c e) = step x y a (stay refl (le_refl a)) c (direct {a = a + δ} (stay refl (omega arith)))
  journey-reach {x} {a} (onward z s c h j) = step x z a (stay refl (le_refl a)) c (reach-wait (a + δ) (omega arith) (journey-reach j))

  -- A journey takes at least the carry time.
  pub journey-carries : {x a : ℕ} → JourneyTo S δ y b x a → a + δ ≤ b
  journey-carries (single c e) = omega arith
  journey-carries (onward z s c h j) = let k = journey-carries j in omega arith

-- Where every contact has its tick in 1 to τ, every journey departs in 1 to τ and arrives by τ + δ.
pub journey-limits : {S : Contacts} {δ y b x a : ℕ} (τ : ℕ) → ((k : Contact) → S k → (1 ≤ k.tick) × (k.tick ≤ τ)) → JourneyTo S δ y b x a
    → (1 ≤ a) × (a ≤ τ) × (b ≤ τ + δ)
journey-limits τ f (single c e) = let h = f _ c in omega arith
journey-limits τ f (onward z s c h j) = let k = f _ c in let r = journey-limits τ f j in omega arith

-- Without intervals one stands still.
stays : {x a y b : ℕ} → Direct empty x a y b → (x ≡ y) × (a ≤ b)
stays (stay e h) = (e, h)
stays (stored n v) = elim v [ ]

reach_split : {S : Contacts} {δ y b x a : ℕ} → Reach empty S δ y b x a → (x ≡ y) ⊎ Within S δ x y (interval a b)
reach_split (direct g) = inl (stays g).0
reach_split {S} {δ} {y} {b} {x} {a} (step u v t g c r) = go (reach_split r)
  where
    from-x : S (contact x v t)
    from-x = subst (λ w. S (contact w v t)) (sym (stays g).0) c

    go : (v ≡ y) ⊎ Within S δ v y (interval (t + δ) b) → (x ≡ y) ⊎ Within S δ x y (interval a b)
    go (inl e) = inr (interval t (t + δ), single (subst (λ w. S (contact x w t)) e from-x) refl, ((stays g).1, reach-le empty-forward r))
    go (inr w) = inr (interval t w.0.arrival, onward v w.0.departure from-x (omega (arith, w.2)) w.1, ((stays g).1, w.2.1))

-- Between different animals, reaching is a journey within the interval.
pub reach-within : {S : Contacts} {δ y b x a : ℕ} → x ≢ y → Reach empty S δ y b x a → Within S δ x y (interval a b)
reach-within n r = ⊎_elim (λ e. absurd (n e)) (λ w. w) (reach_split r)

pub within-reach : {S : Contacts} {δ y b x a : ℕ} → Within S δ x y (interval a b) → Reach empty S δ y b x a
within-reach {b = b} {a = a} w = reach-wait a w.2.0 (reach-later b w.2.1 (journey-reach w.1))

-- ---- one contact more

-- Reach u by t, take a contact (u, v, t), and go on from v at t + δ.
reach-through : {T : Cells} {S : Contacts} {δ u t v x a y b : ℕ} → S (contact u v t) → Reach T S δ u t x a → Reach T S δ y b v (t + δ) → Reach T S δ y b x a
reach-through {u = u} {t = t} {v = v} c (direct g) r = step u v t g c r
reach-through c (step p q s g k l) r = step p q s g k (reach-through c l r)

-- With one contact (u, v, t) more, y is reached exactly when it was without, or u is reached by t and y from v at t + δ.
pub with_iff : {T : Cells} {S : Contacts} {δ y b x a : ℕ} (k : Contact) → Reach T (With S k) δ y b x a
    ↔ (Reach T S δ y b x a ⊎ (Reach T S δ k.from k.tick x a × Reach T S δ y b k.to (k.tick + δ)))
with_iff {T} {S} {δ} {y} {b} k = (of, ⊎_elim more (λ q. reach-through (inr refl) (more q.0) (more q.1)))
  where
    more : {x a z c : ℕ} → Reach T S δ z c x a → Reach T (With S k) δ z c x a
    more r = reach-map (λ c. inl) r

    -- Without the contact, or by it.
    Split : ℕ → ℕ → Type 0
    Split x a = Reach T S δ y b x a ⊎ (Reach T S δ k.from k.tick x a × Reach T S δ y b k.to (k.tick + δ))

    next : {x a : ℕ} (u v t : ℕ) → Direct T x a u t → With S k (contact u v t) → Split v (t + δ) → Split x a
    next u v t g (inl m) (inl q) = inl (step u v t g m q)
    next u v t g (inl m) (inr q) = inr (step u v t g m q.0, q.1)
    next {x} {a} u v t g (inr e) (inl q) = inr (direct (subst (λ (i : Contact). Direct T x a i.from i.tick) e g), subst (λ (i : Contact). Reach T S δ y b i.to (i.tick + δ)) e q)
    next {x} {a} u v t g (inr e) (inr q) = inr (direct (subst (λ (i : Contact). Direct T x a i.from i.tick) e g), q.1)

    of : {x a : ℕ} → Reach T (With S k) δ y b x a → Split x a
    of (direct g) = inl (direct g)
    of (step u v t g c r) = next u v t g c (of r)
