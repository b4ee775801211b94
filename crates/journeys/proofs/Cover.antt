-- A cell is known by what it covers: an interval is covered where some interval of the cell lies inside it.
use Rattle.std.specs.Prelude.{Option, None, Some, option_map}
use mathlib.Core.Path.{◌≡◌, refl, sym, ap, ap₂}
use mathlib.Core.Logic.{◌↔◌, ◌⊎◌, inl, inr, ⊎_elim}
use mathlib.Core.Bool.{Bool, ◌||◌}
use mathlib.Core.List.{[], ◌∷◌, Memᴰ}
use Prim.Native.Nat.{ℕ, ◌≤◌, ◌<◌}
use native.Mathlib.Omega.{arith}
use Rattle.journeys.specs.declared.Interval.{Interval}
use Rattle.journeys.specs.Journey.{interval, Inside}
use Rattle.journeys.specs.Cell.{Cell, Rising, latest_departing, latest_departure, earliest_arrival, has_inside}
use Rattle.journeys.proofs.Tests.{Outcome, holds, fails, either, inside-outcome}
use Rattle.journeys.proofs.First.{FirstOf, nothing-asked, first-asked, first_some, DepartsFrom, ArrivesBy, ArrivesNoLater, DepartsNoEarlier, latest-departing, earliest-arriving}

-- Some interval of the cell lies inside i, or equals it.
pub data Covers (i : Interval) : Cell → Type 0 where
  here : {j : Interval} {c : Cell} → Inside j i → Covers i (j ∷ c)
  there : {j : Interval} {c : Cell} → Covers i c → Covers i (j ∷ c)

abbrev pub SameCover : Cell → Cell → Type 0
SameCover c d = (i : Interval) → Covers i c ↔ Covers i d

pub interval-path : (i j : Interval) → i.departure ≡ j.departure → i.arrival ≡ j.arrival → i ≡ j
interval-path i j p q = λ k. record { departure = p k; arrival = q k }

pub departure-path : {i j : Interval} → i ≡ j → i.departure ≡ j.departure
departure-path e = ap (λ k. k.departure) e

pub arrival-path : {i j : Interval} → i ≡ j → i.arrival ≡ j.arrival
arrival-path e = ap (λ k. k.arrival) e

-- ---- covering and membership

-- A covered interval has an interval of the cell inside it.
pub covers-find : {i : Interval} {c : Cell} → Covers i c → (j : Interval) × Memᴰ j c × Inside j i
covers-find (here {j} {c} h) = (j, Memᴰ.head refl, h)
covers-find (there w) = let r = covers-find w in (r.0, Memᴰ.tail r.1, r.2)

-- An interval of the cell inside i covers i.
pub member-covers : {i j : Interval} {c : Cell} → Memᴰ j c → Inside j i → Covers i c
member-covers {i} {j} (Memᴰ.head {x} {xs} e) h = let p = departure-path e in let q = arrival-path e in here {j = x} (omega arith)
member-covers (Memᴰ.tail m) h = there (member-covers m h)

pub covers-member : {j : Interval} {c : Cell} → Memᴰ j c → Covers j c
covers-member {j} m = member-covers m (omega arith)

pub covers-wider : {i j : Interval} {c : Cell} → Inside i j → Covers i c → Covers j c
covers-wider {i} {j} h v = let r = covers-find v in member-covers r.1 (omega (arith, r.2))

-- Cells with the same members cover the same.
pub members_cover : {c d : Cell} → ((i : Interval) → Memᴰ i c → Memᴰ i d) → (i : Interval) → Covers i c → Covers i d
members_cover f i v = let r = covers-find v in member-covers (f r.0 r.1) r.2

-- ---- rising cells

-- The later rows depart and arrive later than the first.
pub rising-after : {j : Interval} (i : Interval) (c : Cell) → Rising (i ∷ c) → Memᴰ j c → (i.departure < j.departure) × (i.arrival < j.arrival)
rising-after {j} i [] u m = elim m [ ]
rising-after {j} i (x ∷ c) u (Memᴰ.head e) = let p = departure-path e in let q = arrival-path e in omega (arith, u.0)
rising-after {j} i (x ∷ c) u (Memᴰ.tail m) = let r = rising-after x c u.1 m in omega (arith, u.0)

after-covers : {p : Interval} (i : Interval) (c : Cell) → Rising (i ∷ c) → Covers p c → (i.arrival < p.arrival)
after-covers i c u v = let r = covers-find v in let s = rising-after i c u r.1 in omega (arith, r.2)

-- What is covered and lies inside an interval of a rising cell is that interval.
pub rising-least : {p : Interval} (i : Interval) (c : Cell) → Rising c → Memᴰ i c → Covers p c → Inside p i → p ≡ i
rising-least {p} i [] u m _ l = elim m [ ]
rising-least {p} i (x ∷ c) u (Memᴰ.head e) (here h) l =
    let a = departure-path e in
    let b = arrival-path e in
    interval-path p i (omega arith) (omega arith)
rising-least {p} i (x ∷ c) u (Memᴰ.head e) (there v) l = let b = arrival-path e in let r = after-covers x c u v in absurd (omega arith)
rising-least {p} i (x ∷ c) u (Memᴰ.tail m) (here h) l = let r = rising-after x c u m in absurd (omega arith)
rising-least {p} i (x ∷ c) u (Memᴰ.tail m) (there v) l = rising-least i c u.1 m v l

-- In a rising cell two intervals of which one lies inside the other are one.
one_inside : (i j : Interval) (c : Cell) → Rising c → Memᴰ i c → Memᴰ j c → Inside i j ⊎ Inside j i → i ≡ j
one_inside i j c u m n = ⊎_elim (rising-least j c u n (covers-member m)) (λ h. sym (rising-least i c u m (covers-member n) h))

-- So are two with the same arrival.
pub one-arrival : (i j : Interval) (c : Cell) → Rising c → Memᴰ i c → Memᴰ j c → i.arrival ≡ j.arrival → i ≡ j
one-arrival i j c u m n e = one_inside i j c u m n (⊎_elim (λ h. inl (h, omega arith)) (λ h. inr (h, omega arith)) (either j.departure i.departure))

-- And two with the same departure.
pub one-departure : (i j : Interval) (c : Cell) → Rising c → Memᴰ i c → Memᴰ j c → i.departure ≡ j.departure → i ≡ j
one-departure i j c u m n e = one_inside i j c u m n (⊎_elim (λ h. inl (omega arith, h)) (λ h. inr (omega arith, h)) (either i.arrival j.arrival))

-- In a rising cell an interval departs latest, of those that arrive by its own arrival.
pub latest-itself : (i : Interval) (c : Cell) → Rising c → Memᴰ i c → latest_departing c i.arrival ≡ Some i
latest-itself i c u m =
    (first_some (λ j k p q h l. one-departure j k c u p q (omega arith)) (latest-departing i.arrival c) i).1 (m, omega arith, each)
  where
    each : (j : Interval) → Memᴰ j c → j.arrival ≤ i.arrival → j.departure ≤ i.departure
    each j n h = ⊎_elim (λ l. l) (λ l. let e = departure-path (rising-least i c u m (covers-member n) (l, h)) in omega arith) (either j.departure i.departure)

-- ---- a rising cell is known by what it covers

first-arrives : {p : Interval} (i : Interval) (c : Cell) → Rising (i ∷ c) → Covers p (i ∷ c) → i.arrival ≤ p.arrival
first-arrives {p} i c u (here h) = omega arith
first-arrives {p} i c u (there v) = let r = after-covers i c u v in omega arith

first-departs : {p : Interval} (i : Interval) (c : Cell) → Rising (i ∷ c) → Covers p (i ∷ c) → p.arrival ≤ i.arrival → p.departure ≤ i.departure
first-departs {p} i c u (here h) l = omega arith
first-departs {p} i c u (there v) l = let r = after-covers i c u v in absurd (omega arith)

covers-later : {p : Interval} (i : Interval) {c : Cell} → Covers p (i ∷ c) → i.departure < p.departure → Covers p c
covers-later {p} i (here h) l = absurd (omega arith)
covers-later i (there v) l = v

tail-covers : (i j : Interval) (c d : Cell) → i ≡ j → Rising (i ∷ c) → ((p : Interval) → Covers p (i ∷ c) → Covers p (j ∷ d)) → (p : Interval) → Covers p c → Covers p d
tail-covers i j c d e u f p v =
    let r = covers-find v in
    let s = rising-after i c u r.1 in
    let z = departure-path e in
    covers-wider r.2 (covers-later j (f r.0 (there (covers-member r.1))) (omega arith))

-- Two rising cells that cover the same are the same list.
pub same-cover : (c d : Cell) → Rising c → Rising d → SameCover c d → c ≡ d
same-cover [] [] u w f = refl
same-cover [] (j ∷ d) u w f = elim ((f j).1 (covers-member (Memᴰ.head refl))) [ ]
same-cover (i ∷ c) [] u w f = elim ((f i).0 (covers-member (Memᴰ.head refl))) [ ]
same-cover (i ∷ c) (j ∷ d) u w f = ap₂ ◌∷◌ e (same-cover c d u.1 w.1 g)
  where
    ci : Covers i (j ∷ d)
    ci = (f i).0 (covers-member (Memᴰ.head refl))

    cj : Covers j (i ∷ c)
    cj = (f j).1 (covers-member (Memᴰ.head refl))

    q : i.arrival ≡ j.arrival
    q = omega (arith, first-arrives j d w ci, first-arrives i c u cj)

    p : i.departure ≡ j.departure
    p = omega (arith, first-departs j d w ci (omega (arith, q)), first-departs i c u cj (omega (arith, q)))

    e : i ≡ j
    e = interval-path i j p q

    g : SameCover c d
    g k = (tail-covers i j c d e u (λ x. (f x).0) k, tail-covers j i d c (sym e) w (λ x. (f x).1) k)

-- ---- the latest departure and the earliest arrival say what is covered

-- There is a departure, at a or later.
abbrev pub NotBefore : ℕ → Option ℕ → Type 0
NotBefore a None = ⊥
NotBefore a (Some d) = a ≤ d

-- There is an arrival, at b or sooner.
abbrev pub NotAfter : ℕ → Option ℕ → Type 0
NotAfter b None = ⊥
NotAfter b (Some e) = e ≤ b

-- [a, t] is covered exactly when the latest departure with arrival at most t is a or later.
pub latest-iff : (a t : ℕ) (c : Cell) → NotBefore a (latest_departure c t) ↔ Covers (interval a t) c
unfolding latest_departure
latest-iff a t c = go (latest-departing t c)
  where
    go : {o : Option Interval} → FirstOf (ArrivesBy t) DepartsNoEarlier c o → NotBefore a (option_map (λ i. i.departure) o) ↔ Covers (interval a t) c
    go (nothing-asked n) = (λ h. absurd h, λ v. let r = covers-find v in n r.0 r.1 r.2.1)
    go (first-asked m p l) = (λ h. member-covers m (h, p), λ v. let r = covers-find v in omega (arith, r.2, l r.0 r.1 r.2.1))

-- [t, b] is covered exactly when the earliest arrival with departure at least t is b or sooner.
pub earliest-iff : (t b : ℕ) (c : Cell) → NotAfter b (earliest_arrival c t) ↔ Covers (interval t b) c
unfolding earliest_arrival
earliest-iff t b c = go (earliest-arriving t c)
  where
    go : {o : Option Interval} → FirstOf (DepartsFrom t) ArrivesNoLater c o → NotAfter b (option_map (λ i. i.arrival) o) ↔ Covers (interval t b) c
    go (nothing-asked n) = (λ h. absurd h, λ v. let r = covers-find v in n r.0 r.1 r.2.0)
    go (first-asked m p l) = (λ h. member-covers m (p, h), λ v. let r = covers-find v in omega (arith, r.2, l r.0 r.1 r.2.0))

-- ---- the test for an interval inside

pub has_inside-outcome : (i : Interval) (c : Cell) → Outcome (Covers i c) (¬ Covers i c) (has_inside i c)
unfolding has_inside
has_inside-outcome i [] = fails (λ v. elim v [ ])
has_inside-outcome i (j ∷ c) = go (inside-outcome j i) (has_inside-outcome i c)
  where
    miss : (j.departure < i.departure) ⊎ (i.arrival < j.arrival) → ¬ Covers i c → ¬ Covers i (j ∷ c)
    miss o n (here h) = ⊎_elim (λ k. omega arith) (λ k. omega arith) o
    miss o n (there v) = n v

    go : {a b : Bool} → Outcome (Inside j i) ((j.departure < i.departure) ⊎ (i.arrival < j.arrival)) a → Outcome (Covers i c) (¬ Covers i c) b
        → Outcome (Covers i (j ∷ c)) (¬ Covers i (j ∷ c)) (a || b)
    go (holds h) o = holds (here h)
    go (fails h) (holds v) = holds (there v)
    go (fails h) (fails n) = fails (miss h n)
