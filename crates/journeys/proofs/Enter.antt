-- What entering an interval does to a cell: to its members, to what it covers, to its order.
use Rattle.std.specs.Prelude.{Option, None, Some}
use mathlib.Core.Path.{◌≡◌}
use mathlib.Core.Logic.{◌↔◌, ◌⊎◌, inl, inr, ⊎_elim}
use mathlib.Core.Bool.{Bool, cond}
use mathlib.Core.List.{[], ◌∷◌, Memᴰ}
use Prim.Native.Nat.{ℕ, ◌≤◌, ◌<◌}
use native.Mathlib.Omega.{arith}
use Rattle.journeys.specs.declared.Interval.{Interval}
use Rattle.journeys.specs.Journey.{interval, Inside}
use Rattle.journeys.specs.Cell.{Cell, Before, Rising, without_containing, put_in_order, enter}
use Rattle.journeys.specs.Adding.{enter_both}
use Rattle.journeys.proofs.Tests.{Outcome, holds, fails, lt_outcome, inside-outcome}
use Rattle.journeys.proofs.Cover.{Covers, here, there, covers-find, member-covers, covers-wider, departure-path, arrival-path, NotBefore, NotAfter, has_inside-outcome}

-- ---- members

without-members : (i : Interval) {j : Interval} (c : Cell) → Memᴰ j (without_containing i c) → Memᴰ j c
unfolding without_containing
without-members i [] m = m
without-members i {j} (k ∷ c) m = go (without-members i c) (inside-outcome i k) m
  where
    keep : (Memᴰ j (without_containing i c) → Memᴰ j c) → Memᴰ j (k ∷ without_containing i c) → Memᴰ j (k ∷ c)
    keep r (Memᴰ.head e) = Memᴰ.head e
    keep r (Memᴰ.tail n) = Memᴰ.tail (r n)

    go : {P Q : Type 0} {b : Bool} → (Memᴰ j (without_containing i c) → Memᴰ j c) → Outcome P Q b
        → Memᴰ j (cond b (without_containing i c) (k ∷ without_containing i c)) → Memᴰ j (k ∷ c)
    go r (holds h) n = Memᴰ.tail (r n)
    go r (fails h) n = keep r n

put-members : (i : Interval) {j : Interval} (c : Cell) → Memᴰ j (put_in_order i c) → (j ≡ i) ⊎ Memᴰ j c
unfolding put_in_order
put-members i [] (Memᴰ.head e) = inl e
put-members i [] (Memᴰ.tail m) = inr m
put-members i {j} (k ∷ c) m = go (put-members i c) (lt_outcome i.departure k.departure) m
  where
    front : Memᴰ j (i ∷ k ∷ c) → (j ≡ i) ⊎ Memᴰ j (k ∷ c)
    front (Memᴰ.head e) = inl e
    front (Memᴰ.tail n) = inr n

    behind : (Memᴰ j (put_in_order i c) → (j ≡ i) ⊎ Memᴰ j c) → Memᴰ j (k ∷ put_in_order i c) → (j ≡ i) ⊎ Memᴰ j (k ∷ c)
    behind r (Memᴰ.head e) = inr (Memᴰ.head e)
    behind r (Memᴰ.tail n) = ⊎_elim inl (λ l. inr (Memᴰ.tail l)) (r n)

    go : {P Q : Type 0} {b : Bool} → (Memᴰ j (put_in_order i c) → (j ≡ i) ⊎ Memᴰ j c) → Outcome P Q b
        → Memᴰ j (cond b (i ∷ k ∷ c) (k ∷ put_in_order i c)) → (j ≡ i) ⊎ Memᴰ j (k ∷ c)
    go r (holds h) n = front n
    go r (fails h) n = behind r n

-- A cell that an interval entered holds that interval and intervals it held before.
pub enter-members : (i : Interval) {j : Interval} (c : Cell) → Memᴰ j (enter i c) → (j ≡ i) ⊎ Memᴰ j c
unfolding enter
enter-members i {j} c m = go (has_inside-outcome i c) m
  where
    go : {P Q : Type 0} {b : Bool} → Outcome P Q b → Memᴰ j (cond b c (put_in_order i (without_containing i c))) → (j ≡ i) ⊎ Memᴰ j c
    go (holds h) n = inr n
    go (fails h) n = ⊎_elim inl (λ l. inr (without-members i c l)) (put-members i (without_containing i c) n)

-- ---- covering

without-covers : (i : Interval) {p : Interval} {c : Cell} → Covers p c → Covers p (without_containing i c) ⊎ Inside i p
unfolding without_containing
without-covers i {p} (here {j} {c} h) = go (inside-outcome i j)
  where
    go : {Q : Type 0} {b : Bool} → Outcome (Inside i j) Q b → Covers p (cond b (without_containing i c) (j ∷ without_containing i c)) ⊎ Inside i p
    go (holds k) = inr (omega arith)
    go (fails k) = inl (here h)
without-covers i {p} (there {j} {c} v) = go (without-covers i v) (inside-outcome i j)
  where
    go : {P Q : Type 0} {b : Bool} → Covers p (without_containing i c) ⊎ Inside i p → Outcome P Q b
        → Covers p (cond b (without_containing i c) (j ∷ without_containing i c)) ⊎ Inside i p
    go r (holds k) = r
    go r (fails k) = ⊎_elim (λ w. inl (there w)) inr r

put-covers : (i : Interval) {p : Interval} (c : Cell) → Covers p c ⊎ Inside i p → Covers p (put_in_order i c)
unfolding put_in_order
put-covers i [] (inl v) = elim v [ ]
put-covers i [] (inr h) = here h
put-covers i {p} (j ∷ c) o = go (put-covers i c) (lt_outcome i.departure j.departure) o
  where
    behind : (Covers p c ⊎ Inside i p → Covers p (put_in_order i c)) → Covers p (j ∷ c) ⊎ Inside i p → Covers p (j ∷ put_in_order i c)
    behind r (inl (here h)) = here h
    behind r (inl (there v)) = there (r (inl v))
    behind r (inr h) = there (r (inr h))

    go : {P Q : Type 0} {b : Bool} → (Covers p c ⊎ Inside i p → Covers p (put_in_order i c)) → Outcome P Q b → Covers p (j ∷ c) ⊎ Inside i p
        → Covers p (cond b (i ∷ j ∷ c) (j ∷ put_in_order i c))
    go r (holds h) q = ⊎_elim there here q
    go r (fails h) q = behind r q

-- Entering i covers just what contains i, besides what was covered before.
pub enter-iff : (i p : Interval) (c : Cell) → Covers p (enter i c) ↔ (Covers p c ⊎ Inside i p)
unfolding enter
enter-iff i p c = (of, to (has_inside-outcome i c))
  where
    to : {b : Bool} → Outcome (Covers i c) (¬ Covers i c) b → Covers p c ⊎ Inside i p → Covers p (cond b c (put_in_order i (without_containing i c)))
    to (holds v) o = ⊎_elim (λ w. w) (λ h. covers-wider h v) o
    to (fails n) o = put-covers i (without_containing i c) (⊎_elim (without-covers i) inr o)

    of : Covers p (enter i c) → Covers p c ⊎ Inside i p
    of v =
        let r = covers-find v in
        ⊎_elim (λ e. inr (let a = departure-path e in let b = arrival-path e in omega (arith, r.2))) (λ m. inl (member-covers m r.2))
        (enter-members i c r.1)

-- ---- order

-- Every interval of the cell departs and arrives before i, or departs and arrives after i.
abbrev Crossing : Interval → Cell → Type 0
Crossing i [] = Unit {0}
Crossing i (j ∷ c) = (((j.departure < i.departure) × (j.arrival < i.arrival)) ⊎ ((i.departure < j.departure) × (i.arrival < j.arrival))) × Crossing i c

without-before : (i k : Interval) (c : Cell) → Rising (k ∷ c) → Before k (without_containing i c)
unfolding without_containing
without-before i k [] u = tt
without-before i k (j ∷ c) u = go (without-before i k c) (inside-outcome i j)
  where
    skip : (d : Cell) → Before j d → Before k d
    skip [] h = tt
    skip (l ∷ d) h = omega (arith, u.0)

    go : {P Q : Type 0} {b : Bool} → (Rising (k ∷ c) → Before k (without_containing i c)) → Outcome P Q b → Before k (cond b (without_containing i c) (j ∷ without_containing i c))
    go r (holds h) = r (skip c u.1.0, u.1.1)
    go r (fails h) = u.0

without-rising : (i : Interval) (c : Cell) → Rising c → Rising (without_containing i c)
unfolding without_containing
without-rising i [] u = tt
without-rising i (j ∷ c) u = go (without-rising i c u.1) (inside-outcome i j)
  where
    go : {P Q : Type 0} {b : Bool} → Rising (without_containing i c) → Outcome P Q b → Rising (cond b (without_containing i c) (j ∷ without_containing i c))
    go r (holds h) = r
    go r (fails h) = (without-before i j c u, r)

without-crossing : (i : Interval) (c : Cell) → ¬ Covers i c → Crossing i (without_containing i c)
unfolding without_containing
without-crossing i [] n = tt
without-crossing i (j ∷ c) n = go (inside-outcome j i) (inside-outcome i j) (without-crossing i c (λ v. n (there v)))
  where
    side : (j.departure < i.departure) ⊎ (i.arrival < j.arrival) → (i.departure < j.departure) ⊎ (j.arrival < i.arrival)
        → ((j.departure < i.departure) × (j.arrival < i.arrival)) ⊎ ((i.departure < j.departure) × (i.arrival < j.arrival))
    side (inl a) (inl b) = absurd (omega arith)
    side (inl a) (inr b) = inl (a, b)
    side (inr a) (inl b) = inr (b, a)
    side (inr a) (inr b) = absurd (omega arith)

    go : {a b : Bool} → Outcome (Inside j i) ((j.departure < i.departure) ⊎ (i.arrival < j.arrival)) a
        → Outcome (Inside i j) ((i.departure < j.departure) ⊎ (j.arrival < i.arrival)) b
        → Crossing i (without_containing i c) → Crossing i (cond b (without_containing i c) (j ∷ without_containing i c))
    go (holds h) o r = absurd (n (here h))
    go (fails h) (holds k) r = r
    go (fails h) (fails k) r = (side h k, r)

put-before : (i k : Interval) (c : Cell) → (k.departure < i.departure) × (k.arrival < i.arrival) → Before k c → Before k (put_in_order i c)
unfolding put_in_order
put-before i k [] h u = h
put-before i k (j ∷ c) h u = go (lt_outcome i.departure j.departure)
  where
    go : {P Q : Type 0} {b : Bool} → Outcome P Q b → Before k (cond b (i ∷ j ∷ c) (j ∷ put_in_order i c))
    go (holds l) = h
    go (fails l) = u

put-rising : (i : Interval) (c : Cell) → Rising c → Crossing i c → Rising (put_in_order i c)
unfolding put_in_order
put-rising i [] u x = (tt, tt)
put-rising i (j ∷ c) u x = go (put-rising i c) (lt_outcome i.departure j.departure) x.0
  where
    go : {b : Bool} → (Rising c → Crossing i c → Rising (put_in_order i c)) → Outcome (i.departure < j.departure) (j.departure ≤ i.departure) b
        → ((j.departure < i.departure) × (j.arrival < i.arrival)) ⊎ ((i.departure < j.departure) × (i.arrival < j.arrival))
        → Rising (cond b (i ∷ j ∷ c) (j ∷ put_in_order i c))
    go r (holds h) (inl k) = absurd (omega arith)
    go r (holds h) (inr k) = (k, u)
    go r (fails h) (inl k) = (put-before i j c k u.0, r u.1 x.1)
    go r (fails h) (inr k) = absurd (omega arith)

-- A rising cell stays rising.
pub enter-rising : (i : Interval) (c : Cell) → Rising c → Rising (enter i c)
unfolding enter
enter-rising i c u = go (has_inside-outcome i c)
  where
    go : {b : Bool} → Outcome (Covers i c) (¬ Covers i c) b → Rising (cond b c (put_in_order i (without_containing i c)))
    go (holds v) = u
    go (fails n) = put-rising i (without_containing i c) (without-rising i c u) (without-crossing i c n)

-- ---- where both ends exist

pub enter_both-rising : (d e : Option ℕ) (c : Cell) → Rising c → Rising (enter_both d e c)
unfolding enter_both
enter_both-rising None e c u = u
enter_both-rising (Some d) None c u = u
enter_both-rising (Some d) (Some e) c u = enter-rising (interval d e) c u

pub enter_both-iff : (d e : Option ℕ) (p : Interval) (c : Cell) → Covers p (enter_both d e c) ↔ (Covers p c ⊎ (NotBefore p.departure d × NotAfter p.arrival e))
unfolding enter_both
enter_both-iff None e p c = (inl, ⊎_elim (λ v. v) (λ h. absurd h.0))
enter_both-iff (Some d) None p c = (inl, ⊎_elim (λ v. v) (λ h. absurd h.1))
enter_both-iff (Some d) (Some e) p c = enter-iff (interval d e) p c
