-- The interval that is asked for in a cell: of those with a property, the one that comes first in an order.
use Rattle.std.specs.Prelude.{Option, None, Some}
use mathlib.Core.Path.{◌≡◌, refl, sym, subst}
use mathlib.Core.Logic.{◌↔◌}
use mathlib.Core.Bool.{Bool, cond}
use mathlib.Core.List.Memᴰ
use mathlib.Core.List.{[], ◌∷◌, Memᴰ}
use Prim.Native.Nat.{ℕ, ◌≤◌, ◌<◌}
use native.Mathlib.Omega.{arith}
use lib.Dec.{leb}
use Rattle.journeys.specs.declared.Interval.{Interval}
use Rattle.journeys.specs.Cell.{Cell, later, sooner, latest_departing, earliest_arriving}
use Rattle.journeys.proofs.Tests.{never, Outcome, holds, fails, le_outcome}

-- Of the cell's intervals that P asks for, the one that is found comes first in the order R; or P asks for none of them.
pub data FirstOf (P : Interval → Type 0) (R : Interval → Interval → Type 0) (c : Cell) : Option Interval → Type 0 where
  nothing-asked : ((j : Interval) → Memᴰ j c → ¬ P j) → FirstOf P R c None
  first-asked : {i : Interval} → Memᴰ i c → P i → ((j : Interval) → Memᴰ j c → P j → R i j) → FirstOf P R c (Some i)

-- ---- how it is found

module _ (P : Interval → Type 0) (R : Interval → Interval → Type 0) where
  -- In a cell with one interval more that is not asked for it is the same.
  first-passed : {i : Interval} {c : Cell} {o : Option Interval} → ¬ P i → FirstOf P R c o → FirstOf P R (i ∷ c) o
  first-passed {i} {c} n (nothing-asked k) = nothing-asked each
    where
      each : (j : Interval) → Memᴰ j (i ∷ c) → ¬ P j
      each j (Memᴰ.head e) p = n (subst P e p)
      each j (Memᴰ.tail m) p = k j m p
  first-passed {i} {c} n (first-asked {i = k} m p l) = first-asked (Memᴰ.tail m) p each
    where
      each : (j : Interval) → Memᴰ j (i ∷ c) → P j → R k j
      each j (Memᴰ.head e) q = absurd (n (subst P e q))
      each j (Memᴰ.tail m) q = l j m q

  module _ (itself : (i : Interval) → R i i) (through : (i j k : Interval) → R i j → R j k → R i k) where
    -- In a cell with one more that is asked for it is that one, where no other is.
    first_alone : {i : Interval} {c : Cell} → P i → FirstOf P R c None → FirstOf P R (i ∷ c) (Some i)
    first_alone {i} {c} p (nothing-asked n) = first-asked (Memᴰ.head refl) p each
      where
        each : (j : Interval) → Memᴰ j (i ∷ c) → P j → R i j
        each j (Memᴰ.head e) q = subst (R i) (sym e) (itself i)
        each j (Memᴰ.tail m) q = absurd (n j m q)

    -- Else it is the one of the two that comes first.
    first_either : {i k : Interval} {c : Cell} {b : Bool} → P i → Outcome (R i k) (R k i) b → FirstOf P R c (Some k) → FirstOf P R (i ∷ c) (Some (cond b i k))
    first_either {i} {k} {c} p (holds r) (first-asked m q l) = first-asked (Memᴰ.head refl) p each
      where
        each : (j : Interval) → Memᴰ j (i ∷ c) → P j → R i j
        each j (Memᴰ.head e) h = subst (R i) (sym e) (itself i)
        each j (Memᴰ.tail n) h = through i k j r (l j n h)
    first_either {i} {k} {c} p (fails r) (first-asked m q l) = first-asked (Memᴰ.tail m) q each
      where
        each : (j : Interval) → Memᴰ j (i ∷ c) → P j → R k j
        each j (Memᴰ.head e) h = subst (R k) (sym e) r
        each j (Memᴰ.tail n) h = l j n h

    -- What goes through the cell, passes over what is not asked for and keeps the one that comes first, finds it.
    first_found : (asked : Interval → Bool) → ((i : Interval) → Outcome (P i) (¬ P i) (asked i))
        → (ahead : Interval → Interval → Bool) → ((i k : Interval) → Outcome (R i k) (R k i) (ahead i k))
        → (keep : Interval → Option Interval → Option Interval) → ((i : Interval) → keep i None ≡ Some i) → ((i k : Interval) → keep i (Some k) ≡ Some (cond (ahead i k) i k))
        → (find : Cell → Option Interval) → find [] ≡ None → ((i : Interval) (c : Cell) → find (i ∷ c) ≡ cond (asked i) (keep i (find c)) (find c))
        → (c : Cell) → FirstOf P R c (find c)
    first_found asked is-asked ahead is-ahead keep alone either find e s [] = rw e (nothing-asked (λ j m. absurd (Memᴰ.not-nil m)))
    first_found asked is-asked ahead is-ahead keep alone either find e s (i ∷ c) =
        rw (s i c) (go (find c) (is-asked i) (first_found asked is-asked ahead is-ahead keep alone either find e s c))
      where
        go : (o : Option Interval) {b : Bool} → Outcome (P i) (¬ P i) b → FirstOf P R c o → FirstOf P R (i ∷ c) (cond b (keep i o) o)
        go o (fails n) f = first-passed n f
        go None (holds p) f = rw (alone i) (first_alone p f)
        go (Some k) (holds p) f = rw (either i k) (first_either p (is-ahead i k) f)

-- ---- the two that are asked for

-- The interval departs at or after t.
abbrev pub DepartsFrom : ℕ → Interval → Type 0
DepartsFrom t i = t ≤ i.departure

-- The interval arrives by t.
abbrev pub ArrivesBy : ℕ → Interval → Type 0
ArrivesBy t i = i.arrival ≤ t

-- The first arrives no later than the second.
abbrev pub ArrivesNoLater : Interval → Interval → Type 0
ArrivesNoLater i j = i.arrival ≤ j.arrival

-- The first departs no earlier than the second.
abbrev pub DepartsNoEarlier : Interval → Interval → Type 0
DepartsNoEarlier i j = j.departure ≤ i.departure

-- Whether one number is at most another, or the other at most it.
either-outcome : (a b : ℕ) → Outcome (a ≤ b) (b ≤ a) (leb a b)
either-outcome a b = go (le_outcome a b)
  where
    go : {t : Bool} → Outcome (a ≤ b) (b < a) t → Outcome (a ≤ b) (b ≤ a) t
    go (holds h) = holds h
    go (fails h) = fails (omega arith)

-- A number is at most another, or it is not.
not-outcome : (a b : ℕ) → Outcome (a ≤ b) (¬ (a ≤ b)) (leb a b)
not-outcome a b = go (le_outcome a b)
  where
    go : {t : Bool} → Outcome (a ≤ b) (b < a) t → Outcome (a ≤ b) (¬ (a ≤ b)) t
    go (holds h) = holds h
    go (fails h) = fails (λ k. omega arith)

-- Of those that arrive by t the latest departing comes first: none departs later.
pub latest-departing : (t : ℕ) (c : Cell) → FirstOf (ArrivesBy t) DepartsNoEarlier c (latest_departing c t)
unfolding latest_departing later
latest-departing t =
    first_found (ArrivesBy t) DepartsNoEarlier (λ i. omega arith) (λ i j k p q. omega arith)
    (λ i. leb i.arrival t) (λ i. not-outcome i.arrival t) (λ i k. leb k.departure i.departure) (λ i k. either-outcome k.departure i.departure)
    later (λ i. refl) (λ i k. refl) (λ c. latest_departing c t) refl (λ i c. refl)

-- Of those that depart at or after t the earliest arriving comes first: none arrives sooner.
pub earliest-arriving : (t : ℕ) (c : Cell) → FirstOf (DepartsFrom t) ArrivesNoLater c (earliest_arriving c t)
unfolding earliest_arriving sooner
earliest-arriving t =
    first_found (DepartsFrom t) ArrivesNoLater (λ i. omega arith) (λ i j k p q. omega arith)
    (λ i. leb t i.departure) (λ i. not-outcome t i.departure) (λ i k. leb i.arrival k.arrival) (λ i k. either-outcome i.arrival k.arrival)
    sooner (λ i. refl) (λ i k. refl) (λ c. earliest_arriving c t) refl (λ i c. refl)

-- ---- what it says that this one is found

module _ {P : Interval → Type 0} {R : Interval → Interval → Type 0} {c : Cell} where
  -- Where no two intervals of the cell come before each other, i is found exactly when it is asked for and comes before all that are.
  pub first_some : ((i j : Interval) → Memᴰ i c → Memᴰ j c → R i j → R j i → i ≡ j) → {o : Option Interval} → FirstOf P R c o
      → (i : Interval) → (o ≡ Some i) ↔ (Memᴰ i c × P i × ((j : Interval) → Memᴰ j c → P j → R i j))
  first_some one (nothing-asked n) i = (λ e. never cc, λ h. absurd (n i h.0 h.1))
  first_some one (first-asked {i = k} m p l) i = (
    λ e. let q : k ≡ i = cc in subst (λ w. Memᴰ w c × P w × ((j : Interval) → Memᴰ j c → P j → R w j)) q (m, p, l),
    λ h. (λ z. Some (one k i m h.0 (l i h.0 h.1) (h.2 k m p) z)),
  )

  -- What is found stands in the cell.
  pub first_member : {o : Option Interval} → FirstOf P R c o → {i : Interval} → o ≡ Some i → Memᴰ i c
  first_member (nothing-asked n) e = never cc
  first_member (first-asked {i = k} m p l) {i} e = let q : k ≡ i = cc in subst (λ w. Memᴰ w c) q m

  -- Nothing is found exactly when nothing is asked for.
  pub first-none : {o : Option Interval} → FirstOf P R c o → (o ≡ None) ↔ ((j : Interval) → Memᴰ j c → ¬ P j)
  first-none (nothing-asked n) = (λ e. n, λ h. refl)
  first-none (first-asked {i = k} m p l) = (λ e. never cc, λ h. absurd (h k m p))
