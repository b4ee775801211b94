-- What a search in a rising cell finds: the rows at the front have their end below t, and no other has.
use Rattle.std.specs.Prelude.{None, Some}
use Rattle.std.specs.List.Sorted.{IsPartitionedBy, IsPartitionPoint}
use mathlib.Core.Path.{◌≡◌, refl, sym, ap}
use mathlib.Core.Bool.{Bool, true, false, cond}
use mathlib.Core.List.{List, [], ◌∷◌, map, Memᴰ}
use Prim.Native.Nat.{ℕ, zero, suc, ◌+◌, ◌≤◌, ◌<◌}
use native.Mathlib.Nat.{le_of_eq}
use native.Mathlib.Omega.{arith}
use lib.Dec.{leb}
use lib.ListN.{length, get_or, length-map, get_or-map}
use Rattle.journeys.specs.declared.Interval.{Interval}
use Rattle.journeys.specs.Cell.{Cell, Rising, latest_departing, earliest_arriving}
use Rattle.journeys.proofs.Tests.{untrue, Outcome, holds, fails, le_outcome, lt_outcome}
use Rattle.journeys.proofs.First.{first_some, first-none, latest-departing, earliest-arriving}
use Rattle.journeys.proofs.Cover.{rising-after, one-arrival, one-departure}
use Rattle.words.specs.Words.{interval_of}
use Rattle.cells.specs.Stored.{departure_end, arrival_end, front_below}

-- The end f is later where both departure and arrival are.
abbrev pub Follows : (Interval → ℕ) → Type 0
Follows f = (i j : Interval) → (i.departure < j.departure) × (i.arrival < j.arrival) → f i < f j

-- The departure is such an end.
pub departure-follows : Follows departure_end
departure-follows i j h = h.0

-- The arrival is such an end.
pub arrival-follows : Follows arrival_end
arrival-follows i j h = h.1

-- What stands at an index of the cell is one of its rows.
pub get_d_member : (c : Cell) (k : ℕ) (d : Interval) → k < length c → Memᴰ (get_or c k d) c
get_d_member [] k d l = absurd (omega arith)
get_d_member (i ∷ c) zero d l = Memᴰ.head refl
get_d_member (i ∷ c) (suc k) d l = Memᴰ.tail (get_d_member c k d (omega arith))

-- ---- where a search stops

module _ (f : Interval → ℕ) (t : ℕ) where
  -- A search stops within the cell.
  pub front_length : (c : Cell) → front_below f t c ≤ length c
  unfolding front_below
  front_length [] = omega arith
  front_length (i ∷ c) = go (front_length c) (lt_outcome (f i) t)
    where
      go : {P Q : Type 0} {b : Bool} → front_below f t c ≤ length c → Outcome P Q b → cond b (suc (front_below f t c)) 0 ≤ suc (length c)
      go h (holds k) = omega arith
      go h (fails k) = omega arith

  -- It stops at the latest at a row whose end is t or later.
  pub front-le : (c : Cell) (k : ℕ) (d : Interval) → k < length c → t ≤ f (get_or c k d) → front_below f t c ≤ k
  unfolding front_below
  front-le [] k d l h = omega arith
  front-le (i ∷ c) zero d l h = go (lt_outcome (f i) t)
    where
      go : {b : Bool} → Outcome (f i < t) (t ≤ f i) b → cond b (suc (front_below f t c)) 0 ≤ 0
      go (holds n) = absurd (omega arith)
      go (fails n) = omega arith
  front-le (i ∷ c) (suc k) d l h = go (front-le c k d (omega arith) h) (lt_outcome (f i) t)
    where
      go : {P Q : Type 0} {b : Bool} → front_below f t c ≤ k → Outcome P Q b → cond b (suc (front_below f t c)) 0 ≤ suc k
      go r (holds n) = omega arith
      go r (fails n) = omega arith

  -- Every row before the place has its end below t.
  pub front-before : (c : Cell) (k : ℕ) (d : Interval) → k < front_below f t c → f (get_or c k d) < t
  unfolding front_below
  front-before [] k d l = absurd (omega arith)
  front-before (i ∷ c) k d l = go (front-before c) (lt_outcome (f i) t) k l
    where
      go : {b : Bool} → ((k : ℕ) (d : Interval) → k < front_below f t c → f (get_or c k d) < t) → Outcome (f i < t) (t ≤ f i) b
          → (k : ℕ) → k < cond b (suc (front_below f t c)) 0 → f (get_or (i ∷ c) k d) < t
      go r (holds h) zero m = h
      go r (holds h) (suc k) m = r k d (omega arith)
      go r (fails h) k m = absurd (omega arith)

  -- The row at the place has its end at t or later.
  pub front_at : (c : Cell) (d : Interval) → front_below f t c < length c → t ≤ f (get_or c (front_below f t c) d)
  unfolding front_below
  front_at [] d l = absurd (omega arith)
  front_at (i ∷ c) d l = go (front_at c d) (lt_outcome (f i) t) l
    where
      go : {b : Bool} → (front_below f t c < length c → t ≤ f (get_or c (front_below f t c) d)) → Outcome (f i < t) (t ≤ f i) b
          → cond b (suc (front_below f t c)) 0 < suc (length c) → t ≤ f (get_or (i ∷ c) (cond b (suc (front_below f t c)) 0) d)
      go r (holds h) m = r (omega arith)
      go r (fails h) m = h

  -- In a rising cell it passes every row whose end is below t.
  pub front-gt : Follows f → (c : Cell) (k : ℕ) (d : Interval) → Rising c → k < length c → f (get_or c k d) < t → k < front_below f t c
  unfolding front_below
  front-gt up [] k d u l h = absurd (omega arith)
  front-gt up (i ∷ c) zero d u l h = go (lt_outcome (f i) t)
    where
      go : {b : Bool} → Outcome (f i < t) (t ≤ f i) b → 0 < cond b (suc (front_below f t c)) 0
      go (holds n) = omega arith
      go (fails n) = absurd (omega arith)
  front-gt up (i ∷ c) (suc k) d u l h = go (front-gt up c k d u.1 (omega arith) h) (lt_outcome (f i) t)
    where
      later-end : f i < f (get_or c k d)
      later-end = up i (get_or c k d) (rising-after i c u (get_d_member c k d (omega arith)))

      go : {b : Bool} → k < front_below f t c → Outcome (f i < t) (t ≤ f i) b → suc k < cond b (suc (front_below f t c)) 0
      go r (holds n) = omega arith
      go r (fails n) = absurd (omega (arith, later-end))

  -- A search that stops behind rows with their end below t, in front of rows with theirs at t or later, has found the place.
  pub front-point : (c : Cell) (k : ℕ) (z : Interval) → k ≤ length c → ((m : ℕ) → m < k → f (get_or c m z) < t) → ((m : ℕ) → k ≤ m → m < length c → t ≤ f (get_or c m z))
      → k ≡ front_below f t c
  front-point c k z l below beyond = go (lt_outcome (front_below f t c) k) (lt_outcome k (front_below f t c))
    where
      go : {a b : Bool} → Outcome (front_below f t c < k) (k ≤ front_below f t c) a → Outcome (k < front_below f t c) (front_below f t c ≤ k) b → k ≡ front_below f t c
      go (holds h) q = absurd (omega (arith, below (front_below f t c) h, front_at c z (omega arith)))
      go (fails h) (holds q) = absurd (omega (arith, front-before c k z q, beyond k (omega arith) (omega (arith, front_length c))))
      go (fails h) (fails q) = omega arith

-- ---- the row at the place

-- A row stands at some index.
member-at : {i : Interval} (c : Cell) (z : Interval) → Memᴰ i c → (k : ℕ) × (k < length c) × (get_or c k z ≡ i)
member-at {i = i} [] z x' = elim x' [ ]
member-at (j ∷ c) z (Memᴰ.head e) = (0, omega arith, sym e)
member-at (j ∷ c) z (Memᴰ.tail m) = let r = member-at c z m in (suc r.0, omega (arith, r.1), r.2)

module _ (f : Interval → ℕ) (up : Follows f) where
  -- In a rising cell the end of a later row is later.
  pub rising-at : (c : Cell) (i k : ℕ) (z : Interval) → Rising c → i < k → k < length c → f (get_or c i z) < f (get_or c k z)
  rising-at [] i k z u h l = absurd (omega arith)
  rising-at (x ∷ c) i zero z u h l = absurd (omega arith)
  rising-at (x ∷ c) zero (suc k) z u h l = up x (get_or c k z) (rising-after x c u (get_d_member c k z (omega arith)))
  rising-at (x ∷ c) (suc i) (suc k) z u h l = rising-at c i k z u.1 (omega arith) (omega arith)

  -- The end of the same or a later row is no earlier.
  not-before : (c : Cell) (i k : ℕ) (z : Interval) → Rising c → i ≤ k → k < length c → f (get_or c i z) ≤ f (get_or c k z)
  not-before c i k z u h l = go (lt_outcome i k)
    where
      go : {b : Bool} → Outcome (i < k) (k ≤ i) b → f (get_or c i z) ≤ f (get_or c k z)
      go (holds q) = let r = rising-at c i k z u q l in omega arith
      go (fails q) = let e : i ≡ k = omega arith in le_of_eq (ap (λ (j : ℕ). f (get_or c j z)) e)

module _ (t : ℕ) (c : Cell) (z : Interval) where
  -- Where every row departs before t, no interval is asked for.
  pub earliest_none : length c ≤ front_below departure_end t c → earliest_arriving c t ≡ None
  earliest_none l = (first-none (earliest-arriving t c)).1 each
    where
      each : (j : Interval) → Memᴰ j c → ¬ (t ≤ j.departure)
      each j m h = let r = member-at c z m in omega (arith, r.1, front-le departure_end t c r.0 z r.1 (rw r.2 h))

  module _ (u : Rising c) where
    -- Else the earliest arriving is the first row that departs at or after t.
    pub earliest-some : front_below departure_end t c < length c → earliest_arriving c t ≡ Some (get_or c (front_below departure_end t c) z)
    earliest-some l =
        (first_some (λ i j m n h k. one-arrival i j c u m n (omega arith)) (earliest-arriving t c) (get_or c (front_below departure_end t c) z)).1
        (get_d_member c (front_below departure_end t c) z l, front_at departure_end t c z l, each)
      where
        each : (j : Interval) → Memᴰ j c → t ≤ j.departure → (get_or c (front_below departure_end t c) z).arrival ≤ j.arrival
        each j m h =
            let r = member-at c z m in
            let p = front-le departure_end t c r.0 z r.1 (rw r.2 h) in
            rw r.2 at (not-before arrival_end arrival-follows c (front_below departure_end t c) r.0 z u p r.1)

    -- Where no row at the front arrives by t, no interval is asked for.
    pub latest_none : front_below arrival_end (t + 1) c ≡ 0 → latest_departing c t ≡ None
    latest_none e = (first-none (latest-departing t c)).1 each
      where
        each : (j : Interval) → Memᴰ j c → ¬ (j.arrival ≤ t)
        each j m h = let r = member-at c z m in omega (arith, front-gt arrival_end (t + 1) arrival-follows c r.0 z u r.1 (rw r.2 (let k : j.arrival < t + 1 = omega arith in k)))

    -- Else the latest departing is the last row that arrives by t.
    pub latest-some : (k : ℕ) → front_below arrival_end (t + 1) c ≡ suc k → latest_departing c t ≡ Some (get_or c k z)
    latest-some k e =
        (first_some (λ i j m n h l. one-departure i j c u m n (omega arith)) (latest-departing t c) (get_or c k z)).1
        (get_d_member c k z inside, (let r = front-before arrival_end (t + 1) c k z (omega arith) in omega arith), each)
      where
        inside : k < length c
        inside = omega (arith, front_length arrival_end (t + 1) c)

        each : (j : Interval) → Memᴰ j c → j.arrival ≤ t → j.departure ≤ (get_or c k z).departure
        each j m h =
            let r = member-at c z m in
            let p = front-gt arrival_end (t + 1) arrival-follows c r.0 z u r.1 (rw r.2 (let q : j.arrival < t + 1 = omega arith in q)) in
            rw r.2 at (not-before departure_end departure-follows c r.0 k z u (omega arith) inside)

-- ---- a search of words

module _ (f : Interval → ℕ) (t : ℕ) where
  -- The test is whether the end of a row is below t.
  abbrev pub Tests : (ℕ → Bool) → Type 0
  Tests p = (w : ℕ) → Outcome (f (interval_of w) < t) (t ≤ f (interval_of w)) (p w)

-- That a number is at most t is that it is below t + 1.
pub by-outcome : (a t : ℕ) → Outcome (a < t + 1) (t + 1 ≤ a) (leb a t)
by-outcome a t = go (le_outcome a t)
  where
    go : {b : Bool} → Outcome (a ≤ t) (t < a) b → Outcome (a < t + 1) (t + 1 ≤ a) b
    go (holds h) = holds (omega arith)
    go (fails h) = fails (omega arith)

module _ (f : Interval → ℕ) (up : Follows f) (t : ℕ) (rows : List ℕ) (u : Rising (map interval_of rows)) where
  module _ (p : ℕ → Bool) (o : Tests f t p) where
    -- The rows that pass it stand at the front.
    parted : IsPartitionedBy p rows
    parted i j d l m h = go (o (get_or rows i d)) (o (get_or rows j d)) h
      where
        no-later : f (interval_of (get_or rows i d)) ≤ f (interval_of (get_or rows j d))
        no-later =
            rw (sym (get_or-map interval_of rows i d), sym (get_or-map interval_of rows j d))
            (not-before f up (map interval_of rows) i j (interval_of d) u l (omega (arith, length-map rows interval_of)))

        go : {a b : Bool} → Outcome (f (interval_of (get_or rows i d)) < t) (t ≤ f (interval_of (get_or rows i d))) a
            → Outcome (f (interval_of (get_or rows j d)) < t) (t ≤ f (interval_of (get_or rows j d))) b → b ≡ true → a ≡ true
        go (holds x) y e = refl
        go (fails x) (holds y) e = absurd (omega (arith, no-later))
        go (fails x) (fails y) e = e

    -- Their number is the place.
    pub point-is : (r : ℕ) → r ≤ length rows → (IsPartitionedBy p rows → IsPartitionPoint (λ w. p w ≡ true) (λ w. p w ≡ false) rows r)
        → r ≡ front_below f t (map interval_of rows)
    point-is r l clause =
        let q = clause parted in
        front-point f t (map interval_of rows) r (interval_of 0) (omega (arith, length-map rows interval_of))
        (λ m h. rw (get_or-map interval_of rows m 0) (below (get_or rows m 0) (o (get_or rows m 0)) (q.0 m 0 (omega arith) h)))
        (λ m h n. rw (get_or-map interval_of rows m 0) (beyond (get_or rows m 0) (o (get_or rows m 0)) (q.1 m 0 h (omega (arith, length-map rows interval_of)))))
      where
        below : (w : ℕ) {b : Bool} → Outcome (f (interval_of w) < t) (t ≤ f (interval_of w)) b → b ≡ true → f (interval_of w) < t
        below w (holds x) e = x
        below w (fails x) e = untrue e

        beyond : (w : ℕ) {b : Bool} → Outcome (f (interval_of w) < t) (t ≤ f (interval_of w)) b → b ≡ false → t ≤ f (interval_of w)
        beyond w (holds x) e = untrue (sym e)
        beyond w (fails x) e = x
