-- Entering an interval that none lies inside: the intervals that contain it stand side by side, and it takes their place.
use Prim.Native.Nat.{ℕ, suc, ◌+◌, ◌≤◌, ◌<◌}
use mathlib.Core.Path.{◌≡◌, refl, ap, ◌∙◌}
use mathlib.Core.Logic.{◌⊎◌, inl, inr, ⊎_elim}
use mathlib.Core.Bool.{Bool, true, false, cond}
use mathlib.Core.List.{[], ◌∷◌, Memᴰ}
use native.Mathlib.Omega.{arith}
use lib.ListN.{length, get_or}
use Rattle.journeys.specs.declared.Interval.{Interval}
use Rattle.journeys.specs.Journey.{Inside}
use Rattle.journeys.specs.Cell.{Cell, Before, Rising, has_inside, without_containing, put_in_order, enter}
use Rattle.journeys.proofs.Tests.{Outcome, holds, fails, le_outcome, lt_outcome, inside-outcome}
use Rattle.journeys.proofs.Cover.{Covers, here, there, member-covers, has_inside-outcome}
use Rattle.cells.specs.Stored.{departure_end, arrival_end, front_below}
use Rattle.entering.specs.Rows.{spliced}
use Rattle.cells.proofs.Search.{arrival-follows, get_d_member, front_length, front-le, front_at}
use Rattle.entering.proofs.Front.{lt_or_ge, front-behind}

-- ---- the rows that contain an interval

-- The cell is empty, or its first interval departs after i.
abbrev DepartsBefore : Interval → Cell → Type 0
DepartsBefore i [] = Unit {0}
DepartsBefore i (j ∷ c) = i.departure < j.departure

-- None of the intervals that depart after i contains it.
without-later : (i : Interval) (c : Cell) → Rising c → DepartsBefore i c → without_containing i c ≡ c
unfolding without_containing
without-later i [] u l = refl
without-later i (j ∷ c) u l = go (inside-outcome i j) (without-later i c u.1 (next c u.0))
  where
    next : (d : Cell) → Before j d → DepartsBefore i d
    next [] h = tt
    next (k ∷ d) h = omega arith

    go : {Q : Type 0} {b : Bool} → Outcome (Inside i j) Q b → without_containing i c ≡ c → cond b (without_containing i c) (j ∷ without_containing i c) ≡ j ∷ c
    go (holds h) r = absurd (omega arith)
    go (fails h) r = ap (λ (d : Cell). j ∷ d) r

-- Those that contain i go and i is put in order: i takes the place of the rows from the first that arrives at or after it to the last that departs
-- at or before it.
put-spliced : (i : Interval) (c : Cell) → Rising c → ¬ Covers i c
    → put_in_order i (without_containing i c) ≡ spliced c (front_below arrival_end i.arrival c) (front_below departure_end (i.departure + 1) c) i
unfolding without_containing put_in_order front_below
put-spliced i [] u n = refl
put-spliced i (j ∷ c) u n =
    go (inside-outcome i j) (lt_outcome j.arrival i.arrival) (lt_outcome j.departure (i.departure + 1)) (put-spliced i c u.1 (λ v. n (there v)))
  where
    kept : Cell
    kept = without_containing i c

    lo : ℕ
    lo = front_below arrival_end i.arrival c

    hi : ℕ
    hi = front_below departure_end (i.departure + 1) c

    next : (d : Cell) → Before j d → i.departure < j.departure → DepartsBefore i d
    next [] h l = tt
    next (k ∷ d) h l = omega arith

    behind : {b : Bool} → j.arrival < i.arrival → Outcome (i.departure < j.departure) (j.departure ≤ i.departure) b
        → put_in_order i kept ≡ spliced c lo hi i
        → cond b (i ∷ j ∷ kept) (j ∷ put_in_order i kept) ≡ j ∷ spliced c lo hi i
    behind h (holds l) r = absurd (n (here (omega arith)))
    behind h (fails l) r = ap (λ (d : Cell). j ∷ d) r

    first : {b : Bool} → i.departure < j.departure → Outcome (i.departure < j.departure) (j.departure ≤ i.departure) b
        → cond b (i ∷ j ∷ kept) (j ∷ put_in_order i kept) ≡ i ∷ j ∷ c
    first h (holds l) = ap (λ (d : Cell). i ∷ j ∷ d) (without-later i c u.1 (next c u.0 h))
    first h (fails l) = absurd (omega arith)

    go : {b x y : Bool} → Outcome (Inside i j) ((i.departure < j.departure) ⊎ (j.arrival < i.arrival)) b
        → Outcome (j.arrival < i.arrival) (i.arrival ≤ j.arrival) x
        → Outcome (j.departure < i.departure + 1) (i.departure + 1 ≤ j.departure) y
        → put_in_order i kept ≡ spliced c lo hi i
        → put_in_order i (cond b kept (j ∷ kept)) ≡ spliced (j ∷ c) (cond x (suc lo) 0) (cond y (suc hi) 0) i
    go (holds h) (holds p) q r = absurd (omega arith)
    go (holds h) (fails p) (holds q) r = r ∙ ap (λ (k : ℕ). spliced c k hi i) (front-behind arrival_end arrival-follows i.arrival j c u p)
    go (holds h) (fails p) (fails q) r = absurd (omega arith)
    go (fails h) (holds p) (holds q) r = behind p (lt_outcome i.departure j.departure) r
    go (fails h) (holds p) (fails q) r = absurd (n (here (omega arith)))
    go (fails (inl h)) (fails p) (holds q) r = absurd (omega arith)
    go (fails (inl h)) (fails p) (fails q) r = first h (lt_outcome i.departure j.departure)
    go (fails (inr h)) (fails p) q r = absurd (omega arith)

-- A test that failed has what holds where it fails.
failed : {P Q : Type 0} {b : Bool} → Outcome P Q b → b ≡ false → Q
failed (holds p) e = let z : ◌≡◌ {A = ℕ} 0 1 = cc in absurd (omega arith)
failed (fails q) e = q

-- Where no interval lies inside i, entering i puts it in the place of the rows that contain it.
pub enter-spliced : (i : Interval) (c : Cell) → Rising c → has_inside i c ≡ false
    → enter i c ≡ spliced c (front_below arrival_end i.arrival c) (front_below departure_end (i.departure + 1) c) i
unfolding enter
enter-spliced i c u e = rw e (put-spliced i c u (failed (has_inside-outcome i c) e))

-- Where one does, nothing changes.
pub enter-same : (i : Interval) (c : Cell) → has_inside i c ≡ true → enter i c ≡ c
unfolding enter
enter-same i c e = rw e refl

-- Where none lies inside i, the rows that depart at or after it arrive after it.
pub arrive_le : (i : Interval) (c : Cell) (z : Interval) → Rising c → has_inside i c ≡ false → front_below arrival_end i.arrival c ≤ front_below departure_end i.departure c
arrive_le i c z u e = ⊎_elim later (λ l. omega (arith, front_length arrival_end i.arrival c)) (lt_or_ge k (length c))
  where
    k : ℕ
    k = front_below departure_end i.departure c

    later : k < length c → front_below arrival_end i.arrival c ≤ k
    later l = go (le_outcome (get_or c k z).arrival i.arrival)
      where
        go : {b : Bool} → Outcome ((get_or c k z).arrival ≤ i.arrival) (i.arrival < (get_or c k z).arrival) b → front_below arrival_end i.arrival c ≤ k
        go (holds h) = absurd (failed (has_inside-outcome i c) e (member-covers (get_d_member c k z l) (front_at departure_end i.departure c z l, h)))
        go (fails h) = front-le arrival_end i.arrival c k z l (omega arith)

-- ---- rows suffice

-- The rows behind i depart at different ticks after it.
rows-from : (τ : ℕ) (i : Interval) (c : Cell) → Rising (i ∷ c) → ((j : Interval) → Memᴰ j (i ∷ c) → j.departure ≤ τ) → i.departure + length c ≤ τ
rows-from τ i [] u f = let r = f i (Memᴰ.head refl) in omega arith
rows-from τ i (j ∷ c) u f = let r = rows-from τ j c u.1 (λ k m. f k (Memᴰ.tail m)) in omega (arith, u.0)

-- A rising cell with departures of 1 to τ has at most τ rows.
pub rows-within : (τ : ℕ) (c : Cell) → Rising c → ((j : Interval) → Memᴰ j c → (1 ≤ j.departure) × (j.departure ≤ τ)) → length c ≤ τ
rows-within τ [] u f = omega arith
rows-within τ (i ∷ c) u f =
    let r = rows-from τ i c u (λ j m. (f j m).1) in
    let l = f i (Memᴰ.head refl) in
    omega (arith, l.0)
