-- Well-formed cells stay well formed, and have at most τ rows.
use Rattle.std.specs.Prelude.{Option, None, Some}
use mathlib.Core.Path.{◌≡◌, refl, ◌∙◌}
use mathlib.Core.Logic.{◌↔◌, ⊎_elim}
use mathlib.Core.Bool.{Bool, cond}
use mathlib.Core.List.{[], ◌∷◌, Memᴰ}
use Prim.Native.Nat.{ℕ, ◌+◌, ◌≤◌}
use native.Mathlib.Nat.{le_refl}
use native.Mathlib.Omega.{arith}
use lib.ListN.{length}
use Rattle.journeys.specs.declared.Contact.{Contact}
use Rattle.journeys.specs.declared.Interval.{Interval}
use Rattle.journeys.specs.Journey.{interval}
use Rattle.journeys.specs.Cell.{Cell, Rising, Limits, WellFormedCell, latest_departure, earliest_arrival}
use Rattle.journeys.specs.Adding.{Cells, departure_of, arrival_of, enter_both, add, WellFormed}
use Rattle.journeys.proofs.Tests.{Outcome, holds, fails, eq_outcome}
use Rattle.journeys.proofs.Cover.{Covers, covers-find, member-covers, departure-path, arrival-path, NotBefore, NotAfter, latest-iff, earliest-iff}
use Rattle.journeys.proofs.Enter.{enter-members, enter_both-rising}
use Rattle.journeys.proofs.Closed.{add-diagonal}

-- ---- rows

rows_above : (τ : ℕ) (i : Interval) (c : Cell) → Rising (i ∷ c) → ((j : Interval) → Memᴰ j (i ∷ c) → j.departure ≤ τ) → i.departure + length c ≤ τ
rows_above τ i [] u f = let r = f i (Memᴰ.head refl) in omega arith
rows_above τ i (j ∷ c) u f = let r = rows_above τ j c u.1 (λ k m. f k (Memᴰ.tail m)) in omega (arith, u.0)

-- Departures are different ticks of 1 to τ, so a well-formed cell has at most τ rows.
pub rows-suffice : (τ δ : ℕ) (c : Cell) → WellFormedCell τ δ c → length c ≤ τ
rows-suffice τ δ [] w = omega arith
rows-suffice τ δ (i ∷ c) w =
    let r = rows_above τ i c w.rising (λ j m. (w.limits j m).in_time) in
    let l = w.limits i (Memᴰ.head refl) in
    omega (arith, l.departs)

-- ---- the interval that enters lies within its limits

-- The departure, if there is one, is at least 1 and at most t.
abbrev Departs : ℕ → Option ℕ → Type 0
Departs t None = Unit {0}
Departs t (Some d) = (1 ≤ d) × (d ≤ t)

-- The arrival, if there is one, is at least s and at most τ + δ.
abbrev Arrives : ℕ → ℕ → Option ℕ → Type 0
Arrives s m None = Unit {0}
Arrives s m (Some e) = (s ≤ e) × (e ≤ m)

latest-departs : (τ δ t : ℕ) (c : Cell) → WellFormedCell τ δ c → Departs t (latest_departure c t)
latest-departs τ δ t c w = go (latest_departure c t) (λ a. latest-iff a t c)
  where
    go : (o : Option ℕ) → ((a : ℕ) → NotBefore a o ↔ Covers (interval a t) c) → Departs t o
    go None f = tt
    go (Some d) f =
        let r = covers-find ((f d).0 (le_refl d)) in
        let j = r.0 in
        let h : j.departure ≤ d = (f j.departure).1 (member-covers r.1 (le_refl j.departure, r.2.1)) in
        let l = w.limits j r.1 in
        omega (arith, r.2, l.departs, l.carried)

earliest-arrives : (τ δ s : ℕ) (c : Cell) → WellFormedCell τ δ c → Arrives s (τ + δ) (earliest_arrival c s)
earliest-arrives τ δ s c w = go (earliest_arrival c s) (λ b. earliest-iff s b c)
  where
    go : (o : Option ℕ) → ((b : ℕ) → NotAfter b o ↔ Covers (interval s b) c) → Arrives s (τ + δ) o
    go None f = tt
    go (Some e) f =
        let r = covers-find ((f e).0 (le_refl e)) in
        let j = r.0 in
        let h : e ≤ j.arrival = (f j.arrival).1 (member-covers r.1 (r.2.0, le_refl j.arrival)) in
        let l = w.limits j r.1 in
        omega (arith, r.2, l.carried, l.arrives)

module _ (τ δ : ℕ) (T : Cells) (k : Contact) (h₁ : 1 ≤ k.tick) (h₂ : k.tick ≤ τ) where
  departure-departs : (x : ℕ) → WellFormedCell τ δ (T x k.from) → Departs k.tick (departure_of T k x)
  unfolding departure_of
  departure-departs x w = go (eq_outcome x k.from)
    where
      go : {P Q : Type 0} {b : Bool} → Outcome P Q b → Departs k.tick (cond b (Some k.tick) (latest_departure (T x k.from) k.tick))
      go (holds e) = (h₁, le_refl k.tick)
      go (fails n) = latest-departs τ δ k.tick (T x k.from) w

  arrival-arrives : (y : ℕ) → WellFormedCell τ δ (T k.to y) → Arrives (k.tick + δ) (τ + δ) (arrival_of δ T k y)
  unfolding arrival_of
  arrival-arrives y w = go (eq_outcome y k.to)
    where
      go : {P Q : Type 0} {b : Bool} → Outcome P Q b → Arrives (k.tick + δ) (τ + δ) (cond b (Some (k.tick + δ)) (earliest_arrival (T k.to y) (k.tick + δ)))
      go (holds e) = (le_refl (k.tick + δ), omega arith)
      go (fails n) = earliest-arrives τ δ (k.tick + δ) (T k.to y) w

  entered-limits : (d e : Option ℕ) (c : Cell) → Departs k.tick d → Arrives (k.tick + δ) (τ + δ) e → ((i : Interval) → Memᴰ i c → Limits τ δ i)
      → (i : Interval) → Memᴰ i (enter_both d e c) → Limits τ δ i
  unfolding enter_both
  entered-limits None e c p q f i m = f i m
  entered-limits (Some d) None c p q f i m = f i m
  entered-limits (Some d) (Some e) c p q f i m = ⊎_elim new (f i) (enter-members (interval d e) c m)
    where
      new : i ≡ interval d e → Limits τ δ i
      new o =
          let a = departure-path o in
          let b = arrival-path o in
          record { departs = omega arith; in_time = omega arith; carried = omega arith; arrives = omega arith }

  -- A contact at a tick of 1 to τ leaves a cell well formed, if it and the two cells that the rule reads are.
  pub add-cell_well_formed : (x y : ℕ) → WellFormedCell τ δ (T x y) → WellFormedCell τ δ (T x k.from) → WellFormedCell τ δ (T k.to y)
      → WellFormedCell τ δ (add δ T k x y)
  unfolding add
  add-cell_well_formed x y w wd we = go (eq_outcome x y)
    where
      d : Option ℕ
      d = departure_of T k x

      e : Option ℕ
      e = arrival_of δ T k y

      go : {P Q : Type 0} {b : Bool} → Outcome P Q b → WellFormedCell τ δ (cond b (T x y) (enter_both d e (T x y)))
      go (holds o) = w
      go (fails n) =
          record {
            rising = enter_both-rising d e (T x y) w.rising;
            limits = entered-limits d e (T x y) (departure-departs x wd) (arrival-arrives y we) w.limits;
          }

-- On well-formed cells a contact at a tick of 1 to τ leaves well-formed cells.
pub add-well_formed : (τ δ : ℕ) (T : Cells) (k : Contact) → WellFormed τ δ T → 1 ≤ k.tick → k.tick ≤ τ → WellFormed τ δ (add δ T k)
add-well_formed τ δ T k w h₁ h₂ =
    record {
      cells = λ x y. add-cell_well_formed τ δ T k h₁ h₂ x y (w.cells x y) (w.cells x k.from) (w.cells k.to y);
      diagonal = λ x. add-diagonal δ T k x ∙ w.diagonal x;
    }
