-- How the departures and arrivals that a contact joins are read off the words, and off arrays.
use Rattle.std.specs.Prelude.{Option, None, Some}
use mathlib.Core.Path.{◌≡◌, refl, ap, ◌∙◌}
use mathlib.Core.List.{List}
use Prim.Native.Nat.{ℕ, zero, suc}
use native.Mathlib.Omega.{arith}
use borrow.Author.Tests.{eq-eqb, ne_eqb}
use Rattle.journeys.specs.Cell.{Cell, latest_departure, earliest_arrival}
use Rattle.rules.specs.Layout.{cell_of}
use Rattle.grid.specs.Cells.{cell_in}
use Rattle.cells.specs.Stored.{or_zero}
use Rattle.tables.proofs.Ticks.{Tick}
use Rattle.adding.specs.Steps.{tick_by, departing, arriving, tick_of}

-- Written with 0 for none, a tick is read again.
pub tick-again : (m : ℕ) (o : Option ℕ) → Tick m o → tick_of (or_zero o) ≡ o
tick-again m None p = refl
tick-again m (Some zero) p = absurd (omega (arith, p.0))
tick-again m (Some (suc t)) p = refl

module _ (look : Cell → ℕ → Option ℕ) (own t x : ℕ) (xs : List ℕ) where
  -- The contact's own animal has the contact's tick.
  pub own-tick : x ≡ own → Some t ≡ tick_by look own t x xs
  own-tick e = rw (eq-eqb x own e) refl

  -- Another has the tick that is looked up in the words lent.
  pub other-tick : (x ≡ own → ⊥) → (lent : List ℕ) (r : Option ℕ) → lent ≡ xs → r ≡ look (cell_of lent) t → r ≡ tick_by look own t x xs
  other-tick h lent r e f = rw (ne_eqb x own h) (f ∙ ap (λ (l : List ℕ). look (cell_of l) t) e)

module _ (n s : ℕ) (body : List ℕ) (u t x : ℕ) where
  -- u departs at t.
  pub departing-self : x ≡ u → Some t ≡ departing n s body u t x
  unfolding departing
  departing-self = own-tick latest_departure u t x (cell_in n s body x u)

  -- Another departs at the latest departure in its cell to u.
  pub departing-other : (x ≡ u → ⊥) → (lent : List ℕ) (r : Option ℕ) → lent ≡ cell_in n s body x u → r ≡ latest_departure (cell_of lent) t → r ≡ departing n s body u t x
  unfolding departing
  departing-other = other-tick latest_departure u t x (cell_in n s body x u)

module _ (n s : ℕ) (body : List ℕ) (v a y : ℕ) where
  -- The contact arrives at v at a.
  pub arriving-self : y ≡ v → Some a ≡ arriving n s body v a y
  unfolding arriving
  arriving-self = own-tick earliest_arrival v a y (cell_in n s body v y)

  -- The arrival at another is the earliest in the cell from v to it.
  pub arriving-other : (y ≡ v → ⊥) → (lent : List ℕ) (r : Option ℕ) → lent ≡ cell_in n s body v y → r ≡ earliest_arrival (cell_of lent) a → r ≡ arriving n s body v a y
  unfolding arriving
  arriving-other = other-tick earliest_arrival v a y (cell_in n s body v y)
