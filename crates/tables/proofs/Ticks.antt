-- The ticks read off a cell: departures and arrivals lie within their limits, and 0 says that there is none.
use Rattle.std.specs.Prelude.{Option, None, Some, option_map}
use mathlib.Core.Path.{◌≡◌, refl, sym, ap}
use mathlib.Core.Bool.{Bool, true, false, cond}
use mathlib.Core.List.{List, Memᴰ}
use Prim.Native.Nat.{ℕ, ◌+◌, ◌≤◌, ◌<◌}
use native.Mathlib.Omega.{arith}
use Rattle.journeys.specs.declared.Interval.{Interval}
use Rattle.journeys.specs.Cell.{Cell, latest_departure, earliest_arrival}
use Rattle.journeys.proofs.First.{FirstOf, nothing-asked, first-asked, latest-departing, earliest-arriving}
use Rattle.rules.specs.Limits.{max_arrival}
use Rattle.rules.specs.Layout.{animals, cells_of}
use Rattle.rules.specs.Checks.{ValidTable}
use Rattle.rules.proofs.Sound.{table-sizes}
use Rattle.cells.specs.Stored.{or_zero, departure_end, arrival_end}
use Rattle.tables.proofs.Stored.{cell-limits}

-- The tick, if there is one, is at least 1 and below m.
abbrev pub Tick : ℕ → Option ℕ → Type 0
Tick m None = Unit {0}
Tick m (Some t) = (1 ≤ t) × (t < m)

-- A tick written as 0 is none.
pub tick-none : (o : Option ℕ) (r : ℕ) → Tick (max_arrival + 1) o → r ≡ or_zero o → r ≡ 0 → o ≡ None
tick-none None r t e z = refl
tick-none (Some a) r t e z = absurd (omega (arith, t.0))

-- A tick not written as 0 is that tick.
pub tick-some : (o : Option ℕ) (r : ℕ) → r ≡ or_zero o → (r ≡ 0 → ⊥) → o ≡ Some r
tick-some None r e z = absurd (z e)
tick-some (Some a) r e z = ap Some (sym e)

module _ (m : ℕ) where
  -- Written with 0 for none, it is below m.
  pub tick-below : (o : Option ℕ) → 1 ≤ m → Tick m o → or_zero o < m
  tick-below None h p = h
  tick-below (Some t) h p = p.1

  -- One of two.
  pub tick-cond : (b : Bool) (o p : Option ℕ) → Tick m o → Tick m p → Tick m (cond b o p)
  tick-cond true o p h k = h
  tick-cond false o p h k = k

  -- An end of the interval found lies where those of the cell's intervals all lie.
  found-tick : {P : Interval → Type 0} {R : Interval → Interval → Type 0} (f : Interval → ℕ) (c : Cell) {o : Option Interval} → FirstOf P R c o
      → ((i : Interval) → Memᴰ i c → Tick m (Some (f i))) → Tick m (option_map f o)
  found-tick f c (nothing-asked n) h = tt
  found-tick f c (first-asked {i = i} q p l) h = h i q

  -- The latest departure is one of the cell.
  pub latest-tick : (t : ℕ) (c : Cell) → ((i : Interval) → Memᴰ i c → Tick m (Some i.departure)) → Tick m (latest_departure c t)
  unfolding latest_departure
  latest-tick t c = found-tick departure_end c (latest-departing t c)

  -- The earliest arrival is one of the cell.
  pub earliest-tick : (t : ℕ) (c : Cell) → ((i : Interval) → Memᴰ i c → Tick m (Some i.arrival)) → Tick m (earliest_arrival c t)
  unfolding earliest_arrival
  earliest-tick t c = found-tick arrival_end c (earliest-arriving t c)

-- ---- of a table that passes its checks

module _ (T : List ℕ) (p : ValidTable T) (u v : ℕ) (h : u < animals T) (k : v < animals T) where
  -- The earliest arrival, if there is one, is at least 1.
  pub earliest-from_one : (t : ℕ) → Tick (max_arrival + 1) (earliest_arrival (cells_of T u v) t)
  earliest-from_one t =
      let z = table-sizes T in
      earliest-tick (max_arrival + 1) t (cells_of T u v) (λ i q. let l = cell-limits T p u v h k i q in omega (arith, l.departs, l.carried, l.arrives, z.τ-high, z.δ-high))

  -- The latest departure, if there is one, is at least 1.
  pub latest-from_one : (t : ℕ) → Tick (max_arrival + 1) (latest_departure (cells_of T u v) t)
  latest-from_one t =
      let z = table-sizes T in
      latest-tick (max_arrival + 1) t (cells_of T u v) (λ i q. let l = cell-limits T p u v h k i q in omega (arith, l.departs, l.in_time, z.τ-high))
