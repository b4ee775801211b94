-- The departure of the interval of a cell with a given arrival.
use Rattle.std.specs.Prelude.{Option, Some, None}
use mathlib.Core.Path.{◌≡◌, refl, sym, ap, ◌∙◌, subst}
use mathlib.Core.Logic.{◌⊎◌, ⊎_elim}
use mathlib.Core.List.{List, Memᴰ}
use Prim.Native.Nat.{ℕ, ◌≤◌, ◌<◌}
use native.Mathlib.Nat.{le_refl}
use native.Mathlib.Omega.{arith}
use Rattle.journeys.specs.declared.Interval.{Interval}
use Rattle.journeys.specs.Journey.{interval}
use Rattle.journeys.specs.Cell.{Cell, latest_departing}
use Rattle.journeys.proofs.First.{first_some, first-none, latest-departing}
use Rattle.journeys.proofs.Cover.{covers-member, arrival-path, rising-least, one-departure}
use Rattle.rules.specs.Layout.{cell_of}
use Rattle.rules.specs.Chains.{departure_with}
use Rattle.rules.proofs.Leads.{Departing, found, missing, departing, same-arrival}
use Rattle.cells.specs.declared.Row.{Row}
use Rattle.cells.specs.Stored.{Stored}
use Rattle.cells.specs.Rows.{last_arriving, interval_found}
use Rattle.cells.proofs.Rows.{last-latest}
use Rattle.chains.specs.Found.{IsDeparture}

-- An interval of a stored cell departs at a tick.
pub stored-departs : {xs : List ℕ} → Stored xs → (i : Interval) → Memᴰ i (cell_of xs) → IsDeparture i.departure
stored-departs s i m = omega (arith, s.departs i m, s.in_time i m, s.short)

module _ (a b : ℕ) {xs : List ℕ} (s : Stored xs) {f : Option Row} (e : f ≡ last_arriving (cell_of xs) b) where
  abbrev c : Cell
  c = cell_of xs

  -- The row found has the latest departing interval of those that arrive by b.
  latest-is : {g : Option Row} → f ≡ g → latest_departing c b ≡ interval_found g
  latest-is q = sym (last-latest c b s.rising) ∙ ap interval_found (sym e ∙ q)

  -- Where no row arrives by b, none has arrival b.
  pub with_none : f ≡ None → None ≡ departure_with a b c
  with_none q = go (departing a b c)
    where
      go : {o : Option ℕ} → Departing a b c o → None ≡ o
      go (found {d = d} m h) = absurd ((first-none (latest-departing b c)).0 (latest-is q) (interval d b) m (le_refl b))
      go (missing g) = refl

  module _ {row : Row} (q : f ≡ Some row) where
    abbrev kept : Interval
    kept = row.interval

    -- It stands in the cell, arrives by b, and none that does departs later.
    there : Memᴰ kept c × (kept.arrival ≤ b) × ((j : Interval) → Memᴰ j c → j.arrival ≤ b → j.departure ≤ kept.departure)
    there = (first_some (λ i j m n h l. one-departure i j c s.rising m n (omega arith)) (latest-departing b c) kept).0 (latest-is q)

    -- It departs at a tick.
    pub row_departs : IsDeparture kept.departure
    row_departs = stored-departs s kept there.0

    -- Where it departs before a, or does not arrive at b, none with arrival b departs at or after a.
    pub with_other : (kept.arrival ≡ b × kept.departure < a) ⊎ (kept.arrival ≡ b → ⊥) → None ≡ departure_with a b c
    with_other n = go (departing a b c)
      where
        go : {o : Option ℕ} → Departing a b c o → None ≡ o
        go (found {d = d} m h) =
            ⊎_elim (λ l. absurd (omega (arith, l.1, h, there.2 (interval d b) m (le_refl b))))
            (λ n. absurd (n (arrival-path (rising-least (interval d b) c s.rising m (covers-member there.0) (there.2 (interval d b) m (le_refl b), there.1)))))
            n
        go (missing g) = refl

    -- Else its departure is the one.
    pub with_here : kept.arrival ≡ b → a ≤ kept.departure → Some kept.departure ≡ departure_with a b c
    with_here arrives k = go (departing a b c)
      where
        member : Memᴰ (interval kept.departure b) c
        member = subst (λ (w : ℕ). Memᴰ (interval kept.departure w) c) arrives there.0

        go : {o : Option ℕ} → Departing a b c o → Some kept.departure ≡ o
        go (found {d = d} m h) = ap Some (same-arrival c b kept.departure d s.rising member m)
        go (missing g) = absurd (g kept.departure member k)
