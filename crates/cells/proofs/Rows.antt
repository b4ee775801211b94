-- The row that is looked for in a rising cell: the interval that it has, and what else is read off it.
use Rattle.std.specs.Prelude.{Option, None, Some, option_map}
use mathlib.Core.Path.{◌≡◌, refl, sym, ap, subst, ◌∙◌}
use mathlib.Core.Logic.{⊎_elim}
use mathlib.Core.Bool.{Bool, false, cond}
use mathlib.Core.List.{List, Memᴰ}
use Prim.Native.Nat.{ℕ, zero, suc, ◌+◌, ◌-◌, ◌≤◌, ◌<◌}
use native.Mathlib.Nat.{le_refl}
use native.Mathlib.Omega.{arith}
use lib.ListN.{length, get_or}
use borrow.Author.Tests.{lt-ltb, le-ltb}
use Rattle.journeys.specs.declared.Interval.{Interval}
use Rattle.journeys.specs.Journey.{interval}
use Rattle.journeys.specs.Cell.{Cell, Rising, latest_departing, earliest_arriving, latest_departure, earliest_arrival, inside, has_inside}
use Rattle.journeys.proofs.Tests.{never, Outcome, holds, fails, same_outcome, lt_outcome, inside-outcome}
use Rattle.journeys.proofs.First.{FirstOf, nothing-asked, first-asked, DepartsFrom, ArrivesNoLater, earliest-arriving}
use Rattle.journeys.proofs.Cover.{covers-find, covers-member, member-covers, rising-least, has_inside-outcome}
use Rattle.words.specs.Layout.{get}
use Rattle.words.specs.Words.{rows_field, interval_of}
use Rattle.rules.specs.Layout.{cell_of}
use Rattle.rules.specs.Adding.{same_interval, stands}
use Rattle.rules.proofs.Changes.{same_interval-outcome, stands-outcome}
use Rattle.cells.specs.declared.Row.{Row}
use Rattle.cells.specs.Stored.{RowsInUse, departure_end, arrival_end, front_below}
use Rattle.cells.specs.Rows.{row_at, row_before, first_departing, last_arriving, interval_found}
use Rattle.cells.proofs.Search.{front_length, earliest_none, earliest-some, latest_none, latest-some}
use Rattle.cells.proofs.Lent.{in-use_length, row_is}

-- ---- the row at an index

module _ (c : Cell) (k : ℕ) where
  -- Within the cell it is the interval there.
  pub row_within : k < length c → row_at c k ≡ Some (record { index = k; interval = get_or c k (interval 0 0) })
  unfolding row_at
  row_within l = rw (lt-ltb k (length c) l) refl

  -- Behind it there is none.
  pub row_behind_lem : length c ≤ k → row_at c k ≡ None
  unfolding row_at
  row_behind_lem l = rw (le-ltb k (length c) l) refl

module _ (xs : List ℕ) (s : RowsInUse xs) (n k : ℕ) (e : n ≡ get rows_field (get_or xs 0 0)) where
  -- Behind the rows in use there is no row.
  pub row-missing : n ≤ k → None ≡ row_at (cell_of xs) k
  row-missing l = sym (row_behind_lem (cell_of xs) k (omega (arith, in-use_length xs s)))

  -- Row k is the word at k + 1.
  pub row_read : k < n → {i : Interval} → i ≡ interval_of (get_or xs (k + 1) 0) → Some (record { index = k; interval = i }) ≡ row_at (cell_of xs) k
  row_read l p =
      let h : k < length (cell_of xs) = omega (arith, in-use_length xs s) in
      ap (λ (i : Interval). Some (record { index = k; interval = i })) (p ∙ sym (row_is xs k h)) ∙ sym (row_within (cell_of xs) k h)

-- ---- the last of the rows at the front

module _ (c : Cell) (t : ℕ) {n : ℕ} (e : n ≡ front_below arrival_end (t + 1) c) where
  -- Where no row arrives by t, there is no last.
  pub none-last : (1 ≤ n → ⊥) → None ≡ last_arriving c t
  unfolding last_arriving
  none-last h = let z : 0 ≡ n = omega arith in ap (row_before c) (z ∙ e)

  -- Else it is the last of them.
  pub last-is : {k : ℕ} → (1 ≤ n) × (k ≡ n - 1) → row_at c k ≡ last_arriving c t
  unfolding last_arriving
  last-is {k} h = let z : suc k ≡ n = omega arith in ap (row_before c) (z ∙ e)

-- ---- what a row that is there says

-- The row is row k of the cell.
pub record IsRow (c : Cell) (k : ℕ) (row : Row) : Type 0 where
  pub within : k < length c
  pub index_is : row.index ≡ k
  pub interval_is : row.interval ≡ get_or c k (interval 0 0)

-- A row at the index is that row of the cell.
row-there : (c : Cell) (k : ℕ) {row : Row} → row_at c k ≡ Some row → IsRow c k row
unfolding row_at
row-there c k {row} e = go (lt_outcome k (length c)) e
  where
    go : {b : Bool} → Outcome (k < length c) (length c ≤ k) b → cond b (Some (record { index = k; interval = get_or c k (interval 0 0) })) None ≡ Some row → IsRow c k row
    go (holds l) q =
        let p : row ≡ record { index = k; interval = get_or c k (interval 0 0) } = cc in
        record { within = l; index_is = ap (λ r. r.index) p; interval_is = ap (λ r. r.interval) p }
    go (fails l) q = never cc

-- Where there is none, the cell ends before it.
row-not_there : (c : Cell) (k : ℕ) → row_at c k ≡ None → length c ≤ k
unfolding row_at
row-not_there c k e = go (lt_outcome k (length c)) e
  where
    go : {b : Bool} → Outcome (k < length c) (length c ≤ k) b → cond {A = Option Row} b (Some (record { index = k; interval = get_or c k (interval 0 0) })) None ≡ None → length c ≤ k
    go (holds l) q = never cc
    go (fails l) q = l

module _ (c : Cell) (t : ℕ) {f : Option Row} (e : f ≡ first_departing c t) where
  -- The first row that departs at or after t stands behind those that depart before t.
  pub first-there : {row : Row} → f ≡ Some row → IsRow c (front_below departure_end t c) row
  unfolding first_departing
  first-there q = row-there c (front_below departure_end t c) (sym e ∙ q)

  -- Where there is none, all rows depart before t.
  pub first-not_there : f ≡ None → length c ≤ front_below departure_end t c
  unfolding first_departing
  first-not_there q = row-not_there c (front_below departure_end t c) (sym e ∙ q)

-- ---- the interval of the row

module _ (c : Cell) (t : ℕ) (up : Rising c) where
  -- The first row that departs at or after t has the earliest arriving interval.
  pub first-earliest : interval_found (first_departing c t) ≡ earliest_arriving c t
  unfolding first_departing
  first-earliest = go (lt_outcome (front_below departure_end t c) (length c))
    where
      go : {b : Bool} → Outcome (front_below departure_end t c < length c) (length c ≤ front_below departure_end t c) b → interval_found (row_at c (front_below departure_end t c)) ≡ earliest_arriving c t
      go (holds l) = ap interval_found (row_within c (front_below departure_end t c) l) ∙ sym (earliest-some t c (interval 0 0) up l)
      go (fails l) = ap interval_found (row_behind_lem c (front_below departure_end t c) l) ∙ sym (earliest_none t c (interval 0 0) l)

  -- The last row that arrives by t has the latest departing interval.
  pub last-latest : interval_found (last_arriving c t) ≡ latest_departing c t
  unfolding last_arriving
  last-latest = go (front_below arrival_end (t + 1) c) refl
    where
      go : (k : ℕ) → front_below arrival_end (t + 1) c ≡ k → interval_found (row_before c k) ≡ latest_departing c t
      go zero e = sym (latest_none t c (interval 0 0) up e)
      go (suc k) e = ap interval_found (row_within c k (omega (arith, front_length arrival_end (t + 1) c))) ∙ sym (latest-some t c (interval 0 0) up k e)

  module _ {f : Option Row} where
    -- The departure of the row found, if there is one, is the latest departure.
    pub departure-found : f ≡ last_arriving c t → option_map departure_end (interval_found f) ≡ latest_departure c t
    unfolding latest_departure
    departure-found e = ap (option_map departure_end) (ap interval_found e ∙ last-latest)

    -- The arrival of the row found, if there is one, is the earliest arrival.
    pub arrival-found : f ≡ first_departing c t → option_map arrival_end (interval_found f) ≡ earliest_arrival c t
    unfolding earliest_arrival
    arrival-found e = ap (option_map arrival_end) (ap interval_found e ∙ first-earliest)

-- ---- tests by the earliest arriving interval

-- The interval is there and passes the test.
abbrev pub passes : (Interval → Bool) → Option Interval → Bool
passes test None = false
passes test (Some j) = test j

-- A test that always fails.
never-passes : Outcome ⊥ (Unit {0}) false
never-passes = fails tt

-- An interval of the cell lies inside i exactly when the earliest arriving of those that depart at or after i does.
inside-earliest : (i : Interval) (c : Cell) → has_inside i c ≡ passes (λ j. inside j i) (earliest_arriving c i.departure)
inside-earliest i c = go (earliest-arriving i.departure c)
  where
    go : {o : Option Interval} → FirstOf (DepartsFrom i.departure) ArrivesNoLater c o → has_inside i c ≡ passes (λ j. inside j i) o
    go (nothing-asked n) = same_outcome (λ v u. let r = covers-find v in n r.0 r.1 r.2.0) (λ v e. absurd e) (has_inside-outcome i c) never-passes
    go (first-asked {i = j} m p l) =
        same_outcome (λ v. ⊎_elim (λ h. omega arith) (λ h. let r = covers-find v in omega (arith, r.2, l r.0 r.1 r.2.0))) (λ v h. v (member-covers m h))
        (has_inside-outcome i c) (inside-outcome j i)

-- In a rising cell only the earliest arriving of those that depart at or after i can be i.
stands-earliest : (i : Interval) (c : Cell) → Rising c → stands i c ≡ passes (λ j. same_interval i j) (earliest_arriving c i.departure)
stands-earliest i c up = go (earliest-arriving i.departure c)
  where
    go : {o : Option Interval} → FirstOf (DepartsFrom i.departure) ArrivesNoLater c o → stands i c ≡ passes (λ j. same_interval i j) o
    go (nothing-asked n) = same_outcome (λ m u. n i m (le_refl i.departure)) (λ v e. absurd e) (stands-outcome i c) never-passes
    go (first-asked {i = j} m p l) =
        same_outcome (λ k n. n (sym (rising-least i c up k (covers-member m) (p, l i k (le_refl i.departure))))) (λ n e. n (subst (λ w. Memᴰ w c) (sym e) m))
        (stands-outcome i c) (same_interval-outcome i j)

module _ (i : Interval) (c : Cell) (up : Rising c) {f : Option Row} (e : f ≡ first_departing c i.departure) where
  -- An interval of the cell lies inside i exactly when that of the row found does.
  pub inside_found : has_inside i c ≡ passes (λ j. inside j i) (interval_found f)
  inside_found = inside-earliest i c ∙ ap (passes (λ j. inside j i)) (sym (ap interval_found e ∙ first-earliest c i.departure up))

  -- i stands in the cell exactly when it is the interval of the row found.
  pub stands-found : stands i c ≡ passes (λ j. same_interval i j) (interval_found f)
  stands-found = stands-earliest i c up ∙ ap (passes (λ j. same_interval i j)) (sym (ap interval_found e ∙ first-earliest c i.departure up))
