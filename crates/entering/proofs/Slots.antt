-- Where an interval goes, from the first row that departs at or after it.
use Rattle.std.specs.Prelude.{Some, None, Option}
use Prim.Native.Nat.{ℕ, zero, suc, ◌+◌, ◌-◌, ◌≤◌, ◌<◌}
use mathlib.Core.Path.{◌≡◌, refl, sym, ap, ◌∙◌}
use mathlib.Core.List.{List}
use mathlib.Core.Bool.{Bool, true, false, cond}
use native.Mathlib.Numerals.{add-one}
use native.Mathlib.Omega.{arith}
use lib.ListN.{length, get_or}
use borrow.Author.Tests.{le-leb, lt-leb}
use Rattle.journeys.specs.declared.Interval.{Interval}
use Rattle.journeys.specs.Journey.{interval}
use Rattle.journeys.proofs.Tests.{never}
use Rattle.journeys.proofs.Cover.{departure-path}
use Rattle.journeys.specs.Cell.{Cell, Rising, inside, has_inside}
use Rattle.cells.specs.declared.Row.{Row}
use Rattle.words.specs.Layout.{get}
use Rattle.words.specs.Words.{arrival_field, interval_of}
use Rattle.rules.specs.Layout.{cell_of}
use Rattle.cells.specs.Stored.{RowsInUse, departure_end, arrival_end, front_below}
use Rattle.cells.specs.Rows.{first_departing, interval_found}
use Rattle.cells.proofs.Search.{departure-follows, arrival-follows, front_length, front_at, front-le, front-gt}
use Rattle.cells.proofs.Lent.{row_is}
use Rattle.cells.proofs.Rows.{passes, inside_found, IsRow, first-there, first-not_there}
use Rattle.entering.specs.declared.places.Slot.{Slot}
use Rattle.entering.specs.Slots.{slot_of}
use Rattle.entering.proofs.Front.{past_same, past-other, past-none}
use Rattle.entering.proofs.Splice.{arrive_le}

-- ---- a step back over the rows

module _ (xs : List ℕ) (s : RowsInUse xs) (a : ℕ) where
  -- The arrival of row k is read off the word behind it.
  arrival-read : (k : ℕ) → k < length (cell_of xs) → (get_or (cell_of xs) k (interval_of 0)).arrival ≡ get arrival_field (get_or xs (suc k) 0)
  arrival-read k l = ap arrival_end (row_is xs k l) ∙ rw (add-one k) refl

  -- Where the row before lo arrives before a, so do all rows before lo.
  pub step-stops : (lo : ℕ) → 0 < lo → lo ≤ length (cell_of xs) → get arrival_field (get_or xs lo 0) < a → lo ≤ front_below arrival_end a (cell_of xs)
  step-stops zero p l h = absurd (omega arith)
  step-stops (suc k) p l h = front-gt arrival_end a arrival-follows (cell_of xs) k (interval_of 0) s.rising l (rw (arrival-read k l) h)

  -- Else the rows from it on arrive at or after a.
  pub step-goes : (lo : ℕ) → 0 < lo → lo ≤ length (cell_of xs) → a ≤ get arrival_field (get_or xs lo 0) → front_below arrival_end a (cell_of xs) ≤ lo - 1
  step-goes zero p l h = absurd (omega arith)
  step-goes (suc k) p l h = omega (arith, front-le arrival_end a (cell_of xs) k (interval_of 0) l (rw (arrival-read k l) h))

-- ---- where an interval goes

module _ (i : Interval) (c : Cell) where
  -- The slot that i has where no row lies inside it.
  abbrev open-slot : Slot
  open-slot = record { lo = front_below arrival_end i.arrival c; hi = front_below departure_end (i.departure + 1) c }

  -- Where no row lies inside i, it goes to its slot.
  slot-is : {lo hi : ℕ} → has_inside i c ≡ false → lo ≡ front_below arrival_end i.arrival c → hi ≡ front_below departure_end (i.departure + 1) c
      → Some (record { lo = lo; hi = hi }) ≡ slot_of i c
  unfolding slot_of
  slot-is e p q = rw (e, p, q) refl

  -- Where a row lies inside i, it goes nowhere.
  slot-none : has_inside i c ≡ true → None ≡ slot_of i c
  unfolding slot_of
  slot-none e = rw e refl

  -- A slot says that no row lies inside i, and its ends.
  pub slot-says : {s : Slot} → slot_of i c ≡ Some s
      → (has_inside i c ≡ false) × (s.lo ≡ front_below arrival_end i.arrival c) × (s.hi ≡ front_below departure_end (i.departure + 1) c)
  unfolding slot_of
  slot-says {s} e = go (has_inside i c) refl e
    where
      go : (b : Bool) → has_inside i c ≡ b → cond {A = Option Slot} b None (Some open-slot) ≡ Some s
          → (has_inside i c ≡ false) × (s.lo ≡ front_below arrival_end i.arrival c) × (s.hi ≡ front_below departure_end (i.departure + 1) c)
      go true p q = never cc
      go false p q = let r : s ≡ open-slot = cc in (p, ap (λ (t : Slot). t.lo) r, ap (λ (t : Slot). t.hi) r)

  -- No slot says that a row lies inside i.
  pub no-slot : slot_of i c ≡ None → has_inside i c ≡ true
  unfolding slot_of
  no-slot e = go (has_inside i c) refl e
    where
      go : (b : Bool) → has_inside i c ≡ b → cond {A = Option Slot} b None (Some open-slot) ≡ None → has_inside i c ≡ true
      go true p q = p
      go false p q = never cc

-- In a rising cell f was found for the first row that departs at or after i.
module _ (i : Interval) (c : Cell) {f : Option Row} (up : Rising c) (found : f ≡ first_departing c i.departure) where
  -- What was found decides whether a row lies inside i.
  decides : {h : Option Row} → f ≡ h → has_inside i c ≡ passes (λ j. inside j i) (interval_found h)
  decides q = inside_found i c up (sym q ∙ found)

  -- Where no row departs at or after i, none lies inside, and all rows depart by i.
  pub slot-behind : f ≡ None → {lo hi : ℕ} → lo ≡ front_below arrival_end i.arrival c → hi ≡ length c → Some (record { lo = lo; hi = hi }) ≡ slot_of i c
  slot-behind q p e =
      let l = first-not_there c i.departure found q in
      slot-is i c (decides q) p
      (omega (arith, past-none departure_end departure-follows i.departure c (interval 0 0) up l, front_length departure_end i.departure c))

  module _ {row : Row} (q : f ≡ Some row) where
    there : IsRow c (front_below departure_end i.departure c) row
    there = first-there c i.departure found q

    -- The row stands within the cell.
    pub row_within : row.index < length c
    row_within = let r = there in omega (arith, r.index_is, r.within)

    -- The row departs at or after i.
    departs : i.departure ≤ row.interval.departure
    departs =
        let r = there in
        let e = departure-path r.interval_is in
        omega (arith, front_at departure_end i.departure c (interval 0 0) r.within)

    -- Where it arrives by i's arrival, it lies inside.
    pub row_inside : row.interval.arrival ≤ i.arrival → None ≡ slot_of i c
    row_inside h = slot-none i c (decides q ∙ rw (le-leb i.departure row.interval.departure departs, le-leb row.interval.arrival i.arrival h) refl)

    module _ (h : i.arrival < row.interval.arrival) where
      -- Else none does.
      row-outside : has_inside i c ≡ false
      row-outside = decides q ∙ rw (le-leb i.departure row.interval.departure departs, lt-leb row.interval.arrival i.arrival h) refl

      -- And it and the rows behind it arrive after i.
      pub row-arrives : (front_below arrival_end i.arrival c ≤ row.index) × (row.index ≤ length c)
      row-arrives = let r = there in omega (arith, arrive_le i c (interval 0 0) up row-outside, r.index_is, r.within)

      module _ {lo : ℕ} (p : lo ≡ front_below arrival_end i.arrival c) where
        -- Where it departs when i does, i goes up to the row behind it.
        pub slot-same : row.interval.departure ≡ i.departure → Some (record { lo = lo; hi = row.index + 1 }) ≡ slot_of i c
        slot-same e =
            let r = there in
            slot-is i c row-outside p
            (omega
            (arith, r.index_is, past_same departure_end departure-follows i.departure c (interval 0 0) up r.within (sym (departure-path r.interval_is) ∙ e)))

        -- Else i goes up to the row itself.
        pub slot-other : (row.interval.departure ≡ i.departure → ⊥) → Some (record { lo = lo; hi = row.index }) ≡ slot_of i c
        slot-other n =
            let r = there in
            slot-is i c row-outside p
            (r.index_is ∙ past-other departure_end departure-follows i.departure c (interval 0 0) up r.within (λ e. n (departure-path r.interval_is ∙ e)))
