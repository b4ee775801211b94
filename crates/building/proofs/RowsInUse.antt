-- A cell's rows in use with other words behind them: what the words say, and the latest departure found in them.
use Rattle.std.specs.Prelude.{None, Some, option_map}
use mathlib.Core.Path.{◌≡◌, refl, sym, ap, subst, ◌∙◌}
use mathlib.Core.Logic.{◌≢◌}
use mathlib.Core.List.{List, ◌++◌, map, Memᴰ}
use Prim.Native.Nat.{ℕ, zero, suc, ◌+◌, ◌≤◌, ◌<◌}
use native.Mathlib.Numerals.{add-one}
use native.Mathlib.Omega.{arith}
use lib.ListN.{length, get_or, take, drop, length-append, length-map}
use lib.Seq.{take_at, drop_at}
use Rattle.journeys.specs.declared.Interval.{Interval}
use Rattle.journeys.specs.Cell.{Cell, Rising, latest_departing, latest_departure}
use Rattle.words.specs.Layout.{get}
use Rattle.words.specs.Words.{rows_field, departure_field, arrival_field, interval_word, interval_of}
use Rattle.words.proofs.Packed.{interval_of-word, rows_of_word}
use Rattle.rules.specs.Limits.{max_ticks, max_arrival, max_cell_words}
use Rattle.rules.specs.Layout.{cell_of}
use Rattle.rules.proofs.Folds.{map_back}
use Rattle.cells.specs.Stored.{RowsInUse, departure_end, arrival_end, front_below}
use Rattle.cells.proofs.Search.{arrival-follows, front_length, front-gt, latest_none, latest-some}
use Rattle.cells.proofs.Lent.{row_is}
use Rattle.building.specs.RowsInUse.{with_rows, InUse}

-- ---- what the words say

module _ (c : Cell) (rest : List ℕ) where
  -- There is one word more than rows and other words.
  pub rows-length : length (with_rows c rest) ≡ length c + length rest + 1
  unfolding with_rows
  rows-length = omega (arith, length-append (map interval_word c) rest, length-map c interval_word)

  -- Behind the rows the other words stand.
  pub rows-rest : drop (length c + 1) (with_rows c rest) ≡ rest
  unfolding with_rows
  rows-rest = rw (add-one (length c)) (drop_at (map interval_word c) rest (length c) (length-map c interval_word))

  -- The words of no more intervals than a cell has rows, none arriving past the last arrival, say these intervals.
  pub rows-again : length c ≤ max_ticks → ((i : Interval) → Memᴰ i c → (i.departure ≤ max_arrival) × (i.arrival ≤ max_arrival))
      → cell_of (with_rows c rest) ≡ c
  unfolding cell_of with_rows
  rows-again l f =
      ap (λ (k : ℕ). map interval_of (take k (map interval_word c ++ rest))) (rows_of_word (length c) (omega arith))
      ∙ ap (map interval_of) (take_at (map interval_word c) rest (length c) (length-map c interval_word))
      ∙ map_back interval_word interval_of c (λ i m. interval_of-word i (omega (arith, (f i m).0)) (omega (arith, (f i m).1)))

  -- The words of a rising cell with such ends, and departures from 1 to the number of rows, are in use.
  pub rows-in_use : length c + length rest ≤ max_ticks → Rising c
      → ((i : Interval) → Memᴰ i c → (1 ≤ i.departure) × (i.departure ≤ length c + length rest) × (i.arrival ≤ max_arrival)) → InUse (with_rows c rest)
  rows-in_use l u f =
      record {
        words = rw again (ap (with_rows c) (sym rows-rest));
        fits = rw again (omega (arith, rows-length));
        short = omega (arith, rows-length);
        rising = rw again u;
        departs = λ i m. (each i m).0;
        in_time = λ i m. omega (arith, each i m, rows-length);
        arrives = λ i m. (each i m).2;
      }
    where
      again : cell_of (with_rows c rest) ≡ c
      again = rows-again (omega arith) (λ i m. omega (arith, f i m))

      each : (i : Interval) → Memᴰ i (cell_of (with_rows c rest))
          → (1 ≤ i.departure) × (i.departure ≤ length c + length rest) × (i.arrival ≤ max_arrival)
      each i m = f i (subst (λ (d : Cell). Memᴰ i d) again m)

-- The count word says how many rows are in use.
pub count-is : (xs : List ℕ) → InUse xs → get rows_field (get_or xs 0 0) ≡ length (cell_of xs)
unfolding with_rows
count-is xs s = ap (λ (l : List ℕ). get rows_field (get_or l 0 0)) s.words ∙ rows_of_word (length (cell_of xs)) (omega (arith, s.fits, s.short))

-- The words of a cell of which n rows are in use.
pub record Counted (n : ℕ) (xs : List ℕ) : Type 0 where
  pub in_use : InUse xs
  pub rows : n ≡ length (cell_of xs)
  pub fits : n < length xs
  pub short : length xs ≤ max_cell_words

-- The count word has been read.
pub counted : {n : ℕ} {xs : List ℕ} → InUse xs → n ≡ get rows_field (get_or xs 0 0) → Counted n xs
counted {n} {xs} s e =
    record { in_use = s; rows = e ∙ count-is xs s; fits = omega (arith, count-is xs s, s.fits); short = s.short }

-- ---- the latest departure

-- A search asks less.
pub searchable : {xs : List ℕ} → InUse xs → RowsInUse xs
searchable {xs} s = record { within = omega (arith, count-is xs s, s.fits); rising = s.rising }

module _ (t : ℕ) {n : ℕ} {xs : List ℕ} (p : Counted n xs) where
  -- No rows, no departure.
  pub latest-empty : n ≡ 0 → None ≡ latest_departure (cell_of xs) t
  unfolding latest_departure
  latest-empty z =
      ap (option_map departure_end)
      (sym (latest_none t (cell_of xs) (interval_of 0) p.in_use.rising (omega (arith, p.rows, front_length arrival_end (t + 1) (cell_of xs)))))

  -- Where the last row arrives by t, its departure is the latest.
  pub latest-last : n ≢ 0 → get arrival_field (get_or xs n 0) ≤ t → Some (get departure_field (get_or xs n 0)) ≡ latest_departure (cell_of xs) t
  unfolding latest_departure
  latest-last = go n p.rows
    where
      go : (n : ℕ) → n ≡ length (cell_of xs) → n ≢ 0 → get arrival_field (get_or xs n 0) ≤ t
          → Some (get departure_field (get_or xs n 0)) ≡ option_map departure_end (latest_departing (cell_of xs) t)
      go zero q z h = absurd (z refl)
      go (suc k) q z h =
          let r : get_or (cell_of xs) k (interval_of 0) ≡ interval_of (get_or xs (suc k) 0) = rw (add-one k) at (row_is xs k (omega arith)) in
          let a : (get_or (cell_of xs) k (interval_of 0)).arrival < t + 1 = rw r (let w : get arrival_field (get_or xs (suc k) 0) < t + 1 = omega arith in w) in
          let f : front_below arrival_end (t + 1) (cell_of xs) ≡ suc k = omega (arith, front-gt arrival_end (t + 1) arrival-follows (cell_of xs) k (interval_of 0) p.in_use.rising (omega arith) a, front_length arrival_end (t + 1) (cell_of xs)) in
          sym (ap (option_map departure_end) (latest-some t (cell_of xs) (interval_of 0) p.in_use.rising k f) ∙ ap (λ (i : Interval). Some (departure_end i)) r)
