-- An interval put at the end of a cell's rows in use.
use mathlib.Core.Path.{◌≡◌, refl, sym, ap, ap₂, ◌∙◌}
use mathlib.Core.List.{List, [], ◌∷◌, ◌++◌, map, append_assoc}
use Prim.Native.Nat.{ℕ, zero, suc, ◌+◌, ◌-◌, ◌≤◌, ◌<◌}
use native.Mathlib.Numerals.{add-one}
use native.Mathlib.Omega.{arith}
use lib.ListN.{length, get_or, take, drop, set, length-append, length-take, length-drop}
use lib.Seq.{take_all, take-suc}
use borrow.Author.Tests.{le-leb, lt-leb}
use Rattle.journeys.specs.declared.Interval.{Interval}
use Rattle.journeys.specs.Cell.{Cell}
use Rattle.journeys.proofs.Cover.{departure-path}
use Rattle.words.specs.Layout.{get}
use Rattle.words.specs.Words.{count_word, departure_field, arrival_field, interval_word, interval_of}
use Rattle.rules.specs.Layout.{cell_of}
use Rattle.cells.proofs.Lent.{row_is}
use Rattle.building.specs.RowsInUse.{put_last, with_rows, put_words}
use Rattle.building.proofs.TickOrder.{rising-late}
use Rattle.building.proofs.RowsInUse.{Counted}

-- Only the last interval of a cell decides.
put-behind : (i j : Interval) (b : Cell) → put_last i (b ++ (j ∷ [])) ≡ b ++ put_last i (j ∷ [])
unfolding put_last
put-behind i j [] = refl
put-behind i j (k ∷ []) = refl
put-behind i j (k ∷ l ∷ b) = ap (λ (c : Cell). k ∷ c) (put-behind i j (l ∷ b))

-- A row's word stored behind the first m rows.
set-row : (c : Cell) (m : ℕ) (i : Interval) (rest : List ℕ) → m ≤ length c → m < length c + length rest
    → set (map interval_word c ++ rest) m (interval_word i) ≡ map interval_word (take m c ++ (i ∷ [])) ++ drop (suc m) (map interval_word c ++ rest)
set-row [] zero i [] h l = absurd (omega arith)
set-row [] zero i (x ∷ rest) h l = refl
set-row [] (suc m) i rest h l = absurd (omega arith)
set-row (j ∷ c) zero i rest h l = refl
set-row (j ∷ c) (suc m) i rest h l = ap (λ (ws : List ℕ). interval_word j ∷ ws) (set-row c m i rest (omega arith) (omega arith))

-- The interval goes behind all rows of the cell, which are fewer than ticks before its departure.
pub record Behind (i : Interval) (c : Cell) : Type 0 where
  pub put : put_last i c ≡ c ++ (i ∷ [])
  pub few : length c < i.departure

module _ {xs : List ℕ} {n : ℕ} (p : Counted n xs) (i : Interval) where
  -- The words behind the count with the interval behind the first m rows.
  abbrev stored : ℕ → List ℕ
  stored m = map interval_word (take m (cell_of xs) ++ (i ∷ [])) ++ drop (m + 1 + 1) xs

  -- They are there when its word is stored.
  set_words_lem : (m w : ℕ) → m ≤ n → m + 1 < length xs → w ≡ interval_word i
      → set xs (m + 1) w ≡ count_word n ∷ stored m
  unfolding with_rows
  set_words_lem m w h l q =
      ap₂ (λ (ys : List ℕ) (k : ℕ). set ys k w) p.in_use.words (add-one m)
      ∙ ap₂ ◌∷◌ (ap count_word (sym p.rows))
      (ap (set (map interval_word (cell_of xs) ++ rest) m) q
      ∙ set-row (cell_of xs) m i rest (omega (arith, p.rows)) (omega (arith, p.rows, length-drop (length (cell_of xs) + 1) xs))
      ∙ ap (λ (ws : List ℕ). map interval_word (take m (cell_of xs) ++ (i ∷ [])) ++ ws) tail)
    where
      rest : List ℕ
      rest = drop (length (cell_of xs) + 1) xs

      tail : drop (suc m) (map interval_word (cell_of xs) ++ rest) ≡ drop (m + 1 + 1) xs
      tail = ap (drop (suc (suc m))) (sym p.in_use.words) ∙ (let k : suc (suc m) ≡ m + 1 + 1 = omega arith in ap (λ (k : ℕ). drop k xs) k)

  -- With the right count they are the cell's, where the interval goes behind the first m rows.
  put-words : (m : ℕ) → m ≤ n → put_last i (cell_of xs) ≡ take m (cell_of xs) ++ (i ∷ [])
      → count_word (m + 1) ∷ stored m ≡ put_words i xs
  unfolding with_rows
  put-words m h e = rw (e, long) refl
    where
      long : length (take m (cell_of xs) ++ (i ∷ [])) ≡ m + 1
      long = omega (arith, length-append (take m (cell_of xs)) (i ∷ []), length-take m (cell_of xs), p.rows)

  -- Behind all rows the interval is stored as one row more.
  pub put-more : Behind i (cell_of xs) → i.departure < length xs → (w v : ℕ) → w ≡ interval_word i → v ≡ count_word (n + 1)
      → set (set xs (n + 1) w) 0 v ≡ put_words i xs
  put-more b l w v ew ev =
      ap (λ (ys : List ℕ). set ys 0 v) (set_words_lem n w (omega arith) (omega (arith, p.rows, b.few)) ew)
      ∙ ap (λ (u : ℕ). u ∷ stored n) ev
      ∙ put-words n (omega arith) (b.put ∙ ap (λ (c : Cell). c ++ (i ∷ [])) (sym (take_all n (cell_of xs) (omega (arith, p.rows)))))

  -- It goes there where no row is in use.
  pub behind-none : n ≡ 0 → 1 ≤ i.departure → Behind i (cell_of xs)
  unfolding put_last
  behind-none z l = go (cell_of xs) (omega (arith, p.rows))
    where
      go : (c : Cell) → length c ≡ 0 → Behind i c
      go [] q = record { put = refl; few = omega arith }
      go (j ∷ c) q = absurd (omega arith)

  module _ (some : 0 < n) where
    -- The last row in use is the word at n.
    last_row : get_or (cell_of xs) (n - 1) (interval_of 0) ≡ interval_of (get_or xs n 0)
    last_row =
        let k : n - 1 + 1 ≡ n = omega arith in
        row_is xs (n - 1) (omega (arith, p.rows)) ∙ ap (λ (m : ℕ). interval_of (get_or xs m 0)) k

    -- It stands behind the others.
    last-is : cell_of xs ≡ take (n - 1) (cell_of xs) ++ (interval_of (get_or xs n 0) ∷ [])
    last-is =
        let k : n ≡ suc (n - 1) = omega arith in
        sym (take_all n (cell_of xs) (omega (arith, p.rows)))
        ∙ ap (λ (m : ℕ). take m (cell_of xs)) k
        ∙ take-suc (cell_of xs) (n - 1) (interval_of 0) (omega (arith, p.rows))
        ∙ ap (λ (l : Interval). take (n - 1) (cell_of xs) ++ (l ∷ [])) last_row

    -- It alone decides where the interval goes.
    put_is : put_last i (cell_of xs) ≡ take (n - 1) (cell_of xs) ++ put_last i (interval_of (get_or xs n 0) ∷ [])
    put_is = ap (put_last i) last-is ∙ put-behind i (interval_of (get_or xs n 0)) (take (n - 1) (cell_of xs))

    -- Where it departs as late or later, the words stay.
    pub put-kept : i.departure ≤ get departure_field (get_or xs n 0) → xs ≡ put_words i xs
    unfolding put_last
    put-kept h = rw (put_is ∙ same) p.in_use.words
      where
        same : take (n - 1) (cell_of xs) ++ put_last i (interval_of (get_or xs n 0) ∷ []) ≡ cell_of xs
        same = rw (le-leb i.departure (get departure_field (get_or xs n 0)) h) (sym last-is)

    module _ (h : get departure_field (get_or xs n 0) < i.departure) where
      -- Where it departs earlier and arrives as late or later, the interval takes its place.
      pub put-over : i.arrival ≤ get arrival_field (get_or xs n 0) → (w : ℕ) → w ≡ interval_word i → set xs n w ≡ put_words i xs
      unfolding put_last
      put-over l w ew =
          let k : n ≡ n - 1 + 1 = omega arith in
          ap (λ (m : ℕ). set xs m w) k
          ∙ set_words_lem (n - 1) w (omega arith) (omega (arith, p.rows, p.in_use.fits)) ew
          ∙ ap (λ (m : ℕ). count_word m ∷ stored (n - 1)) k
          ∙ put-words (n - 1) (omega arith) (put_is ∙ same)
        where
          same : take (n - 1) (cell_of xs) ++ put_last i (interval_of (get_or xs n 0) ∷ []) ≡ take (n - 1) (cell_of xs) ++ (i ∷ [])
          same = rw (lt-leb i.departure (get departure_field (get_or xs n 0)) h, le-leb i.arrival (get arrival_field (get_or xs n 0)) l) refl

      -- Where it arrives earlier too, the interval goes behind it.
      pub behind-last : get arrival_field (get_or xs n 0) < i.arrival → Behind i (cell_of xs)
      unfolding put_last
      behind-last l = record { put = put_is ∙ same; few = omega (arith, p.rows, late) }
        where
          same : take (n - 1) (cell_of xs) ++ put_last i (interval_of (get_or xs n 0) ∷ []) ≡ cell_of xs ++ (i ∷ [])
          same =
              rw (lt-leb i.departure (get departure_field (get_or xs n 0)) h, lt-leb i.arrival (get arrival_field (get_or xs n 0)) l)
              (sym (append_assoc (take (n - 1) (cell_of xs)) (interval_of (get_or xs n 0) ∷ []) (i ∷ [])) ∙ ap (λ (c : Cell). c ++ (i ∷ [])) (sym last-is))

          late : n ≤ get departure_field (get_or xs n 0)
          late =
              omega
              (arith, p.rows, departure-path last_row, rising-late (cell_of xs) (n - 1) (interval_of 0) p.in_use.rising p.in_use.departs (omega (arith, p.rows)))
