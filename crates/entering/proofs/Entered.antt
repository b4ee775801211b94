-- The words of a cell that an interval enters.
use Rattle.std.specs.Prelude.{Some}
use Prim.Native.Nat.{ℕ, zero, suc, ◌+◌, ◌-◌, ◌<◌, ◌≤◌}
use mathlib.Core.Path.{◌≡◌, refl, sym, ap, ap₂, ◌∙◌}
use mathlib.Core.Logic.{⊎_elim}
use mathlib.Core.Bool.{true, false}
use mathlib.Core.List.{List, [], ◌∷◌, ◌++◌, map, map-append, append-nil, Memᴰ}
use native.Mathlib.Nat.{not-suc-le-zero, le_of_eq}
use native.Mathlib.Omega.{arith}
use lib.ListN.{length, get_or, take, drop, set, length-drop, length-map, drop_of_length-le}
use lib.Seq.{take_all, take_at}
use Rattle.journeys.specs.declared.Interval.{Interval}
use Rattle.journeys.specs.Cell.{Cell, has_inside, enter}
use Rattle.journeys.proofs.Cover.{departure-path}
use Rattle.journeys.proofs.Enter.{enter-members, enter-rising}
use Rattle.words.specs.Layout.{get}
use Rattle.words.specs.Words.{count_word, rows_field, interval_word}
use Rattle.rules.specs.Limits.{max_cell_words, max_arrival}
use Rattle.rules.specs.Layout.{cell_words, cell_of}
use Rattle.cells.specs.Stored.{Stored, departure_end}
use Rattle.cells.proofs.Search.{departure-follows, front_length}
use Rattle.cells.proofs.Lent.{count-is, count_fits}
use Rattle.entering.specs.declared.places.Slot.{Slot}
use Rattle.entering.specs.Slots.{slot_of}
use Rattle.entering.specs.Rows.{unused, padded, spliced}
use Rattle.entering.proofs.Front.{past_up}
use Rattle.entering.proofs.Splice.{enter-spliced, enter-same, arrive_le, rows-within}
use Rattle.entering.proofs.Slots.{slot-says}
use Rattle.entering.proofs.Replace.{spliced-length}

-- ---- lists

-- The first of the images are the images of the first.
take-map : {A B : Type 0} (f : A → B) (n : ℕ) (l : List A) → take n (map f l) ≡ map f (take n l)
take-map f zero l = refl
take-map f (suc n) [] = refl
take-map f (suc n) (x ∷ l) = ap (λ t. f x ∷ t) (take-map f n l)

-- The rest of the images are the images of the rest.
drop-map : {A B : Type 0} (f : A → B) (n : ℕ) (l : List A) → drop n (map f l) ≡ map f (drop n l)
drop-map f zero l = refl
drop-map f (suc n) [] = refl
drop-map f (suc n) (x ∷ l) = drop-map f n l

-- The words of the rows with the new one are the words with the new one's word.
spliced-map : {A B : Type 0} (f : A → B) (l : List A) (lo hi : ℕ) (x : A) → spliced (map f l) lo hi (f x) ≡ map f (spliced l lo hi x)
spliced-map f l lo hi x = ap₂ (λ s t. s ++ f x ∷ t) (take-map f lo l) (drop-map f hi l) ∙ sym (map-append f (take lo l) (x ∷ drop hi l))

-- A new first word, and other words behind it.
put_first : (xs ys : List ℕ) (v : ℕ) → 1 ≤ length xs → set (take 1 xs ++ (ys ++ drop (length xs - 1) (drop 1 xs))) 0 v ≡ v ∷ ys
put_first [] ys v h = absurd (not-suc-le-zero h)
put_first (x ∷ t) ys v h =
    let k : length t ≤ suc (length t) - 1 = omega arith in
    ap (λ (l : List ℕ). v ∷ l) (ap (λ (l : List ℕ). ys ++ l) (drop_of_length-le t k) ∙ append-nil ys)

-- ---- a stored cell

-- The rows, lent as all that stands behind the count word.
abbrev pub behind : List ℕ → List ℕ
behind xs = take (length xs - 1) (drop 1 xs)

-- They are all rows.
behind-is : (xs : List ℕ) → behind xs ≡ drop 1 xs
behind-is xs = take_all (length xs - 1) (drop 1 xs) (le_of_eq (length-drop 1 xs))

-- There is one row less than words.
behind-length : (xs : List ℕ) → length (behind xs) ≡ length xs - 1
behind-length xs = ap length (behind-is xs) ∙ length-drop 1 xs

module _ (xs : List ℕ) (S : Stored xs) where
  -- The rows are the words of the cell's intervals, and unused words.
  rows_are : drop 1 xs ≡ map interval_word (cell_of xs) ++ unused (length xs - 1 - length (cell_of xs))
  unfolding cell_words
  rows_are = ap (λ (l : List ℕ). drop 1 l) S.words

  -- The same, with the unused words counted from the rows' words.
  rows-padded : drop 1 xs ≡ padded (length xs - 1) (map interval_word (cell_of xs))
  unfolding padded
  rows-padded = rows_are ∙ ap (λ (k : ℕ). map interval_word (cell_of xs) ++ unused (length xs - 1 - k)) (sym (length-map (cell_of xs) interval_word))

  -- The rows in use are the words of the cell's intervals.
  used_are : (n : ℕ) → n ≡ get rows_field (get_or xs 0 0) → take n (behind xs) ≡ map interval_word (cell_of xs)
  used_are n en =
      ap (take n) (behind-is xs ∙ rows_are)
      ∙ take_at (map interval_word (cell_of xs)) (unused (length xs - 1 - length (cell_of xs))) n (length-map (cell_of xs) interval_word ∙ sym (en ∙ count-is xs S))

  -- Where an interval lies inside i, the words stay as they are.
  pub same : (i : Interval) → has_inside i (cell_of xs) ≡ true → xs ≡ cell_words (length xs - 1) (enter i (cell_of xs))
  same i e = S.words ∙ ap (cell_words (length xs - 1)) (sym (enter-same i (cell_of xs) e))

-- ---- where an interval goes

-- i takes the place of the rows of the slot, of the n rows in use.
pub record Goes (xs : List ℕ) (i : Interval) (n : ℕ) (s : Slot) : Type 0 where
  pub lo-hi : s.lo ≤ s.hi
  pub hi-n : s.hi ≤ n
  pub n_len : n + 1 ≤ length xs
  pub short : length xs ≤ max_cell_words
  pub fits : s.lo + 1 + (n - s.hi) + 1 ≤ length xs
  pub count : length (enter i (cell_of xs)) ≡ s.lo + 1 + (n - s.hi)
  pub is : enter i (cell_of xs) ≡ spliced (cell_of xs) s.lo s.hi i
  pub new : has_inside i (cell_of xs) ≡ false

-- A cell that an interval entered has room, since its departures are different ticks.
room : (xs : List ℕ) (i : Interval) → Stored xs → 1 ≤ i.departure → i.departure < length xs → length (enter i (cell_of xs)) ≤ length xs - 1
room xs i S l m = rows-within (length xs - 1) (enter i (cell_of xs)) (enter-rising i (cell_of xs) S.rising) within
  where
    within : (j : Interval) → Memᴰ j (enter i (cell_of xs)) → (1 ≤ j.departure) × (j.departure ≤ length xs - 1)
    within j k =
        ⊎_elim (λ (e : j ≡ i). let p = departure-path e in (omega arith, omega arith))
        (λ (h : Memᴰ j (cell_of xs)). let p = S.departs j h in let q = S.in_time j h in (omega arith, omega arith))
        (enter-members i (cell_of xs) k)

-- The slot of i says where it goes.
pub slot-goes : {xs : List ℕ} {i : Interval} {n : ℕ} {s : Slot} → Stored xs → n ≡ get rows_field (get_or xs 0 0)
    → (1 ≤ i.departure) × (i.departure < length xs) × (i.arrival ≤ max_arrival) → slot_of i (cell_of xs) ≡ Some s → Goes xs i n s
slot-goes {xs} {i} {n} {s} S en le q =
    let c : Cell = cell_of xs in
    let (e, el, eh) = slot-says i c q in
    let len : n ≡ length c = en ∙ count-is xs S in
    let h₁ : s.lo ≤ s.hi = omega (arith, arrive_le i c i S.rising e, past_up departure_end departure-follows i.departure c i S.rising) in
    let h₂ : s.hi ≤ length c = omega (arith, front_length departure_end (i.departure + 1) c) in
    let j : enter i c ≡ spliced c s.lo s.hi i = rw (el, eh) (enter-spliced i c S.rising e) in
    let k : length (enter i c) ≡ s.lo + 1 + (n - s.hi) = ap length j ∙ spliced-length c s.lo s.hi i h₁ h₂ ∙ ap (λ (m : ℕ). s.lo + 1 + (m - s.hi)) (sym len) in
    record {
      lo-hi = h₁;
      hi-n = omega arith;
      n_len = omega (arith, count_fits xs S);
      short = S.short;
      fits = omega (arith, room xs i S le.0 le.1, S.long);
      count = k;
      is = j;
      new = e;
    }

module _ (xs : List ℕ) (i : Interval) (n : ℕ) (s : Slot) (S : Stored xs) (en : n ≡ get rows_field (get_or xs 0 0)) (g : Goes xs i n s) where
  -- The lent rows are as the replacing asks.
  pub ready : ((s.lo ≤ s.hi) × (s.hi ≤ n) × (n ≤ length (behind xs)) × (s.lo + 1 + (n - s.hi) ≤ length (behind xs)))
      × (behind xs ≡ padded (length (behind xs)) (take n (behind xs)))
  ready =
      let l : length (behind xs) ≡ length xs - 1 = behind-length xs in
      ((g.lo-hi, g.hi-n, omega (arith, g), omega (arith, g)), behind-is xs ∙ rows-padded xs S ∙ ap₂ padded (sym l) (sym (used_are xs S n en)))

  -- The cell after the replacing, with the new count.
  pub entered : (ys : List ℕ) (w v : ℕ) → w ≡ interval_word i → ys ≡ padded (length (behind xs)) (spliced (take n (behind xs)) s.lo s.hi w)
      → v ≡ count_word (s.lo + 1 + (n - s.hi))
      → set (take 1 xs ++ (ys ++ drop (length xs - 1) (drop 1 xs))) 0 v ≡ cell_words (length xs - 1) (enter i (cell_of xs))
  unfolding padded cell_words
  entered ys w v ew ey ev = put_first xs ys v S.long ∙ ap₂ ◌∷◌ (ev ∙ ap count_word (sym g.count)) rest
    where
      new : Cell
      new = enter i (cell_of xs)

      rows : spliced (take n (behind xs)) s.lo s.hi w ≡ map interval_word new
      rows =
          ap₂ (λ (l : List ℕ) (x : ℕ). spliced l s.lo s.hi x) (used_are xs S n en) ew
          ∙ spliced-map interval_word (cell_of xs) s.lo s.hi i
          ∙ ap (map interval_word) (sym g.is)

      rest : ys ≡ map interval_word new ++ unused (length xs - 1 - length new)
      rest =
          ey
          ∙ ap₂ padded (behind-length xs) rows
          ∙ ap (λ (k : ℕ). map interval_word new ++ unused (length xs - 1 - k)) (length-map new interval_word)
