-- Words packed and read again: a table of well-formed cells passes 5 and 6 and is read as it was.
use mathlib.Core.Path.{◌≡◌, refl, sym, ap, ap₂, ◌∙◌, subst}
use mathlib.Core.Bool.{true, cond}
use mathlib.Core.List.Memᴰ
use mathlib.Core.List.{List, [], ◌∷◌, ◌++◌, map, Memᴰ}
use Prim.Native.Nat.{ℕ, zero, suc, ◌+◌, ◌-◌, ◌*◌, ◌≤◌, ◌<◌}
use native.Mathlib.Omega.{arith}
use native.Mathlib.Decide.{ℕ_discrete}
use lib.ListN.{length, get_or, take, drop, replicate, length-append, length-map, length-replicate}
use lib.Seq.{take_at, drop_at}
use lib.Dec.{ltb, leb, eqb}
use borrow.Author.Tests.{eq-eqb, ne_eqb, le-leb, lt-ltb}
use Rattle.journeys.specs.declared.Interval.{Interval}
use Rattle.journeys.specs.Journey.{interval}
use Rattle.journeys.specs.Cell.{Cell, Before, Rising, Limits, WellFormedCell}
use Rattle.journeys.specs.Adding.{Cells}
use Rattle.journeys.proofs.Rows.{rows-suffice}
use Rattle.words.specs.Layout.{capacity, get, is_of}
use Rattle.words.specs.Words.{opening_layout, opening_word, animals_of, ticks_of, carry_of, count_word, rows_field, interval_word, interval_of, departure_field, arrival_field, unused_layout, unused_word}
use Rattle.words.proofs.Packed.{interval_of-word, interval_word-is, animals_of-word, ticks_of-word, carry_of-word, opening_word-is, rows_of_word, count_word-is, unused_word-is}
use Rattle.rules.specs.Limits.{max_ticks, max_carry}
use Rattle.rules.specs.Folds.{flat, all_below}
use Rattle.rules.specs.Layout.{table_length, cell_words, table_words, animals, ticks, carry, cell_at, cell_of, cells_of}
use Rattle.rules.specs.Opening.{Sizes}
use Rattle.rules.specs.Checks.{WellFormedBelow, is_open, row_well_formed, rows_well_formed, all_unused, cell_well_formed, well_formed, ValidTable}
use Rattle.rules.proofs.Folds.{and_intro, all-below, body-length, body-part, flat-same, map_back}

-- An empty cell is well formed.
pub empty-formed : (τ δ : ℕ) → WellFormedCell τ δ []
empty-formed τ δ = record { rising = tt; limits = λ i m. absurd (Memᴰ.not-nil m) }

-- ---- a cell's words

module _ (τ δ : ℕ) (hτ : τ ≤ max_ticks) (hδ : δ ≤ max_carry) where
  -- Both ends fit their fields.
  pub ends-fit : (i : Interval) → Limits τ δ i → (i.departure < capacity departure_field) × (i.arrival < capacity arrival_field)
  ends-fit i l = omega (arith, l.in_time, l.arrives)

  row-again : (i : Interval) → Limits τ δ i → interval_of (interval_word i) ≡ i
  row-again i l = let h = ends-fit i l in interval_of-word i h.0 h.1

  module _ (i : Interval) (l : Limits τ δ i) where
    departure-again : get departure_field (interval_word i) ≡ i.departure
    departure-again = ap (λ (j : Interval). j.departure) (row-again i l)

    arrival-again : get arrival_field (interval_word i) ≡ i.arrival
    arrival-again = ap (λ (j : Interval). j.arrival) (row-again i l)

    row_well_formed-true : (p q : ℕ) → p < i.departure → q < i.arrival → row_well_formed τ δ p q (interval_word i) ≡ true
    unfolding row_well_formed
    row_well_formed-true p q h k =
        let e = sym departure-again in
        let g = sym arrival-again in
        let m = ends-fit i l in
        and_intro _ _
        (and_intro _ _
        (and_intro _ _
        (and_intro _ _
        (and_intro _ _ (interval_word-is i m.0 m.1) (subst (λ d. ltb p d ≡ true) e (lt-ltb p i.departure h)))
        (subst (λ a. ltb q a ≡ true) g (lt-ltb q i.arrival k)))
        (subst (λ d. leb d τ ≡ true) e (le-leb i.departure τ l.in_time)))
        (subst (λ a. leb (get departure_field (interval_word i) + δ) a ≡ true) g (subst (λ d. leb (d + δ) i.arrival ≡ true) e (le-leb (i.departure + δ) i.arrival l.carried))))
        (subst (λ a. leb a (τ + δ) ≡ true) g (le-leb i.arrival (τ + δ) l.arrives))

  rows_well_formed-true : (i : Interval) (c : Cell) → Rising (i ∷ c) → ((j : Interval) → Memᴰ j c → Limits τ δ j) → rows_well_formed τ δ i.departure i.arrival (map interval_word c) ≡ true
  unfolding rows_well_formed
  rows_well_formed-true i [] u f = refl
  rows_well_formed-true i (j ∷ c) u f =
      let l = f j (Memᴰ.head refl) in
      and_intro (row_well_formed τ δ i.departure i.arrival (interval_word j)) _ (row_well_formed-true j l i.departure i.arrival u.0.0 u.0.1)
      (subst (λ (k : Interval). rows_well_formed τ δ k.departure k.arrival (map interval_word c) ≡ true) (sym (row-again j l)) (rows_well_formed-true j c u.1 (λ k m. f k (Memᴰ.tail m))))

  all_unused-true : (k : ℕ) → all_unused (replicate k unused_word) ≡ true
  unfolding all_unused
  all_unused-true zero = refl
  all_unused-true (suc k) = and_intro (is_of unused_layout unused_word) _ unused_word-is (all_unused-true k)

  module _ (c : Cell) (w : WellFormedCell τ δ c) where
    from_zero : (d : Cell) → ((i : Interval) → Memᴰ i d → Limits τ δ i) → Before (interval 0 0) d
    from_zero [] f = tt
    from_zero (i ∷ d) f = let l = f i (Memᴰ.head refl) in omega (arith, l.departs, l.carried)

    count-again : get rows_field (count_word (length c)) ≡ length c
    count-again = rows_of_word (length c) (omega (arith, rows-suffice τ δ c w))

    take-rows : take (get rows_field (count_word (length c))) (map interval_word c ++ replicate (τ - length c) unused_word) ≡ map interval_word c
    take-rows = take_at (map interval_word c) (replicate (τ - length c) unused_word) (get rows_field (count_word (length c))) (length-map c interval_word ∙ sym count-again)

    drop-rows : drop (get rows_field (count_word (length c))) (map interval_word c ++ replicate (τ - length c) unused_word) ≡ replicate (τ - length c) unused_word
    drop-rows = drop_at (map interval_word c) (replicate (τ - length c) unused_word) (get rows_field (count_word (length c))) (length-map c interval_word ∙ sym count-again)

    -- A cell is read as it was packed.
    pub cell-again : cell_of (cell_words τ c) ≡ c
    unfolding cell_of cell_words
    cell-again = ap (map interval_of) take-rows ∙ map_back interval_word interval_of c (λ i m. row-again i (w.limits i m))

    -- A well-formed cell's words pass the check.
    pub cell-fine : (m : ℕ) → length c ≤ m → cell_well_formed τ δ m (cell_words τ c) ≡ true
    unfolding cell_well_formed cell_words
    cell-fine m h =
        and_intro _ _
        (and_intro _ _
        (and_intro _ _ (count_word-is (length c) (omega (arith, rows-suffice τ δ c w))) (subst (λ k. leb k m ≡ true) (sym count-again) (le-leb (length c) m h)))
        (rw take-rows (rows_well_formed-true (interval 0 0) c (from_zero c w.limits, w.rising) w.limits)))
        (rw drop-rows (all_unused-true (τ - length c)))

    pub cell-length : length (cell_words τ c) ≡ τ + 1
    unfolding cell_words
    cell-length =
        let h = rows-suffice τ δ c w in
        let e : length (map interval_word c ++ replicate (τ - length c) unused_word) ≡ length c + (τ - length c) =
        length-append (map interval_word c) (replicate (τ - length c) unused_word) ∙ ap₂ ◌+◌ (length-map c interval_word) (length-replicate (τ - length c) unused_word) in
        omega arith

-- ---- a table's words

module _ (n τ δ : ℕ) (z : Sizes n τ δ) where
  pub animals-again : animals_of (opening_word n τ δ) ≡ n
  animals-again = animals_of-word n τ δ z.n_low z.n_high z.τ-low z.τ-high z.δ-low z.δ-high

  pub ticks-again : ticks_of (opening_word n τ δ) ≡ τ
  ticks-again = ticks_of-word n τ δ z.n_low z.n_high z.τ-low z.τ-high z.δ-low z.δ-high

  pub carry-again : carry_of (opening_word n τ δ) ≡ δ
  carry-again = carry_of-word n τ δ z.n_low z.n_high z.τ-low z.τ-high z.δ-low z.δ-high

  module _ (T : Cells) where
    pub table-animals : animals (table_words n τ δ T) ≡ n
    unfolding table_words
    table-animals = animals-again

    pub table-ticks : ticks (table_words n τ δ T) ≡ τ
    unfolding table_words
    table-ticks = ticks-again

    pub table-carry : carry (table_words n τ δ T) ≡ δ
    unfolding table_words
    table-carry = carry-again

  module _ (T : Cells) (g : WellFormedBelow n τ δ T) where
    words-length : (x y : ℕ) → x < n → y < n → length (cell_words τ (T x y)) ≡ τ + 1
    words-length x y h k = cell-length τ δ z.τ-high z.δ-high (T x y) (g.cells x y h k)

    pub table-length : length (table_words n τ δ T) ≡ table_length n τ
    unfolding table_words
    table-length = let e = body-length (λ x y. cell_words τ (T x y)) (τ + 1) n words-length in omega (arith, e)

    -- The words of cell (x, y).
    pub table-cell : (x y : ℕ) → x < n → y < n → cell_at n τ (table_words n τ δ T) x y ≡ cell_words τ (T x y)
    unfolding table_words cell_at
    table-cell x y h k =
        let e : 1 + (x * n + y) * (τ + 1) ≡ suc ((x * n + y) * (τ + 1)) = omega arith in
        rw e (body-part (λ x y. cell_words τ (T x y)) (τ + 1) n words-length x y h k)

    -- The cells are read as they were laid out.
    pub cells-again : (x y : ℕ) → x < n → y < n → cells_of (table_words n τ δ T) x y ≡ T x y
    unfolding cells_of
    cells-again x y h k = rw (table-animals T, table-ticks T, table-cell x y h k) (cell-again τ δ z.τ-high z.δ-high (T x y) (g.cells x y h k))

    table-opens : is_open (table_words n τ δ T) ≡ true
    unfolding is_open
    table-opens =
        and_intro _ _ first
        (rw (table-animals T, table-ticks T) (eq-eqb (length (table_words n τ δ T)) (table_length n τ) table-length))
      where
        first : is_of opening_layout (get_or (table_words n τ δ T) 0 0) ≡ true
        first = unfold table_words in opening_word-is n τ δ z.n_low z.n_high z.τ-low z.τ-high z.δ-low z.δ-high

    cell-passes : (x y : ℕ) → x < n → y < n → cell_well_formed τ δ (cond (eqb x y) 0 τ) (cell_at n τ (table_words n τ δ T) x y) ≡ true
    cell-passes x y h k = rw (table-cell x y h k) (go (ℕ_discrete x y))
      where
        go : Dec (x ≡ y) → cell_well_formed τ δ (cond (eqb x y) 0 τ) (cell_words τ (T x y)) ≡ true
        go (yes e) =
            let d : T x y ≡ [] = subst (λ (v : ℕ). T x v ≡ []) e (g.diagonal x h) in
            rw (eq-eqb x y e, d) (cell-fine τ δ z.τ-high z.δ-high [] (empty-formed τ δ) 0 (omega arith))
        go (no m) =
            rw (ne_eqb x y m)
            (cell-fine τ δ z.τ-high z.δ-high (T x y) (g.cells x y h k) τ (rows-suffice τ δ (T x y) (g.cells x y h k)))

    table-formed : well_formed (table_words n τ δ T) ≡ true
    unfolding well_formed
    table-formed =
        rw (table-animals T, table-ticks T, table-carry T)
        (all-below (λ x. all_below (λ y. cell_well_formed τ δ (cond (eqb x y) 0 τ) (cell_at n τ (table_words n τ δ T) x y)) n) n
        (λ x h. all-below (λ y. cell_well_formed τ δ (cond (eqb x y) 0 τ) (cell_at n τ (table_words n τ δ T) x y)) n (λ y k. cell-passes x y h k)))

    -- A table of well-formed cells passes 5 and 6.
    pub table-passes : ValidTable (table_words n τ δ T)
    table-passes = record { opens = table-opens; formed = table-formed }

-- Equal cells below n have equal words.
pub table_same : (n τ δ : ℕ) (T U : Cells) → ((x y : ℕ) → x < n → y < n → T x y ≡ U x y) → table_words n τ δ T ≡ table_words n τ δ U
unfolding table_words
table_same n τ δ T U e =
    ap (λ (l : List ℕ). opening_word n τ δ ∷ l)
    (flat-same (λ x. flat (λ y. cell_words τ (T x y)) n) (λ x. flat (λ y. cell_words τ (U x y)) n) n
    (λ x h. flat-same (λ y. cell_words τ (T x y)) (λ y. cell_words τ (U x y)) n (λ y k. ap (cell_words τ) (e x y h k))))
