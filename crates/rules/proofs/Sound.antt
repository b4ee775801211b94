-- The checks are sound: a table that passes 5 and 6 is its opening word and the packed words of its decoded cells.
use mathlib.Core.Path.{◌≡◌, refl, sym, ap, ap₂, ◌∙◌, subst}
use mathlib.Core.Bool.{Bool, true, false, cond, ◌&&◌}
use mathlib.Core.List.Memᴰ
use mathlib.Core.List.{List, [], ◌∷◌, ◌++◌, map, Memᴰ}
use mathlib.Core.Logic.{⊎_elim}
use Prim.Native.Nat.{ℕ, ◌+◌, ◌-◌, ◌*◌, ◌≤◌, ◌<◌}
use native.Mathlib.Omega.{arith}
use lib.ListN.{length, get_or, take, drop, replicate, length-map, length-drop, take-append-drop}
use lib.Seq.{drop-drop, length-take-le}
use lib.Dec.{ltb, leb, eqb}
use borrow.Author.Tests.{eq-eqb, eqb-true, leb-true, ltb-true}
use Rattle.journeys.specs.declared.Interval.{Interval}
use Rattle.journeys.specs.Journey.{interval}
use Rattle.journeys.specs.Cell.{Cell, Rising, Limits, WellFormedCell}
use Rattle.words.specs.Layout.{get, is_of}
use Rattle.words.specs.Words.{opening_layout, opening_word, count_layout, count_word, rows_field, interval_layout, interval_word, interval_of, departure_field, arrival_field, unused_layout, unused_word}
use Rattle.words.proofs.Packed.{interval_word-of, opening_word-of, animals_of-bound, ticks_of-bound, carry_of-bound, count_word-of, unused_word-only}
use Rattle.rules.specs.Folds.{all_below}
use Rattle.rules.specs.Layout.{table_length, cell_words, table_words, animals, ticks, carry, cell_at, cell_of, cells_of}
use Rattle.rules.specs.Opening.{Sizes}
use Rattle.rules.specs.Checks.{is_open, row_well_formed, rows_well_formed, all_unused, cell_well_formed, well_formed, ValidTable, WellFormedBelow}
use Rattle.rules.proofs.Folds.{and_left, and_right, below_all, part-inside, body-parts, flat-same}

-- ---- a cell

module _ (τ δ : ℕ) where
  -- What a row that passes is.
  record FineRow (p q w : ℕ) : Type 0 where
    pub word : interval_word (interval_of w) ≡ w
    pub after : (p < get departure_field w) × (q < get arrival_field w)
    pub limits : Limits τ δ (interval_of w)

  fine_row : (p q w : ℕ) → row_well_formed τ δ p q w ≡ true → FineRow p q w
  unfolding row_well_formed
  fine_row p q w e₅ =
      let d = get departure_field w in
      let a = get arrival_field w in
      let b₁ = is_of interval_layout w in
      let b₂ = b₁ && ltb p d in
      let b₃ = b₂ && ltb q a in
      let b₄ = b₃ && leb d τ in
      let b₅ = b₄ && leb (d + δ) a in
      let e₄ = and_left b₅ (leb a (τ + δ)) e₅ in
      let e₃ = and_left b₄ (leb (d + δ) a) e₄ in
      let e₂ = and_left b₃ (leb d τ) e₃ in
      let e₁ = and_left b₂ (ltb q a) e₂ in
      let h : p < d = ltb-true p d (and_right b₁ (ltb p d) e₁) in
      record {
        word = interval_word-of w (and_left b₁ (ltb p d) e₁);
        after = (h, ltb-true q a (and_right b₂ (ltb q a) e₂));
        limits = record {
          departs = positive p d h;
          in_time = leb-true d τ (and_right b₃ (leb d τ) e₃);
          carried = leb-true (d + δ) a (and_right b₄ (leb (d + δ) a) e₄);
          arrives = leb-true a (τ + δ) (and_right b₅ (leb a (τ + δ)) e₅);
        };
      }
    where
      positive : (p d : ℕ) → p < d → 1 ≤ d
      positive p d h = omega arith

  -- What rows that pass are.
  record FineRows (i : Interval) (ws : List ℕ) : Type 0 where
    pub rising : Rising (i ∷ map interval_of ws)
    pub limits : (j : Interval) → Memᴰ j (map interval_of ws) → Limits τ δ j
    pub words : map interval_word (map interval_of ws) ≡ ws

  fine_rows : (i : Interval) (ws : List ℕ) → rows_well_formed τ δ i.departure i.arrival ws ≡ true → FineRows i ws
  unfolding rows_well_formed
  fine_rows i [] e = record { rising = (tt, tt); limits = λ j m. absurd (Memᴰ.not-nil m); words = refl }
  fine_rows i (w ∷ ws) e =
      let r = fine_row i.departure i.arrival w (and_left (row_well_formed τ δ i.departure i.arrival w) _ e) in
      let s = fine_rows (interval_of w) ws (and_right (row_well_formed τ δ i.departure i.arrival w) _ e) in
      record {
        rising = (r.after, s.rising);
        limits = λ j m. ⊎_elim (λ q. subst (Limits τ δ) (sym q) r.limits) (s.limits j) (Memᴰ.cases_cons m);
        words = ap₂ ◌∷◌ r.word s.words;
      }

  unused-are : (ws : List ℕ) → all_unused ws ≡ true → ws ≡ replicate (length ws) unused_word
  unfolding all_unused
  unused-are [] e = refl
  unused-are (w ∷ ws) e = ap₂ ◌∷◌ (sym (unused_word-only w (and_left (is_of unused_layout w) _ e))) (unused-are ws (and_right (is_of unused_layout w) _ e))

  -- What a cell that passes is: well formed, of at most m rows, and the packed words of its intervals.
  pub record FineCell (m : ℕ) (xs : List ℕ) : Type 0 where
    pub formed : WellFormedCell τ δ (cell_of xs)
    pub small : length (cell_of xs) ≤ m
    pub words : xs ≡ cell_words τ (cell_of xs)

  pub fine_cell : (m : ℕ) (xs : List ℕ) → m ≤ τ → length xs ≡ τ + 1 → cell_well_formed τ δ m xs ≡ true → FineCell m xs
  unfolding cell_well_formed cell_of cell_words
  fine_cell m [] h l e = absurd (omega arith)
  fine_cell m (w ∷ ws) h l e = record { formed = record { rising = r.rising.1; limits = r.limits }; small = omega (arith, k, n); words = words }
    where
      count : ℕ
      count = get rows_field w

      b₁ : Bool
      b₁ = is_of count_layout w

      b₂ : Bool
      b₂ = b₁ && leb count m

      b₃ : Bool
      b₃ = b₂ && rows_well_formed τ δ 0 0 (take count ws)

      e₃ : b₃ ≡ true
      e₃ = and_left b₃ (all_unused (drop count ws)) e

      e₂ : b₂ ≡ true
      e₂ = and_left b₂ (rows_well_formed τ δ 0 0 (take count ws)) e₃

      r : FineRows (interval 0 0) (take count ws)
      r = fine_rows (interval 0 0) (take count ws) (and_right b₂ (rows_well_formed τ δ 0 0 (take count ws)) e₃)

      k : count ≤ m
      k = leb-true count m (and_right b₁ (leb count m) e₂)

      n : length (map interval_of (take count ws)) ≡ count
      n = length-map (take count ws) interval_of ∙ length-take-le count ws (omega (arith, k))

      unused : drop count ws ≡ replicate (τ - length (map interval_of (take count ws))) unused_word
      unused =
          let q : length (drop count ws) ≡ τ - length (map interval_of (take count ws)) = omega (arith, n, length-drop count ws) in
          unused-are (drop count ws) (and_right b₃ (all_unused (drop count ws)) e) ∙ ap (λ (i : ℕ). replicate i unused_word) q

      words : w ∷ ws ≡ count_word (length (map interval_of (take count ws))) ∷ (map interval_word (map interval_of (take count ws)) ++ replicate (τ - length (map interval_of (take count ws))) unused_word)
      words =
          ap₂ ◌∷◌ (sym (count_word-of w (and_left b₁ (leb count m) e₂)) ∙ ap count_word (sym n))
          (sym (take-append-drop count ws) ∙ ap₂ ◌++◌ (sym r.words) unused)

-- ---- a table

-- A table's first word says numbers within the limits, whatever it is.
pub table-sizes : (T : List ℕ) → Sizes (animals T) (ticks T) (carry T)
table-sizes T =
    let w = get_or T 0 0 in
    record {
      n_low = (animals_of-bound w).0;
      n_high = (animals_of-bound w).1;
      τ-low = (ticks_of-bound w).0;
      τ-high = (ticks_of-bound w).1;
      δ-low = (carry_of-bound w).0;
      δ-high = (carry_of-bound w).1;
    }

none_left : (c : Cell) → length c ≤ 0 → c ≡ []
none_left [] h = refl
none_left (i ∷ c) h = absurd (omega arith)

first-and_rest : (L : List ℕ) → 1 ≤ length L → L ≡ get_or L 0 0 ∷ drop 1 L
first-and_rest [] h = absurd (omega arith)
first-and_rest (w ∷ L) h = refl

-- A table that passes 5 has the opening word of its numbers first, and the length for it.
pub opens-first : (T : List ℕ) → is_open T ≡ true → opening_word (animals T) (ticks T) (carry T) ≡ get_or T 0 0
unfolding is_open
opens-first T e = opening_word-of (get_or T 0 0) (and_left (is_of opening_layout (get_or T 0 0)) _ e)

pub opens-length : (T : List ℕ) → is_open T ≡ true → length T ≡ table_length (animals T) (ticks T)
unfolding is_open
opens-length T e = eqb-true (length T) (table_length (animals T) (ticks T)) (and_right (is_of opening_layout (get_or T 0 0)) _ e)

module _ (T : List ℕ) (p : ValidTable T) where
  abbrev n : ℕ
  n = animals T

  abbrev τ : ℕ
  τ = ticks T

  abbrev δ : ℕ
  δ = carry T

  pub part_length : (x y : ℕ) → x < n → y < n → length (cell_at n τ T x y) ≡ τ + 1
  unfolding cell_at
  part_length x y h k =
      let a = part-inside x n n h in
      let b = part-inside (x * n + y) (n * n) (τ + 1) (omega (arith, a)) in
      length-take-le (τ + 1) (drop (1 + (x * n + y) * (τ + 1)) T) (omega (arith, b, opens-length T p.opens, length-drop (1 + (x * n + y) * (τ + 1)) T))

  part-fine : (x y : ℕ) → x < n → y < n → cell_well_formed τ δ (cond (eqb x y) 0 τ) (cell_at n τ T x y) ≡ true
  unfolding well_formed
  part-fine x y h k =
      below_all (λ y. cell_well_formed τ δ (cond (eqb x y) 0 τ) (cell_at n τ T x y)) n
      (below_all (λ x. all_below (λ y. cell_well_formed τ δ (cond (eqb x y) 0 τ) (cell_at n τ T x y)) n) n p.formed x h) y k

  most-rows : (b : Bool) → cond b 0 τ ≤ τ
  most-rows true = omega arith
  most-rows false = omega arith

  part-cell : (x y : ℕ) → x < n → y < n → FineCell τ δ (cond (eqb x y) 0 τ) (cell_at n τ T x y)
  part-cell x y h k = fine_cell τ δ (cond (eqb x y) 0 τ) (cell_at n τ T x y) (most-rows (eqb x y)) (part_length x y h k) (part-fine x y h k)

  -- The words of each cell are the packed words of its intervals.
  pub part-words : (x y : ℕ) → x < n → y < n → cell_at n τ T x y ≡ cell_words τ (cells_of T x y)
  unfolding cells_of
  part-words x y h k = (part-cell x y h k).words

  -- The cells are well formed, and each (x, x) is empty.
  pub passes-good : WellFormedBelow n τ δ (cells_of T)
  unfolding cells_of
  passes-good =
      record {
        cells = λ x y h k. (part-cell x y h k).formed;
        diagonal = λ x h. none_left (cell_of (cell_at n τ T x x)) (subst (λ (b : Bool). length (cell_of (cell_at n τ T x x)) ≤ cond b 0 τ) (eq-eqb x x refl) (part-cell x x h h).small);
      }

  -- A table that passes 5 and 6 is its opening word and the packed words of its decoded cells.
  pub passes-table : T ≡ table_words n τ δ (cells_of T)
  unfolding table_words
  passes-table =
      first-and_rest T (omega (arith, opens-length T p.opens))
      ∙ ap₂ ◌∷◌ (sym (opens-first T p.opens))
      (body-parts (τ + 1) n (drop 1 T) (length-drop 1 T ∙ omega (arith, opens-length T p.opens))
      ∙ flat-same _ _ n (λ x h. flat-same _ _ n (λ y k. part x y h k)))
    where
      part : (x y : ℕ) → x < n → y < n → take (τ + 1) (drop ((x * n + y) * (τ + 1)) (drop 1 T)) ≡ cell_words τ (cells_of T x y)
      part x y h k = ap (take (τ + 1)) (drop-drop ((x * n + y) * (τ + 1)) 1 T) ∙ unfold cell_at in part-words x y h k
