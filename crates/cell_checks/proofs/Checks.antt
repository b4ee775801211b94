-- The check of a cell, step by step: what is left of a test equals the whole test.
use mathlib.Core.Path.{◌≡◌, refl, sym, ap, ◌∙◌}
use mathlib.Core.Bool.{Bool, true, false, not, ◌&&◌, and_assoc, and-true, and-false}
use mathlib.Core.List.{List, [], ◌∷◌}
use mathlib.Core.Logic.{◌⊎◌, inl, inr}
use Prim.Native.Nat.{ℕ, ◌+◌, ◌-◌, ◌≤◌, ◌<◌}
use native.Mathlib.Nat.{le_of_eq}
use native.Mathlib.Numerals.{add-one}
use native.Mathlib.Omega.{arith}
use lib.Bits.{bit_or, or_add_and, and_le_l, and_le_r}
use lib.Dec.{leb, ltb, eqb}
use lib.ListN.{length, get_or, take, drop, drop_of_length-le, length-drop}
use lib.Seq.{drop-cons, take_all}
use borrow.Author.Tests.{not-true, not-false, le-leb, lt-leb, lt-ltb, le-ltb, eq-eqb, ne_eqb}
use Rattle.std.specs.List.{fold}
use Rattle.journeys.proofs.Tests.{Outcome, holds, fails, eq_outcome, le_outcome}
use Rattle.words.specs.Layout.{get, is_of}
use Rattle.words.proofs.Packed.{unused_word-is}
use Rattle.words.specs.Words.{count_layout, rows_field, interval_layout, departure_field, arrival_field, unused_layout}
use Rattle.rules.specs.Checks.{row_well_formed, rows_well_formed, all_unused, cell_well_formed}

-- A test that a function ran and found false is false.
pub stopped : {r b : Bool} → r ≡ b → not r ≡ true → b ≡ false
stopped e h = sym e ∙ not-true _ h

-- A test that a function ran and found true is true.
pub passed : {r b : Bool} → r ≡ b → not r ≡ false → b ≡ true
passed e h = sym e ∙ not-false _ h

-- ---- a row

-- The departure and the arrival that a word says.
abbrev dep : ℕ → ℕ
dep w = get departure_field w

abbrev arr : ℕ → ℕ
arr w = get arrival_field w

module _ (τ δ p q w : ℕ) {k : Bool} {d a : ℕ} (x : k ≡ is_of interval_layout w) (y : d ≡ dep w) (z : a ≡ arr w) where
  -- An interval word that departs after p, arrives after q and not before departure + δ is a row exactly when it arrives at τ + δ or before:
  -- its departure is then at most τ.
  pub row-passed : (k ≡ true) × (p < d) × (q < a) × (d + δ ≤ a) → leb a (τ + δ) ≡ row_well_formed τ δ p q w
  unfolding row_well_formed
  row-passed h =
      let e : is_of interval_layout w ≡ true = sym x ∙ h.0 in
      rw (e, ← y, ← z, lt-ltb p d h.1, lt-ltb q a h.2, le-leb (d + δ) a h.3) (go (le_outcome a (τ + δ)))
    where
      go : {b : Bool} → Outcome (a ≤ τ + δ) (τ + δ < a) b → b ≡ (leb d τ && true && b)
      go (holds m) = rw (le-leb d τ (omega arith)) refl
      go (fails m) = sym (and-false (leb d τ && true))

  -- Any other word is no row.
  pub row-failed : (k ≡ false) ⊎ (d ≤ p) ⊎ (a ≤ q) ⊎ (a < d + δ) → false ≡ row_well_formed τ δ p q w
  unfolding row_well_formed
  row-failed h = rw (← y, ← z) (go h)
    where
      fine : Bool
      fine = is_of interval_layout w

      go : (k ≡ false) ⊎ (d ≤ p) ⊎ (a ≤ q) ⊎ (a < d + δ) → false ≡ (fine && ltb p d && ltb q a && leb d τ && leb (d + δ) a && leb a (τ + δ))
      go (inl e) = let f : fine ≡ false = sym x ∙ e in rw f refl
      go (inr (inl l)) = rw (le-ltb p d l, and-false fine) refl
      go (inr (inr (inl l))) = rw (le-ltb q a l, and-false (fine && ltb p d)) refl
      go (inr (inr (inr l))) = rw (lt-leb (d + δ) a l, and-false (fine && ltb p d && ltb q a && leb d τ)) refl

-- ---- the rows in use

module _ (τ δ p q : ℕ) (ws : List ℕ) (i : ℕ) {r : Bool} (left : rows_well_formed τ δ p q (drop i ws) ≡ r) where
  -- A fine row is passed.
  pub rows-turn : i < length ws → true ≡ row_well_formed τ δ p q (get_or ws i 0)
      → rows_well_formed τ δ (get departure_field (get_or ws i 0)) (get arrival_field (get_or ws i 0)) (drop (i + 1) ws) ≡ r
  unfolding rows_well_formed
  rows-turn h f = let e : row_well_formed τ δ p q (get_or ws i 0) ≡ true = sym f in rw (add-one i) (rw (drop-cons ws i 0, e) at left)

  -- Any other ends the check.
  pub rows-stop : i < length ws → false ≡ row_well_formed τ δ p q (get_or ws i 0) → false ≡ r
  unfolding rows_well_formed
  rows-stop h f = let e : row_well_formed τ δ p q (get_or ws i 0) ≡ false = sym f in rw (drop-cons ws i 0, e) at left

  -- No row is left to check.
  pub rows_end : length ws ≤ i → true ≡ r
  unfolding rows_well_formed
  rows_end h = rw (drop_of_length-le ws h) at left

-- ---- the unused words

-- Joined bits are zero exactly when both words are.
pub unused-or : (x y : ℕ) → is_of unused_layout (bit_or x y) ≡ (is_of unused_layout x && is_of unused_layout y)
unfolding is_of
unused-or x y = go (eq_outcome x 0) (eq_outcome y 0)
  where
    go : {a b : Bool} → Outcome (x ≡ 0) (x ≡ 0 → ⊥) a → Outcome (y ≡ 0) (y ≡ 0 → ⊥) b → eqb (bit_or x y) 0 ≡ (a && b)
    go (holds h) (holds k) = eq-eqb (bit_or x y) 0 (omega (arith, or_add_and x y))
    go (holds h) (fails k) = ne_eqb (bit_or x y) 0 (λ z. k (omega (arith, or_add_and x y, and_le_l x y)))
    go (fails h) o = ne_eqb (bit_or x y) 0 (λ z. h (omega (arith, or_add_and x y, and_le_r x y)))

-- All words joined, from bits x on, are zero exactly when x is zero and every word is unused.
joined-from : (ws : List ℕ) (x : ℕ) → is_of unused_layout (fold bit_or x ws) ≡ (is_of unused_layout x && all_unused ws)
unfolding all_unused
joined-from [] x = sym (and-true (is_of unused_layout x))
joined-from (w ∷ ws) x =
    joined-from ws (bit_or x w) ∙ ap (λ (b : Bool). b && all_unused ws) (unused-or x w)
    ∙ and_assoc (is_of unused_layout x) (is_of unused_layout w) (all_unused ws)

-- All words joined are zero exactly when every word is unused.
pub unused-joined : (ws : List ℕ) → is_of unused_layout (fold bit_or 0 ws) ≡ all_unused ws
unused-joined ws = joined-from ws 0 ∙ rw unused_word-is refl

-- ---- a cell

-- The check of a cell, by its first word and its parts.
cell_parts : (τ δ m : ℕ) (xs : List ℕ) → 1 ≤ length xs
    → cell_well_formed τ δ m xs
    ≡ (is_of count_layout (get_or xs 0 0)
    && leb (get rows_field (get_or xs 0 0)) m
    && rows_well_formed τ δ 0 0 (take (get rows_field (get_or xs 0 0)) (drop 1 xs))
    && all_unused (drop (get rows_field (get_or xs 0 0) + 1) xs))
unfolding cell_well_formed
cell_parts τ δ m [] l = absurd (omega arith)
cell_parts τ δ m (w ∷ ws) l = rw (add-one (get rows_field w)) refl

module _ (τ δ m : ℕ) (xs : List ℕ) (l : 1 ≤ length xs) where
  -- Words that do not begin with a count are no cell.
  pub cell-kind : is_of count_layout (get_or xs 0 0) ≡ false → cell_well_formed τ δ m xs ≡ false
  cell-kind e = cell_parts τ δ m xs l ∙ rw e refl

  module _ (e : is_of count_layout (get_or xs 0 0) ≡ true) where
    -- Nor are those whose count is more than m.
    pub cell-many : m < get rows_field (get_or xs 0 0) → cell_well_formed τ δ m xs ≡ false
    cell-many h = cell_parts τ δ m xs l ∙ rw (e, lt-leb (get rows_field (get_or xs 0 0)) m h) refl

    module _ (end : ℕ) (k : end ≡ get rows_field (get_or xs 0 0) + 1) (h : get rows_field (get_or xs 0 0) ≤ m) where
      -- The rows lent as cell[1..end] are those in use.
      part-rows : take (end - 1) (drop 1 xs) ≡ take (get rows_field (get_or xs 0 0)) (drop 1 xs)
      part-rows = let q : end - 1 ≡ get rows_field (get_or xs 0 0) = omega arith in ap (λ (n : ℕ). take n (drop 1 xs)) q

      -- Nor are those whose rows in use are not fine.
      pub cell-rows : rows_well_formed τ δ 0 0 (take (end - 1) (drop 1 xs)) ≡ false → cell_well_formed τ δ m xs ≡ false
      cell-rows f =
          let g : rows_well_formed τ δ 0 0 (take (get rows_field (get_or xs 0 0)) (drop 1 xs)) ≡ false = rw part-rows at f in
          cell_parts τ δ m xs l ∙ rw (e, le-leb (get rows_field (get_or xs 0 0)) m h, g) refl

      -- Any other are a cell exactly when the rest, lent as cell[end..], is unused.
      pub cell-rest : rows_well_formed τ δ 0 0 (take (end - 1) (drop 1 xs)) ≡ true
          → cell_well_formed τ δ m xs ≡ all_unused (take (length xs - end) (drop end xs))
      cell-rest f =
          let g : rows_well_formed τ δ 0 0 (take (get rows_field (get_or xs 0 0)) (drop 1 xs)) ≡ true = rw part-rows at f in
          cell_parts τ δ m xs l
          ∙ rw (e, le-leb (get rows_field (get_or xs 0 0)) m h, g)
          (ap all_unused (ap (λ (n : ℕ). drop n xs) (sym k) ∙ sym (take_all (length xs - end) (drop end xs) (le_of_eq (length-drop end xs)))))
