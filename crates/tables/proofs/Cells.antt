-- Laws of the loops over the cells of a table: the test of every cell is the check of the table, and cells made empty are the words of a
-- table just opened.
use mathlib.Core.Path.{◌≡◌, refl, sym, ap, ap₂, ◌∙◌}
use mathlib.Core.Bool.{Bool, true, false, cond}
use mathlib.Core.List.{List, [], ◌∷◌, ◌++◌, append-nil}
use Prim.Native.Nat.{ℕ, zero, suc, ◌+◌, ◌-◌, ◌*◌, ◌≤◌, ◌<◌}
use native.Mathlib.Nat.{mul_assoc}
use native.Mathlib.Omega.{arith}
use lib.Dec.{eqb}
use lib.ListN.{length, take, drop, set, replicate, length-replicate}
use lib.Seq.{take-length, drop-drop, drop-length}
use Rattle.words.specs.Words.{opening_word, count_word, unused_word}
use Rattle.rules.specs.Layout.{table_length, cell_words, table_words, animals, ticks, carry, cell_at}
use Rattle.rules.specs.Checks.{is_open, cell_well_formed, well_formed}
use Rattle.rules.specs.Opening.{no_intervals}
use Rattle.rules.proofs.Folds.{flat-same}
use Rattle.rules.proofs.Sound.{opens-length}
use Rattle.grid.specs.Parts.{part, parts}
use Rattle.grid.proofs.Places.{part-inside, part_length, part-of_part, rest-lent, rest-length}
use Rattle.grid.proofs.Reading.{all_same}
use Rattle.grid.proofs.Numbered.{flat-square}
use Rattle.grid.proofs.Flat.{parts-flat}
use Rattle.tables.specs.Cells.{most_rows, cell_of_well_formed, cells_from_well_formed, all_cells_well_formed, emptied}

-- ---- every cell

-- A cell, tested as it is lent.
pub cell-tested : {r : Bool} (τ δ u v m : ℕ) (cells lent : List ℕ) → m ≡ most_rows τ u v → lent ≡ part (τ + 1) v cells → r ≡ cell_well_formed τ δ m lent
    → r ≡ cell_of_well_formed τ δ u cells v
unfolding cell_of_well_formed
cell-tested τ δ u v m cells lent e f g = g ∙ ap₂ (cell_well_formed τ δ) e f

-- At most τ rows may be in use.
pub most-bound : (τ u v : ℕ) → most_rows τ u v ≤ τ
unfolding most_rows
most-bound τ u v = go (eqb u v)
  where
    go : (b : Bool) → cond b 0 τ ≤ τ
    go true = omega arith
    go false = omega arith

-- The test of every cell after the opening word is the check of the table.
pub body-formed : (T : List ℕ) → all_cells_well_formed (ticks T) (carry T) (animals T) (drop 1 T) ≡ well_formed T
unfolding all_cells_well_formed cells_from_well_formed cell_of_well_formed most_rows well_formed cell_at
body-formed T = all_same _ _ n (λ u h. all_same _ _ n (λ v k. ap (cell_well_formed (ticks T) (carry T) (cond (eqb u v) 0 (ticks T))) (cell u v k)))
  where
    n : ℕ
    n = animals T

    s : ℕ
    s = ticks T + 1

    cell : (u v : ℕ) → v < n → part s v (part (n * s) u (drop 1 T)) ≡ take s (drop (1 + (u * n + v) * s) T)
    cell u v k = part-of_part s n u v (drop 1 T) k ∙ ap (take s) (drop-drop ((u * n + v) * s) 1 T)

-- With the three numbers that the first word says.
module _ (T : List ℕ) (n τ δ : ℕ) (a : n ≡ animals T) (b : τ ≡ ticks T) (c : δ ≡ carry T) where
  -- The cells are all words after the opening word.
  pub cells-fill : is_open T ≡ true → length (take (length T - 1) (drop 1 T)) ≡ n * (n * (τ + 1))
  cells-fill h =
      rw (rest-length T, a, b) (omega (arith, opens-length T h, mul_assoc (animals T) (animals T) (ticks T + 1)))

  -- The test of the lent cells is the check of the table.
  pub cells-formed : all_cells_well_formed τ δ n (take (length T - 1) (drop 1 T)) ≡ well_formed T
  cells-formed = rw (rest-lent T, a, b, c) (body-formed T)

-- ---- empty cells

-- An empty cell is a count word and τ unused words.
empty-words : (τ : ℕ) → cell_words τ [] ≡ count_word 0 ∷ replicate τ unused_word
unfolding cell_words
empty-words τ = let e : τ - 0 ≡ τ = omega arith in rw e refl

-- An empty cell has τ + 1 words.
pub empty-length : (τ : ℕ) → length (cell_words τ []) ≡ τ + 1
empty-length τ = rw (empty-words τ) (omega (arith, length-replicate {A = ℕ} τ 0))

-- A count of no rows written before unused words.
pub emptied-words : (n u w : ℕ) → 1 ≤ n → u ≡ unused_word → w ≡ count_word 0 → set (replicate n u) 0 w ≡ cell_words (n - 1) []
emptied-words zero u w h e f = absurd (omega arith)
emptied-words (suc τ) u w h e f = let k : suc τ - 1 ≡ τ = omega arith in rw (e, f, k) (sym (empty-words τ))

-- A part of τ + 1 words made empty.
part-emptied : (τ k : ℕ) (l : List ℕ) → k * (τ + 1) + (τ + 1) ≤ length l → emptied k (part (τ + 1) k l) ≡ cell_words τ []
unfolding emptied
part-emptied τ k l h =
    let f : length (part (τ + 1) k l) - 1 ≡ τ = omega (arith, part_length (τ + 1) k l h) in
    ap (λ (i : ℕ). cell_words i []) f

-- An opening word and n·n empty cells are the words of a table without intervals.
pub opened-words : (n τ δ : ℕ) (l : List ℕ) → length l ≡ n * n * (τ + 1) → opening_word n τ δ ∷ parts emptied (τ + 1) (n * n) l ≡ table_words n τ δ no_intervals
unfolding table_words
opened-words n τ δ l h =
    ap (λ (b : List ℕ). opening_word n τ δ ∷ b)
    (parts-flat emptied (τ + 1) l (n * n) h (λ k o. ap length (empty k o) ∙ empty-length τ) ∙ flat-same _ _ (n * n) empty ∙ flat-square (λ k. cell_words τ []) n n)
  where
    empty : (k : ℕ) → k < n * n → emptied k (part (τ + 1) k l) ≡ cell_words τ []
    empty k o = part-emptied τ k l (omega (arith, part-inside k (n * n) (τ + 1) o))

-- The words of the table where the opening word was written first and then the lent cells were made empty.
pub opened-table : (n τ δ w : ℕ) (T last : List ℕ) → length T ≡ table_length n τ → w ≡ opening_word n τ δ
    → last ≡ parts emptied (τ + 1) (n * n) (take (length (set T 0 w) - 1) (drop 1 (set T 0 w)))
    → take 1 (set T 0 w) ++ (last ++ drop (length (set T 0 w) - 1) (drop 1 (set T 0 w))) ≡ table_words n τ δ no_intervals
opened-table n τ δ w [] last h e f = absurd (omega arith)
opened-table n τ δ w (x ∷ l) last h e f =
    let k : length (w ∷ l) - 1 ≡ length l = omega arith in
    let g : last ≡ parts emptied (τ + 1) (n * n) l = rw (k, take-length l) at f in
    rw (k, drop-length l, append-nil last, g, e) (opened-words n τ δ l (omega arith))
