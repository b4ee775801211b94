-- The cells of a table that passes its checks are as the functions on a cell ask.
use mathlib.Core.Path.{◌≡◌, sym, ap, ◌∙◌, subst}
use mathlib.Core.List.{List, Memᴰ}
use Prim.Native.Nat.{ℕ, ◌+◌, ◌-◌, ◌<◌}
use native.Mathlib.Omega.{arith}
use lib.ListN.{length, take, drop, length-drop}
use Rattle.journeys.specs.declared.Interval.{Interval}
use Rattle.journeys.specs.Cell.{Cell, Limits}
use Rattle.rules.specs.Layout.{cell_words, animals, ticks, carry, cell_at, cell_of, cells_of}
use Rattle.rules.specs.Checks.{ValidTable}
use Rattle.rules.proofs.Sound.{table-sizes, opens-length, part_length, part-words, passes-good}
use Rattle.grid.specs.Cells.{cell_in, Grid}
use Rattle.grid.proofs.Places.{rest-lent, cell_in_lem}
use Rattle.cells.specs.Stored.{Stored}

-- What is read off the words lent of cell (u, v) is read off the cell.
pub cell-read : {A : Type 0} (f : Cell → A) (T : List ℕ) (u v : ℕ) {r : A} (lent : List ℕ) → lent ≡ cell_at (animals T) (ticks T) T u v → r ≡ f (cell_of lent) → r ≡ f (cells_of T u v)
unfolding cells_of
cell-read f T u v lent e g = g ∙ ap (λ (l : List ℕ). f (cell_of l)) e

module _ (T : List ℕ) (p : ValidTable T) where
  abbrev n : ℕ
  n = animals T

  abbrev τ : ℕ
  τ = ticks T

  -- The limits of the intervals of cell (x, y).
  pub cell-limits : (x y : ℕ) → x < n → y < n → (i : Interval) → Memᴰ i (cells_of T x y) → Limits τ (carry T) i
  cell-limits x y h k = ((passes-good T p).cells x y h k).limits

  -- The words of cell (x, y).
  pub cell-stored : (x y : ℕ) → x < n → y < n → Stored (cell_at n τ T x y)
  unfolding cells_of
  cell-stored x y h k =
      let e : length (cell_at n τ T x y) ≡ τ + 1 = part_length T p x y h k in
      let z = table-sizes T in
      let q : τ ≡ length (cell_at n τ T x y) - 1 = omega arith in
      record {
        words = part-words T p x y h k ∙ ap (λ (m : ℕ). cell_words m (cells_of T x y)) q;
        long = omega arith;
        short = omega (arith, z.τ-high);
        rising = ((passes-good T p).cells x y h k).rising;
        departs = λ i m. (cell-limits x y h k i m).departs;
        in_time = λ i m. let l = cell-limits x y h k i m in omega (arith, l.in_time);
        arrives = λ i m. let l = cell-limits x y h k i m in omega (arith, l.arrives, z.τ-high, z.δ-high);
      }

  -- The words lent of cell (x, y).
  pub lent-stored : (x y : ℕ) → x < n → y < n → {lent : List ℕ} → lent ≡ cell_at n τ T x y → Stored lent
  lent-stored x y h k e = subst Stored (sym e) (cell-stored x y h k)

  -- The words after the opening word.
  pub stored-cells : Grid Stored n (τ + 1) (drop 1 T)
  stored-cells =
      let z = table-sizes T in
      record {
        few = z.n_high;
        short = omega (arith, z.τ-high);
        long = length-drop 1 T ∙ omega (arith, opens-length T p.opens);
        every = λ x y h k. subst Stored (sym (cell_in_lem n τ T x y)) (cell-stored x y h k);
      }

-- The same by the numbers read off the table, of the words after the opening word as they are lent.
module _ (T : List ℕ) (p : ValidTable T) (n s : ℕ) (a : n ≡ animals T) (b : s ≡ ticks T + 1) where
  pub lent-cells : Grid Stored n s (take (length T - 1) (drop 1 T))
  lent-cells = rw (rest-lent T, a, b) (stored-cells T p)

  pub lent-cell : (x y : ℕ) → cell_in n s (take (length T - 1) (drop 1 T)) x y ≡ cell_at (animals T) (ticks T) T x y
  lent-cell x y = rw (rest-lent T, a, b) (cell_in_lem (animals T) (ticks T) T x y)
