-- The cells of n animals by their numbers: cell k is that from animal k / n to animal k % n, and what is left of a list that has a part for each cell.
--
-- A loop `for (k, cell) in cells.chunks_exact(size).enumerate()` that does something for each cell, in their order, keeps as its invariant
-- `Chunks s (n * n) body rest size k` and a record of the crate that says of `lists_left n g k` that it is still to be done, g u v being what is to be done
-- for cell (u, v). Before the loop this is `lists-all`, with the equation of the iterator's count; in a turn `chunk-given` gives that the words are chunk k,
-- `cell-given` what cell k is, and `lists-next` takes its part off (with the equations `i ≡ k` of the turn's number and `k_then ≡ k + 1` of the next count);
-- after the loop `chunks-end` gives `n * n ≤ k`, and `lists-none` that nothing is left. Where the n of the code is a variable with the equation
-- `n ≡ animals T`, keep the invariant over that variable, and use the equation only before the loop, on the whole list.
use mathlib.Core.Path.{◌≡◌, sym, ap, ap₂, ◌∙◌}
use mathlib.Core.List.{List, [], ◌++◌}
use Prim.Native.Nat.{ℕ, zero, suc, ◌+◌, ◌-◌, ◌*◌, ◌/◌, ◌%◌, ◌≤◌, ◌<◌}
use native.Mathlib.Nat.{zero-mul}
use native.Mathlib.Omega.{arith}
use Rattle.std.proofs.Math.Nat.{mod-lt, div-lt_iff_lt-mul}
use Rattle.std.proofs.lemmas.Nat.{div-add-mod', div-mul-add, mod-mul-add}
use Rattle.rules.specs.Folds.{flat}
use Rattle.rules.proofs.Folds.{flat_from, from_all, from_next, from-none, flat-same}
use Rattle.grid.specs.Parts.{part}
use Rattle.grid.specs.Cells.{cell_in, Grid}
use Rattle.grid.proofs.Places.{grid-lent}
use Rattle.grid.proofs.Numbered.{flat-square}
use Rattle.grid.proofs.Reading.{Chunk}

-- ---- one cell

-- The words `chunk` are those of cell k: its animals are two of the n, and they have its property.
pub record CellGiven (P : List ℕ → Type 0) (n s : ℕ) (body chunk : List ℕ) (k : ℕ) : Type 0 where
  pub left : k < n * n
  pub from_below : k / n < n
  pub to_below : k % n < n
  pub lent : chunk ≡ cell_in n s body (k / n) (k % n)
  pub property : P chunk

-- Where there is a cell, there is an animal.
some-animal : (n k : ℕ) → k < n * n → 0 < n
some-animal zero k h = absurd (omega (arith, zero-mul 0))
some-animal (suc n) k h = omega arith

-- Chunk k of the words is cell k.
pub cell-given : {P : List ℕ → Type 0} {n s : ℕ} {body chunk : List ℕ} {k : ℕ} → Grid P n s body → Chunk s (n * n) body chunk k → CellGiven P n s body chunk k
unfolding cell_in
cell-given {n} {s} {body} {k} g c =
    let a = some-animal n k c.below in
    let f : k / n < n = (div-lt_iff_lt-mul a).1 c.below in
    let t : k % n < n = mod-lt k a in
    let l = c.lent ∙ ap (λ (i : ℕ). part s i body) (sym (div-add-mod' k n)) in
    record { left = c.below; from_below = f; to_below = t; lent = l; property = grid-lent g (k / n) (k % n) f t l }

-- ---- a list for each cell

-- The lists g of the cells from cell k on.
unfoldable pub lists_left : {A : Type 0} → ℕ → (ℕ → ℕ → List A) → ℕ → List A
lists_left n g k = flat_from (λ i. g (i / n) (i % n)) k (n * n - k)

module _ {A : Type 0} (n : ℕ) (g : ℕ → ℕ → List A) {k : ℕ} where
  -- From cell 0 on they are those of all pairs, from each animal to each.
  pub lists-all : k ≡ 0 → lists_left n g k ≡ flat (λ u. flat (g u) n) n
  unfolding lists_left
  lists-all e =
      ap (lists_left n g) e
      ∙ from_all (λ i. g (i / n) (i % n)) (n * n)
      ∙ flat-square (λ i. g (i / n) (i % n)) n n
      ∙ flat-same _ _ n (λ u h. flat-same _ _ n (λ v h. ap₂ g (div-mul-add u n v h) (mod-mul-add u n v h)))

  -- That of cell k, then those after it.
  pub lists-next : k < n * n → {i k_then : ℕ} → i ≡ k → k_then ≡ k + 1 → lists_left n g k ≡ g (i / n) (i % n) ++ lists_left n g k_then
  unfolding lists_left
  lists-next h e f =
      from_next (λ i. g (i / n) (i % n)) (n * n) k h
      ∙ ap₂ (λ (i j : ℕ). g (i / n) (i % n) ++ lists_left n g j) (sym e) (sym f)

  -- After the last cell none is left.
  pub lists-none : n * n ≤ k → lists_left n g k ≡ []
  unfolding lists_left
  lists-none h = from-none (λ i. g (i / n) (i % n)) (n * n) k h
