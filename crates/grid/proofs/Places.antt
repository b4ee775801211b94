-- Where the parts of a list and the cells of a grid lie.
use mathlib.Core.Path.{◌≡◌, refl, sym, ap, ◌∙◌, subst}
use mathlib.Core.List.{List, [], ◌∷◌}
use Prim.Native.Nat.{ℕ, zero, suc, ◌+◌, ◌-◌, ◌*◌, ◌≤◌, ◌<◌}
use native.Mathlib.Nat.{mul-le-mul, mul-le-mul_right, mul_assoc, suc-mul, le_of_eq}
use native.Mathlib.Numerals.{add-one}
use native.Mathlib.Omega.{arith}
use lib.ListN.{length, take, drop, length-drop}
use lib.Seq.{take_all, take-take, take-nil, drop-drop, length-take-le}
use Rattle.rules.specs.Limits.{max_animals, max_cell_words, max_cells}
use Rattle.rules.specs.Layout.{cell_at}
use Rattle.rules.proofs.Folds.{place_of}
use Rattle.grid.specs.Parts.{part}
use Rattle.grid.specs.Cells.{cell_in, Grid, CellsFrom}

-- ---- a part

-- The part after the y-th begins s further on.
pub next-part : (y s : ℕ) → (y + 1) * s ≡ y * s + s
next-part y s = rw (add-one, suc-mul) refl

-- The y-th of n parts ends inside the n parts.
pub part-inside : (y n s : ℕ) → y < n → y * s + s ≤ n * s
part-inside y n s h = rw (← suc-mul y s) (mul-le-mul_right s h)

-- A part inside the list has its size.
pub part_length : (s k : ℕ) (l : List ℕ) → k * s + s ≤ length l → length (part s k l) ≡ s
part_length s k l h = length-take-le s (drop (k * s) l) (omega (arith, length-drop (k * s) l))

-- The words from `at` on, as they are lent.
pub lent-words : (l : List ℕ) (at s : ℕ) → take (at + s - at) (drop at l) ≡ take s (drop at l)
lent-words l at s = let k : at + s - at ≡ s = omega arith in ap (λ (i : ℕ). take i (drop at l)) k

-- A lent part has its size.
pub lent_length : (l : List ℕ) (at s : ℕ) → at + s ≤ length l → length (take (at + s - at) (drop at l)) ≡ s
lent_length l at s h = ap length (lent-words l at s) ∙ length-take-le s (drop at l) (omega (arith, length-drop at l))

-- A part inside the first m words.
inside-first : (a s m : ℕ) (l : List ℕ) → a + s ≤ m → take s (drop a (take m l)) ≡ take s (drop a l)
inside-first zero s m l h = take-take s m l (omega arith)
inside-first (suc a) s m [] h = rw (take-nil {A = ℕ} m) refl
inside-first (suc a) s zero (x ∷ l) h = absurd (omega arith)
inside-first (suc a) s (suc m) (x ∷ l) h = inside-first a s m l (omega arith)

-- Part v of the u-th part of n parts.
pub part-of_part : (s n u v : ℕ) (l : List ℕ) → v < n → part s v (part (n * s) u l) ≡ part s (u * n + v) l
part-of_part s n u v l h =
    inside-first (v * s) s (n * s) (drop (u * (n * s)) l) (part-inside v n s h)
    ∙ ap (take s) (drop-drop (v * s) (u * (n * s)) l)
    ∙ ap (λ (i : ℕ). take s (drop i l)) (place_of u v n s)

-- ---- all words but the first

-- As they are lent.
pub rest-lent : (T : List ℕ) → take (length T - 1) (drop 1 T) ≡ drop 1 T
rest-lent T = take_all (length T - 1) (drop 1 T) (le_of_eq (length-drop 1 T))

-- Their number.
pub rest-length : (T : List ℕ) → length (take (length T - 1) (drop 1 T)) ≡ length T - 1
rest-length T = ap length (rest-lent T) ∙ length-drop 1 T

-- A cell among them is that of the table.
pub cell_in_lem : (n τ : ℕ) (T : List ℕ) (x y : ℕ) → cell_in n (τ + 1) (drop 1 T) x y ≡ cell_at n τ T x y
unfolding cell_in cell_at
cell_in_lem n τ T x y = ap (take (τ + 1)) (drop-drop ((x * n + y) * (τ + 1)) 1 T)

-- ---- a cell

-- The number of a cell of animals below n lies below n·n.
pub number-below : (n x y : ℕ) → x < n → y < n → x * n + y < n * n
number-below n x y h k = let r = part-inside x n n h in omega arith

-- The words lent from where cell (x, y) begins are its words.
pub cell-lent : (n s : ℕ) (body : List ℕ) (x y at : ℕ) → at ≡ (x * n + y) * s → take (at + s - at) (drop at body) ≡ cell_in n s body x y
unfolding cell_in
cell-lent n s body x y at e = lent-words body at s ∙ ap (λ (i : ℕ). take s (drop i body)) e

-- Cell (x, y) begins and ends inside the words, and is lent as it stands.
pub record Place (n s : ℕ) (body : List ℕ) (x y : ℕ) : Type 0 where
  pub cells-before : x * n ≤ max_cells
  pub animal_below : y < max_animals
  pub inside : (x * n + y) * s + s ≤ length body
  pub lent : take ((x * n + y) * s + s - (x * n + y) * s) (drop ((x * n + y) * s) body) ≡ cell_in n s body x y

-- The place of every cell of animals below n.
pub place : (n s : ℕ) (body : List ℕ) (x y : ℕ) → n ≤ max_animals → length body ≡ n * n * s → x < n → y < n → Place n s body x y
place n s body x y few long h k =
    let z : x ≤ max_animals = omega arith in
    record {
      cells-before = mul-le-mul z few;
      animal_below = omega arith;
      inside = omega (arith, part-inside (x * n + y) (n * n) s (number-below n x y h k));
      lent = cell-lent n s body x y _ refl;
    }

-- The number of a cell, and where it begins, are at most those of the largest grid.
pub start-bound : (n s x y : ℕ) → n ≤ max_animals → s ≤ max_cell_words → x < n → y < n → (x * n + y ≤ max_cells) × ((x * n + y) * s ≤ max_cells * max_cell_words)
start-bound n s x y few short h k =
    let c : x * n + y ≤ max_cells = omega (arith, number-below n x y h k, mul-le-mul few few) in
    (c, mul-le-mul c short)

-- ---- the cells from one animal

-- Cell y of the cells from x is cell (x, y).
pub cell-from : (n s x y : ℕ) (body : List ℕ) → y < n → part s y (part (n * s) x body) ≡ cell_in n s body x y
unfolding cell_in
cell-from n s x y body h = part-of_part s n x y body h

module _ {P : List ℕ → Type 0} {n s : ℕ} {body : List ℕ} (g : Grid P n s body) where
  -- The number of cells is within its limit.
  pub grid-few : n * n ≤ max_cells
  grid-few = mul-le-mul g.few g.few

  -- The words lent of cell (x, y) have the property.
  pub grid-lent : (x y : ℕ) → x < n → y < n → {lent : List ℕ} → lent ≡ cell_in n s body x y → P lent
  grid-lent x y h k e = subst P (sym e) (g.every x y h k)

  -- The words are those of the cells from n animals.
  pub grid-long : length body ≡ n * (n * s)
  grid-long = g.long ∙ mul_assoc n n s

  -- The words of the cells from x.
  pub from-long : (x : ℕ) → x < n → length (part (n * s) x body) ≡ n * s
  from-long x h = part_length (n * s) x body (omega (arith, part-inside x n (n * s) h, grid-long))

  -- The cells from x, every one with the property.
  pub grid-from : (x : ℕ) → x < n → CellsFrom P n s (part (n * s) x body)
  grid-from x h =
      record {
        few = g.few;
        long = from-long x h;
        every = λ y k. subst P (sym (cell-from n s x y body k)) (g.every x y h k);
      }
