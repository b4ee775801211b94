-- One cell's turn, and the turns of a loop that counts the cells that change.
use Rattle.std.specs.Int.{from_bool}
use Rattle.std.specs.Prelude.{Option, None, Some}
use mathlib.Core.Path.{◌≡◌, refl, sym, ap, ap₂, ◌∙◌}
use mathlib.Core.Bool.{Bool, true, false, cond, not}
use mathlib.Core.List.{List}
use mathlib.Core.Logic.{◌⊎◌, inl, inr}
use Prim.Native.Nat.{ℕ, zero, suc, ◌+◌, ◌-◌, ◌*◌, ◌≤◌, ◌<◌}
use native.Mathlib.Numerals.{add-one}
use native.Mathlib.Omega.{arith}
use lib.ListN.{length, get_or}
use lib.Dec.{eqb}
use borrow.Author.Tests.{eq-eqb, ne_eqb}
use Rattle.journeys.specs.Journey.{interval}
use Rattle.journeys.specs.Cell.{Cell, has_inside, enter}
use Rattle.journeys.specs.Adding.{enter_both}
use Rattle.rules.specs.Limits.{max_animals, max_cells}
use Rattle.rules.specs.Folds.{sum_below, count_below}
use Rattle.rules.specs.Layout.{cell_words, cell_of}
use Rattle.rules.specs.Adding.{same_cell}
use Rattle.rules.proofs.Changes.{enter-same, same_cell-refl}
use Rattle.grid.specs.Parts.{part, parts}
use Rattle.grid.specs.Cells.{CellsFrom}
use Rattle.grid.proofs.Flat.{parts_same}
use Rattle.cells.specs.Stored.{Stored}
use Rattle.adding.specs.Steps.{tick_of, entered, entered_at, changes_both, changes, changes_at, changes_from}

-- ---- a cell's turn

-- A tick that is not 0 is one.
tick_is : (t : ℕ) → 1 ≤ t → tick_of t ≡ Some t
tick_is zero h = absurd (omega arith)
tick_is (suc t) h = refl

-- Without an arrival nothing enters.
none-enters : (o : Option ℕ) (c : Cell) → enter_both o None c ≡ c
unfolding enter_both
none-enters None c = refl
none-enters (Some d) c = refl

-- Without an arrival nothing changes.
none-changes : (o : Option ℕ) (c : Cell) → false ≡ changes_both o None c
none-changes None c = refl
none-changes (Some d) c = refl

-- What a turn leaves of the cell, and whether it says that the cell changed.
pub record Turn (x y d a : ℕ) (xs : List ℕ) (r : Bool) (ys : List ℕ) : Type 0 where
  pub value : r ≡ changes x y d a xs
  pub cell_after : ys ≡ entered x y d a xs

module _ (x y d a : ℕ) (xs : List ℕ) where
  -- Cell (x, x) stays as it was, and so does a cell without an arrival.
  pub idle_turn : Stored xs → (x ≡ y) ⊎ ((x ≡ y → ⊥) × (a ≡ 0)) → Turn x y d a xs false xs
  unfolding changes entered
  idle_turn s (inl e) = record { value = rw (eq-eqb x y e) refl; cell_after = rw (eq-eqb x y e) refl }
  idle_turn s (inr (n, e)) =
      record {
        value = rw (ne_eqb x y n, e) (none-changes (tick_of d) (cell_of xs));
        cell_after = rw (ne_eqb x y n, e) (s.words ∙ ap (cell_words (length xs - 1)) (sym (none-enters (tick_of d) (cell_of xs))));
      }

  -- The interval entered.
  pub enter-turn : (x ≡ y → ⊥) → 1 ≤ d → (a ≡ 0 → ⊥) → (r : Bool) (ys : List ℕ) → r ≡ not (has_inside (interval d a) (cell_of xs))
      → ys ≡ cell_words (length xs - 1) (enter (interval d a) (cell_of xs)) → Turn x y d a xs r ys
  unfolding changes entered enter_both
  enter-turn n h k r ys p q =
      let f : tick_of a ≡ Some a = tick_is a (omega arith) in
      record {
        value = rw (ne_eqb x y n, tick_is d h, f) p;
        cell_after = rw (ne_eqb x y n, tick_is d h, f) q;
      }

-- ---- whether entering changes a cell

-- It does unless an interval inside stands there.
pub changes-both : (o p : Option ℕ) (c : Cell) → changes_both o p c ≡ not (same_cell c (enter_both o p c))
unfolding enter_both
changes-both None p c = ap not (sym (same_cell-refl c))
changes-both (Some d) None c = ap not (sym (same_cell-refl c))
changes-both (Some d) (Some a) c = ap not (sym (enter-same (interval d a) c))

-- ---- counting

-- No more than n numbers below n pass.
count_most : (p : ℕ → Bool) (n : ℕ) → count_below p n ≤ n
unfolding count_below
count_most p zero = omega arith
count_most p (suc n) = go (p n) (count_most p n)
  where
    go : (b : Bool) → count_below p n ≤ n → count_below p n + cond b 1 0 ≤ suc n
    go true h = omega arith
    go false h = omega arith

-- A sum of n numbers, each at most that of the animals.
sum-most : (f : ℕ → ℕ) (n : ℕ) → ((k : ℕ) → f k ≤ max_animals) → sum_below f n ≤ n * max_animals
unfolding sum_below
sum-most f zero h = omega arith
sum-most f (suc n) h = omega (arith, sum-most f n h, h n)

-- ---- the counts of the loops

-- Nothing is counted before the first cell.
pub count-start : (p : ℕ → Bool) → 0 ≡ count_below p 0
unfolding count_below
count-start p = refl

-- Nor before the cells from the first animal.
pub sum-start : (g : ℕ → ℕ) → 0 ≡ sum_below g 0
unfolding sum_below
sum-start g = refl

-- A truth value as a number.
number-is : (b : Bool) → from_bool b ≡ cond b 1 0
number-is true = refl
number-is false = refl

-- The next cell, lent as it was at first, is counted where it changes.
pub count_turn : (s x d : ℕ) (e cells : List ℕ) (y m r : ℕ) {b : Bool} {lent : List ℕ} → lent ≡ part s y cells → m ≡ count_below (changes_at s x d e cells) y → b ≡ changes x y d (get_or e y 0) lent
    → r ≡ from_bool b → m + r ≡ count_below (changes_at s x d e cells) (y + 1)
unfolding count_below changes_at
count_turn s x d e cells y m r q h f g =
    rw (add-one y) (ap₂ ◌+◌ h (g ∙ number-is _ ∙ ap (λ (b : Bool). cond b 1 0) (f ∙ ap (λ (l : List ℕ). changes x y d (get_or e y 0) l) q)))

-- The count of the cells from the next animal, lent as they were at first, is added.
pub sum-turn : (n s : ℕ) (d e body : List ℕ) (x m r : ℕ) {lent : List ℕ} → lent ≡ part (n * s) x body → m ≡ sum_below (changes_from n s d e body) x
    → r ≡ count_below (changes_at s x (get_or d x 0) e lent) n → m + r ≡ sum_below (changes_from n s d e body) (x + 1)
unfolding sum_below changes_from
sum-turn n s d e body x m r q h f = rw (add-one x) (ap₂ ◌+◌ h (f ∙ ap (λ (l : List ℕ). count_below (changes_at s x (get_or d x 0) e l) n) q))

-- The count of the cells passed, with one cell more.
pub count_small : (p : ℕ → Bool) (n m r : ℕ) (b : Bool) → m ≡ count_below p n → r ≡ from_bool b → m + r ≤ n + 1
count_small p n m r b e f = go b f
  where
    go : (b : Bool) → r ≡ from_bool b → m + r ≤ n + 1
    go true f = omega (arith, count_most p n)
    go false f = omega (arith, count_most p n)

-- No more than the n cells from an animal change.
from-small : (n s : ℕ) (d e body : List ℕ) → n ≤ max_animals → (x : ℕ) → changes_from n s d e body x ≤ max_animals
unfolding changes_from
from-small n s d e body h x = omega (arith, count_most (changes_at s x (get_or d x 0) e (part (n * s) x body)) n)

-- The counts of the animals passed, with one animal more.
pub sum-small : (n s : ℕ) (d e body : List ℕ) (x m r : ℕ) (lent : List ℕ) → n ≤ max_animals → x ≤ n → m ≡ sum_below (changes_from n s d e body) x
    → r ≡ count_below (changes_at s x (get_or d x 0) e lent) n → m + r ≤ max_cells + max_animals
sum-small n s d e body x m r lent h k q f =
    omega (arith, sum-most (changes_from n s d e body) x (from-small n s d e body h), count_most (changes_at s x (get_or d x 0) e lent) n)

-- ---- an animal without a departure

-- Where no number passes, none is counted.
none-count : (p : ℕ → Bool) (n : ℕ) → ((k : ℕ) → k < n → p k ≡ false) → 0 ≡ count_below p n
unfolding count_below
none-count p zero e = refl
none-count p (suc n) e = let z : p n ≡ false = e n (omega arith) in rw z (omega (arith, none-count p n (λ k h. e k (omega arith))))

module _ (n s x d : ℕ) (e cells : List ℕ) (h : CellsFrom Stored n s cells) (z : d ≡ 0) where
  -- No cell changes.
  pub idle_count : 0 ≡ count_below (changes_at s x d e cells) n
  unfolding changes_at changes
  idle_count = none-count (changes_at s x d e cells) n (λ k o. rw z (go (eqb x k)))
    where
      go : (b : Bool) → cond b false false ≡ false
      go true = refl
      go false = refl

  -- The words stay as they were.
  pub idle_words : cells ≡ parts (entered_at x d e) s n cells
  unfolding entered_at entered enter_both
  idle_words = parts_same (entered_at x d e) s cells n (λ k o. rw z (go (part s k cells) (h.every k o) (eqb x k)))
    where
      go : (xs : List ℕ) → Stored xs → (b : Bool) → xs ≡ cond b xs (cell_words (length xs - 1) (cell_of xs))
      go xs t true = refl
      go xs t false = t.words
