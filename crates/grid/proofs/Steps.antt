-- The cell after k steps is cell k with its pair, and the invariant of a loop that steps through all cells.
use mathlib.Core.Path.{◌≡◌, refl, sym, ap, ap₂, ◌∙◌, subst}
use mathlib.Core.Bool.{Bool}
use mathlib.Core.List.{List, [], ◌++◌, append-nil, append_assoc}
use Prim.Native.Nat.{ℕ, zero, suc, ◌+◌, ◌-◌, ◌*◌, ◌≤◌, ◌<◌}
use native.Mathlib.Nat.{suc-mul, zero-mul, mul-le-mul, mul-le-mul_right, zero-add, add-zero, suc-add, add-suc}
use native.Mathlib.Numerals.{add-one}
use native.Mathlib.Omega.{arith}
use lib.ListN.{length, take, drop}
use borrow.Author.Tests.{lt-ltb, le-ltb}
use Rattle.journeys.proofs.Tests.{Outcome, holds, fails, lt_outcome}
use Rattle.rules.specs.Limits.{max_cell_words, max_cells}
use Rattle.rules.specs.Folds.{flat}
use Rattle.rules.proofs.Folds.{flat-same}
use Rattle.grid.specs.declared.CellPlace.{CellPlace}
use Rattle.grid.specs.Cells.{cell_in, Grid}
use Rattle.grid.specs.Steps.{first_cell, next_cell, cell_after, NamesEveryCell}
use Rattle.grid.proofs.Places.{part-inside, cell-lent, grid-few, grid-lent}
use Rattle.grid.proofs.Numbered.{flat-square}

-- ---- one step

module _ (n s : ℕ) (c : CellPlace) where
  -- Fewer words are left behind it, of m, where a cell has words.
  pub next-less : {d : CellPlace} → d ≡ next_cell n s c → {m : ℕ} → c.at < m → 1 ≤ s → m - d.at < m - c.at
  unfolding next_cell
  next-less {d} e h p = let q : d.at ≡ c.at + s = ap (λ (x : CellPlace). x.at) e in omega arith

  -- To the next animal.
  pub next-on : c.to + 1 < n → record { at = c.at + s; from = c.from; to = c.to + 1 } ≡ next_cell n s c
  unfolding next_cell
  next-on h = rw (lt-ltb (c.to + 1) n h) refl

  -- From the next animal to animal 0.
  pub next-anew : n ≤ c.to + 1 → record { at = c.at + s; from = c.from + 1; to = 0 } ≡ next_cell n s c
  unfolding next_cell
  next-anew h = rw (le-ltb (c.to + 1) n h) refl

-- ---- the cell after k steps

-- c is cell k of n × n, of s words: where it begins, and its pair.
pub record Named (n s k : ℕ) (c : CellPlace) : Type 0 where
  pub begins : c.at ≡ k * s
  pub number : c.from * n + c.to ≡ k
  pub to_below : c.to < n

module _ (n s : ℕ) where
  -- The cell after cell k is cell k + 1.
  step-named : {k : ℕ} {c : CellPlace} → Named n s k c → Named n s (suc k) (next_cell n s c)
  step-named {k} {c} w = go (lt_outcome (c.to + 1) n)
    where
      go : {b : Bool} → Outcome (c.to + 1 < n) (n ≤ c.to + 1) b → Named n s (suc k) (next_cell n s c)
      go (holds o) = subst (Named n s (suc k)) (next-on n s c o) (record { begins = omega (arith, w.begins, suc-mul k s); number = omega (arith, w.number); to_below = o })
      go (fails o) =
          subst (Named n s (suc k)) (next-anew n s c o)
          (record {
            begins = omega (arith, w.begins, suc-mul k s);
            number = rw (add-one c.from) (omega (arith, w.number, w.to_below, suc-mul c.from n));
            to_below = omega (arith, w.to_below);
          })

  -- The cell after k steps from the first is cell k.
  pub after-named : 0 < n → (k : ℕ) → Named n s k (cell_after n s k)
  unfolding cell_after first_cell
  after-named h zero = record { begins = sym (zero-mul s); number = omega (arith, zero-mul n); to_below = h }
  after-named h (suc k) = step-named (after-named h k)

-- Pairs with the same number have the same animals.
same_number : (n u v x y : ℕ) → v < n → y < n → u * n + v ≡ x * n + y → (u ≡ x) × (v ≡ y)
same_number n u v x y h k e = go (lt_outcome u x) (lt_outcome x u)
  where
    go : {a b : Bool} → Outcome (u < x) (x ≤ u) a → Outcome (x < u) (u ≤ x) b → (u ≡ x) × (v ≡ y)
    go (holds o) q = absurd (omega (arith, part-inside u x n o))
    go (fails o) (holds q) = absurd (omega (arith, part-inside x u n q))
    go (fails o) (fails q) = let r : u ≡ x = omega arith in (r, omega (arith, ap (λ (i : ℕ). i * n) r))

-- After u·n + v steps the cell is that of (u, v).
pub names_every_cell : NamesEveryCell
unfolding NamesEveryCell
names_every_cell n s u v h =
    let w = after-named n s (omega arith) (u * n + v) in
    let e = same_number n _ _ u v w.to_below h w.number in
    λ i. record { at = w.begins i; from = e.0 i; to = e.1 i }

-- ---- a list for each pair

-- The lists g of the pairs of m cells, from cell c on.
unfoldable pub lists_from : {A : Type 0} → ℕ → ℕ → (ℕ → ℕ → List A) → CellPlace → ℕ → List A
lists_from n s g c zero = []
lists_from n s g c (suc m) = g c.from c.to ++ lists_from n s g (next_cell n s c) m

module _ {A : Type 0} (n s : ℕ) (g : ℕ → ℕ → List A) where
  -- The list of the pair of cell k.
  abbrev of_cell : ℕ → List A
  of_cell k = let c = cell_after n s k in g c.from c.to

  -- Those of k cells, then those of the m cells after them.
  lists-after : (k m : ℕ) → flat of_cell k ++ lists_from n s g (cell_after n s k) m ≡ flat of_cell (k + m)
  unfolding lists_from flat cell_after
  lists-after k zero = append-nil (flat of_cell k) ∙ ap (flat of_cell) (sym (add-zero k))
  lists-after k (suc m) =
      sym (append_assoc (flat of_cell k) (of_cell k) (lists_from n s g (cell_after n s (suc k)) m))
      ∙ lists-after (suc k) m
      ∙ ap (flat of_cell) (suc-add k m ∙ sym (add-suc k m))

  -- Those of all cells are those of all pairs, from each animal to each.
  pub lists-all : {c : CellPlace} → c ≡ first_cell → lists_from n s g c (n * n - 0) ≡ flat (λ u. flat (g u) n) n
  unfolding flat cell_after NamesEveryCell
  lists-all e =
      let z : n * n - 0 ≡ n * n = omega arith in
      ap₂ (lists_from n s g) e z
      ∙ lists-after 0 (n * n)
      ∙ ap (flat of_cell) (zero-add (n * n))
      ∙ flat-square of_cell n n
      ∙ flat-same _ _ n (λ u h. flat-same _ _ n (λ v k. ap (λ (c : CellPlace). g c.from c.to) (names_every_cell n s u v k)))

  module _ (c : CellPlace) (k : ℕ) where
    -- That of the next cell, then those after it.
    pub lists-next : k < n * n → {d : CellPlace} → d ≡ next_cell n s c → lists_from n s g c (n * n - k) ≡ g c.from c.to ++ lists_from n s g d (n * n - (k + 1))
    unfolding lists_from
    lists-next h e =
        let z : n * n - k ≡ suc (n * n - (k + 1)) = omega arith in
        ap (lists_from n s g c) z ∙ ap (λ (d : CellPlace). g c.from c.to ++ lists_from n s g d (n * n - (k + 1))) (sym e)

    -- At the end none is left.
    pub lists-none : n * n ≤ k → lists_from n s g c (n * n - k) ≡ []
    unfolding lists_from
    lists-none h = let z : n * n - k ≡ 0 = omega arith in ap (lists_from n s g c) z

-- ---- the invariant of a loop

-- The first k of n × n cells of s words are passed, and c is the next.
pub record Stepped (n s : ℕ) (c : CellPlace) (k : ℕ) : Type 0 where
  pub is : c ≡ cell_after n s k

-- No cell is passed yet.
pub stepped_start : (n s : ℕ) {c : CellPlace} → c ≡ first_cell → Stepped n s c 0
unfolding cell_after
stepped_start n s e = record { is = e }

-- One more cell is passed.
pub stepped-turn : {n s : ℕ} {c : CellPlace} {k : ℕ} → Stepped n s c k → {d : CellPlace} → d ≡ next_cell n s c → Stepped n s d (k + 1)
unfolding cell_after
stepped-turn {n} {s} {c} {k} w e = record { is = e ∙ ap (next_cell n s) w.is ∙ rw (add-one k) refl }

-- Cell c, which is cell k and the next: one is left, its animals are two of the n, it ends inside the words, it is lent as it stands, with its property, and a
-- step can be made from it.
pub record AtCell (P : List ℕ → Type 0) (n s : ℕ) (body : List ℕ) (c : CellPlace) (k : ℕ) : Type 0 where
  pub left : k < n * n
  pub from_below : c.from < n
  pub to_below : c.to < n
  pub inside : c.at + s ≤ length body
  pub lent : take (c.at + s - c.at) (drop c.at body) ≡ cell_in n s body c.from c.to
  pub property : P (take (c.at + s - c.at) (drop c.at body))
  pub steps : ((c.at ≤ max_cells * max_cell_words) × (s ≤ max_cell_words)) × ((c.from < n) × (c.to < n))

module _ {P : List ℕ → Type 0} {n s : ℕ} {body : List ℕ} {c : CellPlace} {k : ℕ} (g : Grid P n s body) (w : Stepped n s c k) where
  -- c is cell k where there is an animal.
  named : 0 < n → Named n s k c
  named h = rw w.is (after-named n s h k)

  -- Where no cell is left, none begins inside the words.
  all-passed : n * n ≤ k → length body ≤ c.at
  all-passed h = go (lt_outcome 0 n)
    where
      go : {b : Bool} → Outcome (0 < n) (n ≤ 0) b → length body ≤ c.at
      go (holds o) = omega (arith, mul-le-mul_right s h, (named o).begins, g.long)
      go (fails o) = omega (arith, g.long, mul-le-mul (mul-le-mul o o) g.short)

  -- Where one is left, there is an animal.
  some-animal : k < n * n → 0 < n
  some-animal = go n
    where
      go : (m : ℕ) → k < m * m → 0 < m
      go zero o = absurd (omega (arith, zero-mul 0))
      go (suc m) o = omega arith

  -- Where c begins inside the words, it is such a cell.
  pub at-cell : c.at < length body → AtCell P n s body c k
  at-cell h = go (lt_outcome k (n * n))
    where
      animal : (it : Named n s k c) → k < n * n → {b : Bool} → Outcome (c.from < n) (n ≤ c.from) b → c.from < n
      animal it o (holds q) = q
      animal it o (fails q) = absurd (omega (arith, mul-le-mul_right n q, it.number))

      cell : (it : Named n s k c) → k < n * n → c.from < n → AtCell P n s body c k
      cell it o f =
          let i : c.at + s ≤ length body = omega (arith, part-inside k (n * n) s o, it.begins, g.long) in
          let l = cell-lent n s body c.from c.to c.at (it.begins ∙ ap (λ (j : ℕ). j * s) (sym it.number)) in
          record {
            left = o;
            from_below = f;
            to_below = it.to_below;
            inside = i;
            lent = l;
            property = grid-lent g c.from c.to f it.to_below l;
            steps = ((omega (arith, i, g.long, mul-le-mul (grid-few g) g.short), g.short), (f, it.to_below));
          }

      go : {b : Bool} → Outcome (k < n * n) (n * n ≤ k) b → AtCell P n s body c k
      go (holds o) = let it = named (some-animal o) in cell it o (animal it o (lt_outcome c.from n))
      go (fails o) = absurd (omega (arith, all-passed o))

  -- Where it does not, none is left, if a cell has words.
  pub none_left : 1 ≤ s → length body ≤ c.at → n * n ≤ k
  none_left p h = go (lt_outcome k (n * n))
    where
      go : {b : Bool} → Outcome (k < n * n) (n * n ≤ k) b → n * n ≤ k
      go (holds o) = absurd (omega (arith, part-inside k (n * n) s o, (named (some-animal o)).begins, g.long))
      go (fails o) = o
