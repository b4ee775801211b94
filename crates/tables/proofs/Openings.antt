-- What the constructor of an opening gives, by the first number that is beyond its limits; and what the check of an opening word gives.
use Rattle.std.specs.Prelude.{Ok, Err, Some, None, slice_get}
use Rattle.std.proofs.lemmas.Option.{none-some, get_or_from_slice_get}
use mathlib.Core.Path.{◌≡◌, refl, sym, ◌∙◌}
use mathlib.Core.Bool.{Bool, true, false}
use mathlib.Core.List.{List, [], ◌∷◌}
use Prim.Native.Nat.{ℕ, ◌+◌, ◌*◌, ◌≤◌}
use native.Mathlib.Nat.{mul-le-mul}
use native.Mathlib.Omega.{arith}
use lib.Dec.{eqb}
use lib.ListN.{length, get_or}
use Rattle.words.specs.Layout.{is_of}
use Rattle.words.specs.Words.{opening_layout, animals_of, ticks_of}
use Rattle.rules.specs.declared.Refusal.TheVariants.{AnimalsBeyondLimit, TicksBeyondLimit, CarryBeyondLimit}
use Rattle.rules.specs.Folds.{within}
use Rattle.rules.specs.Layout.{table_length}
use Rattle.rules.specs.Checks.{is_open}
use Rattle.rules.specs.Limits.{max_animals, max_ticks, max_carry, max_cell_words, max_cells}
use Rattle.rules.proofs.Sound.{opens-length}
use Rattle.tables.specs.Openings.{made}

-- ---- the constructor

module _ (n τ δ : ℕ) where
  -- The number of animals is refused first.
  pub animals-beyond : within 1 n max_animals ≡ false → Err AnimalsBeyondLimit ≡ made n τ δ
  unfolding made
  animals-beyond a = rw a refl

  module _ (a : within 1 n max_animals ≡ true) where
    -- Then the number of ticks.
    pub ticks-beyond : within 1 τ max_ticks ≡ false → Err TicksBeyondLimit ≡ made n τ δ
    unfolding made
    ticks-beyond b = rw (a, b) refl

    module _ (b : within 1 τ max_ticks ≡ true) where
      -- Then the carry time.
      pub carry-beyond : within 1 δ max_carry ≡ false → Err CarryBeyondLimit ≡ made n τ δ
      unfolding made
      carry-beyond c = rw (a, b, c) refl

      -- Three numbers within their limits are an opening.
      pub all-within : within 1 δ max_carry ≡ true → Ok (record { animals = n; ticks = τ; carry = δ }) ≡ made n τ δ
      unfolding made
      all-within c = rw (a, b, c) refl

-- ---- the length of a table

-- The cells and the words of a table are at most those of the largest.
pub length-bound : (n τ : ℕ) → n ≤ max_animals → τ ≤ max_ticks → (n * n ≤ max_cells) × (n * n * (τ + 1) ≤ max_cells * max_cell_words)
length-bound n τ h k =
    let a : τ + 1 ≤ max_cell_words = omega arith in
    (mul-le-mul h h, mul-le-mul (mul-le-mul h h) a)

-- ---- an open table

module _ (T : List ℕ) where
  -- No words are no open table.
  pub open_none : None ≡ slice_get T 0 → false ≡ is_open T
  unfolding is_open is_of
  open_none e = go T e
    where
      go : (l : List ℕ) → None ≡ slice_get l 0 → false ≡ is_open l
      go [] h = refl
      go (w ∷ l) h = absurd (none-some w h)

  module _ (w : ℕ) (e : Some w ≡ slice_get T 0) where
    -- The first word.
    first-word : get_or T 0 0 ≡ w
    first-word = get_or_from_slice_get T 0 w 0 (sym e)

    -- Another word first is no open table.
    pub open_kind : {r : Bool} → r ≡ is_of opening_layout w → r ≡ false → r ≡ is_open T
    unfolding is_open
    open_kind h f = let k : is_of opening_layout w ≡ false = sym h ∙ f in rw (f, first-word, k) refl

    -- After an opening word the length decides.
    pub open_length : {r : Bool} {n τ : ℕ} → r ≡ is_of opening_layout w → r ≡ true → n ≡ animals_of w → τ ≡ ticks_of w
        → (k : ℕ) → k ≡ table_length n τ → eqb (length T) k ≡ is_open T
    unfolding is_open
    open_length h f a b k g = let i : is_of opening_layout w ≡ true = sym h ∙ f in rw (first-word, i, g, a, b) refl

-- An open table has an opening word.
pub opened : (T : List ℕ) → is_open T ≡ true → 1 ≤ length T
opened T h = omega (arith, opens-length T h)
