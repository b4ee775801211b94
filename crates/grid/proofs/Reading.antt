-- The invariants of a loop that reads the parts of a list one after the other: where it stands, and a test that may end it early.
use mathlib.Core.Path.{◌≡◌, refl, sym, ap, ap₂, ◌∙◌}
use mathlib.Core.Bool.{Bool, true, false, not, ◌&&◌}
use mathlib.Core.List.{List, ◌++◌}
use Prim.Native.Nat.{ℕ, zero, suc, ◌+◌, ◌-◌, ◌*◌, ◌≤◌, ◌<◌}
use native.Mathlib.Nat.{zero-mul}
use native.Mathlib.Numerals.{add-one}
use native.Mathlib.Omega.{arith}
use native.Mathlib.Decide.{dec_le}
use lib.ListN.{length, take, drop, length-drop, length-append}
use lib.Seq.{take_at, drop_at, drop-drop}
use borrow.Author.Tests.{not-true, not-false}
use Rattle.rules.specs.Folds.{all_below}
use Rattle.rules.proofs.Folds.{and_intro, below_all}
use Rattle.grid.specs.Parts.{part}
use Rattle.grid.proofs.Places.{next-part, part-inside}

-- ---- where it stands

-- The first k of n parts of s words are passed, and `at` is where the next begins.
pub record Through (s n at k : ℕ) : Type 0 where
  pub below : k ≤ n
  pub place : at ≡ k * s

-- No part is passed yet.
pub through-start : (s n : ℕ) → Through s n 0 0
through-start s n = record { below = omega arith; place = sym (zero-mul s) }

module _ {s n at k : ℕ} (w : Through s n at k) where
  -- The next part lies inside the list.
  pub through-room : (l : List ℕ) → n * s ≤ length l → k < n → at + s ≤ length l
  through-room l h t = omega (arith, part-inside k n s t, w.place)

  -- One more part is passed.
  pub through-turn : k < n → Through s n (at + s) (k + 1)
  through-turn t = record { below = omega arith; place = ap (λ (i : ℕ). i + s) w.place ∙ sym (next-part k s) }

-- ---- a loop over chunks

-- A loop over the numbered chunks of s words of l, of which there are n, has passed k of them: `rest` are the words that its iterator has left,
-- `size` the size of the chunks that it gives.
pub record Chunks (s n : ℕ) (l rest : List ℕ) (size k : ℕ) : Type 0 where
  pub some : 1 ≤ s
  pub long : length l ≡ n * s
  pub whole : size ≡ s
  pub below : k ≤ n
  pub left : rest ≡ drop (k * s) l

-- A chunk with the number k is the k-th of the n parts of s words of l.
pub record Chunk (s n : ℕ) (l chunk : List ℕ) (k : ℕ) : Type 0 where
  pub below : k < n
  pub long : length chunk ≡ s
  pub lent : chunk ≡ part s k l

-- No chunk is passed yet.
pub chunks-start : {s n size k : ℕ} {l rest : List ℕ} → 1 ≤ s → length l ≡ n * s → size ≡ s → rest ≡ l → k ≡ 0 → Chunks s n l rest size k
chunks-start {s} {l = l} o h w e z =
    record {
      some = o;
      long = h;
      whole = w;
      below = omega arith;
      left = e ∙ sym (ap (λ (i : ℕ). drop (i * s) l) z ∙ ap (λ (i : ℕ). drop i l) (zero-mul s));
    }

module _ {s n size k : ℕ} {l rest : List ℕ} (w : Chunks s n l rest size k) where
  -- The number of words that are left.
  chunks-left : length rest ≡ n * s - k * s
  chunks-left = ap length w.left ∙ length-drop (k * s) l ∙ ap (λ (m : ℕ). m - k * s) w.long

  -- The iterator gives a chunk, and goes on with the words after it: e is what `chunks_exact` says of a step.
  module _ (chunk next : List ℕ) (size_then : ℕ) {R : Type 0} (e : (size_then ≡ size) × ((rest ≡ chunk ++ next) × (length chunk ≡ size)) × R) where
    -- It has s words.
    chunk-length : length chunk ≡ s
    chunk-length = e.1.1 ∙ w.whole

    -- It is one of the n.
    chunk-below : k < n
    chunk-below = go (dec_le (k + 1) n)
      where
        go : Dec (k + 1 ≤ n) → k < n
        go (yes h) = omega arith
        go (no h) =
            let q : k ≡ n = omega (arith, w.below) in
            let m : k * s ≡ n * s = ap (λ (i : ℕ). i * s) q in
            let r : length rest ≡ length chunk + length next = ap length e.1.0 ∙ length-append chunk next in
            absurd (omega (arith, w.some, chunks-left, chunk-length))

    -- It is the part with its number.
    pub chunk-given : {number : ℕ} → number ≡ k → Chunk s n l chunk number
    chunk-given f =
        record {
          below = omega (arith, chunk-below);
          long = chunk-length;
          lent = sym (take_at chunk next s chunk-length) ∙ ap (take s) (sym e.1.0 ∙ w.left) ∙ ap (λ (i : ℕ). part s i l) (sym f);
        }

    -- One more chunk is passed.
    pub chunks-turn : {k_then : ℕ} → k_then ≡ k + 1 → Chunks s n l next size_then k_then
    chunks-turn f =
        record {
          some = w.some;
          long = w.long;
          whole = e.0 ∙ w.whole;
          below = omega (arith, chunk-below);
          left = sym (drop_at chunk next s chunk-length) ∙ ap (drop s) (sym e.1.0 ∙ w.left) ∙ drop-drop s (k * s) l
              ∙ ap (λ (m : ℕ). drop m l) (sym (ap (λ (m : ℕ). m * s) f ∙ next-part k s));
        }

  -- All chunks are passed where the words left make none.
  pub chunks-end : length rest < size → n ≤ k
  chunks-end h = go (dec_le n k)
    where
      go : Dec (n ≤ k) → n ≤ k
      go (yes m) = m
      go (no m) = absurd (omega (arith, chunks-left, w.whole, part-inside k n s (omega arith)))

-- ---- a test of every number

-- The first k of n numbers passed the test p.
pub record Tested (p : ℕ → Bool) (n k : ℕ) : Type 0 where
  pub below : k ≤ n
  pub all : all_below p k ≡ true

-- No number is tested yet.
pub tested-none : (p : ℕ → Bool) (n : ℕ) {k : ℕ} → k ≡ 0 → Tested p n k
tested-none p n e = record { below = omega arith; all = unfold all_below in rw e refl }

pub tested-start : (p : ℕ → Bool) (n : ℕ) → Tested p n 0
tested-start p n = tested-none p n refl

module _ {p : ℕ → Bool} {n k : ℕ} (w : Tested p n k) where
  -- The next number passes the test.
  pub tested-next : {i k_then : ℕ} → i < n → i ≡ k → k_then ≡ k + 1 → true ≡ p i → Tested p n k_then
  unfolding all_below
  tested-next t e f g =
      record {
        below = omega arith;
        all = rw (f, add-one k) (and_intro (all_below p k) (p k) w.all (ap p (sym e) ∙ sym g));
      }

  -- A number that fails ends the test.
  pub tested-fails : {i : ℕ} → i < n → false ≡ p i → false ≡ all_below p n
  tested-fails {i} t f = go (all_below p n) (λ h. below_all p n h i t)
    where
      go : (b : Bool) → (b ≡ true → p i ≡ true) → false ≡ b
      go true g = f ∙ g refl
      go false g = refl

  -- The same by the test that a function ran.
  pub tested-turn : {r : Bool} → k < n → r ≡ p k → not r ≡ false → Tested p n (k + 1)
  tested-turn {r} t e f = tested-next t refl refl (sym (not-false r f) ∙ e)

  pub tested-stop : {r : Bool} → k < n → r ≡ p k → not r ≡ true → false ≡ all_below p n
  tested-stop {r} t e f = tested-fails t (sym (not-true r f) ∙ e)

  -- No number is left to test.
  pub tested-end : n ≤ k → true ≡ all_below p n
  tested-end h = let e : k ≡ n = omega (arith, w.below) in sym w.all ∙ ap (all_below p) e

-- Tests that agree on every number below n hold of all of them alike.
pub all_same : (p q : ℕ → Bool) (n : ℕ) → ((k : ℕ) → k < n → p k ≡ q k) → all_below p n ≡ all_below q n
unfolding all_below
all_same p q zero e = refl
all_same p q (suc n) e = ap₂ ◌&&◌ (all_same p q n (λ k h. e k (omega arith))) (e n (omega arith))
