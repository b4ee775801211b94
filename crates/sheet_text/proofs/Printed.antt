-- What is printed for the words of a log.
use Rattle.std.specs.Prelude.{Ok, Err, Result, Some, None, slice_get}
use Rattle.std.proofs.lemmas.Option.{none-some, get_or_from_slice_get}
use mathlib.Core.Path.{◌≡◌, refl, sym, ap, ◌∙◌, subst}
use mathlib.Core.Bool.{Bool, true, false, not, cond, ◌&&◌}
use mathlib.Core.List.{List, [], ◌∷◌}
use Prim.Native.Nat.{ℕ, zero, suc, ◌+◌, ◌*◌, ◌/◌, ◌%◌, ◌≤◌, ◌<◌}
use native.Mathlib.Nat.{mul-le-mul}
use native.Mathlib.Omega.{arith}
use lib.ListN.{length, get_or, take, drop, replicate, length-replicate, length-append}
use lib.Seq.{length-take-le, take_at}
use lib.Dec.{leb, ltb}
use borrow.Author.Tests.{le-leb, lt-leb, lt-ltb, le-ltb, leb-true, not-false, eq-eqb, ne_eqb}
use Rattle.journeys.proofs.Tests.{Outcome, holds, fails, le_outcome}
use Rattle.words.specs.Layout.{is_of}
use Rattle.words.specs.Words.{opening_layout, animals_of, ticks_of}
use Rattle.rules.specs.declared.Refusal.{Refusal}
use Rattle.rules.specs.declared.Refusal.TheVariants.{NotALog}
use Rattle.rules.specs.Answers.{number_of}
use Rattle.rules.specs.Layout.{table_length, animals, ticks}
use Rattle.rules.specs.Checks.{ValidTable}
use Rattle.rules.specs.Logs.{held_contacts}
use Rattle.rules.specs.Reading.{is_log, read_refusal, read_answer, read_leaves}
use Rattle.rules.specs.Sheet.{most_bytes, most_animals, most_ticks, most_text, most_table_words, words_of, is_beyond, read_text, log_text, refused_text, too_large, not_whole_words, sheet_text}
use Rattle.rules.proofs.Folds.{and_left, and_right}
use Rattle.rules.proofs.Demand1.{demand1}
use Rattle.rules.proofs.LogsRead.{read_held}
use Rattle.table_text.specs.Lines.{overwrite_front}
use Rattle.table_text.proofs.Lengths.{sheet_fits}
use Rattle.sheet_text.specs.Prints.{Prints}
use Rattle.sheet_text.proofs.Words.{words-length}

-- What is no log is refused as that, whatever the table.
no-log : (L T : List ℕ) → is_log L ≡ false → read_answer L T ≡ Err NotALog
unfolding read_answer read_refusal
no-log L T q = rw q refl

-- ---- the limits

-- No words are not beyond the limits.
pub beyond_none : (L : List ℕ) → None ≡ slice_get L 0 → false ≡ is_beyond L
unfolding is_beyond is_of
beyond_none [] h = refl
beyond_none (w ∷ L) h = absurd (none-some w h)

module _ (L : List ℕ) (w : ℕ) (first : Some w ≡ slice_get L 0) where
  first-word : get_or L 0 0 ≡ w
  first-word = get_or_from_slice_get L 0 w 0 (sym first)

  -- Another word first is not beyond them.
  pub beyond_other : (a : Bool) → a ≡ is_of opening_layout w → a ≡ false → a ≡ is_beyond L
  unfolding is_beyond
  beyond_other a e h = let i : is_of opening_layout w ≡ false = sym e ∙ h in rw (h, first-word, i) refl

  module _ (i : true ≡ is_of opening_layout w) where
    -- After an opening word its animals decide, or its ticks.
    module _ (n : ℕ) (p : n ≡ animals_of w) where
      pub beyond_animals : most_animals < n → ltb most_animals n ≡ is_beyond L
      unfolding is_beyond
      beyond_animals k =
          let more : most_animals < animals_of w = subst (λ m. most_animals < m) p k in
          rw (first-word, sym i, lt-leb (animals_of w) most_animals more) (lt-ltb most_animals n k)

      pub beyond_ticks : n ≤ most_animals → (τ : ℕ) → τ ≡ ticks_of w → ltb most_ticks τ ≡ is_beyond L
      unfolding is_beyond
      beyond_ticks k τ q =
          let few : animals_of w ≤ most_animals = subst (λ m. m ≤ most_animals) p k in
          rw (first-word, sym i, le-leb (animals_of w) most_animals few, q) (other (ticks_of w))
        where
          other : (m : ℕ) → ltb most_ticks m ≡ not (leb m most_ticks)
          other m = go (le_outcome m most_ticks)
            where
              go : {b : Bool} → Outcome (m ≤ most_ticks) (most_ticks < m) b → ltb most_ticks m ≡ not b
              go (holds k) = le-ltb most_ticks m k
              go (fails k) = lt-ltb most_ticks m k

    -- Within the limits a table has no more words than the largest.
    pub size_small : is_beyond L ≡ false → table_length (animals_of w) (ticks_of w) ≤ most_table_words
    unfolding is_beyond
    size_small q = go (animals_of w) (ticks_of w) (leb-true (animals_of w) most_animals (and_left (leb (animals_of w) most_animals) (leb (ticks_of w) most_ticks) inside)) (leb-true (ticks_of w) most_ticks (and_right (leb (animals_of w) most_animals) (leb (ticks_of w) most_ticks) inside))
      where
        beyond : Bool → ℕ → Bool
        beyond b v = b && not (leb (animals_of v) most_animals && leb (ticks_of v) most_ticks)

        inside : (leb (animals_of w) most_animals && leb (ticks_of w) most_ticks) ≡ true
        inside = not-false _ (ap (λ b. beyond b w) i ∙ ap (λ v. beyond (is_of opening_layout v) v) (sym first-word) ∙ q)

        go : (n τ : ℕ) → n ≤ most_animals → τ ≤ most_ticks → table_length n τ ≤ most_table_words
        go n τ k m =
            let x : n * n ≤ most_animals * most_animals = mul-le-mul {n₂ = most_animals} k k in
            let t : τ + 1 ≤ most_ticks + 1 = omega arith in
            let y : n * n * (τ + 1) ≤ most_animals * most_animals * (most_ticks + 1) = mul-le-mul x t in
            omega arith

-- ---- the table

take-replicate : (k m : ℕ) → k ≤ m → take k (replicate {A = ℕ} m 0) ≡ replicate k 0
take-replicate zero m h = refl
take-replicate (suc k) zero h = absurd (omega arith)
take-replicate (suc k) (suc m) h = ap (λ (l : List ℕ). 0 ∷ l) (take-replicate k m (omega arith))

-- The words of a table that is long enough print the log.
pub prints : (L : List ℕ) (r : ℕ) → r ≤ most_table_words → (is_log L ≡ true → r ≡ table_length (animals L) (ticks L)) → Prints L (take r (replicate {A = ℕ} most_table_words 0))
unfolding log_text
prints L r h f = go (is_log L) refl
  where
    zeros : List ℕ
    zeros = replicate {A = ℕ} (table_length (animals L) (ticks L)) 0

    refused : is_log L ≡ false → (T : List ℕ) → read_text (read_answer L T) (read_leaves L T) ≡ refused_text (number_of NotALog)
    refused q T = ap (λ (x : Result ℕ Refusal). read_text x (read_leaves L T)) (no-log L T q)

    go : (b : Bool) → is_log L ≡ b → read_text (read_answer L (take r (replicate {A = ℕ} most_table_words 0))) (read_leaves L (take r (replicate {A = ℕ} most_table_words 0))) ≡ read_text (read_answer L zeros) (read_leaves L zeros)
    go true q = ap (λ (T : List ℕ). read_text (read_answer L T) (read_leaves L T)) (take-replicate r most_table_words h ∙ ap (λ (i : ℕ). replicate {A = ℕ} i 0) (f q))
    go false q = refused q _ ∙ sym (refused q zeros)

-- ---- what reading answered

-- A table into which a log was read is valid, and holds as many contacts as were answered.
pub read_table : (L T U : List ℕ) (k : ℕ) → Ok k ≡ read_answer L T → U ≡ read_leaves L T → ValidTable U × (k ≡ length (held_contacts U))
read_table L T U k e f = subst (λ (W : List ℕ). ValidTable W × (k ≡ length (held_contacts W))) (sym f) (demand1.read_valid L T k (sym e), read_held L T k (sym e))

-- ---- one text for another

-- What was written of a text was written of an equal one.
pub put_as : (s t out new : List ℕ) (k : ℕ) → s ≡ t → k ≡ length t → new ≡ overwrite_front t out → (k ≡ length s) × (new ≡ overwrite_front s out)
put_as s t out new k e f g = (f ∙ ap length (sym e), g ∙ ap (λ (x : List ℕ). overwrite_front x out) (sym e))

-- What has room for a text has room for an equal one.
pub room_as : (s t out : List ℕ) → s ≡ t → length s ≤ length out → length t ≤ length out
room_as s t out e h = subst (λ (x : List ℕ). length x ≤ length out) e h

-- ---- the words of a log

-- The text of the words: too large, or that of the log.
abbrev pub words_text : List ℕ → List ℕ
words_text L = cond (is_beyond L) too_large (log_text L)

-- The part of a blank table that is lent prints the log.
pub lent-prints : (L : List ℕ) (r : ℕ) (T : List ℕ) → T ≡ replicate {A = ℕ} most_table_words 0 → r ≤ most_table_words → (is_log L ≡ true → r ≡ table_length (animals L) (ticks L)) → Prints L (take r T)
lent-prints L r T e h f = subst (λ (U : List ℕ). Prints L (take r U)) (sym e) (prints L r h f)

-- ---- the bytes

pub sheet_large : (B : List ℕ) → most_bytes < length B → sheet_text B ≡ too_large
unfolding sheet_text
sheet_large B h = rw (lt-ltb most_bytes (length B) h) refl

module _ (B : List ℕ) (h : length B ≤ most_bytes) where
  pub sheet_broken : (length B % 4 ≡ 0 → ⊥) → sheet_text B ≡ not_whole_words
  unfolding sheet_text
  sheet_broken d = rw (le-ltb most_bytes (length B) h, ne_eqb (length B % 4) 0 d) refl

  pub sheet_words : length B % 4 ≡ 0 → sheet_text B ≡ words_text (words_of B)
  unfolding sheet_text
  sheet_words d = rw (le-ltb most_bytes (length B) h, eq-eqb (length B % 4) 0 d) refl

-- The words of whole words, taken back from where they were written.
pub words-lent : (B l out : List ℕ) (k : ℕ) → length B % 4 ≡ 0 → k ≡ length B / 4 → out ≡ overwrite_front (words_of B) l → take k out ≡ words_of B
unfolding overwrite_front
words-lent B l out k d e f = ap (take k) f ∙ take_at (words_of B) (drop (length (words_of B)) l) k (words-length B d ∙ sym e)

-- The text that is shown lies inside its bytes.
pub shown_inside : (B text : List ℕ) (k : ℕ) → k ≡ length (sheet_text B) → text ≡ overwrite_front (sheet_text B) (replicate {A = ℕ} most_text 0) → (k ≤ length text) × (k ≡ length (take k text))
unfolding overwrite_front
shown_inside B text k e f =
    let h = sheet_fits B in
    let n = length-append (sheet_text B) (drop (length (sheet_text B)) (replicate {A = ℕ} most_text 0)) in
    let r : k ≤ length text = omega (arith, n, ap length f) in
    (r, sym (length-take-le k text r))
