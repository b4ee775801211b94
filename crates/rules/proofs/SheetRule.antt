-- The printing program prints as its limits say, on each side of each.
use Rattle.std.specs.Prelude.{Err}
use Prim.Native.Nat.{ℕ, ◌%◌, ◌≤◌, ◌<◌}
use mathlib.Core.Path.{◌≡◌, refl, sym, ap, ap₂, ◌∙◌}
use mathlib.Core.Logic.{◌⊎◌, ◌≢◌, ⊎_elim}
use mathlib.Core.Bool.{Bool, true, false, cond, not, ◌&&◌}
use mathlib.Core.List.{List}
use lib.ListN.{length, get_or}
use lib.Dec.{leb}
use borrow.Author.Tests.{eq-eqb, ne_eqb, le-leb, lt-leb, lt-ltb, le-ltb}
use Rattle.journeys.specs.declared.Contact.{Contact}
use Rattle.journeys.specs.Journey.{In}
use Rattle.words.specs.Layout.{is_of}
use Rattle.words.specs.Words.{opening_layout, animals_of, ticks_of}
use Rattle.words.proofs.Packed.{opening_word-is}
use Rattle.rules.specs.declared.Refusal.{Refusal}
use Rattle.rules.specs.declared.Refusal.TheVariants.{NotALog}
use Rattle.rules.specs.Answers.{number_of}
use Rattle.rules.specs.Layout.{table_length, animals, ticks}
use Rattle.rules.specs.Opening.{Sizes}
use Rattle.rules.specs.Fresh.{Fresh}
use Rattle.rules.specs.Reading.{read_refusal, read_answer, read_leaves}
use Rattle.rules.specs.LogsRead.{IsLog}
use Rattle.rules.specs.Sheet.{most_bytes, most_animals, most_ticks, words_of, too_large, not_whole_words, refused_text, table_text, is_beyond, read_text, log_text, sheet_text}
use Rattle.rules.specs.SheetRule.{WholeWords, OpensWith, SheetRule}
use Rattle.rules.proofs.Decode.{animals-again, ticks-again}
use Rattle.rules.proofs.Fresh.{fresh-unique}
use Rattle.rules.proofs.Reading.{log-first}
use Rattle.rules.proofs.LogsRead.{zeros, zeros-length, log-text, log-fresh}

and-false : (b : Bool) → (b && false) ≡ false
and-false true = refl
and-false false = refl

-- ---- bytes

bytes_beyond : (B : List ℕ) → 16384 < length B → sheet_text B ≡ too_large
unfolding sheet_text
bytes_beyond B h = rw (lt-ltb most_bytes (length B) h) refl

not_whole : (B : List ℕ) → length B ≤ 16384 → length B % 4 ≢ 0 → sheet_text B ≡ not_whole_words
unfolding sheet_text
not_whole B h k = rw (le-ltb most_bytes (length B) h, ne_eqb (length B % 4) 0 k) refl

-- What whole words print is said by their opening word, and then by reading.
whole-sheet : (B : List ℕ) → WholeWords B → (b : Bool) → is_beyond (words_of B) ≡ b → sheet_text B ≡ cond b too_large (log_text (words_of B))
unfolding sheet_text
whole-sheet B w b e = rw (le-ltb most_bytes (length B) w.few, eq-eqb (length B % 4) 0 w.whole, e) refl

-- ---- the opening word

module _ {n τ δ : ℕ} {B : List ℕ} (o : OpensWith n τ δ B) where
  z : Sizes n τ δ
  z = o.sizes

  animals-are : animals (words_of B) ≡ n
  animals-are = ap animals_of o.first ∙ animals-again n τ δ z

  ticks-are : ticks (words_of B) ≡ τ
  ticks-are = ap ticks_of o.first ∙ ticks-again n τ δ z

  -- Whether it is beyond the limits is said by its numbers.
  beyond_is : is_beyond (words_of B) ≡ not (leb n most_animals && leb τ most_ticks)
  unfolding is_beyond
  beyond_is =
      ap₂ ◌&&◌ (ap (is_of opening_layout) o.first ∙ opening_word-is n τ δ z.n_low z.n_high z.τ-low z.τ-high z.δ-low z.δ-high)
      (ap₂ (λ m t. not (leb m most_animals && leb t most_ticks)) animals-are ticks-are)

  is-beyond : (8 < n) ⊎ (64 < τ) → is_beyond (words_of B) ≡ true
  is-beyond h = beyond_is ∙ ⊎_elim animals-many ticks-many h
    where
      animals-many : 8 < n → not (leb n most_animals && leb τ most_ticks) ≡ true
      animals-many k = rw (lt-leb n most_animals k) refl

      ticks-many : 64 < τ → not (leb n most_animals && leb τ most_ticks) ≡ true
      ticks-many k = rw (lt-leb τ most_ticks k, and-false (leb n most_animals)) refl

  not_beyond : n ≤ 8 → τ ≤ 64 → is_beyond (words_of B) ≡ false
  not_beyond h k = beyond_is ∙ rw (le-leb n most_animals h, le-leb τ most_ticks k) refl

-- ---- reading

-- Reading asks the table for its length alone.
refused-alike : (L T U : List ℕ) → length T ≡ length U → (r : Refusal) → read_answer L T ≡ Err r → read_answer L U ≡ Err r
unfolding read_answer read_refusal
refused-alike L T U e r h = rw e at h

-- What reading refuses is printed with its number.
refused-text : (L : List ℕ) (r : Refusal) → read_answer L (zeros (animals L) (ticks L)) ≡ Err r → log_text L ≡ refused_text (number_of r)
unfolding log_text
refused-text L r e = ap (λ a. read_text a (read_leaves L (zeros (animals L) (ticks L)))) e

no_opening : (B : List ℕ) → WholeWords B → is_of opening_layout (get_or (words_of B) 0 0) ≡ false → sheet_text B ≡ refused_text 11
unfolding is_beyond read_answer read_refusal
no_opening B w e =
    whole-sheet B w false (rw e refl) ∙ refused-text (words_of B) NotALog (rw (e, and-false (leb 2 (length (words_of B)))) refl)

refused : (n τ δ : ℕ) (B : List ℕ) → WholeWords B → OpensWith n τ δ B → n ≤ 8 → τ ≤ 64 → (T : List ℕ) → length T ≡ table_length n τ
    → (r : Refusal) → read_answer (words_of B) T ≡ Err r → sheet_text B ≡ refused_text (number_of r)
refused n τ δ B w o h k T e r a =
    whole-sheet B w false (not_beyond o h k)
    ∙ refused-text (words_of B) r
    (refused-alike (words_of B) T (zeros (animals (words_of B)) (ticks (words_of B)))
    (e ∙ sym (ap₂ table_length (animals-are o) (ticks-are o)) ∙ sym (zeros-length (animals (words_of B)) (ticks (words_of B)))) r a)

printed : (n τ δ : ℕ) (l : List Contact) (B : List ℕ) → WholeWords B → IsLog n τ δ l (words_of B) → n ≤ 8 → τ ≤ 64 → (T : List ℕ) → Fresh n τ δ (In l) T → sheet_text B ≡ table_text T
printed n τ δ l B w g h k T f =
    whole-sheet B w false (not_beyond (record { sizes = g.sizes; first = log-first g }) h k)
    ∙ log-text g
    ∙ ap table_text (fresh-unique (log-fresh g (zeros n τ) (zeros-length n τ)) f)

pub sheet_rule : SheetRule
sheet_rule =
    record {
      bytes_beyond = bytes_beyond;
      not_whole = not_whole;
      opening_beyond = λ n τ δ B w o h. whole-sheet B w true (is-beyond o h);
      printed = printed;
      refused = refused;
      no_opening = no_opening;
    }
