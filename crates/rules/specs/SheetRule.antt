-- What the printing program prints, case by case, with its limits in numbers (document 01, "One session, whole").
use Rattle.std.specs.Prelude.{ℕ, ◌%◌, ◌≤◌, ◌<◌, ◌≡◌, ◌⊎◌, ◌≢◌, false, List, length, get_or, Err}
use Rattle.journeys.specs.declared.Contact.{Contact}
use Rattle.journeys.specs.Journey.{In}
use Rattle.words.specs.Layout.{is_of}
use Rattle.words.specs.Words.{opening_layout, opening_word}
use Rattle.rules.specs.declared.Refusal.{Refusal}
use Rattle.rules.specs.Answers.{number_of}
use Rattle.rules.specs.Layout.{table_length}
use Rattle.rules.specs.Opening.{Sizes}
use Rattle.rules.specs.Fresh.{Fresh}
use Rattle.rules.specs.Reading.{read_answer}
use Rattle.rules.specs.LogsRead.{IsLog}
use Rattle.rules.specs.Sheet.{words_of, too_large, not_whole_words, refused_text, table_text, sheet_text}

-- The bytes are whole words, and no more than 4,096 of them.
pub record WholeWords (B : List ℕ) : Type 0 where
  pub few : length B ≤ 16384
  pub whole : length B % 4 ≡ 0

-- The bytes begin with the opening word of n, τ and δ.
pub record OpensWith (n τ δ : ℕ) (B : List ℕ) : Type 0 where
  pub sizes : Sizes n τ δ
  pub first : get_or (words_of B) 0 0 ≡ opening_word n τ δ

pub record SheetRule : Type 0 where
  -- Over 16,384 bytes: "too large".
  pub bytes_beyond : (B : List ℕ) → 16384 < length B → sheet_text B ≡ too_large
  -- Up to there, a number of bytes that is no multiple of 4: "not whole words".
  pub not_whole : (B : List ℕ) → length B ≤ 16384 → length B % 4 ≢ 0 → sheet_text B ≡ not_whole_words
  -- Whole words that begin with an opening word of more than 8 animals or more than 64 ticks: "too large".
  pub opening_beyond : (n τ δ : ℕ) (B : List ℕ) → WholeWords B → OpensWith n τ δ B → (8 < n) ⊎ (64 < τ) → sheet_text B ≡ too_large
  -- Up to 8 animals and 64 ticks, a log: the text of the fresh table over its contacts.
  pub printed : (n τ δ : ℕ) (l : List Contact) (B : List ℕ) → WholeWords B → IsLog n τ δ l (words_of B) → n ≤ 8 → τ ≤ 64 → (T : List ℕ) → Fresh n τ δ (In l) T → sheet_text B ≡ table_text T
  -- Up to there, what reading refuses, whatever the table of the length for it: "refused" and the number.
  pub refused : (n τ δ : ℕ) (B : List ℕ) → WholeWords B → OpensWith n τ δ B → n ≤ 8 → τ ≤ 64 → (T : List ℕ) → length T ≡ table_length n τ
      → (r : Refusal) → read_answer (words_of B) T ≡ Err r → sheet_text B ≡ refused_text (number_of r)
  -- Whole words that begin with no opening word: "refused 11".
  pub no_opening : (B : List ℕ) → WholeWords B → is_of opening_layout (get_or (words_of B) 0 0) ≡ false → sheet_text B ≡ refused_text 11
