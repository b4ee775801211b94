-- What reading a log means, and what the sheets of two logs have in common.
use Rattle.std.specs.Prelude.{ℕ, ◌+◌, ◌%◌, ◌≤◌, ◌<◌, ◌≡◌, ◌↔◌, length, take, Ok}
use mathlib.Core.List.{List, Memᴰ}
use Rattle.journeys.specs.declared.Contact.{Contact}
use Rattle.journeys.specs.Journey.{Contacts, Same, In}
use Rattle.words.specs.Layout.{capacity}
use Rattle.words.specs.Words.{opening_word, logged_field}
use Rattle.rules.specs.Layout.{table_length}
use Rattle.rules.specs.Opening.{Sizes}
use Rattle.rules.specs.Adding.{Legal}
use Rattle.rules.specs.Logs.{log_words, write_answer, write_leaves}
use Rattle.rules.specs.Fresh.{Fresh}
use Rattle.rules.specs.Orders.{Sorted, Earlier}
use Rattle.rules.specs.Reading.{read_answer, read_leaves}
use Rattle.rules.specs.Sheet.{most_bytes, words_of, sheet_text}

-- L is a log of the legal contacts l, which may come in any order and more than once: an opening word, their words, and an end word with
-- their number, which fits its field.
pub record IsLog (n τ δ : ℕ) (l : List Contact) (L : List ℕ) : Type 0 where
  pub sizes : Sizes n τ δ
  pub legal : (k : Contact) → Memᴰ k l → Legal n τ k
  pub few : length l < capacity logged_field
  pub words : L ≡ log_words (opening_word n τ δ) l

pub record LogsRead : Type 1 where
  -- A list of words is read exactly when it is a log and the table has the length for it.
  pub read_exactly : (L T : List ℕ) → ((k : ℕ) × (read_answer L T ≡ Ok k)) ↔ ((n : ℕ) × (τ : ℕ) × (δ : ℕ) × (l : List Contact) × IsLog n τ δ l L × (length T ≡ table_length n τ))
  -- The table is fresh over the log's contacts, so that demand 2 holds of it.
  pub read_fresh : (n τ δ : ℕ) (l : List Contact) (L T : List ℕ) → IsLog n τ δ l L → length T ≡ table_length n τ → Fresh n τ δ (In l) (read_leaves L T)
  -- The number answered counts the log's contacts, each once.
  pub read_number : (n τ δ : ℕ) (l : List Contact) (L T : List ℕ) → IsLog n τ δ l L → length T ≡ table_length n τ
      → (m : List Contact) × Sorted Earlier m × ((k : Contact) → Memᴰ k m ↔ Memᴰ k l) × (read_answer L T ≡ Ok (length m))
  -- Reading the words that were written from a fresh table gives that table, word for word, and its number of contacts.
  pub read_written : (n τ δ : ℕ) (S : Contacts) (T : List ℕ) → Fresh n τ δ S T → (B : List ℕ) (c : ℕ) → write_answer T B ≡ Ok (c + 2) → (U : List ℕ) → length U ≡ length T
      → (read_answer (take (c + 2) (write_leaves T B)) U ≡ Ok c) × (read_leaves (take (c + 2) (write_leaves T B)) U ≡ T)
  -- Two logs with the same opening give equal tables exactly when their contacts form the same set, in whatever order and
  -- with whatever repeats.
  pub read_equal : (n τ δ : ℕ) (l m : List Contact) (K L T U : List ℕ) → IsLog n τ δ l K → IsLog n τ δ m L → length T ≡ table_length n τ → length U ≡ table_length n τ
      → (read_leaves K T ≡ read_leaves L U) ↔ Same (In l) (In m)
  -- Two offices that load the same contacts print the same sheet: the two logs as bytes, within what the printing program takes.
  pub same_sheet : (n τ δ : ℕ) (l m : List Contact) (B C : List ℕ) → IsLog n τ δ l (words_of B) → IsLog n τ δ m (words_of C) → Same (In l) (In m)
      → length B ≤ most_bytes → length C ≤ most_bytes → length B % 4 ≡ 0 → length C % 4 ≡ 0 → sheet_text B ≡ sheet_text C
