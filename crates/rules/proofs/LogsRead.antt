-- What reading a log means, and what two logs have in common, hold of the rules.
use Rattle.std.specs.Prelude.{None, Ok}
use mathlib.Core.Path.{◌≡◌, refl, sym, ap, ◌∙◌}
use mathlib.Core.Logic.{◌↔◌}
use mathlib.Core.Bool.{cond}
use mathlib.Core.List.{List, [], ◌∷◌, Memᴰ}
use Prim.Native.Nat.{ℕ, ◌+◌, ◌%◌, ◌≤◌}
use native.Mathlib.Omega.{arith}
use lib.ListN.{length, take, drop, replicate, length-replicate}
use lib.Seq.{take_at}
use borrow.Author.Tests.{le-ltb, eq-eqb}
use Rattle.journeys.specs.declared.Contact.{Contact}
use Rattle.journeys.specs.Journey.{Contacts, Same, In}
use Rattle.words.specs.Words.{opening_word}
use Rattle.rules.specs.Layout.{table_length, animals, ticks, carry}
use Rattle.rules.specs.Logs.{held_contacts, log_words, write_refusal, write_answer, write_leaves}
use Rattle.rules.specs.Fresh.{Fresh}
use Rattle.rules.specs.Reading.{logged_contacts, different, read_refusal, read_answer, read_leaves}
use Rattle.rules.specs.Sheet.{most_bytes, words_of, too_large, table_text, is_beyond, log_text, sheet_text}
use Rattle.rules.specs.LogsRead.{IsLog, LogsRead}
use Rattle.rules.proofs.Refusals.{given-iff}
use Rattle.rules.proofs.Judged.{open_iff}
use Rattle.rules.proofs.Fresh.{fresh-length, fresh-passes, fresh-map, fresh-unique}
use Rattle.rules.proofs.Held.{held-sorted, held-once, held-few, fresh-held}
use Rattle.rules.proofs.Runs.{run-fresh}
use Rattle.rules.proofs.Reading.{read-iff, different-length, log-length, readable_log, log-first, log-animals, log-ticks, log-carry, log-contacts, log-readable}
use Rattle.rules.proofs.Demand1.{write_fits}
use Rattle.rules.proofs.Demand3.{fresh-equal, fresh-log}

-- ---- a log is read

module _ {n τ δ : ℕ} {l : List Contact} {L : List ℕ} (g : IsLog n τ δ l L) (T : List ℕ) (e : length T ≡ table_length n τ) where
  log-accepted : read_refusal L T ≡ None
  log-accepted = (read-iff L T).1 (log-readable g T e)

  -- It answers the number of different contacts.
  log-answer : read_answer L T ≡ Ok (different l)
  unfolding read_answer
  log-answer = rw (log-accepted, log-contacts g)

  -- It leaves the fresh table over the log's contacts.
  pub log-fresh : Fresh n τ δ (In l) (read_leaves L T)
  unfolding read_leaves
  log-fresh =
      rw (log-accepted, log-animals g, log-ticks g, log-carry g, log-contacts g)
      (fresh-map (run-fresh n τ δ T l ((open_iff n τ δ T).1 (g.sizes, e))) (λ k. (λ h. h.0, λ m. (m, g.legal k m))))

  -- The table then holds just those contacts.
  log-held : (k : Contact) → Memᴰ k (held_contacts (read_leaves L T)) ↔ Memᴰ k l
  log-held = fresh-held log-fresh

  -- Their number is answered.
  log-number : read_answer L T ≡ Ok (length (held_contacts (read_leaves L T)))
  log-number = log-answer ∙ ap Ok (different-length l (held_contacts (read_leaves L T)) (held-once (read_leaves L T)) log-held)

-- ---- nothing else is read

read-accepted : (L T : List ℕ) (k : ℕ) → read_answer L T ≡ Ok k → read_refusal L T ≡ None
unfolding read_answer
read-accepted L T k e = ((given-iff (read_refusal L T) (different (logged_contacts L)) k).0 e).0

-- Exactly the logs are read, into tables of the length for them.
exactly : (L T : List ℕ) → ((k : ℕ) × (read_answer L T ≡ Ok k)) ↔ ((n : ℕ) × (τ : ℕ) × (δ : ℕ) × (l : List Contact) × IsLog n τ δ l L × (length T ≡ table_length n τ))
exactly L T = (
  λ r. let h = (read-iff L T).0 (read-accepted L T r.0 r.1) in (animals L, ticks L, carry L, logged_contacts L, readable_log L T h, h.fits),
  λ r. (different r.3, log-answer r.4 T r.5),
)

-- The number answered is that of the contacts that the table then holds.
pub read_held : (L T : List ℕ) (k : ℕ) → read_answer L T ≡ Ok k → k ≡ length (held_contacts (read_leaves L T))
read_held L T k e = let r = (exactly L T).0 (k, e) in ((given-iff None k _).0 (sym e ∙ log-number r.4 T r.5)).1

-- ---- what was written is read back

module _ {n τ δ : ℕ} {S : Contacts} {T : List ℕ} (f : Fresh n τ δ S T) where
  -- The words written from a fresh table are a log of the contacts that it holds.
  held-log : IsLog n τ δ (held_contacts T) (log_words (opening_word n τ δ) (held_contacts T))
  held-log = record { sizes = f.sizes; legal = λ k m. f.legal k ((fresh-held f k).0 m); few = omega (arith, held-few T (fresh-passes f)); words = refl }

  -- Reading it gives the table again, and its number of contacts.
  held-again : (L U : List ℕ) → L ≡ log_words (opening_word n τ δ) (held_contacts T) → length U ≡ length T → (read_answer L U ≡ Ok (length (held_contacts T))) × (read_leaves L U ≡ T)
  held-again L U w q =
      let e = q ∙ fresh-length f in
      let once = different-length (held_contacts T) (held_contacts T) (held-once T) (λ k. (λ m. m, λ m. m)) in
      rw w (log-answer held-log U e ∙ ap Ok once, fresh-unique (fresh-map (log-fresh held-log U e) (fresh-held f)) f)

  -- An answer of c + 2 words means that the table holds c contacts, and that those words are its log.
  written-words : (B : List ℕ) (c : ℕ) → write_answer T B ≡ Ok (c + 2) → (length (held_contacts T) ≡ c) × (take (c + 2) (write_leaves T B) ≡ log_words (opening_word n τ δ) (held_contacts T))
  unfolding write_answer
  written-words B c e = (omega (arith, r.1), ap (take (c + 2)) (fresh-log f B fits) ∙ take_at log (drop (length (held_contacts T) + 2) B) (c + 2) (log-length (opening_word n τ δ) (held_contacts T) ∙ r.1))
    where
      log : List ℕ
      log = log_words (opening_word n τ δ) (held_contacts T)

      r : (write_refusal T B ≡ None) × (length (held_contacts T) + 2 ≡ c + 2)
      r = (given-iff (write_refusal T B) (length (held_contacts T) + 2) (c + 2)).0 e

      fits : length (held_contacts T) + 2 ≤ length B
      fits = (write_fits T B r.0).1

  written-again : (B : List ℕ) (c : ℕ) → write_answer T B ≡ Ok (c + 2) → (U : List ℕ) → length U ≡ length T
      → (read_answer (take (c + 2) (write_leaves T B)) U ≡ Ok c) × (read_leaves (take (c + 2) (write_leaves T B)) U ≡ T)
  written-again B c e U q = let w = written-words B c e in let r = held-again _ U w.1 q in (r.0 ∙ ap Ok w.0, r.1)

-- ---- two logs

-- Two logs with the same opening give equal tables exactly when their contacts form the same set.
equal_tables : (n τ δ : ℕ) (l m : List Contact) (K L T U : List ℕ) → IsLog n τ δ l K → IsLog n τ δ m L → length T ≡ table_length n τ → length U ≡ table_length n τ
    → (read_leaves K T ≡ read_leaves L U) ↔ Same (In l) (In m)
equal_tables n τ δ l m K L T U g h p q = fresh-equal (log-fresh g T p) (log-fresh h U q)

-- The words of the table that the printing program reads a log into.
abbrev pub zeros : ℕ → ℕ → List ℕ
zeros n τ = replicate {A = ℕ} (table_length n τ) 0

pub zeros-length : (n τ : ℕ) → length (zeros n τ) ≡ table_length n τ
zeros-length n τ = length-replicate {A = ℕ} (table_length n τ) 0

module _ {n τ δ : ℕ} {l : List Contact} {L : List ℕ} (g : IsLog n τ δ l L) where
  -- Whether a log is too large is said by its opening word.
  log-beyond : is_beyond L ≡ is_beyond (opening_word n τ δ ∷ [])
  unfolding is_beyond
  log-beyond = rw (log-first g)

  -- For a log the table is printed.
  pub log-text : log_text L ≡ table_text (read_leaves L (zeros n τ))
  unfolding log_text
  log-text = rw (log-animals g, log-ticks g, log-answer g (zeros n τ) (zeros-length n τ))

-- The sheet of opening n, τ, δ and a table.
abbrev table_sheet : ℕ → ℕ → ℕ → List ℕ → List ℕ
table_sheet n τ δ T = cond (is_beyond (opening_word n τ δ ∷ [])) too_large (table_text T)

-- The sheet of a log is that of its opening and the table that it is read into.
log-sheet : (n τ δ : ℕ) (l : List Contact) (B : List ℕ) → IsLog n τ δ l (words_of B) → length B ≤ most_bytes → length B % 4 ≡ 0
    → sheet_text B ≡ table_sheet n τ δ (read_leaves (words_of B) (zeros n τ))
unfolding sheet_text
log-sheet n τ δ l B g p q = rw (le-ltb most_bytes (length B) p, eq-eqb (length B % 4) 0 q, log-beyond g, log-text g)

equal-sheets : (n τ δ : ℕ) (l m : List Contact) (B C : List ℕ) → IsLog n τ δ l (words_of B) → IsLog n τ δ m (words_of C) → Same (In l) (In m)
    → length B ≤ most_bytes → length C ≤ most_bytes → length B % 4 ≡ 0 → length C % 4 ≡ 0 → sheet_text B ≡ sheet_text C
equal-sheets n τ δ l m B C g h s p q i j =
    let z = zeros-length n τ in
    let t = (equal_tables n τ δ l m (words_of B) (words_of C) (zeros n τ) (zeros n τ) g h z z).1 s in
    log-sheet n τ δ l B g p i ∙ ap (table_sheet n τ δ) t ∙ sym (log-sheet n τ δ m C h q j)

-- Reading means what document 01 says, and two offices print the same sheet.
pub logs_read : LogsRead
logs_read =
    record {
      read_exactly = exactly;
      read_fresh = λ n τ δ l L T g e. log-fresh g T e;
      read_number = λ n τ δ l L T g e. (held_contacts (read_leaves L T), held-sorted (read_leaves L T), log-held g T e, log-number g T e);
      read_written = λ n τ δ S T f. written-again f;
      read_equal = equal_tables;
      same_sheet = equal-sheets;
    }
