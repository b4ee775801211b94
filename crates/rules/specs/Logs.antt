-- Writing a log (document 01, "Logs").
use Rattle.std.specs.Prelude.{ℕ, ◌+◌, List, [], ◌∷◌, ◌++◌, map, length, get_or, drop, leb, Option, None, Ok, Result}
use Rattle.journeys.specs.declared.Contact.{Contact}
use Rattle.words.specs.Words.{contact_word, end_word}
use Rattle.rules.specs.declared.Refusal.{Refusal}
use Rattle.rules.specs.declared.Refusal.TheVariants.{LogBufferTooShort}
use Rattle.rules.specs.Answers.{ensure, unless, answer_of}
use Rattle.rules.specs.Layout.{animals, ticks}
use Rattle.rules.specs.Checks.{ensure_table}
use Rattle.rules.specs.Adding.{holds}
use Rattle.rules.specs.Orders.{in_log_order}

-- Each contact that the table holds, once, by t, then u, then v.
unfoldable pub held_contacts : List ℕ → List Contact
held_contacts T = in_log_order (animals T) (ticks T) (holds T)

-- A log is an opening word, contact words, and an end word with their number.
unfoldable pub log_words : ℕ → List Contact → List ℕ
log_words opening l = opening ∷ (map contact_word l ++ (end_word (length l) ∷ []))

-- 15 when the buffer is shorter than contacts + 2.
unfoldable pub write_refusal : List ℕ → List ℕ → Option Refusal
write_refusal T B = ensure_table T (ensure (leb (length (held_contacts T) + 2) (length B)) LogBufferTooShort None)

-- How many words were written.
unfoldable pub write_answer : List ℕ → List ℕ → Result ℕ Refusal
write_answer T B = answer_of (write_refusal T B) (Ok (length (held_contacts T) + 2))

-- The buffer's words afterwards; words behind the end keep theirs.
unfoldable pub write_leaves : List ℕ → List ℕ → List ℕ
write_leaves T B = unless (write_refusal T B) (log_words (get_or T 0 0) (held_contacts T) ++ drop (length (held_contacts T) + 2) B) B
