-- Reading a log (document 01, "Logs" and "Where each check sits").
use Rattle.std.specs.Prelude.{ℕ, ◌+◌, ◌-◌, Bool, false, cond, not, ◌&&◌, ◌||◌, List, [], ◌∷◌, map, length, get_or, take, drop, leb, ltb, eqb, Option, None, Ok, Result}
use Rattle.journeys.specs.declared.Contact.{Contact}
use Rattle.words.specs.Layout.{get, is_of}
use Rattle.words.specs.Words.{opening_layout, contact_layout, contact_of, end_layout, logged_field}
use Rattle.rules.specs.declared.Refusal.{Refusal}
use Rattle.rules.specs.declared.Refusal.TheVariants.{NotALog, WrongLength, NotAContact, IllegalContact, WrongEnd}
use Rattle.rules.specs.Answers.{ensure, unless, answer_of}
use Rattle.rules.specs.Layout.{table_length, animals, ticks, carry}
use Rattle.rules.specs.Adding.{same_contact}
use Rattle.rules.specs.CallLists.{table_with}

-- ---- the words of a log; `animals`, `ticks` and `carry` are those of its first word

-- An opening word stands first, and another word behind it.
abbrev pub is_log : List ℕ → Bool
is_log L = leb 2 (length L) && is_of opening_layout (get_or L 0 0)

-- The words between the first and the last.
unfoldable pub between : List ℕ → List ℕ
between L = take (length L - 2) (drop 1 L)

-- Their contacts, in their order.
unfoldable pub logged_contacts : List ℕ → List Contact
logged_contacts L = map contact_of (between L)

-- An end word with the true count.
unfoldable pub is_true_end : ℕ → ℕ → Bool
is_true_end count w = is_of end_layout w && eqb (get logged_field w) count

-- ---- the checks

-- No animal is n or above, u and v differ, and t is not above τ.
unfoldable pub is_legal : ℕ → ℕ → Contact → Bool
is_legal n τ k = ltb k.from n && ltb k.to n && not (eqb k.from k.to) && leb k.tick τ

-- A word between the first and the last: 12 when it is no contact word, 13 when its contact is not legal.
unfoldable pub ensure_word : ℕ → ℕ → ℕ → Option Refusal → Option Refusal
ensure_word n τ w o = ensure (is_of contact_layout w) NotAContact (ensure (is_legal n τ (contact_of w)) IllegalContact o)

-- Each word in turn.
unfoldable pub ensure_words : ℕ → ℕ → List ℕ → Option Refusal → Option Refusal
ensure_words n τ [] o = o
ensure_words n τ (w ∷ ws) o = ensure_word n τ w (ensure_words n τ ws o)

-- 11; then 4 when the table's length is not the formula's; then each word between first and last; then 14.
unfoldable pub read_refusal : List ℕ → List ℕ → Option Refusal
read_refusal L T =
    ensure (is_log L) NotALog
    (ensure (eqb (length T) (table_length (animals L) (ticks L))) WrongLength
    (ensure_words (animals L) (ticks L) (between L)
    (ensure (is_true_end (length (between L)) (get_or L (length L - 1) 0)) WrongEnd
    None)))

-- ---- the reply and the words left

-- The contact stands in the list.
unfoldable pub comes_in : Contact → List Contact → Bool
comes_in k [] = false
comes_in k (c ∷ l) = same_contact k c || comes_in k l

-- How many different contacts these are: each is counted where it comes last.
unfoldable pub different : List Contact → ℕ
different [] = 0
different (k ∷ l) = cond (comes_in k l) 0 1 + different l

unfoldable pub read_answer : List ℕ → List ℕ → Result ℕ Refusal
read_answer L T = answer_of (read_refusal L T) (Ok (different (logged_contacts L)))

-- The table's words afterwards: those of the log's opening with its contacts added, once nothing in the log is refused.
unfoldable pub read_leaves : List ℕ → List ℕ → List ℕ
read_leaves L T = unless (read_refusal L T) (table_with (animals L) (ticks L) (carry L) T (logged_contacts L)) T
