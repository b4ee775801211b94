-- Removing a contact, with a second table lent for work (document 02, Seven).
use Rattle.std.specs.Prelude.{ℕ, not, ◌&&◌, List, length, eqb, Option, None, Result, ⊤}
use Rattle.journeys.specs.declared.Contact.{Contact}
use Rattle.journeys.specs.Adding.{cells_over}
use Rattle.rules.specs.declared.Refusal.{Refusal}
use Rattle.rules.specs.declared.Refusal.TheVariants.{DifferentLengths, NotHeld}
use Rattle.rules.specs.Answers.{ensure, unless, answer_of, done}
use Rattle.rules.specs.Layout.{table_words, animals, ticks, carry}
use Rattle.rules.specs.Checks.{ensure_table}
use Rattle.rules.specs.Adding.{same_contact, ensure_pair, ensure_tick, holds}
use Rattle.rules.specs.Orders.{in_log_order}

-- 20 when the second table's length differs from the first's.
abbrev pub ensure_same_length : List ℕ → List ℕ → Option Refusal → Option Refusal
ensure_same_length T W o = ensure (eqb (length T) (length W)) DifferentLengths o

-- 21 when the table does not hold the contact.
abbrev pub ensure_held : List ℕ → Contact → Option Refusal → Option Refusal
ensure_held T k o = ensure (holds T k) NotHeld o

-- 5 and 6 for the first table T, 20 for the second W, then 7, 8, 9, and 21.
unfoldable pub remove_refusal : List ℕ → List ℕ → Contact → Option Refusal
remove_refusal T W k = ensure_table T (ensure_same_length T W (ensure_pair T k.from k.to (ensure_tick T k.tick (ensure_held T k None))))

-- The contacts that the table holds, less this one.
unfoldable pub remaining : List ℕ → Contact → List Contact
remaining T k = in_log_order (animals T) (ticks T) (λ c. holds T c && not (same_contact c k))

-- The words of the fresh table over them: no interval, then each contact added.
unfoldable pub table_without : List ℕ → Contact → List ℕ
table_without T k = table_words (animals T) (ticks T) (carry T) (cells_over (carry T) (remaining T k))

-- Done, or the refusal.
unfoldable pub remove_answer : List ℕ → List ℕ → Contact → Result ⊤ Refusal
remove_answer T W k = answer_of (remove_refusal T W k) done

-- The first table's words afterwards.
unfoldable pub remove_leaves : List ℕ → List ℕ → Contact → List ℕ
remove_leaves T W k = unless (remove_refusal T W k) (table_without T k) T

-- The second table's words afterwards.
unfoldable pub remove_work : List ℕ → List ℕ → Contact → List ℕ
remove_work T W k = unless (remove_refusal T W k) (table_without T k) W
