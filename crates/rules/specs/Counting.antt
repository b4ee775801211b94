-- Counted adding (document 01, "Adding a contact") and counted removing (document 02, Seven): the tally and what it does.
use Rattle.std.specs.Prelude.{ℕ, ◌+◌, Bool, List, ltb, Option, None, Ok, Err, Result, ⊤}
use Rattle.journeys.specs.declared.Contact.{Contact}
use Rattle.rules.specs.declared.Refusal.{Refusal}
use Rattle.rules.specs.declared.Refusal.TheVariants.{TallyFull}
use Rattle.rules.specs.declared.Added.{Added}
use Rattle.rules.specs.declared.Added.TheVariants.{New, Known}
use Rattle.rules.specs.declared.Tally.{Tally}
use Rattle.rules.specs.Answers.{ensure, unless, answer_of}
use Rattle.rules.specs.Adding.{add_answer, add_leaves}
use Rattle.rules.specs.Removing.{remove_answer, remove_leaves, remove_work}

-- The sum of the tally's four numbers.
unfoldable pub tally_sum : Tally → ℕ
tally_sum t = t.new + t.known + t.refused + t.removed

-- The sum at which a tally is full.
abbrev pub full_tally : ℕ
full_tally = 4294967295

-- The tally has room for one more: its four numbers sum to less than 4,294,967,295.
unfoldable pub has_room : Tally → Bool
has_room t = ltb (tally_sum t) full_tally

-- 16 when it has none.
abbrev pub full_refusal : Tally → Option Refusal
full_refusal t = ensure (has_room t) TallyFull None

-- ---- adding

-- 16 first, then as the uncounted add.
unfoldable pub counted_answer : Tally → List ℕ → Contact → Result Added Refusal
counted_answer t T k = answer_of (full_refusal t) (add_answer T k)

-- The table's words afterwards.
unfoldable pub counted_leaves : Tally → List ℕ → Contact → List ℕ
counted_leaves t T k = unless (full_refusal t) (add_leaves T k) T

-- New, known or refused rises by 1.
abbrev pub raised : Result Added Refusal → Tally → Tally
raised (Ok (New c)) t = record { new = t.new + 1; known = t.known; refused = t.refused; removed = t.removed }
raised (Ok (Known c)) t = record { new = t.new; known = t.known + 1; refused = t.refused; removed = t.removed }
raised (Err r) t = record { new = t.new; known = t.known; refused = t.refused + 1; removed = t.removed }

-- The tally afterwards; a call refused with 16 is not counted.
unfoldable pub counted_tally : Tally → List ℕ → Contact → Tally
counted_tally t T k = unless (full_refusal t) (raised (add_answer T k) t) t

-- ---- removing

-- 16 first, then as the uncounted removal.
unfoldable pub counted_removal : Tally → List ℕ → List ℕ → Contact → Result ⊤ Refusal
counted_removal t T W k = answer_of (full_refusal t) (remove_answer T W k)

-- The first table's words afterwards.
unfoldable pub counted_removal_leaves : Tally → List ℕ → List ℕ → Contact → List ℕ
counted_removal_leaves t T W k = unless (full_refusal t) (remove_leaves T W k) T

-- The second table's words afterwards.
unfoldable pub counted_removal_work : Tally → List ℕ → List ℕ → Contact → List ℕ
counted_removal_work t T W k = unless (full_refusal t) (remove_work T W k) W

-- Removed or refused rises by 1.
abbrev pub raised_by_removal : Result ⊤ Refusal → Tally → Tally
raised_by_removal (Ok tt) t = record { new = t.new; known = t.known; refused = t.refused; removed = t.removed + 1 }
raised_by_removal (Err r) t = record { new = t.new; known = t.known; refused = t.refused + 1; removed = t.removed }

-- The tally afterwards; a call refused with 16 is not counted.
unfoldable pub counted_removal_tally : Tally → List ℕ → List ℕ → Contact → Tally
counted_removal_tally t T W k = unless (full_refusal t) (raised_by_removal (remove_answer T W k) t) t
