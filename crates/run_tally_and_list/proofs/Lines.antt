-- A number and the byte behind it have room in the text, and the reply of a list fits.
use Rattle.std.specs.Prelude.{Option, None, Some, Ok, Result}
use mathlib.Core.Path.{◌≡◌, sym, subst}
use Prim.Native.Nat.{ℕ, ◌+◌, ◌-◌, ◌≤◌, ◌<◌, ◌^◌}
use mathlib.Core.List.{List, [], ◌∷◌, ◌++◌}
use lib.ListN.{length, take, drop, length-append, length-take, length-drop}
use lib.Seq.{length-take-le}
use native.Mathlib.Omega.{arith}
use Rattle.rules.specs.declared.Refusal.{Refusal}
use Rattle.rules.specs.declared.Question.{Question}
use Rattle.rules.specs.Answers.{number_reply, answer_of}
use Rattle.rules.specs.QuestionList.{list_refusal, list_answer}
use Rattle.rules.specs.Sheet.{decimal}
use Rattle.table_text.proofs.Lengths.{digits, number_small}
use Rattle.question_lists.specs.Plans.{most_records}
use Rattle.run_tally_and_list.specs.Bounds.{most_text, most_number}

-- A number of 32 bits and one byte more are no longer than a number may be.
pub number_short : (n b : ℕ) → n < 2 ^ 32 → length (decimal n ++ (b ∷ [])) ≤ most_number
number_short n b h = omega (arith, length-append (decimal n) (b ∷ []), digits 9 n (omega arith))

-- So they fit behind what the text holds.
pub number_fits : (n b from : ℕ) (out : List ℕ) → n < 2 ^ 32 → from + most_number ≤ most_text → length out ≡ most_text → length (decimal n ++ (b ∷ [])) ≤ length (take (most_text - from) (drop from out))
number_fits n b from out h r l =
    omega (arith, number_short n b h, length-take-le (most_text - from) (drop from out) (omega (arith, length-drop from out)))

-- The reply of a list within the array fits.
pub reply-fits : (T : List ℕ) (l : List Question) (k : ℕ) (a : Result ℕ Refusal) → a ≡ list_answer T (take k l) → k ≤ most_records → number_reply a < 2 ^ 64
unfolding list_answer
reply-fits T l k a e h = subst (λ (b : Result ℕ Refusal). number_reply b < 2 ^ 64) (sym e) (go (list_refusal T))
  where
    go : (o : Option Refusal) → number_reply (answer_of o (Ok (length (take k l)))) < 2 ^ 64
    go None = omega (arith, length-take k l)
    go (Some r) = omega (arith, number_small r)
