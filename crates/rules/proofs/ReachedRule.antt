-- The answer with the set of the animals reached says what the three rules say.
use Rattle.std.specs.Prelude.{Option, None, Some, Ok, Err, Result}
use mathlib.Core.Path.{◌≡◌, refl, ap}
use mathlib.Core.List.{List}
use Prim.Native.Nat.{ℕ}
use lib.ListN.{replicate}
use Rattle.journeys.proofs.Tests.{never}
use Rattle.rules.specs.declared.Refusal.{Refusal}
use Rattle.rules.specs.declared.AnimalSet.{AnimalSet}
use Rattle.rules.specs.Answers.{number_of, reply, set_reply, unless, answer_of, done}
use Rattle.rules.specs.Folds.{count_below}
use Rattle.rules.specs.Layout.{animals}
use Rattle.rules.specs.Questions.{is_reached, set_words, reached_refusal, reached_answer, reached_words, reached_count, reached_set, is_found, words_found, count_found}
use Rattle.rules.specs.ReachedRule.{ReachedRule}

-- The answer with a set, unless something is refused.
abbrev set_unless : Option Refusal → List ℕ → ℕ → Result AnimalSet Refusal
set_unless o ws n = answer_of o (Ok (record { words = unless o ws (replicate 8 0); count = unless o n 0 }))

-- Whether a set is found, its words and its number, whatever is refused.
found-unless : (o : Option Refusal) (ws : List ℕ) (n : ℕ) → is_found (set_unless o ws n) ≡ answer_of o done
found-unless None ws n = refl
found-unless (Some r) ws n = refl

words-unless : (o : Option Refusal) (ws : List ℕ) (n : ℕ) → words_found (set_unless o ws n) ≡ unless o ws (replicate 8 0)
words-unless None ws n = refl
words-unless (Some r) ws n = refl

count-unless : (o : Option Refusal) (ws : List ℕ) (n : ℕ) → count_found (set_unless o ws n) ≡ unless o n 0
count-unless None ws n = refl
count-unless (Some r) ws n = refl

-- The reply where nothing is refused, and where something is.
replied-found : (o : Option Refusal) (ws : List ℕ) (n : ℕ) → answer_of o done ≡ done → set_reply (set_unless o ws n) ≡ reply 1 (unless o n 0)
replied-found None ws n e = refl
replied-found (Some r) ws n e = never cc

replied-refused : (o : Option Refusal) (ws : List ℕ) (n : ℕ) (r : Refusal) → answer_of o done ≡ Err r → set_reply (set_unless o ws n) ≡ reply 0 (number_of r)
replied-refused None ws n r e = never cc
replied-refused (Some s) ws n r e = let z : s ≡ r = cc in ap (λ q. reply 0 (number_of q)) z

module _ (T : List ℕ) (u first last : ℕ) where
  -- The answer says whether a set is found,
  pub answer-found : is_found (reached_set T u first last) ≡ reached_answer T u first last
  unfolding reached_set reached_words reached_count reached_answer
  answer-found = found-unless (reached_refusal T u first last) (set_words T u first last) (count_below (is_reached T u first last) (animals T))

  -- its words,
  pub answer-words : words_found (reached_set T u first last) ≡ reached_words T u first last
  unfolding reached_set reached_words reached_count
  answer-words = words-unless (reached_refusal T u first last) (set_words T u first last) (count_below (is_reached T u first last) (animals T))

  -- and its number of animals.
  pub answer-count : count_found (reached_set T u first last) ≡ reached_count T u first last
  unfolding reached_set reached_words reached_count
  answer-count = count-unless (reached_refusal T u first last) (set_words T u first last) (count_below (is_reached T u first last) (animals T))

  -- The reply tells the number, or the refusal.
  found-replied : reached_answer T u first last ≡ done → set_reply (reached_set T u first last) ≡ reply 1 (reached_count T u first last)
  unfolding reached_set reached_words reached_count reached_answer
  found-replied = replied-found (reached_refusal T u first last) (set_words T u first last) (count_below (is_reached T u first last) (animals T))

  refused-replied : (r : Refusal) → reached_answer T u first last ≡ Err r → set_reply (reached_set T u first last) ≡ reply 0 (number_of r)
  unfolding reached_set reached_words reached_count reached_answer
  refused-replied = replied-refused (reached_refusal T u first last) (set_words T u first last) (count_below (is_reached T u first last) (animals T))

pub reached_rule : ReachedRule
reached_rule = record { found = answer-found; words = answer-words; count = answer-count; reply_found = found-replied; reply_refused = refused-replied }
