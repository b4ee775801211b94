-- The answer with the set of the animals reached, and the three rules that the demands speak of: on any words, of any numbers.
use Rattle.std.specs.Prelude.{ℕ, ◌≡◌, List, Err}
use Rattle.rules.specs.declared.Refusal.{Refusal}
use Rattle.rules.specs.Answers.{number_of, reply, set_reply, done}
use Rattle.rules.specs.Questions.{reached_answer, reached_words, reached_count, reached_set, is_found, words_found, count_found}

pub record ReachedRule : Type 0 where
  -- The answer says whether a set is found, its words and its number of animals, as the three rules do; a refusal gives the set of no animal.
  pub found : (T : List ℕ) (u first last : ℕ) → is_found (reached_set T u first last) ≡ reached_answer T u first last
  pub words : (T : List ℕ) (u first last : ℕ) → words_found (reached_set T u first last) ≡ reached_words T u first last
  pub count : (T : List ℕ) (u first last : ℕ) → count_found (reached_set T u first last) ≡ reached_count T u first last
  -- The C interface replies 1 and the number of animals, or 0 and the refusal's number.
  pub reply_found : (T : List ℕ) (u first last : ℕ) → reached_answer T u first last ≡ done → set_reply (reached_set T u first last) ≡ reply 1 (reached_count T u first last)
  pub reply_refused : (T : List ℕ) (u first last : ℕ) (r : Refusal) → reached_answer T u first last ≡ Err r → set_reply (reached_set T u first last) ≡ reply 0 (number_of r)
