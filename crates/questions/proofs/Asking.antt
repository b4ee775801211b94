-- What a call answers behind checks that give the table, and what a reach refuses on a table that passed 5 and 6.
use Rattle.std.specs.Prelude.{Option, None, Some, Result, Ok, Err, IsErrAnd, List, ℕ, ⊤, ◌≡◌}
use mathlib.Core.Path.{refl, sym, ap, ◌∙◌}
use Rattle.journeys.proofs.Tests.{never}
use Rattle.rules.specs.declared.Refusal.{Refusal}
use Rattle.rules.specs.Answers.{answer_of}
use Rattle.rules.specs.Adding.{ensure_pair}
use Rattle.rules.specs.Checks.{ValidTable}
use Rattle.rules.specs.Windows.{ensure_window}
use Rattle.rules.specs.declared.AnimalSet.{AnimalSet}
use Rattle.rules.specs.Questions.{reach_refusal, reached_refusal, reached_answer, reached_words, reached_count, reached_set, is_found, words_found, count_found}
use Rattle.rules.proofs.Groups.{behind-valid}
use Rattle.rules.proofs.ReachedRule.{answer-found, answer-words, answer-count}
use Rattle.checks.specs.Verdicts.{verdict_of}
use Rattle.checks.proofs.Judged.{refused_with}

module _ {A : Type 0} {o : Option Refusal} (x : A) {a : Result A Refusal} (p : a ≡ answer_of o (Ok x)) where
  -- What the checks met is what they refuse.
  pub judged_refused : {r : Refusal} → a ≡ Err r → o ≡ Some r
  judged_refused {r} q = go o (sym p ∙ q)
    where
      go : (o : Option Refusal) → answer_of o (Ok x) ≡ Err r → o ≡ Some r
      go None e = never cc
      go (Some s) e = let h : s ≡ r = cc in ap Some h

  -- Where they give something, they refuse nothing, and it is theirs to give.
  pub judged_given : {y : A} → a ≡ Ok y → (o ≡ None) × (y ≡ x)
  judged_given {y} q = go o (sym p ∙ q)
    where
      go : (o : Option Refusal) → answer_of o (Ok x) ≡ Ok y → (o ≡ None) × (y ≡ x)
      go None e = let h : x ≡ y = cc in (refl, sym h)
      go (Some s) e = never cc

-- A call whose checks refuse it is refused,
pub judged_exit : {A B : Type 0} (o : Option Refusal) (x : A) (w : Result B Refusal) {a : Result A Refusal} {v : Result B Refusal} {r : Refusal}
    → a ≡ answer_of o (Ok x) → a ≡ Err r → IsErrAnd v (λ e. e ≡ r) → v ≡ answer_of o w
judged_exit o x w {v = v} p q h = rw (judged_refused x p q) (refused_with v h)

-- or it answers from what they gave.
pub judged_answer : {A B : Type 0} (o : Option Refusal) (x : A) (f : A → Result B Refusal) {a : Result A Refusal} {v : Result B Refusal} {y : A}
    → a ≡ answer_of o (Ok x) → a ≡ Ok y → v ≡ f y → v ≡ answer_of o (f x)
judged_answer o x f p q e = let g = judged_given x p q in rw g.0 (e ∙ ap f g.1)

-- The verdict of the checks behind 5 and 6, of a valid table's words, is that of all checks of a reach.
pub reach-verdict : (T : List ℕ) (u v first last : ℕ) → ValidTable T → {words : List ℕ} {a : Result ⊤ Refusal} → words ≡ T
    → a ≡ verdict_of (ensure_pair words u v (ensure_window words first last None)) → a ≡ verdict_of (reach_refusal T u v first last)
unfolding reach_refusal
reach-verdict T u v first last p e q =
    rw (behind-valid T p (ensure_pair T u v (ensure_window T first last None)))
    (q ∙ ap (λ (W : List ℕ). verdict_of (ensure_pair W u v (ensure_window W first last None))) e)

-- The question for the animals reached, refused by its checks.
pub reached_exit : (T : List ℕ) (u first last : ℕ) {a : Result (List ℕ) Refusal} {v : Result AnimalSet Refusal} {r : Refusal}
    → a ≡ answer_of (reached_refusal T u first last) (Ok T) → a ≡ Err r → IsErrAnd v (λ e. e ≡ r) → v ≡ reached_set T u first last
unfolding reached_set
reached_exit T u first last p q h = judged_exit _ T _ p q h

-- What its answer says, whatever it is.
pub reached-said : (T : List ℕ) (u first last : ℕ) {v : Result AnimalSet Refusal} → v ≡ reached_set T u first last
    → (is_found v ≡ reached_answer T u first last) × (words_found v ≡ reached_words T u first last) × (count_found v ≡ reached_count T u first last)
reached-said T u first last e =
    (ap is_found e ∙ answer-found T u first last, ap words_found e ∙ answer-words T u first last, ap count_found e ∙ answer-count T u first last)
