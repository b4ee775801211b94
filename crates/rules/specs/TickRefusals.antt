-- Which tick is out (document 02, Six): when a call is refused with 9, and when one with a window with 19.
use Rattle.std.specs.Prelude.{ℕ, ◌<◌, ◌≡◌, ◌↔◌, List, length, get_or, Err, Some}
use Rattle.journeys.specs.declared.Contact.{Contact}
use Rattle.rules.specs.declared.Refusal.{Refusal}
use Rattle.rules.specs.declared.Refusal.TheVariants.{TickOutOfRange, FirstAfterLast}
use Rattle.rules.specs.declared.Question.{Question}
use Rattle.rules.specs.Answers.{number_of}
use Rattle.rules.specs.Layout.{animals, ticks}
use Rattle.rules.specs.Checks.{ValidTable}
use Rattle.rules.specs.Adding.{add_answer}
use Rattle.rules.specs.Windows.{OutOfRange, TickOut, TurnedRound, last_arrival, IsPair}
use Rattle.rules.specs.Questions.{reach_answer, earliest_answer, latest_answer, connected_answer, reached_answer}
use Rattle.rules.specs.Chains.{chain_answer}
use Rattle.rules.specs.Claims.{claimed_answer}
use Rattle.rules.specs.QuestionList.{list_leaves}

-- The table passes 5 and 6, and the two are different animals of it.
abbrev pub TablePair : List ℕ → ℕ → ℕ → Type 0
TablePair T u v = ValidTable T × IsPair (animals T) u v

-- A call with a window, behind the checks that come before: these pass exactly when `before` holds, and then it is refused with 9 exactly when a
-- tick is out of its range, and with 19 exactly when both are in range and first is after last.
pub record WindowJudged (τ first last : ℕ) (before : Type 0) (refused : Refusal → Type 0) : Type 0 where
  pub with_9 : refused TickOutOfRange ↔ (before × TickOut τ first last)
  pub with_19 : refused FirstAfterLast ↔ (before × TurnedRound τ first last)

-- On any words, of any numbers.
pub record TickRefusals : Type 0 where
  -- The calls with one tick, that of a contact or of a question.
  pub add : (T : List ℕ) (k : Contact) → (add_answer T k ≡ Err TickOutOfRange) ↔ (TablePair T k.from k.to × OutOfRange (ticks T) k.tick)
  pub earliest : (T : List ℕ) (u v first : ℕ) → (earliest_answer T u v first ≡ Err TickOutOfRange) ↔ (TablePair T u v × OutOfRange (last_arrival T) first)
  pub latest : (T : List ℕ) (u v last : ℕ) → (latest_answer T u v last ≡ Err TickOutOfRange) ↔ (TablePair T u v × OutOfRange (last_arrival T) last)
  -- The calls with a window.
  pub reach : (T : List ℕ) (u v first last : ℕ) → WindowJudged (ticks T) first last (TablePair T u v) (λ r. reach_answer T u v first last ≡ Err r)
  pub connected : (T : List ℕ) (first last : ℕ) → WindowJudged (ticks T) first last (ValidTable T) (λ r. connected_answer T first last ≡ Err r)
  pub reached : (T : List ℕ) (u first last : ℕ) → WindowJudged (ticks T) first last (ValidTable T × (u < animals T)) (λ r. reached_answer T u first last ≡ Err r)
  -- Whatever the length of the buffer, which is judged by 10 behind them.
  pub chain : (T : List ℕ) (u v first last : ℕ) (B : List ℕ)
      → WindowJudged (ticks T) first last (TablePair T u v) (λ r. chain_answer T u v first last B ≡ Err r)
  pub claimed : (T : List ℕ) (u v first last : ℕ) (ws : List ℕ)
      → WindowJudged (ticks T) first last (TablePair T u v) (λ r. claimed_answer T u v first last ws ≡ Err r)
  -- Each record of a list that is answered holds the number.
  pub each_record : (T : List ℕ) → ValidTable T → (l : List Question) (i : ℕ) → i < length l → (d : Question)
      → WindowJudged (ticks T) (get_or l i d).first (get_or l i d).last (IsPair (animals T) (get_or l i d).from (get_or l i d).to) (λ r. (get_or (list_leaves T l) i d).answer ≡ Some (Err (number_of r)))
