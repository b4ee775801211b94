-- Calls are refused with 9 and with 19 just where the rule says: the checks ahead of those of ticks, these, and the answer.
use Rattle.std.specs.Prelude.{Option, None, Some, Ok, Err, Result, option_map}
use mathlib.Core.Path.{◌≡◌, refl, sym, ap, ◌∙◌, subst}
use mathlib.Core.Logic.{◌↔◌, ◌⊎◌, inl, inr, ◌≢◌}
use mathlib.Core.Bool.{Bool, true, false, cond}
use mathlib.Core.List.{List}
use Prim.Native.Nat.{ℕ, ◌-◌, ◌<◌}
use native.Mathlib.Omega.{arith}
use lib.ListN.{length, get_or}
use lib.Dec.{leb}
use Rattle.journeys.specs.Cell.{earliest_arriving, latest_departing}
use Rattle.journeys.proofs.Tests.{never, Outcome, holds, fails}
use Rattle.rules.specs.declared.Refusal.{Refusal}
use Rattle.rules.specs.declared.Refusal.TheVariants.{TickOutOfRange, FirstAfterLast, ChainBufferTooShort}
use Rattle.rules.specs.declared.Added.TheVariants.{New, Known}
use Rattle.rules.specs.declared.Question.{Question}
use Rattle.rules.specs.Answers.{number_of, ensure, answer_of}
use Rattle.rules.specs.Folds.{within}
use Rattle.rules.specs.Layout.{animals, ticks, cells_of}
use Rattle.rules.specs.Checks.{ValidTable, ensure_table}
use Rattle.rules.specs.Adding.{ensure_pair, add_refusal, added_cells, cells_changed, holds as holds-contact, add_answer}
use Rattle.rules.specs.Windows.{InRange, OutOfRange, IsWindow, TickOut, TurnedRound, ensure_window, last_arrival, IsPair}
use Rattle.rules.specs.Questions.{reaches, reach_refusal, reach_answer, moment_refusal, earliest_answer, latest_answer, connects, connected_refusal, connected_answer, reached_refusal, reached_answer}
use Rattle.rules.specs.Chains.{chain_of, chain_refusal, chain_answer}
use Rattle.rules.specs.Claims.{form_journey, claimed_answer}
use Rattle.rules.specs.QuestionList.{record_answer_of, asked, list_leaves}
use Rattle.rules.specs.TickRefusals.{TablePair, WindowJudged, TickRefusals}
use Rattle.rules.proofs.Refusals.{refused-iff}
use Rattle.rules.proofs.Groups.{Ahead, then-ahead, table-ahead, pair-ahead, animal-ahead, behind-valid}
use Rattle.rules.proofs.Windows.{not-in_range, range_outcome, any_two, window_accepted, window_out, window_turned}
use Rattle.rules.proofs.Numbers.{numbers_differ}
use Rattle.rules.proofs.ListRule.{answered-at}

-- ---- the checks of ticks behind others

-- Behind the checks f, where the rest comes to o, of a call that answers r as `refused` says.
behind-judged : {f : Option Refusal → Option Refusal} {P Q refused : Type 0} → Ahead f P → (r : Refusal) → 8 < number_of r → (o : Option Refusal)
    → (o ≡ Some r) ↔ Q → refused ↔ (f o ≡ Some r) → refused ↔ (P × Q)
behind-judged a r h o q w =
    let b = a.behind (Some r) h o in
    (λ e. let z = b.0 (w.0 e) in (z.0, q.0 z.1), λ p. w.1 (b.1 (p.0, q.1 p.1)))

-- One tick, with nothing behind its check.
tick-out : {end t : ℕ} {b : Bool} → Outcome (InRange end t) (OutOfRange end t) b → (ensure b TickOutOfRange None ≡ Some TickOutOfRange) ↔ OutOfRange end t
tick-out (holds p) = (λ e. never cc, λ h. absurd (not-in_range h p))
tick-out (fails h) = (λ e. h, λ e. refl)

tick-judged : {f : Option Refusal → Option Refusal} {P refused : Type 0} → Ahead f P → (end t : ℕ)
    → refused ↔ (f (ensure (within 1 t end) TickOutOfRange None) ≡ Some TickOutOfRange) → refused ↔ (P × OutOfRange end t)
tick-judged a end t w = behind-judged a TickOutOfRange (omega arith) (ensure (within 1 t end) TickOutOfRange None) (tick-out (range_outcome end t)) w

-- The checks behind the window's refuse with neither of its two.
record Other (o : Option Refusal) : Type 0 where
  not-9 : o ≢ Some TickOutOfRange
  not-19 : o ≢ Some FirstAfterLast

-- What the check of a window comes to, where those behind it come to o.
data WindowCase (τ first last : ℕ) (o : Option Refusal) : Option Refusal → Type 0 where
  accepted : IsWindow τ first last → WindowCase τ first last o o
  out : TickOut τ first last → WindowCase τ first last o (Some TickOutOfRange)
  turned : TurnedRound τ first last → WindowCase τ first last o (Some FirstAfterLast)

module _ {τ first last : ℕ} {o : Option Refusal} (x : Other o) where
  to_out : {a : Option Refusal} → WindowCase τ first last o a → a ≡ Some TickOutOfRange → TickOut τ first last
  to_out (accepted w) e = absurd (x.not-9 e)
  to_out (out n) e = n
  to_out (turned t) e = never cc

  to_turned : {a : Option Refusal} → WindowCase τ first last o a → a ≡ Some FirstAfterLast → TurnedRound τ first last
  to_turned (accepted w) e = absurd (x.not-19 e)
  to_turned (out n) e = never cc
  to_turned (turned t) e = t

module _ (T : List ℕ) (first last : ℕ) where
  window_case : (o : Option Refusal) → WindowCase (ticks T) first last o (ensure_window T first last o)
  window_case o = go (any_two (ticks T) first last)
    where
      go : IsWindow (ticks T) first last ⊎ TickOut (ticks T) first last ⊎ TurnedRound (ticks T) first last → WindowCase (ticks T) first last o (ensure_window T first last o)
      go (inl w) = subst (WindowCase (ticks T) first last o) (sym (window_accepted T first last w o)) (accepted w)
      go (inr (inl n)) = subst (WindowCase (ticks T) first last o) (sym (window_out T first last n o)) (out n)
      go (inr (inr t)) = subst (WindowCase (ticks T) first last o) (sym (window_turned T first last t o)) (turned t)

  window_judged : {f : Option Refusal → Option Refusal} {P : Type 0} {refused : Refusal → Type 0} → Ahead f P → (o : Option Refusal) → Other o
      → ((r : Refusal) → refused r ↔ (f (ensure_window T first last o) ≡ Some r)) → WindowJudged (ticks T) first last P refused
  window_judged a o x w =
      let c = window_case o in
      record {
        with_9 = behind-judged a TickOutOfRange (omega arith) (ensure_window T first last o) (to_out x c, λ n. window_out T first last n o) (w TickOutOfRange);
        with_19 = behind-judged a FirstAfterLast (omega arith) (ensure_window T first last o) (to_turned x c, λ t. window_turned T first last t o) (w FirstAfterLast);
      }

-- ---- answers

-- A record holds a number exactly when a single reach is refused with it.
record-refused : (a : Result Bool Refusal) (r : Refusal) → (record_answer_of a ≡ Some (Err (number_of r))) ↔ (a ≡ Err r)
record-refused (Ok true) r = (λ e. never cc, λ e. never cc)
record-refused (Ok false) r = (λ e. never cc, λ e. never cc)
record-refused (Err s) r = (
  λ e. let z : number_of s ≡ number_of r = cc in ap Err (numbers_differ s r z),
  λ e. ap record_answer_of e,
)

-- ---- the calls

-- Nothing comes behind the window, or the room for a chain.
nothing-else : Other None
nothing-else = record { not-9 = λ e. never cc; not-19 = λ e. never cc }

room-else : (b : Bool) → Other (ensure b ChainBufferTooShort None)
room-else true = nothing-else
room-else false = record { not-9 = λ e. never cc; not-19 = λ e. never cc }

-- The checks of the table and of two animals.
asked-ahead : (T : List ℕ) (u v : ℕ) → Ahead (λ o. ensure_table T (ensure_pair T u v o)) (TablePair T u v)
asked-ahead T u v = then-ahead (table-ahead T) (pair-ahead T u v)

-- A record of a table that passes 5 and 6 holds the refusal that the checks behind these give.
record-iff : (T : List ℕ) → ValidTable T → (q : Question) (r : Refusal)
    → ((asked T q).answer ≡ Some (Err (number_of r))) ↔ (ensure_pair T q.from q.to (ensure_window T q.first q.last None) ≡ Some r)
unfolding asked reach_answer reach_refusal
record-iff T p q r = (
  λ e. sym (behind-valid T p behind) ∙ (refused-iff (ensure_table T behind) b r).0 ((record-refused (answer_of (ensure_table T behind) (Ok b)) r).0 e),
  λ e. (record-refused (answer_of (ensure_table T behind) (Ok b)) r).1 ((refused-iff (ensure_table T behind) b r).1 (behind-valid T p behind ∙ e)),
)
  where
    b : Bool
    b = reaches T q.from q.to q.first q.last

    behind : Option Refusal
    behind = ensure_pair T q.from q.to (ensure_window T q.first q.last None)

each_record : (T : List ℕ) → ValidTable T → (l : List Question) (i : ℕ) → i < length l → (d : Question)
    → WindowJudged (ticks T) (get_or l i d).first (get_or l i d).last (IsPair (animals T) (get_or l i d).from (get_or l i d).to) (λ r. (get_or (list_leaves T l) i d).answer ≡ Some (Err (number_of r)))
each_record T p l i h d =
    window_judged T (get_or l i d).first (get_or l i d).last (pair-ahead T (get_or l i d).from (get_or l i d).to) None nothing-else
    (λ r. subst (λ q. (q.answer ≡ Some (Err (number_of r))) ↔ (ensure_pair T (get_or l i d).from (get_or l i d).to (ensure_window T (get_or l i d).first (get_or l i d).last None) ≡ Some r))
    (sym (answered-at T (behind-valid T p None) l i h d)) (record-iff T p (get_or l i d) r))

pub tick_refusals : TickRefusals
unfolding add_answer add_refusal earliest_answer latest_answer moment_refusal reach_answer reach_refusal connected_answer connected_refusal reached_answer reached_refusal chain_answer chain_refusal claimed_answer
tick_refusals =
    record {
      add = λ T k. (
          tick-judged (asked-ahead T k.from k.to) (ticks T) k.tick
          (refused-iff (add_refusal T k) (cond (holds-contact T k) (Known (cells_changed (animals T) (cells_of T) (added_cells T k))) (New (cells_changed (animals T) (cells_of T) (added_cells T k)))) TickOutOfRange)
          );
      earliest = λ T u v first. tick-judged (asked-ahead T u v) (last_arrival T) first (refused-iff (moment_refusal T u v first) (earliest_arriving (cells_of T u v) first) TickOutOfRange);
      latest = λ T u v last. tick-judged (asked-ahead T u v) (last_arrival T) last (refused-iff (moment_refusal T u v last) (latest_departing (cells_of T u v) last) TickOutOfRange);
      reach = λ T u v first last. window_judged T first last (asked-ahead T u v) None nothing-else (refused-iff (reach_refusal T u v first last) (reaches T u v first last));
      connected = λ T first last. window_judged T first last (table-ahead T) None nothing-else (refused-iff (connected_refusal T first last) (connects T first last));
      reached = λ T u first last. window_judged T first last (then-ahead (table-ahead T) (animal-ahead T u)) None nothing-else (refused-iff (reached_refusal T u first last) tt);
      chain = λ T u v first last B. (
          let fits = leb (animals T - 1) (length B) in
          window_judged T first last (asked-ahead T u v) (ensure fits ChainBufferTooShort None) (room-else fits) (refused-iff (chain_refusal T u v first last B) (option_map length (chain_of T u v first last)))
          );
      claimed = λ T u v first last ws. window_judged T first last (asked-ahead T u v) None nothing-else (refused-iff (reach_refusal T u v first last) (form_journey T v first last u 0 ws));
      each_record = each_record;
    }
