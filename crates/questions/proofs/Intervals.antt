-- What the questions for the earliest arrival and the latest departure answer, from the row that was found in the table given.
use Rattle.std.specs.Prelude.{Ok, Option, Result}
use mathlib.Core.Path.{◌≡◌, sym, ap, ◌∙◌, subst}
use mathlib.Core.List.{List}
use Prim.Native.Nat.{ℕ, ◌<◌}
use Rattle.journeys.specs.declared.Interval.{Interval}
use Rattle.journeys.specs.Cell.{Rising}
use Rattle.rules.specs.declared.Refusal.{Refusal}
use Rattle.rules.specs.Answers.{answer_of}
use Rattle.rules.specs.Layout.{animals, cells_of}
use Rattle.rules.specs.Questions.{moment_refusal, earliest_answer, latest_answer}
use Rattle.rules.proofs.Sound.{passes-good}
use Rattle.cells.specs.Rows.{first_departing, last_arriving, interval_found}
use Rattle.cells.proofs.Rows.{first-earliest, last-latest}
use Rattle.rules.proofs.Asked.{PairOf, pair-behind}
use Rattle.questions.proofs.Asking.{judged_given}

module _ (T : List ℕ) (u v t : ℕ) {a : Result (List ℕ) Refusal} {X : List ℕ} (p : a ≡ answer_of (moment_refusal T u v t) (Ok T)) (q : a ≡ Ok X) where
  -- Where nothing is refused, both are animals of a valid table.
  pair : PairOf T u v
  unfolding moment_refusal
  pair = (pair-behind T u v (judged_given T p q).0).0

  -- So they are animals of the table given,
  pub asked-pair : (u < animals X) × (v < animals X)
  asked-pair = subst (λ (S : List ℕ). (u < animals S) × (v < animals S)) (sym (judged_given T p q).1) (pair.from_below, pair.to_below)

  -- and the pair's cell rises.
  rises : Rising (cells_of T u v)
  rises = let r = pair in ((passes-good T r.valid).cells u v r.from_below r.to_below).rising

  module _ {i : Option Interval} where
    -- The interval of the first row that departs at or after t is answered for the earliest arrival.
    pub earliest-answered : i ≡ interval_found (first_departing (cells_of X u v) t) → Ok i ≡ earliest_answer T u v t
    unfolding earliest_answer
    earliest-answered e =
        let g = judged_given T p q in
        rw g.0 (ap Ok (e ∙ ap (λ (S : List ℕ). interval_found (first_departing (cells_of S u v) t)) g.1 ∙ first-earliest (cells_of T u v) t rises))

    -- That of the last row that arrives by t is answered for the latest departure.
    pub latest-answered : i ≡ interval_found (last_arriving (cells_of X u v) t) → Ok i ≡ latest_answer T u v t
    unfolding latest_answer
    latest-answered e =
        let g = judged_given T p q in
        rw g.0 (ap Ok (e ∙ ap (λ (S : List ℕ). interval_found (last_arriving (cells_of S u v) t)) g.1 ∙ last-latest (cells_of T u v) t rises))
