-- The questions for the earliest arrival and the latest departure are answered by the interval that is asked for: over the stored intervals on
-- any table that passes 5 and 6, over the journeys on a fresh one.
use Rattle.std.specs.Prelude.{Option, None, Some, Ok}
use mathlib.Core.Path.{◌≡◌, refl, sym, subst}
use mathlib.Core.Logic.{◌↔◌}
use mathlib.Core.List.{List, Memᴰ}
use Prim.Native.Nat.{ℕ, ◌+◌, ◌^◌, ◌≤◌, ◌<◌}
use native.Mathlib.Omega.{arith}
use Rattle.journeys.specs.declared.Interval.{Interval}
use Rattle.journeys.specs.Journey.{Contacts, Inside, Journey, Minimal}
use Rattle.journeys.specs.Cell.{Rising, latest_departing, earliest_arriving}
use Rattle.journeys.proofs.Tests.{never}
use Rattle.journeys.proofs.First.{FirstOf, nothing-asked, first-asked, first_some, first-none, latest-departing, earliest-arriving}
use Rattle.journeys.proofs.Cover.{one-arrival, one-departure, covers-find}
use Rattle.rules.specs.declared.Refusal.{Refusal}
use Rattle.rules.specs.Answers.{answer_of}
use Rattle.rules.specs.Layout.{animals, ticks, carry, cells_of}
use Rattle.rules.specs.Checks.{ValidTable}
use Rattle.rules.specs.Windows.{IsPair}
use Rattle.rules.specs.Questions.{moment_refusal, earliest_answer, latest_answer}
use Rattle.rules.specs.EarliestLatest.{Earliest, Latest, NoneDeparts, NoneArrives}
use Rattle.rules.specs.StoredAnswers.{StandsIn, StoredAnswersOf, BothTold, StoredAnswers}
use Rattle.rules.specs.Fresh.{Fresh}
use Rattle.rules.proofs.Sound.{table-sizes, passes-good}
use Rattle.rules.proofs.Asked.{at-iff, nothing-iff, ValidOf, valid-itself, valid-fresh, moment_asked, pair-behind}
use Rattle.rules.proofs.ChainHeld.{chain_fits}
use Rattle.rules.proofs.Answered.{reaches-stored, reach-yes_iff, reach-no_iff, covered_iff, stands-iff}

-- One equivalence after another.
pub then-iff : {A B C : Type 0} → A ↔ B → B ↔ C → A ↔ C
then-iff f g = (λ a. g.0 (f.0 a), λ c. f.1 (g.1 c))

-- ---- the stored intervals, in a cell that rises

module _ (T : List ℕ) (u v : ℕ) (up : Rising (cells_of T u v)) where
  earliest-stored : (first : ℕ) (i : Interval) → (earliest_arriving (cells_of T u v) first ≡ Some i) ↔ Earliest (StandsIn T u v) (StandsIn T u v) first i
  earliest-stored first i =
      then-iff (first_some (λ j k m n h l. one-arrival j k (cells_of T u v) up m n (omega arith)) (earliest-arriving first (cells_of T u v)) i)
      (λ h. record { is_minimal = h.0; departs = h.1; least = h.2 }, λ e. (e.is_minimal, e.departs, e.least))

  latest-stored : (last : ℕ) (i : Interval) → (latest_departing (cells_of T u v) last ≡ Some i) ↔ Latest (StandsIn T u v) (StandsIn T u v) last i
  latest-stored last i =
      then-iff (first_some (λ j k m n h l. one-departure j k (cells_of T u v) up m n (omega arith)) (latest-departing last (cells_of T u v)) i)
      (λ h. record { is_minimal = h.0; arrives = h.1; greatest = h.2 }, λ e. (e.is_minimal, e.arrives, e.greatest))

-- ---- journeys in the place of the stored intervals

-- The stored intervals are minimal ones and all of them, and each journey has one of them inside it.
record StandFor (stored minimal journeys : Interval → Type 0) : Type 0 where
  pub are : (i : Interval) → stored i ↔ minimal i
  pub journey : (i : Interval) → minimal i → journeys i
  pub inside : (j : Interval) → journeys j → (k : Interval) × stored k × Inside k j

module _ {stored minimal journeys : Interval → Type 0} (s : StandFor stored minimal journeys) where
  -- A stored interval is that of a journey.
  travelled : (j : Interval) → stored j → journeys j
  travelled j m = s.journey j ((s.are j).0 m)

  earliest-over : (first : ℕ) (i : Interval) → Earliest stored stored first i ↔ Earliest minimal journeys first i
  earliest-over first i = (
    λ e. record { is_minimal = (s.are i).0 e.is_minimal; departs = e.departs; least = λ j t h. (let k = s.inside j t in omega (arith, k.2, e.least k.0 k.1 (omega (arith, k.2)))) },
    λ e. record { is_minimal = (s.are i).1 e.is_minimal; departs = e.departs; least = λ j m. e.least j (travelled j m) },
  )

  latest-over : (last : ℕ) (i : Interval) → Latest stored stored last i ↔ Latest minimal journeys last i
  latest-over last i = (
    λ e. record { is_minimal = (s.are i).0 e.is_minimal; arrives = e.arrives; greatest = λ j t h. (let k = s.inside j t in omega (arith, k.2, e.greatest k.0 k.1 (omega (arith, k.2)))) },
    λ e. record { is_minimal = (s.are i).1 e.is_minimal; arrives = e.arrives; greatest = λ j m. e.greatest j (travelled j m) },
  )

  departs-over : (first : ℕ) → NoneDeparts stored first ↔ NoneDeparts journeys first
  departs-over first = (λ n j t h. let k = s.inside j t in n k.0 k.1 (omega (arith, k.2)), λ n j m. n j (travelled j m))

  arrives-over : (last : ℕ) → NoneArrives stored last ↔ NoneArrives journeys last
  arrives-over last = (λ n j t h. let k = s.inside j t in n k.0 k.1 (omega (arith, k.2)), λ n j m. n j (travelled j m))

-- ---- what is answered, for two different animals and a tick in range

module _ {n τ δ : ℕ} {T : List ℕ} (g : ValidOf n τ δ T) (u v : ℕ) (p : IsPair n u v) where
  -- The pair's cell rises.
  pub pair-rises : Rising (cells_of T u v)
  pair-rises =
      ((passes-good T g.valid).cells u v (subst (λ m. u < m) (sym g.animals-are) p.from_below) (subst (λ m. v < m) (sym g.animals-are) p.to_below)).rising

  module _ (t : ℕ) (h : 1 ≤ t) (k : t ≤ τ + δ) where
    -- An interval is answered exactly when it is the one asked for.
    earliest_told : (e : Interval) → (earliest_answer T u v t ≡ Ok (Some e)) ↔ (earliest_arriving (cells_of T u v) t ≡ Some e)
    unfolding earliest_answer
    earliest_told e = rw (moment_asked g u v t p h k) (at-iff (earliest_arriving (cells_of T u v) t) e)

    latest_told : (e : Interval) → (latest_answer T u v t ≡ Ok (Some e)) ↔ (latest_departing (cells_of T u v) t ≡ Some e)
    unfolding latest_answer
    latest_told e = rw (moment_asked g u v t p h k) (at-iff (latest_departing (cells_of T u v) t) e)

    -- None is answered exactly when none is asked for.
    earliest-untold : (earliest_answer T u v t ≡ Ok None) ↔ NoneDeparts (StandsIn T u v) t
    unfolding earliest_answer
    earliest-untold = rw (moment_asked g u v t p h k) (then-iff (nothing-iff (earliest_arriving (cells_of T u v) t)) (first-none (earliest-arriving t (cells_of T u v))))

    latest-untold : (latest_answer T u v t ≡ Ok None) ↔ NoneArrives (StandsIn T u v) t
    unfolding latest_answer
    latest-untold = rw (moment_asked g u v t p h k) (then-iff (nothing-iff (latest_departing (cells_of T u v) t)) (first-none (latest-departing t (cells_of T u v))))

-- The stored intervals stand for the journeys.
stored-answered : (T : List ℕ) → ValidTable T → (u v : ℕ) → IsPair (animals T) u v → StoredAnswersOf T u v
stored-answered T q u v p =
    record {
      reach_yes = λ first last w. reach-yes_iff g u v first last p w (reaches-stored T u v first last);
      reach_no = λ first last w. reach-no_iff g u v first last p w (reaches-stored T u v first last);
      earliest_at = λ t h k e. then-iff (earliest_told g u v p t h k e) (earliest-stored T u v up t e);
      earliest_none = λ t h k. earliest-untold g u v p t h k;
      latest_at = λ t h k e. then-iff (latest_told g u v p t h k e) (latest-stored T u v up t e);
      latest_none = λ t h k. latest-untold g u v p t h k;
    }
  where
    g : ValidOf (animals T) (ticks T) (carry T) T
    g = valid-itself T q

    up : Rising (cells_of T u v)
    up = pair-rises g u v p

-- ---- an answer is read off the reply

-- Two ends below 2¹⁶ are.
ends-told : (e : Interval) → e.departure < 2 ^ 16 → e.arrival < 2 ^ 16 → BothTold e
ends-told e h k = record { departure_told = omega arith; arrival_told = omega arith }

module _ (T : List ℕ) (u v t : ℕ) where
  -- Where something is answered, the pair's cell is that of a table that passes 5 and 6, so its ends are small.
  ends-small : moment_refusal T u v t ≡ None → (i : Interval) → Memᴰ i (cells_of T u v) → BothTold i
  unfolding moment_refusal
  ends-small ok i m =
      let p = (pair-behind T u v ok).0 in
      let z = table-sizes T in
      let l = ((passes-good T p.valid).cells u v p.from_below p.to_below).limits i m in
      ends-told i (omega (arith, l.in_time, z.τ-high)) (omega (arith, l.arrives, z.τ-high, z.δ-high))

  -- An answer that is an interval is one of the cell, with nothing refused.
  answered-told : {P : Interval → Type 0} {R : Interval → Interval → Type 0} {o : Option Interval} → FirstOf P R (cells_of T u v) o
      → (r : Option Refusal) → (r ≡ None → moment_refusal T u v t ≡ None) → (e : Interval) → answer_of r (Ok o) ≡ Ok (Some e) → BothTold e
  answered-told f (Some r) ok e q = never cc
  answered-told (nothing-asked n) None ok e q = never cc
  answered-told (first-asked {i = i} m p l) None ok e q = let w : i ≡ e = cc in subst BothTold w (ends-small (ok refl) i m)

pub stored_answers : StoredAnswers
unfolding earliest_answer latest_answer
stored_answers =
    record {
      answers = stored-answered;
      chain_fits = chain_fits;
      earliest_told = λ T u v first. answered-told T u v first (earliest-arriving first (cells_of T u v)) (moment_refusal T u v first) (λ ok. ok);
      latest_told = λ T u v last. answered-told T u v last (latest-departing last (cells_of T u v)) (moment_refusal T u v last) (λ ok. ok);
    }

-- ---- on a fresh table

module _ {n τ δ : ℕ} {S : Contacts} {T : List ℕ} (f : Fresh n τ δ S T) (u v : ℕ) (p : IsPair n u v) where
  stand_for : StandFor (StandsIn T u v) (Minimal S δ u v) (Journey S δ u v)
  stand_for =
      record {
        are = stands-iff f u v p;
        journey = λ i m. m.journey;
        inside = λ j t. covers-find ((covered_iff f u v p j).1 (j, t, (omega arith, omega arith)));
      }

  -- The interval of the cell with the earliest arrival is the one that answers.
  pub earliest-some : (first : ℕ) (i : Interval) → (earliest_arriving (cells_of T u v) first ≡ Some i) ↔ Earliest (Minimal S δ u v) (Journey S δ u v) first i
  earliest-some first i = then-iff (earliest-stored T u v (pair-rises (valid-fresh f) u v p) first i) (earliest-over stand_for first i)

  -- So is that with the latest departure.
  pub latest-some : (last : ℕ) (i : Interval) → (latest_departing (cells_of T u v) last ≡ Some i) ↔ Latest (Minimal S δ u v) (Journey S δ u v) last i
  latest-some last i = then-iff (latest-stored T u v (pair-rises (valid-fresh f) u v p) last i) (latest-over stand_for last i)

  pub earliest-nothing : (first : ℕ) → (earliest_arriving (cells_of T u v) first ≡ None) ↔ NoneDeparts (Journey S δ u v) first
  earliest-nothing first = then-iff (first-none (earliest-arriving first (cells_of T u v))) (departs-over stand_for first)

  pub latest-nothing : (last : ℕ) → (latest_departing (cells_of T u v) last ≡ None) ↔ NoneArrives (Journey S δ u v) last
  latest-nothing last = then-iff (first-none (latest-departing last (cells_of T u v))) (arrives-over stand_for last)

  module _ (t : ℕ) (h : 1 ≤ t) (k : t ≤ τ + δ) where
    pub earliest_at : (e : Interval) → (earliest_answer T u v t ≡ Ok (Some e)) ↔ Earliest (Minimal S δ u v) (Journey S δ u v) t e
    earliest_at e = then-iff (earliest_told (valid-fresh f) u v p t h k e) (earliest-some t e)

    pub earliest_none : (earliest_answer T u v t ≡ Ok None) ↔ NoneDeparts (Journey S δ u v) t
    earliest_none = then-iff (earliest-untold (valid-fresh f) u v p t h k) (departs-over stand_for t)

    pub latest_at : (e : Interval) → (latest_answer T u v t ≡ Ok (Some e)) ↔ Latest (Minimal S δ u v) (Journey S δ u v) t e
    latest_at e = then-iff (latest_told (valid-fresh f) u v p t h k e) (latest-some t e)

    pub latest_none : (latest_answer T u v t ≡ Ok None) ↔ NoneArrives (Journey S δ u v) t
    latest_none = then-iff (latest-untold (valid-fresh f) u v p t h k) (arrives-over stand_for t)
