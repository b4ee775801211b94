-- How far the rows below a tick reach in a rising cell, and how far they reach for the next tick.
use Prim.Native.Nat.{ℕ, ◌+◌, ◌≤◌, ◌<◌}
use mathlib.Core.Path.{◌≡◌, refl}
use mathlib.Core.Logic.{◌⊎◌, inl, inr, ⊎_elim}
use mathlib.Core.Bool.{Bool}
use mathlib.Core.List.{[], ◌∷◌}
use native.Mathlib.Omega.{arith}
use lib.ListN.{length, get_or}
use Rattle.journeys.specs.declared.Interval.{Interval}
use Rattle.journeys.specs.Cell.{Cell, Rising}
use Rattle.journeys.proofs.Tests.{Outcome, holds, fails, lt_outcome}
use Rattle.cells.specs.Stored.{front_below}
use Rattle.cells.proofs.Search.{Follows, front_length, front-le, front-before, front_at, front-gt, rising-at}

-- A number is below another, or the other is at most it.
pub lt_or_ge : (k i : ℕ) → (k < i) ⊎ (i ≤ k)
lt_or_ge k i = go (lt_outcome k i)
  where
    go : {b : Bool} → Outcome (k < i) (i ≤ k) b → (k < i) ⊎ (i ≤ k)
    go (holds h) = inl h
    go (fails h) = inr h

module _ (f : Interval → ℕ) (up : Follows f) where
  -- Behind a row whose end is t or later, no row has its end below t.
  pub front-behind : (t : ℕ) (i : Interval) (c : Cell) → Rising (i ∷ c) → t ≤ f i → front_below f t c ≡ 0
  unfolding front_below
  front-behind t i [] u h = refl
  front-behind t i (j ∷ c) u h =
      let r = rising-at f up (i ∷ j ∷ c) 0 1 i u (omega arith) (omega arith) in
      omega (arith, front-le f t (j ∷ c) 0 i (omega arith) (omega arith))

  module _ (t : ℕ) (c : Cell) (z : Interval) (u : Rising c) where
    -- For the next tick the front reaches as far, or farther.
    pub past_up : front_below f t c ≤ front_below f (t + 1) c
    past_up =
        ⊎_elim
        (λ q. let s = front_length f t c in absurd (omega (arith, front-before f t c (front_below f (t + 1) c) z q, front_at f (t + 1) c z (omega arith))))
        (λ q. q)
        (lt_or_ge (front_below f (t + 1) c) (front_below f t c))

    -- It reaches one row farther where the row behind it has its end at t.
    pub past_same : front_below f t c < length c → f (get_or c (front_below f t c) z) ≡ t → front_below f t c + 1 ≡ front_below f (t + 1) c
    past_same l e = omega (arith, lower, upper)
      where
        i : ℕ
        i = front_below f t c

        lower : i < front_below f (t + 1) c
        lower = front-gt f (t + 1) up c i z u l (omega arith)

        upper : front_below f (t + 1) c ≤ i + 1
        upper =
            ⊎_elim (λ q. front-le f (t + 1) c (i + 1) z q (omega (arith, rising-at f up c i (i + 1) z u (omega arith) q)))
            (λ q. omega (arith, front_length f (t + 1) c))
            (lt_or_ge (i + 1) (length c))

    -- It reaches no farther where that row has its end at another tick.
    pub past-other : front_below f t c < length c → (f (get_or c (front_below f t c) z) ≡ t → ⊥) → front_below f t c ≡ front_below f (t + 1) c
    past-other l n = omega (arith, past_up, front-le f (t + 1) c (front_below f t c) z l (omega (arith, front_at f t c z l)))

    -- It reaches no farther where it holds every row.
    pub past-none : length c ≤ front_below f t c → front_below f t c ≡ front_below f (t + 1) c
    past-none l = omega (arith, past_up, front_length f (t + 1) c)
