-- The checks of a list of stays: each record in turn.
use Rattle.std.specs.Prelude.{Option, None, Err, Result, IsErrAnd, ⊤}
use mathlib.Core.Path.{◌≡◌, refl, sym, ap, ◌∙◌}
use mathlib.Core.Bool.{Bool}
use mathlib.Core.List.{List, [], ◌∷◌}
use Prim.Native.Nat.{ℕ, ◌+◌, ◌-◌, ◌/◌, ◌≤◌, ◌<◌}
use lib.ListN.{length}
use Rattle.rules.specs.declared.Refusal.{Refusal}
use Rattle.rules.specs.declared.Refusal.TheVariants.{IllegalStay}
use Rattle.rules.specs.declared.Stay.{Stay}
use Rattle.rules.specs.Answers.{ensure, done}
use Rattle.rules.specs.Stays.{stay_at, stays_of, is_stay, ensure_each}
use Rattle.rules.proofs.Folds.{flat_from, from_all, from_next, from-none}
use Rattle.rules.proofs.Groups.{Group, none-is_not_some, one-check, both-groups}
use Rattle.checks.specs.Verdicts.{verdict_of}
use Rattle.checks.proofs.Judged.{check_passed, group_refused}

-- The records from i on.
abbrev records_from : List ℕ → ℕ → List Stay
records_from W i = flat_from (λ j. stay_at W j ∷ []) i (length W / 4 - i)

-- The first i records are judged: what is left to judge equals the whole.
pub record Judging (n τ : ℕ) (W : List ℕ) (i : ℕ) : Type 0 where
  pub left : ensure_each n τ (records_from W i) None ≡ ensure_each n τ (stays_of W) None

pub judging_start : (n τ : ℕ) (W : List ℕ) → Judging n τ W 0
unfolding stays_of
judging_start n τ W = record { left = ap (λ (l : List Stay). ensure_each n τ l None) (from_all (λ j. stay_at W j ∷ []) (length W / 4)) }

module _ {n τ : ℕ} {W : List ℕ} {i : ℕ} (g : Judging n τ W i) where
  module _ (h : i < length W / 4) {s : Stay} (e : s ≡ stay_at W i) {b : Bool} (f : b ≡ is_stay n τ s) {a : Result ⊤ Refusal} (p : a ≡ verdict_of (ensure b IllegalStay None)) where
    turn : ensure_each n τ (stays_of W) None ≡ ensure b IllegalStay (ensure_each n τ (records_from W (i + 1)) None)
    unfolding ensure_each
    turn =
        sym g.left ∙ ap (λ (l : List Stay). ensure_each n τ l None) (from_next (λ j. stay_at W j ∷ []) (length W / 4) i h)
        ∙ ap (λ (x : Bool). ensure x IllegalStay (ensure_each n τ (records_from W (i + 1)) None)) (sym (f ∙ ap (is_stay n τ) e))

    -- The record is no stay.
    pub judging_refused : {v : Result ⊤ Refusal} {r : Refusal} → a ≡ Err r → IsErrAnd v (λ k. k ≡ r) → v ≡ verdict_of (ensure_each n τ (stays_of W) None)
    judging_refused q k = group_refused (one-check b IllegalStay) (ensure_each n τ (records_from W (i + 1)) None) p q k ∙ ap verdict_of (sym turn)

    -- The record is a stay.
    pub judging_turn : a ≡ done → Judging n τ W (i + 1)
    judging_turn q = record { left = rw (turn, check_passed IllegalStay p q) refl }

  -- All records have passed.
  pub judging_end : length W / 4 ≤ i → done ≡ verdict_of (ensure_each n τ (stays_of W) None)
  unfolding verdict_of ensure_each
  judging_end h = ap verdict_of (sym (ap (λ (l : List Stay). ensure_each n τ l None) (from-none (λ j. stay_at W j ∷ []) (length W / 4) i h)) ∙ g.left)

-- The checks of all records are a group.
pub each-group : (n τ : ℕ) (l : List Stay) → Group (ensure_each n τ l)
unfolding ensure_each
each-group n τ [] = record { refuses = λ r e o. none-is_not_some e; passes = λ e o. refl }
each-group n τ (s ∷ l) = both-groups (one-check (is_stay n τ s) IllegalStay) (each-group n τ l)

-- Where the checks of all records pass, those behind them decide.
pub each_passes : (n τ : ℕ) (l : List Stay) (o : Option Refusal) → ensure_each n τ l None ≡ None → ensure_each n τ l o ≡ o
each_passes n τ l o e = (each-group n τ l).passes e o
