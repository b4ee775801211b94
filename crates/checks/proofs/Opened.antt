-- The checks of an opening: the limits of its three numbers, then the length of the table.
use Rattle.std.specs.Prelude.{Option, None, Ok, Err, Result, IsErrAnd, ⊤}
use mathlib.Core.Path.{◌≡◌, sym, ap, ◌∙◌, subst}
use mathlib.Core.List.{List}
use Prim.Native.Nat.{ℕ, ◌≤◌}
use lib.Dec.{eqb}
use lib.ListN.{length}
use Rattle.rules.specs.Limits.{max_animals, max_ticks, max_carry}
use Rattle.rules.specs.declared.Refusal.{Refusal}
use Rattle.rules.specs.declared.Refusal.TheVariants.{WrongLength, AnimalsBeyondLimit, TicksBeyondLimit, CarryBeyondLimit}
use Rattle.rules.specs.Answers.{ensure, answer_of, done}
use Rattle.rules.specs.Folds.{within}
use Rattle.rules.specs.Layout.{table_length}
use Rattle.rules.specs.Opening.{ensure_sizes, open_refusal}
use Rattle.rules.proofs.Judged.{sizes-iff}
use Rattle.rules.proofs.Refusals.{refused-iff, given-iff}
use Rattle.rules.proofs.Groups.{Group, one-check, both-groups}
use Rattle.tables.specs.declared.Opening.{Opening}
use Rattle.tables.specs.Openings.{opening, made}
use Rattle.checks.specs.Verdicts.{verdict_of}
use Rattle.checks.proofs.Judged.{refused_with, refused_at, passed_at}

-- The limits of the three numbers are a group.
sizes-group : (n τ δ : ℕ) → Group (ensure_sizes n τ δ)
sizes-group n τ δ =
    both-groups (one-check (within 1 n max_animals) AnimalsBeyondLimit)
    (both-groups (one-check (within 1 τ max_ticks) TicksBeyondLimit) (one-check (within 1 δ max_carry) CarryBeyondLimit))

module _ (n τ δ : ℕ) {m : Result Opening Refusal} (p : m ≡ made n τ δ) where
  -- A number beyond its limits refuses the opening.
  pub open_beyond : (T : List ℕ) {v : Result Opening Refusal} {r : Refusal} → m ≡ Err r → IsErrAnd v (λ e. e ≡ r) → v ≡ answer_of (open_refusal n τ δ T) (Ok (opening n τ δ))
  unfolding made open_refusal
  open_beyond T {v} {r} q h =
      rw ((sizes-group n τ δ).refuses r ((refused-iff (ensure_sizes n τ δ None) (opening n τ δ) r).0 (sym p ∙ q)) (ensure (eqb (length T) (table_length n τ)) WrongLength None))
      (refused_with v h)

  module _ (o : Opening) (q : m ≡ Ok o) where
    within-is : (ensure_sizes n τ δ None ≡ None) × (opening n τ δ ≡ o)
    unfolding made
    within-is = (given-iff (ensure_sizes n τ δ None) (opening n τ δ) o).0 (sym p ∙ q)

    -- An opening that was made has its numbers within their limits.
    pub within-limits : (o.animals ≤ max_animals) × (o.ticks ≤ max_ticks)
    within-limits =
        subst (λ (s : Opening). (s.animals ≤ max_animals) × (s.ticks ≤ max_ticks)) within-is.1
        (let z = ((sizes-iff n τ δ None).0 within-is.0).0 in (z.n_high, z.τ-high))

    module _ (T : List ℕ) {l : ℕ} {a : Result ⊤ Refusal} (e : l ≡ table_length o.animals o.ticks) (f : a ≡ verdict_of (ensure (eqb (length T) l) WrongLength None)) where
      -- Then the length decides.
      open_within : a ≡ verdict_of (open_refusal n τ δ T)
      unfolding open_refusal
      open_within =
          let k : l ≡ table_length n τ = e ∙ ap (λ (s : Opening). table_length s.animals s.ticks) (sym within-is.1) in
          f
          ∙ ap (λ (i : ℕ). verdict_of (ensure (eqb (length T) i) WrongLength None)) k
          ∙ ap verdict_of (sym ((sizes-group n τ δ).passes within-is.0 (ensure (eqb (length T) (table_length n τ)) WrongLength None)))

      -- A wrong length refuses the opening,
      pub open_refused : {v : Result Opening Refusal} {r : Refusal} → a ≡ Err r → IsErrAnd v (λ e. e ≡ r) → v ≡ answer_of (open_refusal n τ δ T) (Ok (opening n τ δ))
      open_refused g h = refused_at (open_refusal n τ δ T) (Ok (opening n τ δ)) open_within g h

      -- and with the right one it is made.
      pub open_passed : a ≡ done → Ok o ≡ answer_of (open_refusal n τ δ T) (Ok (opening n τ δ))
      open_passed g = ap Ok (sym within-is.1) ∙ passed_at (open_refusal n τ δ T) (Ok (opening n τ δ)) open_within g
