-- The contacts of one list that another has not.
use mathlib.Core.Logic.{◌↔◌, ⊎_elim}
use mathlib.Core.Path.{refl, sym, subst}
use mathlib.Core.Bool.{Bool, true, false, cond}
use mathlib.Core.List.{List, [], ◌∷◌, Memᴰ}
use Rattle.journeys.specs.declared.Contact.{Contact}
use Rattle.journeys.proofs.Tests.{Outcome, holds, fails}
use Rattle.rules.specs.Reading.{comes_in}
use Rattle.rules.specs.Orders.{BeforeHead, Sorted, Earlier}
use Rattle.rules.proofs.Reading.{comes_in-outcome}
use Rattle.rules.proofs.Sorted.{earlier-transitive, sorted_after}

-- The contacts of l, without those of m.
unfoldable pub without : List Contact → List Contact → List Contact
without m [] = []
without m (k ∷ l) = cond (comes_in k m) (without m l) (k ∷ without m l)

pub without-iff : (m l : List Contact) (k : Contact) → Memᴰ k (without m l) ↔ (Memᴰ k l × (¬ Memᴰ k m))
unfolding without
without-iff m [] k = (λ h. absurd (mathlib.Core.List.Memᴰ.not-nil h), λ h. absurd (mathlib.Core.List.Memᴰ.not-nil h.0))
without-iff m (c ∷ l) k = go (comes_in-outcome c m) (without-iff m l k)
  where
    go : {b : Bool} → Outcome (Memᴰ c m) (¬ Memᴰ c m) b → Memᴰ k (without m l) ↔ (Memᴰ k l × (¬ Memᴰ k m))
        → Memᴰ k (cond b (without m l) (c ∷ without m l)) ↔ (Memᴰ k (c ∷ l) × (¬ Memᴰ k m))
    go (holds h) r = (
      λ p. let q = r.0 p in (mathlib.Core.List.Memᴰ.tail q.0, q.1),
      λ p. ⊎_elim (λ e. absurd (p.1 (subst (λ i. Memᴰ i m) (sym e) h))) (λ q. r.1 (q, p.1)) (mathlib.Core.List.Memᴰ.cases_cons p.0),
    )
    go (fails d) r = (
      λ p. ⊎_elim (λ e. (mathlib.Core.List.Memᴰ.head e, λ h. d (subst (λ i. Memᴰ i m) e h))) (λ q. let z = r.0 q in (mathlib.Core.List.Memᴰ.tail z.0, z.1)) (mathlib.Core.List.Memᴰ.cases_cons p),
      λ p. ⊎_elim mathlib.Core.List.Memᴰ.head (λ q. mathlib.Core.List.Memᴰ.tail (r.1 (q, p.1))) (mathlib.Core.List.Memᴰ.cases_cons p.0),
    )

-- A contact that comes before all of a list comes before its first.
before-all : (k : Contact) (l : List Contact) → ((c : Contact) → Memᴰ c l → Earlier k c) → BeforeHead Earlier k l
before-all k [] f = tt
before-all k (c ∷ l) f = f c (mathlib.Core.List.Memᴰ.head refl)

-- A sorted list stays sorted.
pub without-sorted : (m l : List Contact) → Sorted Earlier l → Sorted Earlier (without m l)
unfolding without
without-sorted m [] s = tt
without-sorted m (k ∷ l) s = go (comes_in k m) (without-sorted m l s.1)
  where
    go : (b : Bool) → Sorted Earlier (without m l) → Sorted Earlier (cond b (without m l) (k ∷ without m l))
    go true r = r
    go false r = (before-all k (without m l) (λ c h. sorted_after Earlier earlier-transitive k c l s ((without-iff m l c).0 h).0), r)
