-- The contacts of animals that share a pen: one by one, of one animal, of one tick, and all.
use Rattle.std.specs.Prelude.{None}
use mathlib.Core.Path.{◌≡◌, refl, sym, ap, ◌∙◌, subst}
use mathlib.Core.Logic.{◌≢◌}
use mathlib.Core.Bool.{Bool, cond}
use mathlib.Core.List.{List, [], ◌∷◌}
use Prim.Native.Nat.{ℕ, ◌+◌, ◌/◌, ◌<◌}
use native.Mathlib.Omega.{arith}
use lib.ListN.{length, get_or}
use lib.Bits.{bit_and, and_zero_l}
use borrow.Author.Tests.{eq-eqb, ne_eqb}
use Rattle.journeys.specs.declared.Contact.{Contact}
use Rattle.journeys.specs.Journey.{contact}
use Rattle.journeys.proofs.Tests.{Outcome, holds, fails, eq_outcome}
use Rattle.rules.specs.Limits.{max_animals, max_ticks}
use Rattle.rules.specs.Folds.{flat}
use Rattle.rules.specs.Layout.{animals, ticks}
use Rattle.rules.specs.Checks.{ValidTable}
use Rattle.rules.specs.Orders.{listed, in_log_order}
use Rattle.rules.specs.CallLists.{engine, run, new_adds}
use Rattle.rules.specs.Stays.{stays_of, met, stay_contacts, stays_refusal}
use Rattle.rules.specs.StayRule.{AreStays}
use Rattle.rules.proofs.Folds.{flat-same, flat-none}
use Rattle.rules.proofs.Sound.{table-sizes}
use Rattle.rules.proofs.Stays.{stays-iff, contacts-legal, contacts-few}
use Rattle.adding_lists.specs.Contacts.{Addable}
use Rattle.adding_lists.proofs.Adds.{none-added}
use Rattle.adding_lists.proofs.Adds.{added-as}
use Rattle.stays.specs.Meetings.{PensBy, shares_pen, meeting, meetings_from, meetings_at}
use Rattle.stays.proofs.Pens.{shares-met}

-- ---- one contact

module _ (pens : List ℕ) (u v t : ℕ) where
  -- An animal does not meet itself.
  pub own-none : u ≡ v → meeting pens t u v ≡ []
  unfolding meeting listed shares_pen
  own-none e = rw (eq-eqb u v e) refl

  -- So its meeting adds no contact.
  pub own-new : (T : List ℕ) → u ≡ v → 0 ≡ new_adds engine T (meeting pens t u v)
  own-new T e = (none-added T _ (own-none e)).0

  -- And its meeting leaves the table.
  pub own-left : (T : List ℕ) → u ≡ v → T ≡ run engine T (meeting pens t u v)
  own-left T e = (none-added T _ (own-none e)).1

  module _ (d : u ≢ v) where
    -- Two that share no pen do not meet.
    pub apart_none : bit_and (get_or pens u 0) (get_or pens v 0) ≡ 0 → meeting pens t u v ≡ []
    unfolding meeting listed shares_pen
    apart_none e = rw (ne_eqb u v d, e) refl

    -- Two different ones that share a pen do.
    pub shared-one : bit_and (get_or pens u 0) (get_or pens v 0) ≢ 0 → meeting pens t u v ≡ contact u v t ∷ []
    unfolding meeting listed shares_pen
    shared-one h = rw (ne_eqb u v d, ne_eqb (bit_and (get_or pens u 0) (get_or pens v 0)) 0 h) refl

-- ---- the contacts of one animal

-- An animal in no pen has none.
pub penless_none : (pens : List ℕ) (n t u : ℕ) → get_or pens u 0 ≡ 0 → meetings_from pens n t u ≡ []
unfolding meetings_from
penless_none pens n t u e = flat-none (meeting pens t u) n (λ v. one v (eq_outcome u v))
  where
    one : (v : ℕ) {b : Bool} → Outcome (u ≡ v) (u ≢ v) b → meeting pens t u v ≡ []
    one v (holds q) = own-none pens u v t q
    one v (fails d) = apart_none pens u v t d (ap (λ (x : ℕ). bit_and x (get_or pens v 0)) e ∙ and_zero_l (get_or pens v 0))

-- ---- the contacts of one tick, and all

-- The contacts of tick i + 1.
unfoldable pub contacts_at : List ℕ → List ℕ → ℕ → List Contact
contacts_at T W i = flat (λ u. flat (λ v. listed (met (stays_of W)) (contact u v (i + 1))) (animals T)) (animals T)

-- Tick by tick they are all.
all-ticks : (T W : List ℕ) → stay_contacts T W ≡ flat (contacts_at T W) (ticks T)
unfolding stay_contacts in_log_order contacts_at
all-ticks T W = refl

-- With the pens of tick i + 1, the contacts of animals that share one are those of the tick.
pub tick-meetings : (T W pens : List ℕ) (i : ℕ) {n : ℕ} → n ≡ animals T → PensBy W (i + 1) (length W / 4) pens → meetings_at pens n (i + 1) ≡ contacts_at T W i
unfolding contacts_at meetings_at meetings_from meeting listed
tick-meetings T W pens i e f =
    ap (λ (m : ℕ). flat (λ u. flat (λ v. cond (shares_pen pens (contact u v (i + 1))) (contact u v (i + 1) ∷ []) []) m) m) e
    ∙ flat-same _ _ (animals T) (λ u h. flat-same _ _ (animals T) (λ v k. one u v h k))
  where
    one : (u v : ℕ) → u < animals T → v < animals T
        → cond (shares_pen pens (contact u v (i + 1))) (contact u v (i + 1) ∷ []) [] ≡ cond (met (stays_of W) (contact u v (i + 1))) (contact u v (i + 1) ∷ []) []
    one u v h k =
        ap (λ (b : Bool). cond b (contact u v (i + 1) ∷ []) [])
        (shares-met W pens (contact u v (i + 1)) f (omega (arith, h, (table-sizes T).n_high)) (omega (arith, k, (table-sizes T).n_high)))

-- ---- stays that no check refuses

module _ (T W : List ℕ) (e : stays_refusal T W ≡ None) where
  -- The table passes 5 and 6.
  pub table-valid : ValidTable T
  table-valid = ((stays-iff T W).0 e).0

  module _ {m : ℕ} (f : m ≡ ticks T) where
    ticks-are : stay_contacts T W ≡ flat (contacts_at T W) m
    ticks-are = all-ticks T W ∙ ap (flat (contacts_at T W)) (sym f)

    -- Their contacts can be added.
    pub contacts-addable : Addable T (flat (contacts_at T W) m)
    contacts-addable =
        let h = (stays-iff T W).0 e in
        subst (Addable T) ticks-are (record { valid = h.0; legal = contacts-legal T W h.1; few = omega (arith, contacts-few T W) })

    -- Tick by tick all are added.
    pub contacts-added : {new : ℕ} {U : List ℕ} → (new ≡ new_adds engine T (flat (contacts_at T W) m)) × (U ≡ run engine T (flat (contacts_at T W) m))
        → (new ≡ new_adds engine T (stay_contacts T W)) × (U ≡ run engine T (stay_contacts T W))
    contacts-added = added-as T (sym ticks-are)

  -- They are stays within the limits of any table.
  pub stays_within : AreStays max_animals max_ticks W
  stays_within =
      let h = ((stays-iff T W).0 e).1 in
      let z = table-sizes T in
      record {
        whole = h.whole;
        each = λ s m.
            let r = h.each s m in
            record {
              animal_below = omega (arith, r.animal_below, z.n_high);
              pen_within = r.pen_within;
              first_within = (r.first_within.0, omega (arith, r.first_within.1, z.τ-high));
              last_within = (r.last_within.0, omega (arith, r.last_within.1, z.τ-high));
              in_order = r.in_order;
            };
      }

pub ruleset own = (own-new, own-left)
