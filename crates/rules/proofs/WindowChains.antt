-- The chain named has all its contacts in the window, and the contacts in the window alone name it.
use mathlib.Core.Path.{subst}
use mathlib.Core.Logic.{◌↔◌, inl, inr, ⊎_elim}
use mathlib.Core.List.{List}
use Prim.Native.Nat.{ℕ, ◌+◌, ◌≤◌}
use native.Mathlib.Omega.{arith}
use Rattle.journeys.specs.declared.Contact.{Contact}
use Rattle.journeys.specs.Journey.{contact, Contacts, interval, Journey}
use Rattle.journeys.proofs.Reach.{journey-carries}
use Rattle.rules.specs.Windows.{InWindow, Fits}
use Rattle.rules.specs.WindowRule.{AllInWindow}
use Rattle.rules.specs.ChainRule.{Candidate, LowestCandidate, LatestLeaving, IsChain, last, next, NamedChain}
use Rattle.rules.proofs.Windows.{all_contacts, into_window, of-set, ends-fit}
use Rattle.rules.proofs.Chains.{chain-journey}

-- ---- two sets that are alike for a goal, an arrival b and the departures from `first` on

-- They have the same contacts that arrive by b, and the same journeys to the goal that arrive at b.
record Alike (δ goal b first : ℕ) (A B : Contacts) : Type 0 where
  pub contacts : (k : Contact) → first ≤ k.tick → k.tick + δ ≤ b → A k ↔ B k
  pub journeys : (z p : ℕ) → first ≤ p → Journey A δ z goal (interval p b) ↔ Journey B δ z goal (interval p b)

-- A candidate's contact arrives by b.
candidate_arrives : {δ goal b : ℕ} {A : Contacts} {x d z : ℕ} → Candidate A δ goal b x d z → d + δ ≤ b
candidate_arrives c = ⊎_elim (λ r. omega (arith, r.1)) (λ r. let k = journey-carries r.1.journey in omega (arith, r.1.leaves)) c.had

module _ {δ goal b first : ℕ} where
  alike_turned : {A B : Contacts} → Alike δ goal b first A B → Alike δ goal b first B A
  alike_turned s = record { contacts = λ k h l. (let r = s.contacts k h l in (r.1, r.0)); journeys = λ z p h. (let r = s.journeys z p h in (r.1, r.0)) }

  candidate_map : {A B : Contacts} → Alike δ goal b first A B → {x d z : ℕ} → first ≤ d → Candidate A δ goal b x d z → Candidate B δ goal b x d z
  candidate_map s {x} {d} {z} h c =
      record {
        contact_held = (s.contacts (contact x z d) h (candidate_arrives c)).0 c.contact_held;
        had = ⊎_elim inl (λ r. inr (r.0, record { departure = r.1.departure; leaves = r.1.leaves; journey = (s.journeys z r.1.departure (omega (arith, r.1.leaves))).0 r.1.journey })) c.had;
      }

  lowest-map : {A B : Contacts} → Alike δ goal b first A B → {x d z : ℕ} → first ≤ d → LowestCandidate A δ goal b x d z → LowestCandidate B δ goal b x d z
  lowest-map s h p = record { is = candidate_map s h p.is; lowest = λ y c. p.lowest y (candidate_map (alike_turned s) h c) }

  latest-map : {A B : Contacts} → Alike δ goal b first A B → {z a e : ℕ} → first ≤ a → LatestLeaving A δ goal b z a e → LatestLeaving B δ goal b z a e
  latest-map s {z} {a} {e} h l =
      record {
        leaves = l.leaves;
        journey = (s.journeys z e (omega (arith, l.leaves))).0 l.journey;
        latest = λ p g j. l.latest p g ((s.journeys z p (omega arith)).1 j);
      }

  -- They name the same chains.
  chain-map : {A B : Contacts} → Alike δ goal b first A B → {x d : ℕ} {l : List Contact} → first ≤ d → IsChain A δ goal b x d l → IsChain B δ goal b x d l
  chain-map s h (last p e) = last (lowest-map s h p) e
  chain-map s h (next z e p n late c) = next z e (lowest-map s h p) n (latest-map s (omega arith) late) (chain-map s (omega (arith, late.leaves)) c)

-- ---- the set and its contacts in the window

module _ (S : Contacts) (δ u v first end : ℕ) (l : List Contact) where
  alike : (b : ℕ) → b ≤ end + δ → Alike δ v b first S (InWindow S first end)
  alike b h =
      record {
        contacts = λ k f g. (λ s. record { is_contact = s; from_first = f; to_last = omega arith }, λ s. s.is_contact);
        journeys = λ z p f. (λ j. into_window first end j f h, λ j. of-set first end j);
      }

  -- What fits is the same.
  abbrev more : Fits S δ u v first end → Fits (InWindow S first end) δ u v first end
  more w = let r = ends-fit first end w.journey in record { taken = w.taken; journey = into_window first end w.journey r.0 r.1 }

  abbrev less : Fits (InWindow S first end) δ u v first end → Fits S δ u v first end
  less w = record { taken = w.taken; journey = of-set first end w.journey }

  pub chain-window_alone : NamedChain S δ u v first end l ↔ NamedChain (InWindow S first end) δ u v first end l
  chain-window_alone = (
    λ c. (let r = ends-fit first end c.kept.journey in
        record { kept = more c.kept; earliest = λ o. c.earliest (less o); latest = λ o. c.latest (less o); chain = chain-map (alike c.kept.taken.arrival r.1) r.0 c.chain }),
    λ c. (let r = ends-fit first end c.kept.journey in
        record { kept = less c.kept; earliest = λ o. c.earliest (more o); latest = λ o. c.latest (more o); chain = chain-map (alike_turned (alike c.kept.taken.arrival r.1)) r.0 c.chain }),
  )

  pub chain-in_window : NamedChain S δ u v first end l → AllInWindow first end l
  chain-in_window c =
      let r = chain-journey c.chain in
      subst (AllInWindow first end) r.1 ((all_contacts S δ u v c.kept.taken r.0 first end).1 (ends-fit first end c.kept.journey))
