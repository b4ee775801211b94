-- A chain that is shown, on any table, is that of a journey of contacts held, and it fits the window.
use Rattle.std.specs.Prelude.{Option, None, Some, Ok, option_map}
use mathlib.Core.Path.{◌≡◌, refl, sym, ap, ◌∙◌, subst}
use mathlib.Core.List.{List, [], ◌∷◌, ◌++◌, map}
use Prim.Native.Nat.{ℕ, ◌-◌, ◌<◌}
use lib.ListN.{length, drop}
use Rattle.journeys.specs.declared.Contact.{Contact}
use Rattle.journeys.specs.Journey.{contact, In, interval, JourneyTo, single, onward, contacts_of}
use Rattle.journeys.proofs.Tests.{never}
use Rattle.words.specs.Words.{contact_word}
use Rattle.rules.specs.declared.Refusal.{Refusal}
use Rattle.rules.specs.Answers.{answer_of}
use Rattle.rules.specs.Layout.{animals, carry}
use Rattle.rules.specs.Checks.{ValidTable}
use Rattle.rules.specs.Logs.{held_contacts}
use Rattle.rules.specs.Windows.{Fits}
use Rattle.rules.specs.Chains.{there, leads_on, chain_of, chain_refusal, chain_answer, chain_leaves}
use Rattle.rules.specs.StoredAnswers.{ChainFits}
use Rattle.rules.proofs.Held.{valid-holds}
use Rattle.rules.proofs.Windows.{into_window, into_contacts}
use Rattle.rules.proofs.Asked.{pair-behind}
use Rattle.rules.proofs.Leads.{Led, at-goal, further, led}
use Rattle.rules.proofs.Chains.{Walked, ends, goes, chain-walked}
use Rattle.rules.proofs.KeptChain.{KeptChain, nothing-kept, kept, kept-chain}

-- ---- the way that the rule goes

module _ (T : List ℕ) (valid : ValidTable T) (goal b : ℕ) where
  -- The contacts are those of a journey of contacts held, from x at d to the goal at b.
  HeldJourney : ℕ → ℕ → List Contact → Type 0
  HeldJourney x d l = (j : JourneyTo (In (held_contacts T)) (carry T) goal b x d) × (contacts_of j ≡ l)

  walked-held : {x d : ℕ} {l : List Contact} → x < animals T → Walked T goal b x d l → HeldJourney x d l
  unfolding HeldJourney
  walked-held {x} {d} hx (ends z p) = arrives (subst (Led T (carry T) goal b x d z) p.leads-so (led T (carry T) goal b x d z refl))
    where
      arrives : Led T (carry T) goal b x d z there → HeldJourney x d (contact x z d ∷ [])
      arrives (at-goal s g a) =
          (single (subst (λ y. In (held_contacts T) (contact x y d)) g ((valid-holds T valid (contact x z d) hx p.below).0 s)) a, ap (λ y. contact x y d ∷ []) (sym g))
  walked-held {x} {d} hx (goes {l = l} z e p w) = on (subst (Led T (carry T) goal b x d z) p.leads-so (led T (carry T) goal b x d z refl)) (walked-held p.below w)
    where
      on : Led T (carry T) goal b x d z (leads_on e) → HeldJourney z e l → HeldJourney x d (contact x z d ∷ l)
      on (further s k m h) r = (onward z e ((valid-holds T valid (contact x z d) hx p.below).0 s) h r.0, ap (λ q. contact x z d ∷ q) r.1)

-- ---- the interval kept

-- The chain of a table that passes 5 and 6 is that of a fitting journey of contacts held.
held-chain : (T : List ℕ) → ValidTable T → (u v first last : ℕ) → u < animals T → (l : List Contact) → chain_of T u v first last ≡ Some l
    → (w : Fits (In (held_contacts T)) (carry T) u v first last) × (contacts_of w.journey ≡ l)
unfolding HeldJourney
held-chain T valid u v first last h l = go (kept-chain T u v first last)
  where
    go : {o : Option (List Contact)} → KeptChain T u v first last o → o ≡ Some l → (w : Fits (In (held_contacts T)) (carry T) u v first last) × (contacts_of w.journey ≡ l)
    go nothing-kept q = never cc
    go (kept b d f) q =
        let j = walked-held T valid v b h (chain-walked T v b (animals T - 1) u d l q) in
        (record { taken = interval d b; journey = into_window first last j.0 f.0 f.1 }, into_contacts first last j.0 f.0 f.1 ∙ j.1)

-- ---- the answer, and the words left

pub chain_fits : (T : List ℕ) (u v first last : ℕ) (B : List ℕ) (k : ℕ) → chain_answer T u v first last B ≡ Ok (Some k) → ChainFits T u v first last B k
unfolding chain_refusal chain_answer chain_leaves
chain_fits T u v first last B k = go (chain_refusal T u v first last B) (chain_of T u v first last) refl refl
  where
    go : (r : Option Refusal) (o : Option (List Contact)) → chain_refusal T u v first last B ≡ r → chain_of T u v first last ≡ o → answer_of r (Ok (option_map length o)) ≡ Ok (Some k) → ChainFits T u v first last B k
    go (Some r) o p q e = never cc
    go None None p q e = never cc
    go None (Some l) p q e =
        let n : length l ≡ k = cc in
        let a = (pair-behind T u v p).0 in
        let w = held-chain T a.valid u v first last a.from_below l q in
        record {
          fits = w.0;
          number = sym n ∙ ap length (sym w.1);
          words = rw (p, q) (ap (λ m. map contact_word m ++ drop (length l) B) (sym w.1) ∙ ap (λ (i : ℕ). map contact_word (contacts_of w.0.journey) ++ drop i B) n);
        }
