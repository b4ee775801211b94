-- A claimed chain is answered yes exactly when its words spell a fitting journey.
use Rattle.std.specs.Prelude.{Ok, false}
use mathlib.Core.Path.{◌≡◌, refl, sym, ap, ap₂, ◌∙◌, subst}
use mathlib.Core.Logic.{◌↔◌}
use mathlib.Core.Bool.{true, ◌&&◌}
use mathlib.Core.List.{List, [], ◌∷◌, map}
use Prim.Native.Nat.{ℕ, ◌+◌, ◌≤◌}
use native.Mathlib.Omega.{arith}
use lib.Dec.{leb, ltb, eqb}
use borrow.Author.Tests.{eqb-true, eq-eqb, leb-true, le-leb, ltb-true, lt-ltb}
use Rattle.journeys.specs.declared.Contact.{Contact}
use Rattle.journeys.specs.Journey.{contact, Contacts, In, interval, JourneyTo, single, onward, contacts_of}
use Rattle.journeys.proofs.Tests.{untrue}
use Rattle.words.specs.Layout.{is_of}
use Rattle.words.specs.Words.{contact_layout, contact_of, contact_word}
use Rattle.words.proofs.Packed.{contact_of-word, contact_word-is, contact_word-of}
use Rattle.rules.specs.Layout.{animals, ticks, carry}
use Rattle.rules.specs.Checks.{ValidTable}
use Rattle.rules.specs.Opening.{Sizes}
use Rattle.rules.specs.Adding.{Legal}
use Rattle.rules.specs.Adding as Adding
use Rattle.rules.specs.Logs.{held_contacts}
use Rattle.rules.specs.Claims.{held_word, leaves_from, goes_on, form_journey, claimed_answer, SpellsJourney, ClaimsJudged}
use Rattle.rules.specs.Fresh.{Fresh}
use Rattle.rules.specs.Windows.{InWindow, in_window, IsWindow, IsPair}
use Rattle.rules.proofs.Folds.{and_left, and_right, and_intro}
use Rattle.rules.proofs.Judged.{within-iff}
use Rattle.rules.proofs.Sound.{table-sizes}
use Rattle.rules.proofs.Fresh.{fresh-carry}
use Rattle.rules.proofs.Held.{held-legal, valid-holds, fresh-held}
use Rattle.rules.proofs.Windows.{among, among-contacts}
use Rattle.rules.proofs.Asked.{ValidOf, valid-itself, valid-fresh, yes_iff, no_iff, reach-asked}

-- ---- on a table that passes 5 and 6

module _ (T : List ℕ) (valid : ValidTable T) where
  -- The contacts that it holds.
  abbrev Held : Contacts
  Held = In (held_contacts T)

  -- ---- words of held contacts

  -- A held word is the word of a contact that the table holds.
  held-contact : (w : ℕ) → held_word T w ≡ true → Held (contact_of w) × (contact_word (contact_of w) ≡ w)
  unfolding held_word
  held-contact w e =
      let b₁ = is_of contact_layout w in
      let b₂ = b₁ && ltb (contact_of w).from (animals T) in
      let b₃ = b₂ && ltb (contact_of w).to (animals T) in
      let e₃ = and_left b₃ (Adding.holds T (contact_of w)) e in
      let e₂ = and_left b₂ (ltb (contact_of w).to (animals T)) e₃ in
      let h = ltb-true (contact_of w).from (animals T) (and_right b₁ (ltb (contact_of w).from (animals T)) e₂) in
      let k = ltb-true (contact_of w).to (animals T) (and_right b₂ (ltb (contact_of w).to (animals T)) e₃) in
      ((valid-holds T valid (contact_of w) h k).0 (and_right b₃ (Adding.holds T (contact_of w)) e), contact_word-of w (and_left b₁ (ltb (contact_of w).from (animals T)) e₂))

  module _ (k : Contact) (s : Held k) where
    legal : Legal (animals T) (ticks T) k
    legal = held-legal T valid k s

    sizes : Sizes (animals T) (ticks T) (carry T)
    sizes = table-sizes T

    -- A contact that is held is read off its word.
    read : contact_of (contact_word k) ≡ k
    read = contact_of-word k (omega (arith, legal.from_below, sizes.n_high)) (omega (arith, legal.to_below, sizes.n_high)) legal.from_one (omega (arith, legal.to_last, sizes.τ-high))

    word_held : held_word T (contact_word k) ≡ true
    unfolding held_word
    word_held =
        and_intro _ _
        (and_intro _ _
        (and_intro _ _
        (contact_word-is k (omega (arith, legal.from_below, sizes.n_high)) (omega (arith, legal.to_below, sizes.n_high)) legal.from_one (omega (arith, legal.to_last, sizes.τ-high)))
        (subst (λ c. ltb c.from (animals T) ≡ true) (sym read) (lt-ltb k.from (animals T) legal.from_below)))
        (subst (λ c. ltb c.to (animals T) ≡ true) (sym read) (lt-ltb k.to (animals T) legal.to_below)))
        (subst (λ c. Adding.holds T c ≡ true) (sym read) ((valid-holds T valid k legal.from_below legal.to_below).1 s))

  -- ---- from words to journeys

  module _ (first last : ℕ) where
    -- What a word that goes on from x at tick a or later is: that of a contact in the window which leaves then.
    record Goes (x a w : ℕ) : Type 0 where
      pub lies : InWindow Held first last (contact x (contact_of w).to (contact_of w).tick)
      pub leaves : a ≤ (contact_of w).tick
      pub spelled : w ≡ contact_word (contact x (contact_of w).to (contact_of w).tick)

    goes : (x a w : ℕ) → goes_on T first last x a w ≡ true → Goes x a w
    unfolding goes_on
    goes x a w e =
        let k = contact_of w in
        let b₁ = held_word T w in
        let b₂ = b₁ && in_window first last k in
        let e₂ = and_left b₂ (leaves_from x a k) e in
        let h = held-contact w (and_left b₁ (in_window first last k) e₂) in
        let i = (within-iff first k.tick last).0 (and_right b₁ (in_window first last k) e₂) in
        let l = and_right b₂ (leaves_from x a k) e in
        let q : k ≡ contact x k.to k.tick = λ j. record { from = eqb-true k.from x (and_left (eqb k.from x) (leb a k.tick) l) j; to = k.to; tick = k.tick } in
        record {
          lies = record { is_contact = subst Held q h.0; from_first = i.0; to_last = i.1 };
          leaves = leb-true a k.tick (and_right (eqb k.from x) (leb a k.tick) l);
          spelled = sym h.1 ∙ ap contact_word q;
        }

    -- What words form: a journey of contacts in the window from x to v, leaving at or after a.
    record Formed (v x a : ℕ) (ws : List ℕ) : Type 0 where
      pub departure : ℕ
      pub arrival : ℕ
      pub journey : JourneyTo (InWindow Held first last) (carry T) v arrival x departure
      pub leaves : a ≤ departure
      pub words : ws ≡ map contact_word (contacts_of journey)

    formed : (v x a : ℕ) (ws : List ℕ) → form_journey T v first last x a ws ≡ true → Formed v x a ws
    unfolding form_journey
    formed v x a [] e = untrue e
    formed v x a (w ∷ []) e =
        let k = contact_of w in
        let g = goes x a w (and_left (goes_on T first last x a w) (eqb k.to v) e) in
        let q = eqb-true k.to v (and_right (goes_on T first last x a w) (eqb k.to v) e) in
        record {
          departure = k.tick;
          arrival = k.tick + carry T;
          journey = single (subst (λ z. InWindow Held first last (contact x z k.tick)) q g.lies) refl;
          leaves = g.leaves;
          words = ap (λ c. c ∷ []) (g.spelled ∙ ap (λ z. contact_word (contact x z k.tick)) q);
        }
    formed v x a (w ∷ y ∷ ws) e =
        go (formed v (contact_of w).to ((contact_of w).tick + carry T) (y ∷ ws) (and_right (goes_on T first last x a w) (form_journey T v first last (contact_of w).to ((contact_of w).tick + carry T) (y ∷ ws)) e))
      where
        go : Formed v (contact_of w).to ((contact_of w).tick + carry T) (y ∷ ws) → Formed v x a (w ∷ y ∷ ws)
        go r =
            let k = contact_of w in
            let g = goes x a w (and_left (goes_on T first last x a w) (form_journey T v first last k.to (k.tick + carry T) (y ∷ ws)) e) in
            record {
              departure = k.tick;
              arrival = r.arrival;
              journey = onward k.to r.departure g.lies r.leaves r.journey;
              leaves = g.leaves;
              words = ap₂ ◌∷◌ g.spelled r.words;
            }

    -- ---- from journeys to words

    -- The word of a contact in the window goes on from the animal that the contact leaves.
    word-goes : (x z t a : ℕ) → InWindow Held first last (contact x z t) → a ≤ t → goes_on T first last x a (contact_word (contact x z t)) ≡ true
    unfolding goes_on
    word-goes x z t a s h =
        let r = sym (read (contact x z t) s.is_contact) in
        and_intro _ _
        (and_intro _ _ (word_held (contact x z t) s.is_contact) (subst (λ c. in_window first last c ≡ true) r ((within-iff first t last).1 (s.from_first, s.to_last))))
        (subst (λ c. leaves_from x a c ≡ true) r (and_intro _ _ (eq-eqb x x refl) (le-leb a t h)))

    forms_one : (v x a t : ℕ) → InWindow Held first last (contact x v t) → a ≤ t → form_journey T v first last x a (contact_word (contact x v t) ∷ []) ≡ true
    unfolding form_journey
    forms_one v x a t s h = and_intro _ _ (word-goes x v t a s h) (subst (λ c. eqb c.to v ≡ true) (sym (read (contact x v t) s.is_contact)) (eq-eqb v v refl))

    -- The words of a journey begin with that of its first contact.
    forms_more : (v x a z t : ℕ) (l : List ℕ) → InWindow Held first last (contact x z t) → a ≤ t → form_journey T v first last z (t + carry T) l ≡ true
        → form_journey T v first last x a (contact_word (contact x z t) ∷ l) ≡ true
    unfolding form_journey
    forms_more v x a z t [] s h e = untrue e
    forms_more v x a z t (y ∷ ws) s h e =
        and_intro _ _ (word-goes x z t a s h)
        (subst (λ c. form_journey T v first last c.to (c.tick + carry T) (y ∷ ws) ≡ true) (sym (read (contact x z t) s.is_contact)) e)

    forming : {v b x t : ℕ} (a : ℕ) (j : JourneyTo (InWindow Held first last) (carry T) v b x t) → a ≤ t → form_journey T v first last x a (map contact_word (contacts_of j)) ≡ true
    forming {v} a (single {x} {a = t} s e) h = forms_one v x a t s h
    forming {v} a (onward {x} {a = t} z q s g j) h =
        forms_more v x a z t (map contact_word (contacts_of j)) s h (forming (t + carry T) j g)

  -- ---- both ways

  spells_iff : (u v first last : ℕ) (ws : List ℕ) → (form_journey T v first last u 0 ws ≡ true) ↔ SpellsJourney Held (carry T) u v first last ws
  spells_iff u v first last ws = (
    λ e. (let r = formed first last v u 0 ws e in record { spelled = record { taken = interval r.departure r.arrival; journey = r.journey }; words = r.words }),
    λ r. subst (λ l. form_journey T v first last u 0 l ≡ true) (sym r.words) (forming first last 0 r.spelled.journey (omega arith)),
  )

-- ---- the answers

module _ {n τ δ : ℕ} {T : List ℕ} (g : ValidOf n τ δ T) (u v first last : ℕ) (p : IsPair n u v) (w : IsWindow τ first last) (ws : List ℕ) {P : Type 0} (c : (form_journey T v first last u 0 ws ≡ true) ↔ P) where
  claimed-yes : (claimed_answer T u v first last ws ≡ Ok true) ↔ P
  unfolding claimed_answer
  claimed-yes = rw (reach-asked g u v first last p w) (yes_iff (form_journey T v first last u 0 ws) c)

  claimed-no : (claimed_answer T u v first last ws ≡ Ok false) ↔ (¬ P)
  unfolding claimed_answer
  claimed-no = rw (reach-asked g u v first last p w) (no_iff (form_journey T v first last u 0 ws) c)

-- Words that spell a fitting journey of some contacts spell one of every set that has them.
spells_among : {A B : Contacts} {δ u v first last : ℕ} {ws : List ℕ} → ((k : Contact) → A k → B k) → SpellsJourney A δ u v first last ws → SpellsJourney B δ u v first last ws
spells_among {A} {B} {first = first} {last = last} f r =
    record { spelled = record { taken = r.spelled.taken; journey = among lies r.spelled.journey }; words = r.words ∙ ap (map contact_word) (sym (among-contacts lies r.spelled.journey)) }
  where
    lies : (k : Contact) → InWindow A first last k → InWindow B first last k
    lies k s = record { is_contact = f k s.is_contact; from_first = s.from_first; to_last = s.to_last }

-- On a fresh table the contacts held are those of its set.
spells_fresh : {n τ δ : ℕ} {S : Contacts} {T : List ℕ} (f : Fresh n τ δ S T) (u v first last : ℕ) (ws : List ℕ) → (form_journey T v first last u 0 ws ≡ true) ↔ SpellsJourney S δ u v first last ws
spells_fresh {δ = δ} {S = S} {T = T} f u v first last ws =
    let e = spells_iff T (valid-fresh f).valid u v first last ws in
    subst (λ d. (form_journey T v first last u 0 ws ≡ true) ↔ SpellsJourney S d u v first last ws) (fresh-carry f)
    (λ h. spells_among (λ k. (fresh-held f k).0) (e.0 h), λ r. e.1 (spells_among (λ k. (fresh-held f k).1) r))

pub claims_judged : ClaimsJudged
claims_judged =
    record {
      yes_when = λ n τ δ S T f u v first last p w ws. claimed-yes (valid-fresh f) u v first last p w ws (spells_fresh f u v first last ws);
      no_when = λ n τ δ S T f u v first last p w ws. claimed-no (valid-fresh f) u v first last p w ws (spells_fresh f u v first last ws);
      held_yes = λ T q u v first last p w ws. claimed-yes (valid-itself T q) u v first last p w ws (spells_iff T q u v first last ws);
      held_no = λ T q u v first last p w ws. claimed-no (valid-itself T q) u v first last p w ws (spells_iff T q u v first last ws);
    }
