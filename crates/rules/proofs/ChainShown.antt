-- The chain shown is the one that the rule names.
use Rattle.std.specs.Prelude.{Option, None, Some, option_map, Ok, true}
use mathlib.Core.Path.{◌≡◌, refl, sym, ap, ◌∙◌, subst}
use mathlib.Core.Logic.{◌↔◌, ◌⊎◌, ⊎_elim}
use mathlib.Core.Bool.{Bool, cond}
use mathlib.Core.List.Memᴰ
use mathlib.Core.List.{List, [], ◌∷◌, ◌++◌, map, Memᴰ}
use Prim.Native.Nat.{ℕ, suc, ◌+◌, ◌-◌, ◌≤◌, ◌<◌}
use native.Mathlib.Nat.{le_refl}
use native.Mathlib.Omega.{arith}
use lib.ListN.{length, drop}
use lib.Dec.{leb}
use borrow.Author.Tests.{le-leb}
use Rattle.journeys.specs.declared.Contact.{Contact}
use Rattle.journeys.specs.declared.Interval.{Interval}
use Rattle.journeys.specs.Journey.{Contacts, interval, Inside, Journey, Minimal}
use Rattle.journeys.specs.Cell.{latest_departing, earliest_arriving, latest_departure, earliest_arrival}
use Rattle.journeys.proofs.Tests.{never, Outcome, holds, fails, inside-outcome}
use Rattle.journeys.proofs.Cover.{departure-path}
use Rattle.words.specs.Words.{contact_word}
use Rattle.rules.specs.declared.Refusal.TheVariants.{ChainBufferTooShort}
use Rattle.rules.specs.Layout.{animals, cells_of}
use Rattle.rules.specs.Chains.{with_tick, chain_from, chain_of, chain_refusal, chain_answer, chain_leaves}
use Rattle.rules.specs.ChainRule.{IsChain, NamedChain}
use Rattle.rules.specs.Orders.{Distinct}
use Rattle.rules.specs.NamedChains.{leavers, NamedChains}
use Rattle.rules.specs.Questions.{reach_answer}
use Rattle.rules.specs.Claims.{claimed_answer}
use Rattle.rules.specs.Fresh.{Fresh}
use Rattle.rules.specs.Windows.{widest, FitsWindow, fits_window, Fits, IsWindow, IsPair}
use Rattle.rules.specs.EarliestLatest.{Earliest, Latest}
use Rattle.rules.proofs.Judged.{ensure-iff}
use Rattle.rules.proofs.Fresh.{fresh-animals, fresh-carry}
use Rattle.rules.proofs.Windows.{into_window, into_contacts, of-set, ends-fit}
use Rattle.rules.proofs.Asked.{valid-fresh, asked-with}
use Rattle.rules.proofs.Answered.{reach_yes}
use Rattle.rules.proofs.EarliestLatest.{earliest-some, earliest-nothing, latest-some, latest-nothing}
use Rattle.rules.proofs.Chains.{chain-unique, chain-sound, chain-complete, chain-distinct, chain-journey, chain-below}
use Rattle.rules.proofs.Distinct.{distinct-few}
use Rattle.rules.proofs.Claims.{claims_judged}
use Rattle.rules.proofs.WindowChains.{chain-in_window, chain-window_alone}

pub one-chain : (S : Contacts) (δ u v first last : ℕ) (l m : List Contact) → NamedChain S δ u v first last l → NamedChain S δ u v first last m → l ≡ m
one-chain S δ u v first last l m p q =
    let i = p.kept.taken in
    let k = q.kept.taken in
    let a : i.arrival ≡ k.arrival = omega (arith, p.earliest q.kept, q.earliest p.kept) in
    let d : i.departure ≡ k.departure = omega (arith, p.latest q.kept (sym a), q.latest p.kept a) in
    chain-unique (subst (λ e. IsChain S δ v k.arrival u e l) d (subst (λ b. IsChain S δ v b u i.departure l) a p.chain)) q.chain

module _ {n τ δ : ℕ} {S : Contacts} {T : List ℕ} (f : Fresh n τ δ S T) (u v first last : ℕ) (p : IsPair n u v) where
  -- The interval k that departs latest, of those that arrive by the earliest arrival, is that of the earliest arrival.
  module _ (i k : Interval) (e : Earliest (Minimal S δ u v) (Journey S δ u v) first i) (g : Latest (Minimal S δ u v) (Journey S δ u v) i.arrival k) where
    same : k ≡ i
    same = e.is_minimal.least k g.is_minimal.journey (g.greatest i e.is_minimal.journey (le_refl i.arrival), g.arrives)

    abbrev b : ℕ
    b = i.arrival

    abbrev d : ℕ
    d = k.departure

    departs : d ≡ i.departure
    departs = departure-path same

    kept-minimal : Minimal S δ u v (interval d b)
    kept-minimal = subst (λ a. Minimal S δ u v (interval a b)) (sym departs) e.is_minimal

    found : FitsWindow δ (interval d b) first last → (l : List Contact) × (chain_from T v b (animals T - 1) u d ≡ Some l) × NamedChain S δ u v first last l
    found h =
        let r = chain-complete f v b p.to_below (animals T - 1) u d [] p.from_below p.apart kept-minimal apart-two (λ y m. absurd (Memᴰ.not-nil m)) (omega (arith, fresh-animals f)) in (
          r.0,
          r.1,
          record {
            kept = record { taken = interval d b; journey = into_window first last kept-minimal.journey h.0 h.1 };
            earliest = λ o. e.least o.taken (of-set first last o.journey) (ends-fit first last o.journey).0;
            latest = λ o q. g.greatest o.taken (of-set first last o.journey) (omega arith);
            chain = chain-sound f v b p.to_below (animals T - 1) u d r.0 p.from_below kept-minimal r.1;
          },
        )
      where
        apart-two : (¬ Memᴰ v (u ∷ [])) × ((¬ Memᴰ u []) × Unit {0})
        apart-two = (λ m. ⊎_elim (λ q. p.apart (sym q)) Memᴰ.not-nil (Memᴰ.cases_cons m), (Memᴰ.not-nil, tt))

  -- ---- the chain of the interval kept

  -- The chain of the interval [d, b], if it fits; that of the latest departure by b; and that of an arrival.
  abbrev fitting : ℕ → ℕ → Option (List Contact)
  fitting b d = cond (fits_window δ (interval d b) first last) (chain_from T v b (animals T - 1) u d) None

  abbrev arriving : ℕ → Option (List Contact)
  arriving b = with_tick (latest_departure (cells_of T u v) b) (fitting b)

  Ending : Option (List Contact) → Type 0
  Ending o = (l : List Contact) × (o ≡ Some l) × NamedChain S δ u v first last l

  -- A chain that is named, or none where no journey fits.
  data Shown : Option (List Contact) → Type 0 where
    named : {l : List Contact} → NamedChain S δ u v first last l → Shown (Some l)
    nothing : (¬ Fits S δ u v first last) → Shown None

  -- The interval kept fits exactly when some journey does.
  shown_kept : (i k : Interval) → Earliest (Minimal S δ u v) (Journey S δ u v) first i → Latest (Minimal S δ u v) (Journey S δ u v) i.arrival k
      → Shown (fitting i.arrival k.departure)
  shown_kept i k e g = go (inside-outcome (interval k.departure i.arrival) (widest δ first last))
    where
      go : {t : Bool} → Outcome (FitsWindow δ (interval k.departure i.arrival) first last) ((k.departure < first) ⊎ (last + δ < i.arrival)) t
          → Shown (cond t (chain_from T v i.arrival (animals T - 1) u k.departure) None)
      go (holds h) = let r = found i k e g h in subst Shown (sym r.1) (named r.2)
      go (fails o) = nothing (λ w. ⊎_elim (λ l. omega (arith, e.departs, departs i k e g)) (λ l. let r = ends-fit first last w.journey in omega (arith, e.least w.taken (of-set first last w.journey) r.0)) o)

  -- Where nothing departs by the arrival kept, nothing arrives then.
  shown_departure : (i : Interval) → Earliest (Minimal S δ u v) (Journey S δ u v) first i → (o : Option Interval) → latest_departing (cells_of T u v) i.arrival ≡ o
      → Shown (with_tick (option_map (λ k. k.departure) o) (fitting i.arrival))
  shown_departure i e None q = absurd ((latest-nothing f u v p i.arrival).0 q i e.is_minimal.journey (le_refl i.arrival))
  shown_departure i e (Some k) q = shown_kept i k e ((latest-some f u v p i.arrival k).0 q)

  shown_arrival : (o : Option Interval) → earliest_arriving (cells_of T u v) first ≡ o → Shown (with_tick (option_map (λ i. i.arrival) o) arriving)
  unfolding latest_departure
  shown_arrival None q = nothing (λ w. (earliest-nothing f u v p first).0 q w.taken (of-set first last w.journey) (ends-fit first last w.journey).0)
  shown_arrival (Some i) q = shown_departure i ((earliest-some f u v p first i).0 q) (latest_departing (cells_of T u v) i.arrival) refl

  -- What the rule gives is the chain named, and none where no journey fits.
  chain_shown : Shown (chain_of T u v first last)
  unfolding chain_of earliest_arrival
  chain_shown = rw (fresh-carry f) (shown_arrival (earliest_arriving (cells_of T u v) first) refl)

  -- Where a journey fits, the chain is found and is the one named.
  chain-found : Fits S δ u v first last → Ending (chain_of T u v first last)
  unfolding Ending
  chain-found w = go chain_shown
    where
      go : {o : Option (List Contact)} → Shown o → Ending o
      go (named {l} c) = (l, refl, c)
      go (nothing n) = absurd (n w)

  -- Where none does, there is no chain.
  chain_none : (¬ Fits S δ u v first last) → chain_of T u v first last ≡ None
  chain_none n = go chain_shown
    where
      go : {o : Option (List Contact)} → Shown o → o ≡ None
      go (named c) = absurd (n c.kept)
      go (nothing k) = refl

  module _ (w : IsWindow τ first last) (B : List ℕ) (h : n ≤ length B + 1) where
    chain-asked : chain_refusal T u v first last B ≡ None
    unfolding chain_refusal
    chain-asked =
        asked-with (valid-fresh f) u v first last p w _
        ((ensure-iff (leb (animals T - 1) (length B)) ChainBufferTooShort None).1 (le-leb (animals T - 1) (length B) (omega (arith, fresh-animals f)), refl))

    pub chain-is_shown : (l : List Contact) → NamedChain S δ u v first last l
        → (chain_answer T u v first last B ≡ Ok (Some (length l))) × (chain_leaves T u v first last B ≡ map contact_word l ++ drop (length l) B)
    unfolding chain_answer chain_leaves Ending
    chain-is_shown l c =
        let r = chain-found c.kept in
        let q : chain_of T u v first last ≡ Some l = r.1 ∙ ap Some (one-chain S δ u v first last r.0 l r.2 c) in
        (rw (chain-asked, q) refl, rw (chain-asked, q) refl)

    pub none-is_shown : (¬ Fits S δ u v first last) → (chain_answer T u v first last B ≡ Ok None) × (chain_leaves T u v first last B ≡ B)
    unfolding chain_answer chain_leaves
    none-is_shown k = let q = chain_none k in (rw (chain-asked, q) refl, rw (chain-asked, q) refl)

  pub named-when : Fits S δ u v first last ↔ ((l : List Contact) × NamedChain S δ u v first last l)
  unfolding Ending
  named-when = (λ k. let r = chain-found k in (r.0, r.2), λ r. r.1.kept)

  -- A chain is given exactly when reach says yes.
  given_when : IsWindow τ first last → (reach_answer T u v first last ≡ Ok true) ↔ ((l : List Contact) × (chain_of T u v first last ≡ Some l))
  unfolding Ending
  given_when w = (
    λ e. let r = chain-found ((reach_yes f u v first last p w).0 e) in (r.0, r.1),
    λ r. (reach_yes f u v first last p w).1 (given r.0 chain_shown r.1),
  )
    where
      given : (l : List Contact) {o : Option (List Contact)} → Shown o → o ≡ Some l → Fits S δ u v first last
      given l (named c) e = c.kept
      given l (nothing n) e = never cc

-- ---- the animals of the chain named

module _ {n τ δ : ℕ} {S : Contacts} {T : List ℕ} (f : Fresh n τ δ S T) (u v first last : ℕ) (p : IsPair n u v) (l : List Contact) (c : NamedChain S δ u v first last l) where
  named-minimal : Minimal S δ u v c.kept.taken
  named-minimal = record { journey = of-set first last c.kept.journey; least = λ i j h. (λ k. record { departure = same-departure i j h k; arrival = same-arrival i j h k }) }
    where
      -- A journey inside the one that is kept fits too.
      also : (i : Interval) → Journey S δ u v i → Inside i c.kept.taken → Fits S δ u v first last
      also i j h = let r = ends-fit first last c.kept.journey in record { taken = i; journey = into_window first last j (omega arith) (omega arith) }

      same-arrival : (i : Interval) → Journey S δ u v i → Inside i c.kept.taken → i.arrival ≡ c.kept.taken.arrival
      same-arrival i j h = omega (arith, c.earliest (also i j h))

      same-departure : (i : Interval) → Journey S δ u v i → Inside i c.kept.taken → i.departure ≡ c.kept.taken.departure
      same-departure i j h = omega (arith, c.latest (also i j h) (same-arrival i j h))

  twice-none : Distinct (v ∷ leavers l)
  twice-none = chain-distinct S δ v c.kept.taken.arrival f.sizes.δ-low p.apart named-minimal c.chain

  leavers-length : (m : List Contact) → length (leavers m) ≡ length m
  leavers-length [] = refl
  leavers-length (k ∷ m) = ap suc (leavers-length m)

  words-enough : length l + 1 ≤ n
  words-enough =
      let r = distinct-few n (v ∷ leavers l) twice-none (λ y m. ⊎_elim (λ q. subst (λ w. w < n) (sym q) p.to_below) (chain-below n (λ k s. (f.legal k s).from_below) c.chain y) (Memᴰ.cases_cons m)) in
      omega (arith, leavers-length l)

  claimed-yes : IsWindow τ first last → claimed_answer T u v first last (map contact_word l) ≡ Ok true
  claimed-yes w =
      let r = chain-journey c.chain in
      let h = ends-fit first last c.kept.journey in
      (claims_judged.yes_when n τ δ S T f u v first last p w (map contact_word l)).1
      (record {
        spelled = record { taken = c.kept.taken; journey = into_window first last r.0 h.0 h.1 };
        words = ap (map contact_word) (sym r.1 ∙ sym (into_contacts first last r.0 h.0 h.1));
      })

pub named_chains : NamedChains
named_chains =
    record {
      in_window = chain-in_window;
      window_alone = chain-window_alone;
      no_animal_twice = λ n τ δ S T f u v first last p l c. twice-none f u v first last p l c;
      enough = λ n τ δ S T f u v first last p l c. words-enough f u v first last p l c;
      claimed = λ n τ δ S T f u v first last p w l c. claimed-yes f u v first last p l c w;
      given_when = λ n τ δ S T f u v first last p w. given_when f u v first last p w;
    }
