-- The chain of a fresh table is the one that the rule names, is given exactly when a journey fits, and names no animal twice.
use Rattle.std.specs.Prelude.{Option, None, Some}
use mathlib.Core.Path.{◌≡◌, refl, sym, ap, subst}
use mathlib.Core.Logic.{◌⊎◌, inl, inr, ⊎_elim, ◌≢◌}
use mathlib.Core.List.Memᴰ
use mathlib.Core.List.{List, [], ◌∷◌, Memᴰ}
use Prim.Native.Nat.{ℕ, zero, suc, ◌+◌, ◌≤◌, ◌<◌}
use native.Mathlib.Nat.{le_refl}
use native.Mathlib.Omega.{arith}
use native.Mathlib.Decide.{ℕ_discrete, dec_le}
use lib.ListN.{length}
use Rattle.journeys.specs.declared.Contact.{Contact}
use Rattle.journeys.specs.declared.Interval.{Interval}
use Rattle.journeys.specs.Journey.{contact, Contacts, interval, Inside, JourneyTo, single, onward, Journey, contacts_of, Minimal}
use Rattle.journeys.proofs.Tests.{never}
use Rattle.journeys.proofs.Reach.{journey-carries}
use Rattle.journeys.proofs.Cover.{departure-path, arrival-path}
use Rattle.rules.specs.Layout.{animals}
use Rattle.rules.specs.Chains.{Lead, nowhere, there, leads_on, leads, Lowest, animal, prepend, follow, chain_from}
use Rattle.rules.specs.ChainRule.{StillHad, Candidate, LowestCandidate, LatestLeaving, IsChain, last, next}
use Rattle.rules.specs.Orders.{Distinct}
use Rattle.rules.specs.NamedChains.{leavers}
use Rattle.rules.specs.Fresh.{Fresh}
use Rattle.rules.proofs.Fresh.{fresh-animals}
use Rattle.rules.proofs.Distinct.{distinct-few}
use Rattle.rules.proofs.Leads.{LeadsTo, blocked, arrived, going, leads-to, LowestOf, none_below, first-is, lowest-of}

-- ---- one chain

module _ {S : Contacts} {δ goal b : ℕ} where
  lowest-unique : {x d z y : ℕ} → LowestCandidate S δ goal b x d z → LowestCandidate S δ goal b x d y → z ≡ y
  lowest-unique {x} {d} {z} {y} p q = omega (arith, p.lowest y q.is, q.lowest z p.is)

  latest-unique : {z a e g : ℕ} → LatestLeaving S δ goal b z a e → LatestLeaving S δ goal b z a g → e ≡ g
  latest-unique {z} {a} {e} {g} p q = omega (arith, p.latest g q.leaves q.journey, q.latest e p.leaves p.journey)

  -- The rule names one chain.
  pub chain-unique : {x d : ℕ} {l m : List Contact} → IsChain S δ goal b x d l → IsChain S δ goal b x d m → l ≡ m
  chain-unique (last p e) (last q g) = refl
  chain-unique (last p e) (next z g q k r c) = absurd (k (lowest-unique q p))
  chain-unique (next z g q k r c) (last p e) = absurd (k (lowest-unique q p))
  chain-unique {x} {d} (next {l = l} z e p j q c) (next {l = m} y g r k s h) = go (λ w. chain-unique c w)
    where
      same-animal : y ≡ z
      same-animal = lowest-unique r p

      same-departure : g ≡ e
      same-departure = latest-unique (subst (λ w. LatestLeaving S δ goal b w (d + δ) g) same-animal s) q

      go : (IsChain S δ goal b z e m → l ≡ m) → contact x z d ∷ l ≡ contact x y d ∷ m
      go rest = λ i. contact x (sym same-animal i) d ∷ rest (subst (λ w. IsChain S δ goal b w e m) same-animal (subst (λ w. IsChain S δ goal b y w m) same-departure h)) i

-- ---- the way that the rule goes, on any table

module _ (T : List ℕ) (goal b : ℕ) where
  -- Of the animals to which a contact leads from x at departure d, z is the lowest, and it leads so.
  pub record LowestLead (x d z : ℕ) (w : Lead) : Type 0 where
    pub below : z < animals T
    pub leads-so : leads T goal b x d z ≡ w
    pub none-lower : (y : ℕ) → y < z → leads T goal b x d y ≡ nowhere

  -- From x at departure d the rule goes through these contacts.
  pub data Walked : ℕ → ℕ → List Contact → Type 0 where
    ends : {x d : ℕ} (z : ℕ) → LowestLead x d z there → Walked x d (contact x z d ∷ [])
    goes : {x d : ℕ} {l : List Contact} (z e : ℕ) → LowestLead x d z (leads_on e) → Walked z e l → Walked x d (contact x z d ∷ l)

  none_is : {A : Type 0} {l : List Contact} → None ≡ Some l → A
  none_is e = never cc

  some_is : {l m : List Contact} → Some l ≡ Some m → l ≡ m
  some_is e = cc

  pub chain-walked : (most x d : ℕ) (l : List Contact) → chain_from T goal b most x d ≡ Some l → Walked x d l
  unfolding chain_from
  chain-walked zero x d l e = none_is e
  chain-walked (suc most) x d l e = go (lowest-of (leads T goal b x d) (animals T)) (λ z g k q. chain-walked most z g k q) e
    where
      Rest : Type 0
      Rest = (z g : ℕ) (k : List Contact) → chain_from T goal b most z g ≡ Some k → Walked z g k

      onwards : (z g : ℕ) → LowestLead x d z (leads_on g) → (o : Option (List Contact)) → ((k : List Contact) → o ≡ Some k → Walked z g k)
          → prepend (contact x z d) o ≡ Some l → Walked x d l
      onwards z g p None r q = none_is q
      onwards z g p (Some k) r q = subst (Walked x d) (some_is q) (goes z g p (r k refl))

      step : (z : ℕ) (w : Lead) → w ≢ nowhere → LowestLead x d z w → Rest → follow x d (animal z w) (chain_from T goal b most) ≡ Some l → Walked x d l
      step z nowhere k p rest q = absurd (k refl)
      step z there k p rest q = subst (Walked x d) (some_is q) (ends z p)
      step z (leads_on g) k p rest q = onwards z g p (chain_from T goal b most z g) (λ m e. rest z g m e) q

      go : {o : Lowest} → LowestOf (leads T goal b x d) (animals T) o → Rest → follow x d o (chain_from T goal b most) ≡ Some l → Walked x d l
      go (none_below r) rest q = none_is q
      go (first-is {z} {l = w} h p k r) rest q = step z w k (record { below = h; leads-so = p; none-lower = r }) rest q

-- ---- a fresh table

module _ {n τ δ : ℕ} {S : Contacts} {T : List ℕ} (f : Fresh n τ δ S T) (goal b : ℕ) (hg : goal < n) where
  -- An animal of the table is below n.
  below-n : {x d z : ℕ} {w : Lead} → LowestLead T goal b x d z w → z < n
  below-n {z = z} p = subst (λ i. z < i) (fresh-animals f) p.below

  module _ (x d : ℕ) (hx : x < n) (minimal : Minimal S δ x goal (interval d b)) where
    abbrev Leads : ℕ → Lead → Type 0
    Leads z l = LeadsTo f goal b x d hg hx minimal z l

    lead_is : (z : ℕ) → z < n → {l : Lead} → leads T goal b x d z ≡ l → Leads z l
    lead_is z h e = subst (Leads z) e (leads-to f goal b x d hg hx minimal z h)

    not-blocked : {z : ℕ} → Leads z nowhere → ¬ Candidate S δ goal b x d z
    not-blocked (blocked g) = g

    -- A candidate is an animal below n.
    candidate_below : {y : ℕ} → Candidate S δ goal b x d y → y < n
    candidate_below {y} c = (f.legal (contact x y d) c.contact_held).to_below

    -- Nothing below the animal found is a candidate.
    lowest-candidate : (z : ℕ) → Candidate S δ goal b x d z → ((y : ℕ) → y < z → leads T goal b x d y ≡ nowhere) → LowestCandidate S δ goal b x d z
    lowest-candidate z c r = record { is = c; lowest = λ y k. go y k (ℕ-order y) }
      where
        ℕ-order : (y : ℕ) → (y < z) ⊎ (z ≤ y)
        ℕ-order y = pick (dec_le z y)
          where
            pick : Dec (z ≤ y) → (y < z) ⊎ (z ≤ y)
            pick (yes h) = inr h
            pick (no h) = inl (omega (arith, h))

        go : (y : ℕ) → Candidate S δ goal b x d y → (y < z) ⊎ (z ≤ y) → z ≤ y
        go y k (inl h) = absurd (not-blocked (lead_is y (candidate_below k) (r y h)) k)
        go y k (inr h) = h

    -- The journey kept begins with a contact that leads on.
    some-candidate : (y : ℕ) × Candidate S δ goal b x d y
    some-candidate = go minimal.journey
      where
        go : JourneyTo S δ goal b x d → (y : ℕ) × Candidate S δ goal b x d y
        go (single s e) = (goal, record { contact_held = s; had = inl (refl, e) })
        go (onward z q s h j) = (z, record { contact_held = s; had = pick (ℕ_discrete z goal) })
          where
            pick : Dec (z ≡ goal) → ((z ≡ goal) × (d + δ ≡ b)) ⊎ ((z ≢ goal) × StillHad S δ goal b z (d + δ))
            pick (yes e) =
                let k = journey-carries j in
                inl (e, arrival-path (minimal.least (interval d (d + δ)) (single (subst (λ w. S (contact x w d)) e s) refl) (le_refl d, omega arith)))
            pick (no e) = inr (e, record { departure = q; leaves = h; journey = j })

  -- ---- what chain_from gives is the chain

  sound : {x d : ℕ} {l : List Contact} → x < n → Minimal S δ x goal (interval d b) → Walked T goal b x d l → IsChain S δ goal b x d l
  sound {x} {d} hx m (ends z p) = arrives (lead_is x d hx m z (below-n p) p.leads-so)
    where
      arrives : Leads x d hx m z there → IsChain S δ goal b x d (contact x z d ∷ [])
      arrives (arrived s g a) =
          subst (λ w. IsChain S δ goal b x d (contact x w d ∷ [])) (sym g)
          (last (subst (LowestCandidate S δ goal b x d) g (lowest-candidate x d hx m z (record { contact_held = s; had = inl (g, a) }) p.none-lower)) a)
  sound {x} {d} hx m (goes {l = l} z e p w) = on (lead_is x d hx m z (below-n p) p.leads-so) (λ k. sound (below-n p) k w)
    where
      on : Leads x d hx m z (leads_on e) → (Minimal S δ z goal (interval e b) → IsChain S δ goal b z e l) → IsChain S δ goal b x d (contact x z d ∷ l)
      on (going s o late small) rest =
          next z e
          (lowest-candidate x d hx m z (record { contact_held = s; had = inr (o, record { departure = e; leaves = late.leaves; journey = late.journey }) }) p.none-lower)
          o late (rest small)

  pub chain-sound : (most x d : ℕ) (l : List Contact) → x < n → Minimal S δ x goal (interval d b) → chain_from T goal b most x d ≡ Some l → IsChain S δ goal b x d l
  chain-sound most x d l hx m e = sound hx m (chain-walked T goal b most x d l e)

  -- ---- a chain is found wherever the journey kept is minimal

  -- An animal visited before departure d, whose interval to the goal was minimal too.
  pub record Visited (d y : ℕ) : Type 0 where
    pub below : y < n
    pub left : ℕ
    pub earlier : left < d
    pub minimal : Minimal S δ y goal (interval left b)

  -- A visited animal is not visited again with a later departure.
  not-again : (d e z : ℕ) → d ≤ e → Visited d z → Minimal S δ z goal (interval e b) → ⊥
  not-again d e z h v m = let q = departure-path (v.minimal.least (interval e b) m.journey (omega (arith, v.earlier), le_refl b)) in omega (arith, v.earlier)

  pub chain-complete : (most x d : ℕ) (P : List ℕ) → x < n → x ≢ goal → Minimal S δ x goal (interval d b) → Distinct (goal ∷ x ∷ P) → ((y : ℕ) → Memᴰ y P → Visited d y) → n ≤ length P + most + 1
      → (l : List Contact) × (chain_from T goal b most x d ≡ Some l)
  unfolding chain_from
  chain-complete zero x d P hx xg m u v k = absurd (omega (arith, distinct-few n (goal ∷ x ∷ P) u below))
    where
      below : (y : ℕ) → Memᴰ y (goal ∷ x ∷ P) → y < n
      below y w = ⊎_elim (λ e. subst (λ i. i < n) (sym e) hg) (λ w. ⊎_elim (λ e. subst (λ i. i < n) (sym e) hx) (λ w. (v y w).below) (Memᴰ.cases_cons w)) (Memᴰ.cases_cons w)
  chain-complete (suc most) x d P hx xg m u v k = go (lowest-of (leads T goal b x d) (animals T)) (λ z e h g w a c. chain-complete most z e (x ∷ P) h g w a c (omega arith))
    where
      Rest : Type 0
      Rest = (z e : ℕ) → z < n → z ≢ goal → Minimal S δ z goal (interval e b) → Distinct (goal ∷ z ∷ x ∷ P) → ((y : ℕ) → Memᴰ y (x ∷ P) → Visited e y) → (l : List Contact) × (chain_from T goal b most z e ≡ Some l)

      visited : (e : ℕ) → d + δ ≤ e → (y : ℕ) → Memᴰ y (x ∷ P) → Visited e y
      visited e h y w =
          let p = f.sizes.δ-low in
          ⊎_elim (λ q. subst (Visited e) (sym q) (record { below = hx; left = d; earlier = omega arith; minimal = m }))
          (λ w. let o = v y w in record { below = o.below; left = o.left; earlier = omega (arith, o.earlier); minimal = o.minimal }) (Memᴰ.cases_cons w)

      different : (z e : ℕ) → z ≢ goal → d + δ ≤ e → Minimal S δ z goal (interval e b) → Distinct (goal ∷ z ∷ x ∷ P)
      different z e g h w = (
        λ q. ⊎_elim (λ i. g (sym i)) u.0 (Memᴰ.cases_cons q),
        (λ q. not-again e e z (le_refl e) (visited e h z q) w, u.1),
      )

      step : (z : ℕ) (w : Lead) → z < n → w ≢ nowhere → Leads x d hx m z w → Rest → (l : List Contact) × (follow x d (animal z w) (chain_from T goal b most) ≡ Some l)
      step z nowhere hz q t rest = absurd (q refl)
      step z there hz q t rest = (contact x z d ∷ [], refl)
      step z (leads_on e) hz q (going s o late small) rest =
          let r = rest z e hz o small (different z e o late.leaves small) (visited e late.leaves) in
          (contact x z d ∷ r.0, ap (prepend (contact x z d)) r.1)

      go : {o : Lowest} → LowestOf (leads T goal b x d) (animals T) o → Rest → (l : List Contact) × (follow x d o (chain_from T goal b most) ≡ Some l)
      go (none_below r) rest =
          let c = some-candidate x d hx m in
          let h = candidate_below x d hx m c.1 in
          absurd (not-blocked x d hx m (lead_is x d hx m c.0 h (r c.0 (subst (λ j. c.0 < j) (sym (fresh-animals f)) h))) c.1)
      go (first-is {z} {l = w} h p q r) rest = let i = subst (λ j. z < j) (fresh-animals f) h in step z w i q (lead_is x d hx m z i p) rest

-- ---- the animals of a chain

module _ (S : Contacts) (δ goal b : ℕ) (positive : 1 ≤ δ) where
  -- An animal that leaves at e or later, with a minimal interval to the goal.
  record Leaver (e y : ℕ) : Type 0 where
    pub left : ℕ
    pub no-earlier : e ≤ left
    pub minimal : Minimal S δ y goal (interval left b)

  -- The interval of the next animal is minimal too.
  next-minimal : (x d z e : ℕ) → Minimal S δ x goal (interval d b) → S (contact x z d) → LatestLeaving S δ goal b z (d + δ) e → Minimal S δ z goal (interval e b)
  next-minimal x d z e m s late = record { journey = late.journey; least = λ i j h. (λ k. record { departure = same-departure i j h k; arrival = same-arrival i j h k }) }
    where
      same-arrival : (i : Interval) → Journey S δ z goal i → Inside i (interval e b) → i.arrival ≡ b
      same-arrival i j h = arrival-path (m.least (interval d i.arrival) (onward z i.departure s (omega (arith, late.leaves)) j) (le_refl d, h.1))

      same-departure : (i : Interval) → Journey S δ z goal i → Inside i (interval e b) → i.departure ≡ e
      same-departure i j h =
          let q = same-arrival i j h in
          omega (arith, late.latest i.departure (omega (arith, late.leaves)) (subst (λ a. Journey S δ z goal (interval i.departure a)) q j))

  chain-leavers : {x d : ℕ} {l : List Contact} → Minimal S δ x goal (interval d b) → IsChain S δ goal b x d l → (y : ℕ) → Memᴰ y (leavers l) → Leaver d y
  chain-leavers {x} {d} m (last p e) y k =
      ⊎_elim (λ q. subst (Leaver d) (sym q) (record { left = d; no-earlier = le_refl d; minimal = m })) (λ q. absurd (Memᴰ.not-nil q)) (Memᴰ.cases_cons k)
  chain-leavers {x} {d} m (next z e p g late c) y k =
      ⊎_elim (λ q. subst (Leaver d) (sym q) (record { left = d; no-earlier = le_refl d; minimal = m }))
      (λ q. let r = chain-leavers (next-minimal x d z e m p.is.contact_held late) c y q in record { left = r.left; no-earlier = omega (arith, r.no-earlier, late.leaves); minimal = r.minimal })
      (Memᴰ.cases_cons k)

  -- No animal leaves twice.
  leavers-distinct : {x d : ℕ} {l : List Contact} → Minimal S δ x goal (interval d b) → IsChain S δ goal b x d l → Distinct (leavers l)
  leavers-distinct m (last p e) = (Memᴰ.not-nil, tt)
  leavers-distinct {x} {d} m (next {l = l} z e p g late c) = (again, leavers-distinct small c)
    where
      small : Minimal S δ z goal (interval e b)
      small = next-minimal x d z e m p.is.contact_held late

      again : Memᴰ x (leavers l) → ⊥
      again k =
          let r = chain-leavers small c x k in
          let q = departure-path (m.least (interval r.left b) r.minimal.journey (omega (arith, r.no-earlier, late.leaves), le_refl b)) in
          omega (arith, r.no-earlier, late.leaves)

  -- The goal is none of them.
  goal_apart : {x d : ℕ} {l : List Contact} → x ≢ goal → IsChain S δ goal b x d l → ¬ Memᴰ goal (leavers l)
  goal_apart {x} n (last p e) k = ⊎_elim (λ q. n (sym q)) (λ q. Memᴰ.not-nil q) (Memᴰ.cases_cons {a = goal} {b = x} {l = []} k)
  goal_apart {x} n (next {l = l} z e p g late c) k = ⊎_elim (λ q. n (sym q)) (λ q. goal_apart g c q) (Memᴰ.cases_cons {a = goal} {b = x} {l = leavers l} k)

  pub chain-distinct : {x d : ℕ} {l : List Contact} → x ≢ goal → Minimal S δ x goal (interval d b) → IsChain S δ goal b x d l → Distinct (goal ∷ leavers l)
  chain-distinct n m c = (goal_apart n c, leavers-distinct m c)

-- The contacts of a chain are those of a journey.
pub chain-journey : {S : Contacts} {δ goal b x d : ℕ} {l : List Contact} → IsChain S δ goal b x d l → (j : JourneyTo S δ goal b x d) × (contacts_of j ≡ l)
chain-journey (last p e) = (single p.is.contact_held e, refl)
chain-journey {x = x} {d = d} (next z e p g late c) = let r = chain-journey c in (onward z e p.is.contact_held late.leaves r.0, ap (λ l. contact x z d ∷ l) r.1)

-- Every animal of a chain is one of the set's contacts.
pub chain-below : {S : Contacts} {δ goal b x d : ℕ} {l : List Contact} (n : ℕ) → ((k : Contact) → S k → k.from < n) → IsChain S δ goal b x d l → (y : ℕ) → Memᴰ y (leavers l) → y < n
chain-below {x = x} n g (last {d = d} p e) y k =
    ⊎_elim (λ q. subst (λ w. w < n) (sym q) (g (contact x _ d) p.is.contact_held)) (λ q. absurd (Memᴰ.not-nil q)) (Memᴰ.cases_cons {a = y} {b = x} {l = []} k)
chain-below {x = x} n g (next {d = d} {l = l} z e p o late c) y k =
    ⊎_elim (λ q. subst (λ w. w < n) (sym q) (g (contact x z d) p.is.contact_held)) (λ q. chain-below n g c y q) (Memᴰ.cases_cons {a = y} {b = x} {l = leavers l} k)
