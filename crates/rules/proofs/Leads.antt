-- Where a contact leads, on any table and on a fresh one, where it is the candidates of the chain's rule; and the lowest of them.
use Rattle.std.specs.Prelude.{Option, None, Some}
use mathlib.Core.Path.{◌≡◌, refl, sym, ap, ◌∙◌, subst}
use mathlib.Core.Logic.{◌↔◌, ◌⊎◌, ⊎_elim, ◌≢◌}
use mathlib.Core.Bool.{Bool, true, false, cond}
use mathlib.Core.List.Memᴰ
use mathlib.Core.List.{List, [], ◌∷◌, Memᴰ}
use Prim.Native.Nat.{ℕ, zero, suc, ◌+◌, ◌≤◌, ◌<◌}
use native.Mathlib.Nat.{le_refl}
use native.Mathlib.Omega.{arith}
use Rattle.journeys.specs.declared.Interval.{Interval}
use Rattle.journeys.specs.Journey.{contact, Contacts, interval, Journey, onward, Minimal}
use Rattle.journeys.specs.Cell.{Cell, Rising}
use Rattle.journeys.proofs.Tests.{never, untrue, Outcome, holds, fails, outcome, eq_outcome, le_outcome, and_outcome}
use Rattle.journeys.proofs.Cover.{rising-after, departure-path, arrival-path}
use Rattle.journeys.proofs.Theorems.{inside-stored}
use Rattle.rules.specs.Layout.{carry, cells_of}
use Rattle.rules.specs.Adding as Adding
use Rattle.rules.specs.Chains.{departure_with, Lead, nowhere, there, leads_on, lead_from, leads, Lowest, nobody, animal, or_else, lowest}
use Rattle.rules.specs.ChainRule.{Candidate, LatestLeaving}
use Rattle.rules.specs.Fresh.{Fresh}
use Rattle.rules.proofs.Fresh.{fresh-carry, fresh_cells}
use Rattle.rules.proofs.Held.{fresh_holds}

-- ---- an interval with a given arrival

-- What departure_with found, or that there is none.
pub data Departing (a b : ℕ) (c : Cell) : Option ℕ → Type 0 where
  found : {d : ℕ} → Memᴰ (interval d b) c → a ≤ d → Departing a b c (Some d)
  missing : ((d : ℕ) → Memᴰ (interval d b) c → a ≤ d → ⊥) → Departing a b c None

pub departing : (a b : ℕ) (c : Cell) → Departing a b c (departure_with a b c)
unfolding departure_with
departing a b [] = missing (λ d m h. elim m [ ])
departing a b (i ∷ c) = go (and_outcome (eq_outcome i.arrival b) (le_outcome a i.departure)) (departing a b c)
  where
    tail : {o : Option ℕ} → ((d : ℕ) → i ≡ interval d b → a ≤ d → ⊥) → Departing a b c o → Departing a b (i ∷ c) o
    tail n (found m h) = found (Memᴰ.tail m) h
    tail n (missing g) = missing (λ d m h. ⊎_elim (λ e. n d (sym e) h) (λ k. g d k h) (Memᴰ.cases_cons m))

    go : {t : Bool} {o : Option ℕ} → Outcome ((i.arrival ≡ b) × (a ≤ i.departure)) ((i.arrival ≢ b) ⊎ (i.departure < a)) t → Departing a b c o
        → Departing a b (i ∷ c) (cond t (Some i.departure) o)
    go (holds h) r = found (Memᴰ.head (λ k. record { departure = i.departure; arrival = sym h.0 k })) h.1
    go (fails h) r = tail (λ d e l. ⊎_elim (λ n. n (arrival-path e)) (λ m. let p = departure-path e in omega arith) h) r

-- In a rising cell an arrival belongs to one departure.
pub same-arrival : (c : Cell) (b d e : ℕ) → Rising c → Memᴰ (interval d b) c → Memᴰ (interval e b) c → d ≡ e
same-arrival [] b d e u x3 _ = elim x3 [ ]
same-arrival (i ∷ c) b d e u (Memᴰ.head p) (Memᴰ.head q) = departure-path p ∙ sym (departure-path q)
same-arrival (i ∷ c) b d e u (Memᴰ.head p) (Memᴰ.tail m) = let r = rising-after i c u m in let s = arrival-path p in absurd (omega arith)
same-arrival (i ∷ c) b d e u (Memᴰ.tail m) (Memᴰ.head q) = let r = rising-after i c u m in let s = arrival-path q in absurd (omega arith)
same-arrival (i ∷ c) b d e u (Memᴰ.tail m) (Memᴰ.tail k) = same-arrival c b d e u.1 m k

-- ---- where a contact leads, on any table

module _ (T : List ℕ) (δ goal b x d z : ℕ) where
  -- What a lead to z says: nowhere, since the contact is not held, or arrives at the goal at another tick than b, or meets an animal with no
  -- interval to take it on; there; or on, by an interval of z's cell.
  pub data Led : Lead → Type 0 where
    not_held_lem : Adding.holds T (contact x z d) ≡ false → Led nowhere
    other_arrival_lem : z ≡ goal → d + δ ≢ b → Led nowhere
    none-departs : z ≢ goal → ((e : ℕ) → Memᴰ (interval e b) (cells_of T z goal) → d + δ ≤ e → ⊥) → Led nowhere
    at-goal : Adding.holds T (contact x z d) ≡ true → z ≡ goal → d + δ ≡ b → Led there
    further : {e : ℕ} → Adding.holds T (contact x z d) ≡ true → z ≢ goal → Memᴰ (interval e b) (cells_of T z goal) → d + δ ≤ e → Led (leads_on e)

  pub led : carry T ≡ δ → Led (leads T goal b x d z)
  unfolding leads
  led c = rw c (go (outcome (Adding.holds T (contact x z d)) (λ e. e) (λ e. e)) (eq_outcome z goal) (eq_outcome (d + δ) b))
    where
      Held : Bool → Type 0
      Held t = Adding.holds T (contact x z d) ≡ t

      further-on : Held true → z ≢ goal → {o : Option ℕ} → Departing (d + δ) b (cells_of T z goal) o → Led (lead_from o)
      further-on s k (found m h) = further s k m h
      further-on s k (missing g) = none-departs k g

      go : {h g a : Bool} → Outcome (Held true) (Held false) h → Outcome (z ≡ goal) (z ≢ goal) g → Outcome (d + δ ≡ b) (d + δ ≢ b) a
          → Led (cond h (cond g (cond a there nowhere) (lead_from (departure_with (d + δ) b (cells_of T z goal)))) nowhere)
      go (fails s) o p = not_held_lem s
      go (holds s) (holds e) (holds q) = at-goal s e q
      go (holds s) (holds e) (fails q) = other_arrival_lem e q
      go (holds s) (fails k) p = further-on s k (departing (d + δ) b (cells_of T z goal))

-- ---- on a fresh table

module _ {n τ δ : ℕ} {S : Contacts} {T : List ℕ} (f : Fresh n τ δ S T) (goal b x d : ℕ) (hg : goal < n) (hx : x < n) (minimal : Minimal S δ x goal (interval d b)) where
  module _ (z : ℕ) (hz : z < n) (s : S (contact x z d)) (other : z ≢ goal) where
    -- A journey from z behind the contact that arrives by b arrives just then.
    arrives-then : (i : Interval) → Journey S δ z goal i → d + δ ≤ i.departure → i.arrival ≤ b → i.arrival ≡ b
    arrives-then i j h k = arrival-path (minimal.least (interval d i.arrival) (onward z i.departure s h j) (le_refl d, k))

    -- So the cell to the goal has an interval with arrival b wherever a journey leaves no later.
    onward-stored : (p : ℕ) → d + δ ≤ p → Journey S δ z goal (interval p b) → (e : ℕ) × Memᴰ (interval e b) (cells_of T z goal) × (p ≤ e)
    onward-stored p h j =
        let w = (inside-stored δ S f.cells f.minimal z goal p b other).0 (interval p b, j, (le_refl p, le_refl b)) in
        let i = w.0 in
        let m = ((f.minimal.cells z goal other).exact i).0 w.1 in
        let e = arrives-then i m.journey (omega (arith, w.2)) w.2.1 in
        (i.departure, subst (λ c. Memᴰ (interval i.departure b) c) (sym (fresh_cells f z goal hz hg)) (subst (λ q. Memᴰ (interval i.departure q) (f.cells z goal)) e w.1), w.2.0)

    -- A stored interval is a journey's, and minimal.
    pub stored-minimal : (e : ℕ) → Memᴰ (interval e b) (cells_of T z goal) → Minimal S δ z goal (interval e b)
    stored-minimal e m = ((f.minimal.cells z goal other).exact (interval e b)).0 (subst (λ c. Memᴰ (interval e b) c) (fresh_cells f z goal hz hg) m)

    pub stored-latest : (e : ℕ) → Memᴰ (interval e b) (cells_of T z goal) → d + δ ≤ e → LatestLeaving S δ goal b z (d + δ) e
    stored-latest e m h =
        record {
          leaves = h;
          journey = (stored-minimal e m).journey;
          latest = λ p l j. (let w = onward-stored p l j in let q = same-arrival (f.cells z goal) b w.0 e (f.minimal.cells z goal other).rising (to_cell w.0 w.1) (to_cell e m) in omega (arith, w.2));
        }
      where
        to_cell : (k : ℕ) → Memᴰ (interval k b) (cells_of T z goal) → Memᴰ (interval k b) (f.cells z goal)
        to_cell k r = subst (λ c. Memᴰ (interval k b) c) (fresh_cells f z goal hz hg) r

  -- What a lead says of the animal z.
  pub data LeadsTo (z : ℕ) : Lead → Type 0 where
    blocked : (¬ Candidate S δ goal b x d z) → LeadsTo z nowhere
    arrived : S (contact x z d) → z ≡ goal → d + δ ≡ b → LeadsTo z there
    going : {e : ℕ} → S (contact x z d) → z ≢ goal → LatestLeaving S δ goal b z (d + δ) e → Minimal S δ z goal (interval e b) → LeadsTo z (leads_on e)

  pub leads-to : (z : ℕ) → z < n → LeadsTo z (leads T goal b x d z)
  leads-to z hz = go (led T δ goal b x d z (fresh-carry f))
    where
      held-iff : (Adding.holds T (contact x z d) ≡ true) ↔ S (contact x z d)
      held-iff = fresh_holds f (contact x z d) hx hz

      go : {l : Lead} → Led T δ goal b x d z l → LeadsTo z l
      go (not_held_lem e) = blocked (λ c. untrue (sym e ∙ held-iff.1 c.contact_held))
      go (other_arrival_lem g q) = blocked (λ c. ⊎_elim (λ h. q h.1) (λ h. h.0 g) c.had)
      go (none-departs k g) =
          blocked (λ c. ⊎_elim (λ h. k h.0) (λ h. (let o = h.1 in let w = onward-stored z hz c.contact_held k o.departure o.leaves o.journey in g w.0 w.1 (omega (arith, w.2, o.leaves)))) c.had)
      go (at-goal s g a) = arrived (held-iff.0 s) g a
      go (further {e = e} s k m h) = going (held-iff.0 s) k (stored-latest z hz (held-iff.0 s) k e m h) (stored-minimal z hz (held-iff.0 s) k e m)

-- ---- the lowest

-- What lowest found: the first of the leads below m that is not nowhere.
pub data LowestOf (g : ℕ → Lead) (m : ℕ) : Lowest → Type 0 where
  none_below : ((y : ℕ) → y < m → g y ≡ nowhere) → LowestOf g m nobody
  first-is : {z : ℕ} {l : Lead} → z < m → g z ≡ l → l ≢ nowhere → ((y : ℕ) → y < z → g y ≡ nowhere) → LowestOf g m (animal z l)

not-nowhere_there : there ≢ nowhere
not-nowhere_there e = never cc

not-nowhere_onward : (d : ℕ) → leads_on d ≢ nowhere
not-nowhere_onward d e = never cc

pub lowest-of : (g : ℕ → Lead) (m : ℕ) → LowestOf g m (lowest g m)
unfolding lowest
lowest-of g zero = none_below (λ y h. absurd (omega arith))
lowest-of g (suc m) = go (lowest-of g m) (g m) refl
  where
    more : ((y : ℕ) → y < m → g y ≡ nowhere) → g m ≡ nowhere → (y : ℕ) → y < suc m → g y ≡ nowhere
    more r e y h = pick (eq_outcome y m)
      where
        pick : {t : Bool} → Outcome (y ≡ m) (y ≢ m) t → g y ≡ nowhere
        pick (holds q) = ap g q ∙ e
        pick (fails q) = r y (omega (arith, q))

    go : {o : Lowest} → LowestOf g m o → (l : Lead) → g m ≡ l → LowestOf g (suc m) (or_else o m l)
    go (first-is {z} h e k r) l q = first-is {z = z} (omega arith) e k r
    go (none_below r) nowhere q = none_below (more r q)
    go (none_below r) there q = first-is {z = m} (omega arith) q not-nowhere_there r
    go (none_below r) (leads_on d) q = first-is {z = m} (omega arith) q (not-nowhere_onward d) r
