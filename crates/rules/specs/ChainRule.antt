-- The rule of the chain, said over a set S of contacts: which chain is shown.
use Rattle.std.specs.Prelude.{ℕ, ◌+◌, ◌≤◌, ◌≡◌, ◌⊎◌, ◌≢◌, List, [], ◌∷◌}
use Rattle.journeys.specs.declared.Contact.{Contact}
use Rattle.journeys.specs.Journey.{contact, Contacts, interval, Journey}
use Rattle.rules.specs.Windows.{Fits}

module _ (S : Contacts) (δ goal b : ℕ) where
  -- A journey from z to the goal leaves at or after a and arrives at b.
  pub record StillHad (z a : ℕ) : Type 0 where
    pub departure : ℕ
    pub leaves : a ≤ departure
    pub journey : Journey S δ z goal (interval departure b)

  -- From x, by a contact of S at departure d, the arrival b can still be had from z: z is the goal and d+δ is the arrival
  -- kept, or a journey from z to the goal leaves at or after d+δ and arrives then.
  pub record Candidate (x d z : ℕ) : Type 0 where
    pub contact_held : S (contact x z d)
    pub had : ((z ≡ goal) × (d + δ ≡ b)) ⊎ ((z ≢ goal) × StillHad z (d + δ))

  -- z is the lowest-numbered such animal.
  pub record LowestCandidate (x d z : ℕ) : Type 0 where
    pub is : Candidate x d z
    pub lowest : (y : ℕ) → Candidate x d y → z ≤ y

  -- e is the latest departure of the journeys from z to the goal that leave at or after a and arrive at b.
  pub record LatestLeaving (z a e : ℕ) : Type 0 where
    pub leaves : a ≤ e
    pub journey : Journey S δ z goal (interval e b)
    pub latest : (p : ℕ) → a ≤ p → Journey S δ z goal (interval p b) → p ≤ e

  -- The contacts are the chain from x with departure d: at each animal the lowest candidate, with the latest departure next.
  pub data IsChain : ℕ → ℕ → List Contact → Type 0 where
    last : {x d : ℕ} → LowestCandidate x d goal → d + δ ≡ b → IsChain x d (contact x goal d ∷ [])
    next : {x d : ℕ} {l : List Contact} (z e : ℕ) → LowestCandidate x d z → z ≢ goal → LatestLeaving z (d + δ) e → IsChain z e l → IsChain x d (contact x z d ∷ l)

-- The contacts are the chain that document 01's rule names for u, v and the window: of all journeys that fit, the one kept has the earliest
-- arrival, and the latest departure among those.
pub record NamedChain (S : Contacts) (δ u v first last : ℕ) (l : List Contact) : Type 0 where
  pub kept : Fits S δ u v first last
  pub earliest : (other : Fits S δ u v first last) → kept.taken.arrival ≤ other.taken.arrival
  pub latest : (other : Fits S δ u v first last) → other.taken.arrival ≡ kept.taken.arrival → other.taken.departure ≤ kept.taken.departure
  pub chain : IsChain S δ v kept.taken.arrival u kept.taken.departure l
