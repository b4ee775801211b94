-- Contacts, journeys and minimal intervals (document 01, "Animals, ticks, carry time").
use Rattle.std.specs.Prelude.{◌≡◌, ◌↔◌, ◌⊎◌, ◌≢◌, ℕ, ◌+◌, ◌≤◌}
use mathlib.Core.List.{List, [], ◌∷◌, Memᴰ}
use Rattle.journeys.specs.declared.Contact.{Contact}
use Rattle.journeys.specs.declared.Interval.{Interval}

-- The contact (u, v, t).
abbrev pub contact : ℕ → ℕ → ℕ → Contact
contact u v t = record { from = u; to = v; tick = t }

-- A set of contacts.
abbrev pub Contacts : Type 1
Contacts = Contact → Type 0

-- The contacts of a list, as a set.
abbrev pub In : List Contact → Contacts
In l k = Memᴰ k l

-- The set with one contact more.
abbrev pub With : Contacts → Contact → Contacts
With S k c = S c ⊎ (c ≡ k)

-- The set with this contact left out.
abbrev pub Without : Contacts → Contact → Contacts
Without S k c = S c × (¬ (c ≡ k))

-- The contacts of both sets.
abbrev pub Union : Contacts → Contacts → Contacts
Union S R k = S k ⊎ R k

-- The two sets have the same contacts.
abbrev pub Same : Contacts → Contacts → Type 0
Same S R = (k : Contact) → S k ↔ R k

-- Every contact of the set is between different animals.
abbrev pub Apart : Contacts → Type 0
Apart S = (k : Contact) → S k → k.from ≢ k.to

-- The interval [a, b].
abbrev pub interval : ℕ → ℕ → Interval
interval a b = record { departure = a; arrival = b }

-- The interval j lies inside i, or equals it: the inner one stands first.
abbrev pub Inside : Interval → Interval → Type 0
Inside j i = (i.departure ≤ j.departure) × (j.arrival ≤ i.arrival)

-- A journey that arrives at y at b, from x with departure a: a row of contacts, at least one, each departing from the animal that the one
-- before it reached, no earlier than it got there. An animal may come twice. The positions are: the contacts, the carry time, the animal y where it ends
-- and its arrival b there, then the animal x where it begins and its departure a.
pub data JourneyTo (S : Contacts) (δ y b : ℕ) : ℕ → ℕ → Type 0 where
  single : {x a : ℕ} → S (contact x y a) → a + δ ≡ b → JourneyTo S δ y b x a
  onward : {x a : ℕ} (z s : ℕ) → S (contact x z a) → a + δ ≤ s → JourneyTo S δ y b z s → JourneyTo S δ y b x a

-- A journey of the contacts S from x to y whose interval is i: [first departure, last arrival].
abbrev pub Journey : Contacts → ℕ → ℕ → ℕ → Interval → Type 0
Journey S δ x y i = JourneyTo S δ y i.arrival x i.departure

-- The contacts of a journey, in their order.
abbrev pub contacts_of : {S : Contacts} {δ y b x a : ℕ} → JourneyTo S δ y b x a → List Contact
contacts_of {y = y} (single {x} {a} s e) = contact x y a ∷ []
contacts_of (onward {x} {a} z t s h j) = contact x z a ∷ contacts_of j

-- The interval is minimal for the pair: it is that of a journey, and a journey's interval inside it is the same.
pub record Minimal (S : Contacts) (δ x y : ℕ) (i : Interval) : Type 0 where
  pub journey : Journey S δ x y i
  pub least : (j : Interval) → Journey S δ x y j → Inside j i → j ≡ i
