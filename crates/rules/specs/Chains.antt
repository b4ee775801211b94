-- The chain of a yes (document 01, "Questions").
use Rattle.std.specs.Prelude.{ℕ, zero, suc, ◌+◌, ◌-◌, cond, ◌&&◌, List, [], ◌∷◌, ◌++◌, map, length, drop, leb, eqb, Option, None, Some, Ok, Result, option_map}
use Rattle.journeys.specs.declared.Contact.{Contact}
use Rattle.journeys.specs.Journey.{contact, interval}
use Rattle.journeys.specs.Cell.{Cell, latest_departure, earliest_arrival}
use Rattle.words.specs.Words.{contact_word}
use Rattle.rules.specs.declared.Refusal.{Refusal}
use Rattle.rules.specs.declared.Refusal.TheVariants.{ChainBufferTooShort}
use Rattle.rules.specs.Answers.{ensure, unless, answer_of}
use Rattle.rules.specs.Layout.{animals, carry, cells_of}
use Rattle.rules.specs.Checks.{ensure_table}
use Rattle.rules.specs.Adding.{ensure_pair, holds}
use Rattle.rules.specs.Windows.{fits_window, ensure_window}

-- The departure of an interval of the cell with arrival b that departs at or after a, if any; a stands before b.
unfoldable pub departure_with : ℕ → ℕ → Cell → Option ℕ
departure_with a b [] = None
departure_with a b (i ∷ c) = cond (eqb i.arrival b && leb a i.departure) (Some i.departure) (departure_with a b c)

-- Where a contact leads: nowhere, to the goal, or on, with the next departure.
pub data Lead : Type 0 where
  nowhere : Lead
  there : Lead
  leads_on : ℕ → Lead

-- On at the departure, if there is one.
abbrev pub lead_from : Option ℕ → Lead
lead_from None = nowhere
lead_from (Some d) = leads_on d

-- Where the contact (x, z, d) leads, if the table holds it: there, when z is the goal and the contact arrives at b; on, when cell (z, goal)
-- has an interval that arrives at b and does not depart before the contact arrives; else nowhere. The positions are: the table, the goal, the arrival b, the animal x and its departure d, the animal z.
unfoldable pub leads : List ℕ → ℕ → ℕ → ℕ → ℕ → ℕ → Lead
leads T goal b x d z =
    cond (holds T (contact x z d))
    (cond (eqb z goal) (cond (eqb (d + carry T) b) there nowhere) (lead_from (departure_with (d + carry T) b (cells_of T z goal))))
    nowhere

-- The lowest-numbered animal below m to which a contact leads, and where it leads.
pub data Lowest : Type 0 where
  nobody : Lowest
  animal : ℕ → Lead → Lowest

abbrev pub or_else : Lowest → ℕ → Lead → Lowest
or_else nobody z nowhere = nobody
or_else nobody z there = animal z there
or_else nobody z (leads_on d) = animal z (leads_on d)
or_else (animal y l) z k = animal y l

unfoldable pub lowest : (ℕ → Lead) → ℕ → Lowest
lowest f zero = nobody
lowest f (suc m) = or_else (lowest f m) m (f m)

-- The contact before the rest of a chain, if there is one.
abbrev pub prepend : Contact → Option (List Contact) → Option (List Contact)
prepend k None = None
prepend k (Some l) = Some (k ∷ l)

-- The chain that leaves x at d for the animal found; `rest` gives the chain from an animal with its departure.
abbrev pub follow : ℕ → ℕ → Lowest → (ℕ → ℕ → Option (List Contact)) → Option (List Contact)
follow x d nobody rest = None
follow x d (animal z nowhere) rest = None
follow x d (animal z there) rest = Some (contact x z d ∷ [])
follow x d (animal z (leads_on e)) rest = prepend (contact x z d) (rest z e)

-- The chain from x with departure d to the goal with arrival b, of at most `most` contacts; none where it sticks or
-- needs more. The positions are: the table, the goal, the arrival b, `most`, the animal x and its departure d.
unfoldable pub chain_from : List ℕ → ℕ → ℕ → ℕ → ℕ → ℕ → Option (List Contact)
chain_from T goal b zero x d = None
chain_from T goal b (suc most) x d = follow x d (lowest (leads T goal b x d) (animals T)) (chain_from T goal b most)

-- What there is for the tick, if there is one.
abbrev pub with_tick : Option ℕ → (ℕ → Option (List Contact)) → Option (List Contact)
with_tick None g = None
with_tick (Some t) g = g t

-- Among the cell's intervals that fit the window the earliest arrival b is kept, then the latest departure d; what there is for them.
-- The carry time stands first.
abbrev pub of_kept : ℕ → Cell → ℕ → ℕ → (ℕ → ℕ → Option (List Contact)) → Option (List Contact)
of_kept δ c first last g =
    with_tick (earliest_arrival c first) (λ b. with_tick (latest_departure c b) (λ d. cond (fits_window δ (interval d b) first last) (g b d) None))

-- The chain of the interval kept, from animal to animal. It never has more than n−1 contacts.
unfoldable pub chain_of : List ℕ → ℕ → ℕ → ℕ → ℕ → Option (List Contact)
chain_of T u v first last = of_kept (carry T) (cells_of T u v) first last (λ b d. chain_from T v b (animals T - 1) u d)

-- 10 when the buffer is shorter than n−1 words, before the question whether there is a journey.
unfoldable pub chain_refusal : List ℕ → ℕ → ℕ → ℕ → ℕ → List ℕ → Option Refusal
chain_refusal T u v first last B =
    ensure_table T (ensure_pair T u v (ensure_window T first last (ensure (leb (animals T - 1) (length B)) ChainBufferTooShort None)))

-- The number of contacts of the chain, where there is one.
unfoldable pub chain_answer : List ℕ → ℕ → ℕ → ℕ → ℕ → List ℕ → Result (Option ℕ) Refusal
chain_answer T u v first last B = answer_of (chain_refusal T u v first last B) (Ok (option_map length (chain_of T u v first last)))

-- The contact words of the chain from the buffer's start; words behind a chain keep theirs, and all where there is none.
abbrev pub chain_words : Option (List Contact) → List ℕ → List ℕ
chain_words None B = B
chain_words (Some l) B = map contact_word l ++ drop (length l) B

unfoldable pub chain_leaves : List ℕ → ℕ → ℕ → ℕ → ℕ → List ℕ → List ℕ
chain_leaves T u v first last B = unless (chain_refusal T u v first last B) (chain_words (chain_of T u v first last) B) B
