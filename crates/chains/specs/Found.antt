-- What the functions of the chain find, in the words of the rules.
use Rattle.std.specs.Prelude.{ℕ, ◌≤◌, ◌<◌, ◌≡◌, ⊤, List, length, map, take, Option, None, Some, option_map}
use Rattle.journeys.specs.declared.Contact.{Contact}
use Rattle.words.specs.Words.{contact_word}
use Rattle.rules.specs.Limits.{max_ticks, max_chain}
use Rattle.rules.specs.Layout.{animals}
use Rattle.rules.specs.Chains.{Lead, nowhere, there, leads_on, Lowest, nobody, animal}
use Rattle.chains.specs.declared.steps.Lead.{Lead as LeadFound}
use Rattle.chains.specs.declared.steps.Lead.TheVariants.{There, On}
use Rattle.chains.specs.declared.steps.Steps.{Steps}

-- Where a contact leads, if anywhere.
unfoldable pub lead_of : Option LeadFound → Lead
lead_of None = nowhere
lead_of (Some There) = there
lead_of (Some (On d)) = leads_on d

-- Departures are ticks from 1.
abbrev pub IsDeparture : ℕ → Type 0
IsDeparture d = (1 ≤ d) × (d ≤ max_ticks)

-- Where a contact leads on, the next departure is one.
abbrev pub LeadsInTime : LeadFound → Type 0
LeadsInTime There = ⊤
LeadsInTime (On d) = IsDeparture d

-- The animal found, if any, with where the contact to it leads.
unfoldable pub lowest_of : Option (ℕ × LeadFound) → Lowest
lowest_of None = nobody
lowest_of (Some (z, l)) = animal z (lead_of (Some l))

-- The contact words of a chain, if there is one.
unfoldable pub words_of : Option (List Contact) → Option (List ℕ)
words_of = option_map (map contact_word)

-- The words collected, where a chain was found.
unfoldable pub collected : Option Steps → Option (List ℕ)
collected = option_map (λ s. take s.count s.words)

-- There are fewer contacts than animals, and room for the words of the longest chain.
pub record ChainFits (T : List ℕ) (s : Steps) : Type 0 where
  pub below : s.count < animals T
  pub long : length s.words ≡ max_chain
