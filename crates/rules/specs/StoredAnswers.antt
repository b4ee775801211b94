-- On any table that passes 5 and 6, whether adds built it or not, stored intervals stand for the journeys (document 01, "Questions"): what is
-- answered there for reach, the earliest arrival and the latest departure, and what holds of a chain that is shown there.
use Rattle.std.specs.Prelude.{ℕ, ◌/◌, ◌%◌, ◌^◌, ◌≤◌, ◌≡◌, ◌↔◌, length, drop, Ok, Some, None, true, false}
use mathlib.Core.List.{List, ◌++◌, map, Memᴰ}
use Rattle.journeys.specs.declared.Interval.{Interval}
use Rattle.journeys.specs.Journey.{In, contacts_of}
use Rattle.words.specs.Words.{contact_word}
use Rattle.rules.specs.Answers.{interval_reply}
use Rattle.rules.specs.Layout.{animals, ticks, carry, cells_of}
use Rattle.rules.specs.Checks.{ValidTable}
use Rattle.rules.specs.Logs.{held_contacts}
use Rattle.rules.specs.Windows.{Fits, FitsWindow, last_arrival, IsWindow, IsPair}
use Rattle.rules.specs.Questions.{reach_answer, earliest_answer, latest_answer}
use Rattle.rules.specs.Chains.{chain_answer, chain_leaves}
use Rattle.rules.specs.EarliestLatest.{Earliest, Latest, NoneDeparts, NoneArrives}

-- The interval stands in cell (u, v) of the table.
abbrev pub StandsIn : List ℕ → ℕ → ℕ → Interval → Type 0
StandsIn T u v i = Memᴰ i (cells_of T u v)

-- A stored interval of the pair fits the window: it departs at first or later and arrives no later than last + δ.
abbrev pub StoredFits : List ℕ → ℕ → ℕ → ℕ → ℕ → Type 0
StoredFits T u v first last = (i : Interval) × StandsIn T u v i × FitsWindow (carry T) i first last

-- The k contacts shown are those of a journey of contacts held that fits the window: their words stand at the buffer's start.
pub record ChainFits (T : List ℕ) (u v first last : ℕ) (B : List ℕ) (k : ℕ) : Type 0 where
  pub fits : Fits (In (held_contacts T)) (carry T) u v first last
  pub number : k ≡ length (contacts_of fits.journey)
  pub words : chain_leaves T u v first last B ≡ map contact_word (contacts_of fits.journey) ++ drop k B

-- What is answered for two different animals, the stored intervals standing for the minimal ones and for the journeys.
module _ (T : List ℕ) (u v : ℕ) where
  pub record StoredAnswersOf : Type 0 where
    pub reach_yes : (first last : ℕ) → IsWindow (ticks T) first last → (reach_answer T u v first last ≡ Ok true) ↔ StoredFits T u v first last
    pub reach_no : (first last : ℕ) → IsWindow (ticks T) first last → (reach_answer T u v first last ≡ Ok false) ↔ (¬ StoredFits T u v first last)
    pub earliest_at : (first : ℕ) → 1 ≤ first → first ≤ last_arrival T → (e : Interval)
        → (earliest_answer T u v first ≡ Ok (Some e)) ↔ Earliest (StandsIn T u v) (StandsIn T u v) first e
    pub earliest_none : (first : ℕ) → 1 ≤ first → first ≤ last_arrival T → (earliest_answer T u v first ≡ Ok None) ↔ NoneDeparts (StandsIn T u v) first
    pub latest_at : (last : ℕ) → 1 ≤ last → last ≤ last_arrival T → (e : Interval)
        → (latest_answer T u v last ≡ Ok (Some e)) ↔ Latest (StandsIn T u v) (StandsIn T u v) last e
    pub latest_none : (last : ℕ) → 1 ≤ last → last ≤ last_arrival T → (latest_answer T u v last ≡ Ok None) ↔ NoneArrives (StandsIn T u v) last

-- The number of the reply has the departure in its upper and the arrival in its lower sixteen bits.
pub record BothTold (e : Interval) : Type 0 where
  pub departure_told : interval_reply (Ok (Some e)) / 2 ^ 16 % 2 ^ 16 ≡ e.departure
  pub arrival_told : interval_reply (Ok (Some e)) % 2 ^ 16 ≡ e.arrival

pub record StoredAnswers : Type 0 where
  pub answers : (T : List ℕ) → ValidTable T → (u v : ℕ) → IsPair (animals T) u v → StoredAnswersOf T u v
  -- On any words, a chain that is shown is that of a fitting journey. It can be that none is shown although reach says yes: no contacts held need
  -- have made the intervals stored.
  pub chain_fits : (T : List ℕ) (u v first last : ℕ) (B : List ℕ) (k : ℕ) → chain_answer T u v first last B ≡ Ok (Some k) → ChainFits T u v first last B k
  -- On any words, an interval that is answered can be read off the reply.
  pub earliest_told : (T : List ℕ) (u v first : ℕ) (e : Interval) → earliest_answer T u v first ≡ Ok (Some e) → BothTold e
  pub latest_told : (T : List ℕ) (u v last : ℕ) (e : Interval) → latest_answer T u v last ≡ Ok (Some e) → BothTold e
