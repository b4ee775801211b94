-- Demand 2 of the tender, over any engine and its questions, with its own words above its parts.
use Rattle.std.specs.Prelude.{ℕ, ◌+◌, ◌/◌, ◌%◌, ◌^◌, ◌≤◌, ◌<◌, ◌≡◌, ◌↔◌, ◌≢◌, length, get_or, drop, Ok, Some, None, Result, Option, Bool, true, false, ⊤}
use mathlib.Core.List.{List, ◌++◌, map, Memᴰ}
use Rattle.journeys.specs.declared.Contact.{Contact}
use Rattle.journeys.specs.declared.Interval.{Interval}
use Rattle.journeys.specs.Journey.{Contacts, Journey, Minimal}
use Rattle.rules.specs.declared.Refusal.{Refusal}
use Rattle.rules.specs.Limits.{max_animals}
use Rattle.words.specs.Words.{contact_word}
use Rattle.rules.specs.Layout.{cell_at, cell_of}
use Rattle.rules.specs.Questions.{reach_answer, earliest_answer, latest_answer, connected_answer, reached_answer, reached_words, reached_count}
use Rattle.rules.specs.Fresh.{Fresh}
use Rattle.rules.specs.CallLists.{Engine, Call, table_after, SetLeft}
use Rattle.rules.specs.Orders.{Sorted}
use Rattle.rules.specs.Windows.{IsWindow, IsPair, Fits}
use Rattle.rules.specs.EarliestLatest.{Earliest, Latest, NoneDeparts, NoneArrives}
use Rattle.rules.specs.Chains.{chain_answer, chain_leaves}
use Rattle.rules.specs.ChainRule.{NamedChain}

-- What the questions answer, and the words that a chain leaves in its buffer.
pub record Questions : Type 0 where
  pub reach : List ℕ → ℕ → ℕ → ℕ → ℕ → Result Bool Refusal
  pub earliest : List ℕ → ℕ → ℕ → ℕ → Result (Option Interval) Refusal
  pub latest : List ℕ → ℕ → ℕ → ℕ → Result (Option Interval) Refusal
  pub connected : List ℕ → ℕ → ℕ → Result Bool Refusal
  pub reached : List ℕ → ℕ → ℕ → ℕ → Result ⊤ Refusal
  pub reached_words : List ℕ → ℕ → ℕ → ℕ → List ℕ
  pub reached_count : List ℕ → ℕ → ℕ → ℕ → ℕ
  pub chain : List ℕ → ℕ → ℕ → ℕ → ℕ → List ℕ → Result (Option ℕ) Refusal
  pub chain_leaves : List ℕ → ℕ → ℕ → ℕ → ℕ → List ℕ → List ℕ

-- The questions of document 01: the definitions that their contracts cite.
abbrev pub questions : Questions
questions =
    record {
      reach = reach_answer;
      earliest = earliest_answer;
      latest = latest_answer;
      connected = connected_answer;
      reached = reached_answer;
      reached_words = reached_words;
      reached_count = reached_count;
      chain = chain_answer;
      chain_leaves = chain_leaves;
    }

-- ---- the words of the demand

-- The interval stands in cell (u, v) of a table of n animals and τ ticks.
abbrev pub StoredIn : ℕ → ℕ → List ℕ → ℕ → ℕ → Interval → Type 0
StoredIn n τ T u v i = Memᴰ i (cell_of (cell_at n τ T u v))

-- Every ordered pair of different animals has a journey that fits.
abbrev pub AllFit : Contacts → ℕ → ℕ → ℕ → ℕ → Type 0
AllFit S δ n first last = (u v : ℕ) → IsPair n u v → Fits S δ u v first last

-- Animal i is another than u, below n, and reached from u in the window.
pub record ReachedFrom (S : Contacts) (δ n u first last i : ℕ) : Type 0 where
  pub below : i < n
  pub other : u ≢ i
  pub fits : Fits S δ u i first last

-- Bit i mod 32 of word i/32 is set.
abbrev pub BitSet : List ℕ → ℕ → Type 0
BitSet words i = get_or words (i / 32) 0 / 2 ^ (i % 32) % 2 ≡ 1

-- ---- the demand

-- What is said of the questions on a table T of n animals, τ ticks and carry time δ, over the set S of its contacts.
module _ (Q : Questions) (n τ δ : ℕ) (S : Contacts) (T : List ℕ) where
  pub record AnsweredOn : Type 0 where
    -- "A question is answered yes when a journey fits its window and no when none does."
    pub reach_yes : (u v first last : ℕ) → IsPair n u v → IsWindow τ first last → (Q.reach T u v first last ≡ Ok true) ↔ Fits S δ u v first last
    pub reach_no : (u v first last : ℕ) → IsPair n u v → IsWindow τ first last → (Q.reach T u v first last ≡ Ok false) ↔ (¬ Fits S δ u v first last)
    -- Earliest arrival from a first tick on: the answer is the minimal interval of the pair that leaves at first or later and than which no
    -- journey leaving at first or later is there sooner; it is none exactly when no journey leaves then.
    pub earliest_at : (u v first : ℕ) → IsPair n u v → 1 ≤ first → first ≤ τ + δ
        → (e : Interval) → (Q.earliest T u v first ≡ Ok (Some e)) ↔ Earliest (Minimal S δ u v) (Journey S δ u v) first e
    pub earliest_none : (u v first : ℕ) → IsPair n u v → 1 ≤ first → first ≤ τ + δ → (Q.earliest T u v first ≡ Ok None) ↔ NoneDeparts (Journey S δ u v) first
    -- Latest departure by a last tick: the answer is the minimal interval of the pair that is there by last and than which no journey that is
    -- there by last leaves later; it is none exactly when no journey is there by then.
    pub latest_at : (u v last : ℕ) → IsPair n u v → 1 ≤ last → last ≤ τ + δ
        → (e : Interval) → (Q.latest T u v last ≡ Ok (Some e)) ↔ Latest (Minimal S δ u v) (Journey S δ u v) last e
    pub latest_none : (u v last : ℕ) → IsPair n u v → 1 ≤ last → last ≤ τ + δ → (Q.latest T u v last ≡ Ok None) ↔ NoneArrives (Journey S δ u v) last
    -- Connected: yes exactly when each animal reaches each other one in the window.
    pub connected_yes : (first last : ℕ) → IsWindow τ first last → (Q.connected T first last ≡ Ok true) ↔ AllFit S δ n first last
    pub connected_no : (first last : ℕ) → IsWindow τ first last → (Q.connected T first last ≡ Ok false) ↔ (¬ AllFit S δ n first last)
    -- Reached from u: the bits of the set record, and its count.
    pub reached_found : (u first last : ℕ) → u < n → IsWindow τ first last → Q.reached T u first last ≡ Ok tt
    pub reached_bit : (u first last : ℕ) → u < n → IsWindow τ first last
        → (i : ℕ) → i < max_animals → BitSet (Q.reached_words T u first last) i ↔ ReachedFrom S δ n u first last i
    pub reached_count : (u first last : ℕ) → u < n → IsWindow τ first last
        → (l : List ℕ) × Sorted ◌<◌ l × ((i : ℕ) → Memᴰ i l ↔ ReachedFrom S δ n u first last i) × (Q.reached_count T u first last ≡ length l)
    -- "The chain shown for a yes is the one that document 01's rule names": a chain is named exactly when a journey fits; its
    -- number of contacts is the answer, and its words stand at the buffer's start.
    pub chain_named : (u v first last : ℕ) → IsPair n u v → Fits S δ u v first last ↔ ((l : List Contact) × NamedChain S δ u v first last l)
    pub chain_shown : (u v first last : ℕ) → IsPair n u v → IsWindow τ first last → (B : List ℕ) → n ≤ length B + 1
        → (l : List Contact) → NamedChain S δ u v first last l
        → (Q.chain T u v first last B ≡ Ok (Some (length l))) × (Q.chain_leaves T u v first last B ≡ map contact_word l ++ drop (length l) B)
    -- Where no journey fits, the answer is "no journey" and the buffer keeps its words.
    pub chain_none : (u v first last : ℕ) → IsPair n u v → IsWindow τ first last → (B : List ℕ) → n ≤ length B + 1
        → (¬ Fits S δ u v first last) → (Q.chain T u v first last B ≡ Ok None) × (Q.chain_leaves T u v first last B ≡ B)

pub record Demand2 (E : Engine) (Q : Questions) : Type 1 where
  -- "After any contacts, the stored intervals of each ordered pair of different animals are just the minimal journey
  -- intervals of those contacts, as the timed transitive closure papers define them": the contacts are those that any list of
  -- adds and removals leaves, made on an opened table.
  pub stored : (n τ δ : ℕ) (words : List ℕ) (A : List Call) → E.open_answer n τ δ words ≡ Ok tt → (u v : ℕ) → IsPair n u v
      → (i : Interval) → StoredIn n τ (table_after E n τ δ words A) u v i ↔ Minimal (SetLeft n τ A) δ u v i
  -- So are those of any fresh table, however it came about.
  pub fresh_stored : (n τ δ : ℕ) (S : Contacts) (T : List ℕ) → Fresh n τ δ S T → (u v : ℕ) → IsPair n u v → (i : Interval) → StoredIn n τ T u v i ↔ Minimal S δ u v i
  -- The second and the third sentence, on any fresh table.
  pub answered : (n τ δ : ℕ) (S : Contacts) (T : List ℕ) → Fresh n τ δ S T → AnsweredOn Q n τ δ S T
  -- Of any set of contacts no more than one chain is named.
  pub chain_one : (S : Contacts) (δ u v first last : ℕ) (l m : List Contact) → NamedChain S δ u v first last l → NamedChain S δ u v first last m → l ≡ m
  -- On any words the set record has eight words.
  pub reached_eight : (T : List ℕ) (u first last : ℕ) → length (Q.reached_words T u first last) ≡ 8
