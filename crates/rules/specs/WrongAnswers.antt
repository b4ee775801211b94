-- Wrong answers that demand 2 shuts out (document 01, last paragraph: "Reject").
use Rattle.std.specs.Prelude.{length, ℕ, zero, suc, ◌+◌, ◌-◌, ◌≡◌, cond, List, [], ◌∷◌, map, replicate, leb, ltb, Option, None, Some, option_map, Ok, Result, Bool, true, false}
use Rattle.journeys.specs.declared.Contact.{Contact}
use Rattle.journeys.specs.declared.Interval.{Interval}
use Rattle.journeys.specs.Journey.{interval}
use Rattle.journeys.specs.Cell.{Cell, later, latest_departing, earliest_arriving, has_inside}
use Rattle.rules.specs.declared.Refusal.{Refusal}
use Rattle.rules.specs.Answers.{unless, answer_of}
use Rattle.rules.specs.Folds.{within, any_of}
use Rattle.rules.specs.Layout.{animals, carry, cells_of}
use Rattle.rules.specs.Questions.{reaches, reach_refusal, moment_refusal}
use Rattle.rules.specs.Chains.{Lead, Lowest, nobody, animal, or_else, leads, follow, chain_from, of_kept, chain_of, chain_refusal, chain_words}
use Rattle.rules.specs.Opening.{open_answer}
use Rattle.rules.specs.CallLists.{Engine, table_with, LegalOf}
use Rattle.rules.specs.Demand2.{Questions, questions, AnsweredOn, Demand2}
use Rattle.rules.specs.Wrong.{given}

-- The questions of document 01, but for the parts that are given: reach, connected, the set's words, its count, and, on the same checks, the
-- rules of the earliest arrival, of the latest departure and of the chain.
abbrev pub questions_but : Option (List ℕ → ℕ → ℕ → ℕ → ℕ → Result Bool Refusal) → Option (List ℕ → ℕ → ℕ → Result Bool Refusal)
    → Option (List ℕ → ℕ → ℕ → ℕ → List ℕ) → Option (List ℕ → ℕ → ℕ → ℕ → ℕ) → Option (Cell → ℕ → Option Interval) → Option (Cell → ℕ → Option Interval)
    → Option (List ℕ → ℕ → ℕ → ℕ → ℕ → Option (List Contact)) → Questions
questions_but reach connected words count earliest latest rule =
    record {
      reach = given reach questions.reach;
      earliest = λ T u v first. answer_of (moment_refusal T u v first) (Ok (given earliest earliest_arriving (cells_of T u v) first));
      latest = λ T u v last. answer_of (moment_refusal T u v last) (Ok (given latest latest_departing (cells_of T u v) last));
      connected = given connected questions.connected;
      reached = questions.reached;
      reached_words = given words questions.reached_words;
      reached_count = given count questions.reached_count;
      chain = λ T u v first last B. answer_of (chain_refusal T u v first last B) (Ok (option_map length (given rule chain_of T u v first last)));
      chain_leaves = λ T u v first last B. unless (chain_refusal T u v first last B) (chain_words (given rule chain_of T u v first last) B) B;
    }

-- Another rule for reach, for the earliest arrival, for the latest departure, and for the chain.
abbrev with_reach : (List ℕ → ℕ → ℕ → ℕ → ℕ → Result Bool Refusal) → Questions
with_reach g = questions_but (Some g) None None None None None None

abbrev with_earliest : (Cell → ℕ → Option Interval) → Questions
with_earliest g = questions_but None None None None (Some g) None None

abbrev with_latest : (Cell → ℕ → Option Interval) → Questions
with_latest g = questions_but None None None None None (Some g) None

abbrev with_chain : (List ℕ → ℕ → ℕ → ℕ → ℕ → Option (List Contact)) → Questions
with_chain g = questions_but None None None None None None (Some g)

-- "No" every time.
abbrev pub always_no : Questions
always_no = with_reach (λ T u v first last. (Ok false))

-- "Yes" every time.
abbrev pub always_yes : Questions
always_yes = with_reach (λ T u v first last. (Ok true))

-- A window that ends one tick later.
abbrev pub ends_later : Questions
ends_later = with_reach (λ T u v first last. answer_of (reach_refusal T u v first last) (Ok (reaches T u v first (suc last))))

-- A window that begins one tick later.
abbrev pub begins_later : Questions
begins_later = with_reach (λ T u v first last. answer_of (reach_refusal T u v first last) (Ok (reaches T u v (suc first) last)))

-- A stored interval has to arrive by the last tick of the window.
abbrev pub arrives_by_last : Questions
arrives_by_last = with_reach (λ T u v first last. answer_of (reach_refusal T u v first last) (Ok (has_inside (interval first last) (cells_of T u v))))

-- Of a stored interval only the first contact has to lie in the window: its departure does.
abbrev pub first_contact_alone : Questions
first_contact_alone =
    with_reach (λ T u v first last. answer_of (reach_refusal T u v first last) (Ok (any_of (λ i. within first i.departure last) (cells_of T u v))))

-- Of a stored interval only the last contact has to lie in the window: it leaves the carry time before the arrival.
abbrev pub last_contact_alone : Questions
last_contact_alone =
    with_reach (λ T u v first last. answer_of (reach_refusal T u v first last) (Ok (any_of (λ i. within (first + carry T) i.arrival (last + carry T)) (cells_of T u v))))

-- ---- earliest arrival and latest departure

-- "No journey" every time, for the earliest arrival.
abbrev pub never_arrives : Questions
never_arrives = with_earliest (λ c t. None)

-- "No journey" every time, for the latest departure.
abbrev pub never_departs : Questions
never_departs = with_latest (λ c t. None)

-- The first tick taken as strictly before the departure.
abbrev pub departs_after_first : Questions
departs_after_first = with_earliest (λ c t. earliest_arriving c (suc t))

-- The last tick taken as strictly after the arrival.
abbrev pub arrives_before_last : Questions
arrives_before_last = with_latest (λ c t. latest_departing c (t - 1))

-- An arrival after the last tick, by as much as a carry time of 1.
abbrev pub arrives_after_last : Questions
arrives_after_last = with_latest (λ c t. latest_departing c (suc t))

-- The first interval of the cell, and its last.
abbrev first_of_cell : Cell → Interval
first_of_cell [] = interval 0 0
first_of_cell (i ∷ c) = i

unfoldable pub last_of_cell : Cell → Interval
last_of_cell [] = interval 0 0
last_of_cell (i ∷ []) = i
last_of_cell (i ∷ j ∷ c) = last_of_cell (j ∷ c)

-- The earliest arrival with the departure of another row.
abbrev pub other_departure : Questions
other_departure = with_earliest (λ c t. option_map (λ i. interval (first_of_cell c).departure i.arrival) (earliest_arriving c t))

-- The departure of that row with the arrival of a later one.
abbrev pub later_arrival : Questions
later_arrival = with_earliest (λ c t. option_map (λ i. interval i.departure (last_of_cell c).arrival) (earliest_arriving c t))

-- The latest departure with the arrival of another row.
abbrev pub other_arrival : Questions
other_arrival = with_latest (λ c t. option_map (λ i. interval i.departure (last_of_cell c).arrival) (latest_departing c t))

-- The arrival of that row with the departure of an earlier one.
abbrev pub earlier_departure : Questions
earlier_departure = with_latest (λ c t. option_map (λ i. interval (first_of_cell c).departure i.arrival) (latest_departing c t))

-- Of the rows at the front that depart before t the last, and of those behind the rows that arrive by t the first.
unfoldable pub departing_before : Cell → ℕ → Option Interval
departing_before [] t = None
departing_before (i ∷ c) t = cond (ltb i.departure t) (later i (departing_before c t)) None

unfoldable pub arriving_after : Cell → ℕ → Option Interval
arriving_after [] t = None
arriving_after (i ∷ c) t = cond (leb i.arrival t) (arriving_after c t) (Some i)

-- The row before the first that departs at or after the first tick.
abbrev pub row_before : Questions
row_before = with_earliest departing_before

-- The row behind the last that arrives by the last tick.
abbrev pub row_behind : Questions
row_behind = with_latest arriving_after

-- ---- connected, reached

-- Connected every time.
abbrev pub always_connected : Questions
always_connected = questions_but None (Some (λ T first last. (Ok true))) None None None None None

-- A set that is always empty.
abbrev pub reaches_nobody : Questions
reaches_nobody = questions_but None None (Some (λ T u first last. replicate 8 0)) None None None None

-- A count that is always 0.
abbrev pub counts_nobody : Questions
counts_nobody = questions_but None None None (Some (λ T u first last. 0)) None None None

-- ---- the chain

-- "No journey" every time, for the chain.
abbrev pub never_chained : Questions
never_chained = with_chain (λ T u v first last. None)

-- The interval kept has to arrive by the last tick of the window, as if nothing took time to carry.
abbrev pub chain_arrives_by_last : Questions
chain_arrives_by_last = with_chain (λ T u v first last. of_kept 0 (cells_of T u v) first last (λ b d. chain_from T v b (animals T - 1) u d))

-- The first animal of the list to which a contact leads.
unfoldable pub first_of : List ℕ → (ℕ → Lead) → Lowest
first_of [] f = nobody
first_of (z ∷ zs) f = first (or_else nobody z (f z)) (first_of zs f)
  where
    first : Lowest → Lowest → Lowest
    first nobody o = o
    first (animal y l) o = animal y l

-- The chain with the next animal taken in the order of a list.
unfoldable pub chain_from_of : List ℕ → List ℕ → ℕ → ℕ → ℕ → ℕ → ℕ → Option (List Contact)
chain_from_of zs T goal b zero x d = None
chain_from_of zs T goal b (suc most) x d = follow x d (first_of zs (leads T goal b x d)) (chain_from_of zs T goal b most)

abbrev in_order_of : (List ℕ → List ℕ) → Questions
in_order_of order =
    with_chain (λ T u v first last. of_kept (carry T) (cells_of T u v) first last (λ b d. chain_from_of (order T) T v b (animals T - 1) u d))

-- The animals below m, the highest first.
unfoldable pub down_from : ℕ → List ℕ
down_from zero = []
down_from (suc m) = m ∷ down_from m

-- The highest animal instead of the lowest.
abbrev pub highest_animal : Questions
highest_animal = in_order_of (λ T. down_from (animals T))

-- The next animal in the order in which the contacts were loaded.
abbrev pub loading_order : List Contact → Questions
loading_order loaded = in_order_of (λ T. map (λ k. k.to) loaded)

-- None of them meets demand 2, whatever the engine; the chain in loading order goes wrong on a table into which that very list was loaded.
pub record RejectedAnswers : Type 1 where
  pub always_no : (E : Engine) → ¬ Demand2 E always_no
  pub always_yes : (E : Engine) → ¬ Demand2 E always_yes
  pub ends_later : (E : Engine) → ¬ Demand2 E ends_later
  pub begins_later : (E : Engine) → ¬ Demand2 E begins_later
  pub arrives_by_last : (E : Engine) → ¬ Demand2 E arrives_by_last
  pub first_contact_alone : (E : Engine) → ¬ Demand2 E first_contact_alone
  pub last_contact_alone : (E : Engine) → ¬ Demand2 E last_contact_alone
  pub never_arrives : (E : Engine) → ¬ Demand2 E never_arrives
  pub never_departs : (E : Engine) → ¬ Demand2 E never_departs
  pub departs_after_first : (E : Engine) → ¬ Demand2 E departs_after_first
  pub arrives_before_last : (E : Engine) → ¬ Demand2 E arrives_before_last
  pub arrives_after_last : (E : Engine) → ¬ Demand2 E arrives_after_last
  pub other_departure : (E : Engine) → ¬ Demand2 E other_departure
  pub later_arrival : (E : Engine) → ¬ Demand2 E later_arrival
  pub other_arrival : (E : Engine) → ¬ Demand2 E other_arrival
  pub earlier_departure : (E : Engine) → ¬ Demand2 E earlier_departure
  pub row_before : (E : Engine) → ¬ Demand2 E row_before
  pub row_behind : (E : Engine) → ¬ Demand2 E row_behind
  pub always_connected : (E : Engine) → ¬ Demand2 E always_connected
  pub reaches_nobody : (E : Engine) → ¬ Demand2 E reaches_nobody
  pub counts_nobody : (E : Engine) → ¬ Demand2 E counts_nobody
  pub never_chained : (E : Engine) → ¬ Demand2 E never_chained
  pub chain_arrives_by_last : (E : Engine) → ¬ Demand2 E chain_arrives_by_last
  pub highest_animal : (E : Engine) → ¬ Demand2 E highest_animal
  pub loading_order : ¬ ((n τ δ : ℕ) (words : List ℕ) (loaded : List Contact) → open_answer n τ δ words ≡ Ok tt
      → AnsweredOn (loading_order loaded) n τ δ (LegalOf n τ loaded) (table_with n τ δ words loaded))
