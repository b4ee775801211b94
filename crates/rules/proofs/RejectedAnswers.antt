-- Each wrong answer goes wrong on a fresh table, so it does not meet demand 2.
use Rattle.std.specs.Prelude.{Ok, Err, Some, None, Result, Option, Bool, true, false}
use mathlib.Core.Path.{◌≡◌, refl, ap}
use mathlib.Core.List.{List, [], ◌∷◌}
use Prim.Native.Nat.{ℕ, ◌+◌, ◌*◌, ◌≤◌}
use native.Mathlib.Omega.{arith}
use lib.ListN.{get_or, replicate}
use Rattle.journeys.specs.declared.Contact.{Contact}
use Rattle.journeys.specs.Journey.{contact}
use Rattle.journeys.specs.Cell.{later, sooner, latest_departing, earliest_arriving, latest_departure, earliest_arrival, has_inside, without_containing, put_in_order, enter}
use Rattle.journeys.specs.Adding.{departure_of, arrival_of, enter_both, add}
use Rattle.words.specs.Layout.{is_of}
use Rattle.words.specs.Words.{contact_of}
use Rattle.journeys.specs.declared.Interval.{Interval}
use Rattle.rules.specs.declared.Refusal.{Refusal}
use Rattle.rules.specs.Folds.{flat, all_below, sum_below, count_below, any_of}
use Rattle.rules.specs.Layout.{cell_words, table_words, cell_at, cell_of, cells_of}
use Rattle.rules.specs.Checks.{is_open, row_well_formed, rows_well_formed, all_unused, cell_well_formed, well_formed}
use Rattle.rules.specs.Opening.{open_refusal, open_answer, open_leaves}
use Rattle.rules.specs.Adding.{stands, add_refusal, added_cells, add_leaves}
use Rattle.rules.specs.Adding as Adding
use Rattle.rules.specs.Chains.{departure_with, leads, lowest, chain_from, chain_of, chain_refusal, chain_leaves}
use Rattle.rules.specs.Questions.{reaches, reach_refusal, reach_answer, moment_refusal, earliest_answer, latest_answer, connects, connected_refusal, connected_answer, is_reached, set_word, set_words, reached_refusal, reached_words, reached_count}
use Rattle.rules.specs.Fresh.{Fresh}
use Rattle.rules.specs.CallLists.{Engine, engine, run, table_with, LegalOf}
use Rattle.rules.specs.Windows.{IsWindow, IsPair}
use Rattle.rules.specs.Demand2.{Questions, questions, BitSet, AnsweredOn, Demand2}
use Rattle.rules.specs.Determined.{AgreeOn}
use Rattle.rules.specs.WrongAnswers.{always_no, always_yes, ends_later, begins_later, arrives_by_last, first_contact_alone, last_contact_alone, never_arrives, never_departs, departs_after_first, arrives_before_last, arrives_after_last, last_of_cell, other_departure, later_arrival, other_arrival, earlier_departure, departing_before, arriving_after, row_before, row_behind, always_connected, reaches_nobody, counts_nobody, first_of, chain_from_of, down_from, never_chained, chain_arrives_by_last, highest_animal, loading_order, RejectedAnswers}
use Rattle.rules.proofs.Runs.{run-fresh}
use Rattle.rules.proofs.Demand2.{demand2}
use Rattle.rules.proofs.DeterminedAnswers.{agree_on, determined_answers}

-- The table of two animals, two ticks and carry time 1 after the contacts (0, 1, 1) and (0, 1, 2): cell (0, 1) has [1, 2] and [2, 3].
abbrev met : List Contact
met = contact 0 1 1 ∷ contact 0 1 2 ∷ []

abbrev table : List ℕ
table = table_with 2 2 1 (replicate 13 0) met

table-fresh : Fresh 2 2 1 (LegalOf 2 2 met) table
unfolding open_refusal
table-fresh = run-fresh 2 2 1 (replicate 13 0) met refl

pair : IsPair 2 0 1
pair = record { from_below = omega arith; to_below = omega arith; apart = λ e. omega arith }

whole : IsWindow 2 1 2
whole = record { from_one = omega arith; in_order = omega arith; to_last = omega arith }

-- Answers as numbers.
abbrev told : Result Bool Refusal → ℕ
told (Ok true) = 1
told (Ok false) = 2
told (Err r) = 0

abbrev found : Result (Option Interval) Refusal → ℕ
found (Ok (Some e)) = e.departure * 10 + e.arrival
found (Ok None) = 0
found (Err r) = 0

-- Questions that meet the demand answer on this table as document 01's do.
module _ (E : Engine) (Q : Questions) (d : Demand2 E Q) where
  agree : AgreeOn Q questions 2 2 1 table
  agree = (determined_answers E engine Q questions d demand2).answers 2 2 1 (LegalOf 2 2 met) table table-fresh

  same-earliest : (first : ℕ) → 1 ≤ first → first ≤ 3 → found (Q.earliest table 0 1 first) ≡ found (earliest_answer table 0 1 first)
  same-earliest first h k = ap found (agree.earliest 0 1 first pair h k)

  same-latest : (last : ℕ) → 1 ≤ last → last ≤ 3 → found (Q.latest table 0 1 last) ≡ found (latest_answer table 0 1 last)
  same-latest last h k = ap found (agree.latest 0 1 last pair h k)

  same-connected : told (Q.connected table 1 2) ≡ told (connected_answer table 1 2)
  same-connected = ap told (agree.connected 1 2 whole)

  same_bit : BitSet (reached_words table 0 1 2) 1 → BitSet (Q.reached_words table 0 1 2) 1
  same_bit h = (agree.reached_bits 0 1 2 (omega arith) whole 1 (omega arith)).1 h

  same_count : Q.reached_count table 0 1 2 ≡ reached_count table 0 1 2
  same_count = agree.reached_count 0 1 2 (omega arith) whole

-- The table of four animals, two ticks and carry time 1 on which 3 is reached from 0 at tick 3 by way of 1 and of 2.
abbrev loaded : List Contact
loaded = contact 0 2 1 ∷ contact 0 1 1 ∷ contact 2 3 2 ∷ contact 1 3 2 ∷ []

abbrev forked : List ℕ
forked = table_with 4 2 1 (replicate 49 0) loaded

forked-fresh : Fresh 4 2 1 (LegalOf 4 2 loaded) forked
unfolding open_refusal
forked-fresh = run-fresh 4 2 1 (replicate 49 0) loaded refl

forked-pair : IsPair 4 0 3
forked-pair = record { from_below = omega arith; to_below = omega arith; apart = λ e. omega arith }

windowed : (first last : ℕ) → 1 ≤ first → first ≤ last → last ≤ 2 → IsWindow 2 first last
windowed first last h k l = record { from_one = h; in_order = k; to_last = omega arith }

-- Questions that are answered on it as the demand asks answer reach as document 01's do, and leave the chain that it names.
module _ (Q : Questions) (a : AnsweredOn Q 4 2 1 (LegalOf 4 2 loaded) forked) where
  agree-forked : AgreeOn Q questions 4 2 1 forked
  agree-forked = agree_on forked-fresh a (demand2.answered 4 2 1 (LegalOf 4 2 loaded) forked forked-fresh)

  same-reach : (first last : ℕ) → 1 ≤ first → first ≤ last → last ≤ 2 → told (Q.reach forked 0 3 first last) ≡ told (reach_answer forked 0 3 first last)
  same-reach first last h k l = ap told (agree-forked.reach 0 3 first last forked-pair (windowed first last h k l))

  same-chain : Q.chain_leaves forked 0 3 1 2 (replicate 3 0) ≡ chain_leaves forked 0 3 1 2 (replicate 3 0)
  same-chain = (agree-forked.chain 0 3 1 2 forked-pair (windowed 1 2 (omega arith) (omega arith) (omega arith)) (replicate 3 0) (omega arith)).1

-- The animal that the first contact word of a buffer leads to.
abbrev goes_to : List ℕ → ℕ
goes_to B = (contact_of (get_or B 0 0)).to

pub rejected_answers : RejectedAnswers
unfolding open_answer open_leaves open_refusal table_words flat cell_words run add_leaves add_refusal is_open is_of well_formed all_below cell_well_formed rows_well_formed row_well_formed all_unused cells_of cell_at cell_of added_cells add departure_of arrival_of enter_both enter put_in_order without_containing has_inside latest_departure earliest_arrival latest_departing earliest_arriving later sooner reaches reach_refusal reach_answer moment_refusal earliest_answer latest_answer last_of_cell departing_before arriving_after connects connected_refusal connected_answer is_reached set_word set_words sum_below any_of reached_refusal reached_words reached_count count_below departure_with leads lowest chain_from chain_of chain_refusal chain_leaves first_of chain_from_of down_from stands Adding.holds
rejected_answers =
    record {
      always_no = λ E d. (let z : ◌≡◌ {A = ℕ} 2 1 = same-reach always_no (on-forked d) 1 2 (omega arith) (omega arith) (omega arith) in omega arith);
      always_yes = λ E d. (let z : ◌≡◌ {A = ℕ} 1 2 = same-reach always_yes (on-forked d) 1 1 (omega arith) (omega arith) (omega arith) in omega arith);
      ends_later = λ E d. (let z : ◌≡◌ {A = ℕ} 1 2 = same-reach ends_later (on-forked d) 1 1 (omega arith) (omega arith) (omega arith) in omega arith);
      begins_later = λ E d. (let z : ◌≡◌ {A = ℕ} 2 1 = same-reach begins_later (on-forked d) 1 2 (omega arith) (omega arith) (omega arith) in omega arith);
      arrives_by_last = λ E d. (let z : ◌≡◌ {A = ℕ} 2 1 = same-reach arrives_by_last (on-forked d) 1 2 (omega arith) (omega arith) (omega arith) in omega arith);
      first_contact_alone = λ E d. (let z : ◌≡◌ {A = ℕ} 1 2 = same-reach first_contact_alone (on-forked d) 1 1 (omega arith) (omega arith) (omega arith) in omega arith);
      last_contact_alone = λ E d. (let z : ◌≡◌ {A = ℕ} 1 2 = same-reach last_contact_alone (on-forked d) 2 2 (omega arith) (omega arith) (omega arith) in omega arith);
      never_arrives = λ E d. (let z : ◌≡◌ {A = ℕ} 0 12 = same-earliest E never_arrives d 1 (omega arith) (omega arith) in omega arith);
      never_departs = λ E d. (let z : ◌≡◌ {A = ℕ} 0 23 = same-latest E never_departs d 3 (omega arith) (omega arith) in omega arith);
      departs_after_first = λ E d. (let z : ◌≡◌ {A = ℕ} 23 12 = same-earliest E departs_after_first d 1 (omega arith) (omega arith) in omega arith);
      arrives_before_last = λ E d. (let z : ◌≡◌ {A = ℕ} 12 23 = same-latest E arrives_before_last d 3 (omega arith) (omega arith) in omega arith);
      arrives_after_last = λ E d. (let z : ◌≡◌ {A = ℕ} 23 12 = same-latest E arrives_after_last d 2 (omega arith) (omega arith) in omega arith);
      other_departure = λ E d. (let z : ◌≡◌ {A = ℕ} 13 23 = same-earliest E other_departure d 2 (omega arith) (omega arith) in omega arith);
      later_arrival = λ E d. (let z : ◌≡◌ {A = ℕ} 13 12 = same-earliest E later_arrival d 1 (omega arith) (omega arith) in omega arith);
      other_arrival = λ E d. (let z : ◌≡◌ {A = ℕ} 13 12 = same-latest E other_arrival d 2 (omega arith) (omega arith) in omega arith);
      earlier_departure = λ E d. (let z : ◌≡◌ {A = ℕ} 13 23 = same-latest E earlier_departure d 3 (omega arith) (omega arith) in omega arith);
      row_before = λ E d. (let z : ◌≡◌ {A = ℕ} 12 23 = same-earliest E row_before d 2 (omega arith) (omega arith) in omega arith);
      row_behind = λ E d. (let z : ◌≡◌ {A = ℕ} 23 12 = same-latest E row_behind d 2 (omega arith) (omega arith) in omega arith);
      always_connected = λ E d. (let z : ◌≡◌ {A = ℕ} 1 2 = same-connected E always_connected d in omega arith);
      reaches_nobody = λ E d. (let z : ◌≡◌ {A = ℕ} 0 1 = same_bit E reaches_nobody d refl in omega arith);
      counts_nobody = λ E d. (let z : ◌≡◌ {A = ℕ} 0 1 = same_count E counts_nobody d in omega arith);
      never_chained = λ E d. (let z : ◌≡◌ {A = ℕ} 0 1 = ap goes_to (same-chain never_chained (on-forked d)) in omega arith);
      chain_arrives_by_last = λ E d. (let z : ◌≡◌ {A = ℕ} 0 1 = ap goes_to (same-chain chain_arrives_by_last (on-forked d)) in omega arith);
      highest_animal = λ E d. (let z : ◌≡◌ {A = ℕ} 2 1 = ap goes_to (same-chain highest_animal (on-forked d)) in omega arith);
      loading_order = λ d. (let z : ◌≡◌ {A = ℕ} 2 1 = ap goes_to (same-chain (loading_order loaded) (d 4 2 1 (replicate 49 0) loaded refl)) in omega arith);
    }
  where
    on-forked : {E : Engine} {Q : Questions} → Demand2 E Q → AnsweredOn Q 4 2 1 (LegalOf 4 2 loaded) forked
    on-forked d = d.answered 4 2 1 (LegalOf 4 2 loaded) forked forked-fresh
