-- Wrong engines that demands 2 and 3 shut out (document 01, last paragraph: "Reject"; removals, document 02, Seven).
use Rattle.std.specs.Prelude.{ℕ, ◌+◌, Bool, true, false, cond, not, ◌&&◌, ◌||◌, List, [], ◌∷◌, ◌++◌, length, get_or, drop, eqb, Option, None, Some, Ok, Err, Result, ⊤}
use Rattle.journeys.specs.declared.Contact.{Contact}
use Rattle.journeys.specs.declared.Interval.{Interval}
use Rattle.journeys.specs.Journey.{interval}
use Rattle.journeys.specs.Cell.{Cell, put_in_order, enter}
use Rattle.journeys.specs.Adding.{Cells, departure_of, arrival_of, enter_both, cells_over}
use Rattle.rules.specs.declared.Refusal.{Refusal}
use Rattle.rules.specs.declared.Refusal.TheVariants.{AnimalsBeyondLimit, NoSuchAnimal, NotHeld}
use Rattle.rules.specs.declared.Added.{Added}
use Rattle.rules.specs.declared.Added.TheVariants.{New, Known}
use Rattle.rules.specs.Answers.{unless, answer_of, done}
use Rattle.rules.specs.Folds.{all_below}
use Rattle.rules.specs.Layout.{table_words, animals, ticks, carry, cells_of}
use Rattle.rules.specs.Checks.{ensure_table}
use Rattle.rules.specs.Adding.{same_interval, stands, ensure_pair, ensure_tick, add_refusal, holds, added_cells, cells_changed}
use Rattle.rules.specs.Orders.{in_log_order}
use Rattle.rules.specs.Logs.{held_contacts, log_words, write_refusal}
use Rattle.rules.specs.Removing.{ensure_same_length, ensure_held, remove_refusal, remaining, table_without, remove_answer, remove_leaves}
use Rattle.rules.specs.CallLists.{Engine, engine}
use Rattle.rules.specs.Demand2.{Questions, Demand2}
use Rattle.rules.specs.Demand3.{Demand3}

-- The part that is given, else document 01's.
abbrev pub given : {A : Type 0} → Option A → A → A
given None a = a
given (Some b) a = b

-- The engine of document 01, but for the parts that are given: what an opening answers and leaves, what an add answers and leaves, and what
-- a log leaves.
abbrev pub engine_but : Option (ℕ → ℕ → ℕ → List ℕ → Result ⊤ Refusal) → Option (ℕ → ℕ → ℕ → List ℕ → List ℕ) → Option (List ℕ → Contact → Result Added Refusal)
    → Option (List ℕ → Contact → List ℕ) → Option (List ℕ → List ℕ → List ℕ) → Engine
engine_but opens opened adds added written =
    record {
      open_answer = given opens engine.open_answer;
      open_leaves = given opened engine.open_leaves;
      add_answer = given adds engine.add_answer;
      add_leaves = given added engine.add_leaves;
      remove_answer = engine.remove_answer;
      remove_leaves = engine.remove_leaves;
      remove_work = engine.remove_work;
      write_answer = engine.write_answer;
      write_leaves = given written engine.write_leaves;
    }

-- Another rule for what an add leaves, for what it answers, and for the contacts of a log.
abbrev with_leaves : (List ℕ → Contact → List ℕ) → Engine
with_leaves f = engine_but None None None (Some f) None

abbrev with_answer : (List ℕ → Contact → Result Added Refusal) → Engine
with_answer f = engine_but None None (Some f) None None

abbrev with_log : (List Contact → List Contact) → Engine
with_log f =
    engine_but None None None None
    (Some (λ T B. unless (write_refusal T B) (log_words (get_or T 0 0) (f (held_contacts T)) ++ drop (length (f (held_contacts T)) + 2) B) B))

-- The engine with another rule for the cells of n animals after a contact.
abbrev with_cells : (ℕ → ℕ → Cells → Contact → Cells) → Engine
with_cells f = with_leaves (λ T k. unless (add_refusal T k) (table_words (animals T) (ticks T) (carry T) (f (animals T) (carry T) (cells_of T) k)) T)

-- ---- what an add leaves

-- An add that leaves the table.
abbrev pub leaves_table : Engine
leaves_table = with_leaves (λ T k. T)

-- Lone contacts, never joined.
abbrev pub lone_contacts : Engine
lone_contacts = with_cells (λ n δ T k x y. cond (eqb x k.from && eqb y k.to) (enter (interval k.tick (k.tick + δ)) (T x y)) (T x y))

-- Only earlier journeys joined: e(y) exists for v alone.
abbrev pub joins_earlier : Engine
joins_earlier = with_cells (λ n δ T k x y. cond (eqb x y) (T x y) (enter_both (departure_of T k x) (cond (eqb y k.to) (Some (k.tick + δ)) None) (T x y)))

-- Only later journeys joined: d(x) exists for u alone.
abbrev pub joins_later : Engine
joins_later = with_cells (λ n δ T k x y. cond (eqb x y) (T x y) (enter_both (cond (eqb x k.from) (Some k.tick) None) (arrival_of δ T k y) (T x y)))

abbrev exists : Option ℕ → Bool
exists None = false
exists (Some t) = true

-- Some pair of x with one of the first m animals gets an interval.
abbrev some_below : ℕ → Cells → Contact → ℕ → ℕ → Bool
some_below δ T k x m = not (all_below (λ y. eqb x y || not (exists (departure_of T k x) && exists (arrival_of δ T k y))) m)

-- Only the first pair: its interval enters, and no pair after it gets one.
abbrev pub first_pair_only : Engine
first_pair_only =
    with_cells (λ n δ T k x y. cond (eqb x y || some_below δ T k x y || not (all_below (λ p. not (some_below δ T k p n)) x)) (T x y) (enter_both (departure_of T k x) (arrival_of δ T k y) (T x y)))

-- Displaced intervals are kept.
abbrev pub keeps_displaced : Engine
keeps_displaced =
    with_cells
    (λ n δ T k x y. cond (eqb x k.from && eqb y k.to) (put_in_order (interval k.tick (k.tick + δ)) (T x y))
    (cond (eqb x y) (T x y) (enter_both (departure_of T k x) (arrival_of δ T k y) (T x y))))

-- ---- what an add answers

abbrev changed : List ℕ → Contact → ℕ
changed T k = cells_changed (animals T) (cells_of T) (added_cells T k)

-- A changed-cell count that is always 1.
abbrev pub counts_one : Engine
counts_one = with_answer (λ T k. answer_of (add_refusal T k) (Ok (cond (holds T k) (Known 1) (New 1))))

-- Known every time.
abbrev pub always_known : Engine
always_known = with_answer (λ T k. answer_of (add_refusal T k) (Ok (Known (changed T k))))

-- New every time.
abbrev pub always_new : Engine
always_new = with_answer (λ T k. answer_of (add_refusal T k) (Ok (New (changed T k))))

-- Refusal of every add.
abbrev pub refuses_adds : Engine
refuses_adds = with_answer (λ T k. Err NoSuchAnimal)

-- Refusal of every opening.
abbrev pub refuses_openings : Engine
refuses_openings = engine_but (Some (λ n τ δ T. Err AnimalsBeyondLimit)) (Some (λ n τ δ T. T)) None None None

-- ---- what a log lists

abbrev backwards : List Contact → List Contact
backwards [] = []
backwards (k ∷ l) = backwards l ++ (k ∷ [])

-- A log that is not sorted.
abbrev pub unsorted_log : Engine
unsorted_log = with_log backwards

-- A log with each contact twice.
abbrev pub repeats_in_log : Engine
repeats_in_log = with_log (λ l. l ++ l)

-- ---- what a removal answers and leaves

-- The engine of documents 01 and 02, but for what a removal answers, what it leaves of the first table and what of the second.
abbrev removes_by : (List ℕ → List ℕ → Contact → Result ⊤ Refusal) → (List ℕ → List ℕ → Contact → List ℕ) → (List ℕ → List ℕ → Contact → List ℕ) → Engine
removes_by answer left work =
    record {
      open_answer = engine.open_answer;
      open_leaves = engine.open_leaves;
      add_answer = engine.add_answer;
      add_leaves = engine.add_leaves;
      remove_answer = answer;
      remove_leaves = left;
      remove_work = work;
      write_answer = engine.write_answer;
      write_leaves = engine.write_leaves;
    }

-- Another rule for the words that both tables hold after a removal.
abbrev with_removed : (List ℕ → Contact → List ℕ) → Engine
with_removed f = removes_by remove_answer (λ T W k. unless (remove_refusal T W k) (f T k) T) (λ T W k. unless (remove_refusal T W k) (f T k) W)

-- Another rule for the cells after a removal, from those before it and those of the remaining contacts.
abbrev with_cells_removed : (ℕ → Cells → Cells → Contact → Cells) → Engine
with_cells_removed f = with_removed (λ T k. table_words (animals T) (ticks T) (carry T) (f (carry T) (cells_of T) (cells_over (carry T) (remaining T k)) k))

-- The intervals of a cell that pass the test.
unfoldable pub those : (Interval → Bool) → Cell → Cell
those p [] = []
those p (i ∷ c) = cond (p i) (i ∷ those p c) (those p c)

-- A removal that leaves the table.
abbrev pub removes_nothing : Engine
removes_nothing = with_removed (λ T k. T)

-- One that takes only the contact's own interval out.
abbrev pub removes_own_interval : Engine
removes_own_interval =
    with_cells_removed (λ δ T U k x y. cond (eqb x k.from && eqb y k.to) (those (λ i. not (same_interval i (interval k.tick (k.tick + δ)))) (T x y)) (T x y))

-- One that also takes the other contacts of the pair out.
abbrev pub removes_others : Engine
removes_others =
    with_removed
    (λ T k. table_words (animals T) (ticks T) (carry T)
    (cells_over (carry T) (in_log_order (animals T) (ticks T) (λ c. holds T c && not (eqb c.from k.from && eqb c.to k.to)))))

-- One that leaves the intervals which only the removed contact made, in every cell but its own.
abbrev pub leaves_joined : Engine
leaves_joined = with_cells_removed (λ δ T U k x y. cond (eqb x k.from && eqb y k.to) (U x y) (T x y))

-- One that forgets the displaced intervals which come back: it only takes intervals out.
abbrev pub forgets_displaced : Engine
forgets_displaced = with_cells_removed (λ δ T U k x y. those (λ i. stands i (U x y)) (T x y))

-- One that leaves the second table as it was.
abbrev pub leaves_work : Engine
leaves_work = removes_by remove_answer remove_leaves (λ T W k. W)

-- Refusal of every removal.
abbrev pub refuses_removals : Engine
refuses_removals = removes_by (λ T W k. Err NotHeld) (λ T W k. T) (λ T W k. W)

-- The checks but that of the contact, and but that of the second table's length.
abbrev unheld_refusal : List ℕ → List ℕ → Contact → Option Refusal
unheld_refusal T W k = ensure_table T (ensure_same_length T W (ensure_pair T k.from k.to (ensure_tick T k.tick None)))

abbrev long_refusal : List ℕ → List ℕ → Contact → Option Refusal
long_refusal T W k = ensure_table T (ensure_pair T k.from k.to (ensure_tick T k.tick (ensure_held T k None)))

-- One that is done with a contact that is not held.
abbrev pub removes_unheld : Engine
removes_unheld =
    removes_by (λ T W k. answer_of (unheld_refusal T W k) done) (λ T W k. unless (unheld_refusal T W k) (table_without T k) T)
    (λ T W k. unless (unheld_refusal T W k) (table_without T k) W)

-- One that takes a second table of any length.
abbrev pub removes_any_length : Engine
removes_any_length =
    removes_by (λ T W k. answer_of (long_refusal T W k) done) (λ T W k. unless (long_refusal T W k) (table_without T k) T)
    (λ T W k. unless (long_refusal T W k) (table_without T k) W)

-- None of them meets demand 3.
pub record Rejected : Type 0 where
  pub leaves_table : ¬ Demand3 leaves_table
  pub lone_contacts : ¬ Demand3 lone_contacts
  pub joins_earlier : ¬ Demand3 joins_earlier
  pub joins_later : ¬ Demand3 joins_later
  pub first_pair_only : ¬ Demand3 first_pair_only
  pub keeps_displaced : ¬ Demand3 keeps_displaced
  pub counts_one : ¬ Demand3 counts_one
  pub always_known : ¬ Demand3 always_known
  pub always_new : ¬ Demand3 always_new
  pub refuses_adds : ¬ Demand3 refuses_adds
  pub refuses_openings : ¬ Demand3 refuses_openings
  pub unsorted_log : ¬ Demand3 unsorted_log
  pub repeats_in_log : ¬ Demand3 repeats_in_log
  pub removes_nothing : ¬ Demand3 removes_nothing
  pub removes_own_interval : ¬ Demand3 removes_own_interval
  pub removes_others : ¬ Demand3 removes_others
  pub leaves_joined : ¬ Demand3 leaves_joined
  pub forgets_displaced : ¬ Demand3 forgets_displaced
  pub leaves_work : ¬ Demand3 leaves_work
  pub refuses_removals : ¬ Demand3 refuses_removals
  pub removes_unheld : ¬ Demand3 removes_unheld
  pub removes_any_length : ¬ Demand3 removes_any_length

-- Those whose tables do not hold the minimal intervals do not meet demand 2, whatever their questions answer.
pub record RejectedTables : Type 1 where
  pub leaves_table : (Q : Questions) → ¬ Demand2 leaves_table Q
  pub lone_contacts : (Q : Questions) → ¬ Demand2 lone_contacts Q
  pub joins_earlier : (Q : Questions) → ¬ Demand2 joins_earlier Q
  pub joins_later : (Q : Questions) → ¬ Demand2 joins_later Q
  pub first_pair_only : (Q : Questions) → ¬ Demand2 first_pair_only Q
  pub keeps_displaced : (Q : Questions) → ¬ Demand2 keeps_displaced Q
  pub removes_nothing : (Q : Questions) → ¬ Demand2 removes_nothing Q
  pub removes_own_interval : (Q : Questions) → ¬ Demand2 removes_own_interval Q
  pub removes_others : (Q : Questions) → ¬ Demand2 removes_others Q
  pub leaves_joined : (Q : Questions) → ¬ Demand2 leaves_joined Q
  pub forgets_displaced : (Q : Questions) → ¬ Demand2 forgets_displaced Q
