-- Each wrong engine goes wrong on a list of calls, so it does not meet demand 3, nor demand 2 where its tables store wrong intervals.
use Rattle.std.specs.Prelude.{Ok, Err, Result}
use mathlib.Core.Path.{◌≡◌, refl, ap}
use mathlib.Core.Logic.{◌↔◌, inl, inr, ⊎_elim}
use mathlib.Core.List.Memᴰ
use mathlib.Core.List.{List, [], ◌∷◌, Memᴰ}
use Prim.Native.Nat.{ℕ, suc, ◌+◌}
use native.Mathlib.Omega.{arith}
use lib.ListN.{get_or, replicate}
use Rattle.journeys.specs.declared.Contact.{Contact}
use Rattle.journeys.specs.declared.Interval.{Interval}
use Rattle.journeys.specs.Journey.{contact, interval}
use Rattle.journeys.specs.Cell.{later, sooner, latest_departing, earliest_arriving, latest_departure, earliest_arrival, has_inside, without_containing, put_in_order, enter}
use Rattle.journeys.specs.Adding.{departure_of, arrival_of, enter_both, add, add_all, cells_over}
use Rattle.journeys.proofs.Tests.{never}
use Rattle.words.specs.Layout.{is_of}
use Rattle.rules.specs.declared.Refusal.{Refusal}
use Rattle.rules.specs.declared.Added.{Added}
use Rattle.rules.specs.declared.Added.TheVariants.{New, Known}
use Rattle.rules.specs.Folds.{flat, all_below, sum_below, count_below}
use Rattle.rules.specs.Layout.{cell_words, table_words, cell_at, cell_of, cells_of}
use Rattle.rules.specs.Checks.{is_open, row_well_formed, rows_well_formed, all_unused, cell_well_formed, well_formed}
use Rattle.rules.specs.Opening.{open_refusal, open_answer, open_leaves}
use Rattle.rules.specs.Adding.{Legal, stands, same_cell, cells_changed, add_refusal, added_cells, holds, add_answer, add_leaves}
use Rattle.rules.specs.Logs.{held_contacts, log_words, write_refusal, write_answer, write_leaves}
use Rattle.rules.specs.Removing.{remove_refusal, remaining, table_without, remove_answer, remove_leaves, remove_work}
use Rattle.rules.specs.CallLists.{Engine, engine, Call, addition, removal, run_list, table_after, SetAfterAll, SetLeft}
use Rattle.rules.specs.Orders.{Sorted, Earlier, listed, in_log_order}
use Rattle.rules.specs.Windows.{IsPair}
use Rattle.rules.specs.Demand2.{Questions, questions, StoredIn, Demand2}
use Rattle.rules.specs.Demand3.{Demand3}
use Rattle.rules.specs.Determined.{AgreeAfter}
use Rattle.rules.specs.Wrong.{leaves_table, lone_contacts, joins_earlier, joins_later, first_pair_only, keeps_displaced, counts_one, always_known, always_new, refuses_adds, refuses_openings, unsorted_log, repeats_in_log, those, removes_nothing, removes_own_interval, removes_others, leaves_joined, forgets_displaced, leaves_work, refuses_removals, removes_unheld, removes_any_length, Rejected, RejectedTables}
use Rattle.rules.proofs.Demand3.{demand3}
use Rattle.rules.proofs.Determined.{determined}
use Rattle.rules.proofs.Demand2.{demand2}
use Rattle.rules.proofs.DeterminedAnswers.{determined_answers}

-- A table of three animals and two ticks, before it is opened.
abbrev blank : List ℕ
blank = replicate 28 0

-- An engine that meets the demand leaves on it what the engine of document 01 leaves, word for word.
module _ (E : Engine) (d : Demand3 E) (p : E.open_answer 3 2 1 blank ≡ Ok tt) (A : List Call) where
  agree : AgreeAfter E engine 3 2 1 blank A
  agree = (determined E engine d demand3).after 3 2 1 blank A p

  same_word : (i : ℕ) → get_or (table_after E 3 2 1 blank A) i 0 ≡ get_or (table_after engine 3 2 1 blank A) i 0
  same_word i = ap (λ (l : List ℕ). get_or l i 0) agree.tables

  same_answer : (k : Contact) → Legal 3 2 k → E.add_answer (table_after E 3 2 1 blank A) k ≡ engine.add_answer (table_after engine 3 2 1 blank A) k
  same_answer = agree.answers

-- An answer as a number.
abbrev told : Result Added Refusal → ℕ
told (Ok (New k)) = k + k
told (Ok (Known k)) = suc (k + k)
told (Err r) = 100

first : Legal 3 2 (contact 0 1 1)
first = record { from_below = omega arith; to_below = omega arith; apart = λ e. omega arith; from_one = omega arith; to_last = omega arith }

second : Legal 3 2 (contact 0 1 2)
second = record { from_below = omega arith; to_below = omega arith; apart = λ e. omega arith; from_one = omega arith; to_last = omega arith }

abbrev twice : List Contact
twice = contact 0 1 1 ∷ contact 0 1 2 ∷ []

abbrev added_twice : List Call
added_twice = addition (contact 0 1 1) ∷ addition (contact 0 1 2) ∷ []

twice-left : (k : Contact) → Memᴰ k twice ↔ SetLeft 3 2 added_twice k
unfolding SetAfterAll
twice-left k = (to, of)
  where
    to : Memᴰ k twice → SetLeft 3 2 added_twice k
    to (Memᴰ.head e) = inl (inr (e, first))
    to (Memᴰ.tail (Memᴰ.head e)) = inr (e, second)
    to (Memᴰ.tail (Memᴰ.tail m)) = absurd (Memᴰ.not-nil m)

    of : SetLeft 3 2 added_twice k → Memᴰ k twice
    of (inl (inl b)) = absurd b
    of (inl (inr (e, l))) = Memᴰ.head e
    of (inr (e, l)) = Memᴰ.tail (Memᴰ.head e)

twice-sorted : Sorted Earlier twice
twice-sorted = (inl (omega arith), (tt, tt))

-- The same word in a log of these two contacts.
same_logged : (E : Engine) → Demand3 E → E.open_answer 3 2 1 blank ≡ Ok tt → (i : ℕ)
    → get_or (E.write_leaves (table_after E 3 2 1 blank added_twice) (replicate 6 0)) i 0 ≡ get_or (engine.write_leaves (table_after engine 3 2 1 blank added_twice) (replicate 6 0)) i 0
same_logged E d p i = ap (λ (l : List ℕ). get_or l i 0) ((agree E d p added_twice).log twice twice-sorted twice-left (replicate 6 0) (omega arith))

-- Lists with a removal: of the only contact, of the first of two that made an interval together, of one of two of a pair, and of one that
-- displaced an interval.
abbrev one-removed : List Call
one-removed = addition (contact 0 2 1) ∷ removal (contact 0 2 1) blank ∷ []

abbrev joined-removed : List Call
joined-removed = addition (contact 0 1 1) ∷ addition (contact 1 2 2) ∷ removal (contact 0 1 1) blank ∷ []

abbrev other-removed : List Call
other-removed = addition (contact 0 1 1) ∷ addition (contact 0 1 2) ∷ removal (contact 0 1 1) blank ∷ []

abbrev displacing_removed : List Call
displacing_removed = addition (contact 0 1 1) ∷ addition (contact 1 2 2) ∷ addition (contact 0 2 2) ∷ removal (contact 0 2 2) blank ∷ []

-- A list of one add.
abbrev added-one : List Call
added-one = addition (contact 0 1 1) ∷ []

pub rejected : Rejected
unfolding open_answer open_leaves open_refusal table_words flat cell_words run_list add_leaves add_answer add_refusal is_open is_of well_formed all_below cell_well_formed rows_well_formed row_well_formed all_unused cells_of cell_at cell_of added_cells add departure_of arrival_of enter_both enter put_in_order without_containing has_inside latest_departure earliest_arrival latest_departing earliest_arriving later sooner stands holds cells_changed sum_below count_below same_cell in_log_order listed held_contacts log_words write_refusal write_answer write_leaves those remove_refusal remaining table_without remove_answer remove_leaves remove_work cells_over add_all SetAfterAll
rejected =
    record {
      leaves_table = λ d. (let w : ◌≡◌ {A = ℕ} 0xC000_0000 0xC000_0001 = same_word leaves_table d refl (addition (contact 0 2 1) ∷ []) 7 in omega arith);
      lone_contacts = λ d. (let w : ◌≡◌ {A = ℕ} 0xC000_0000 0xC000_0001 = same_word lone_contacts d refl (addition (contact 0 1 1) ∷ addition (contact 1 2 2) ∷ []) 7 in omega arith);
      joins_earlier = λ d. (let w : ◌≡◌ {A = ℕ} 0xC000_0000 0xC000_0001 = same_word joins_earlier d refl (addition (contact 1 2 2) ∷ addition (contact 0 1 1) ∷ []) 7 in omega arith);
      joins_later = λ d. (let w : ◌≡◌ {A = ℕ} 0xC000_0000 0xC000_0001 = same_word joins_later d refl (addition (contact 0 1 1) ∷ addition (contact 1 2 2) ∷ []) 7 in omega arith);
      first_pair_only = λ d. (let w : ◌≡◌ {A = ℕ} 0xC000_0000 0xC000_0001 = same_word first_pair_only d refl (addition (contact 0 1 1) ∷ addition (contact 1 2 2) ∷ []) 16 in omega arith);
      keeps_displaced = λ d. (let w : ◌≡◌ {A = ℕ} 0xC000_0002 0xC000_0001 = same_word keeps_displaced d refl (addition (contact 0 1 1) ∷ addition (contact 1 2 2) ∷ addition (contact 0 2 2) ∷ []) 7 in omega arith);
      counts_one = λ d. (let w : ◌≡◌ {A = ℕ} 3 1 = ap told (same_answer counts_one d refl (addition (contact 0 1 1) ∷ []) (contact 0 1 1) first) in omega arith);
      always_known = λ d. (let w : ◌≡◌ {A = ℕ} 3 2 = ap told (same_answer always_known d refl [] (contact 0 1 1) first) in omega arith);
      always_new = λ d. (let w : ◌≡◌ {A = ℕ} 0 1 = ap told (same_answer always_new d refl (addition (contact 0 1 1) ∷ []) (contact 0 1 1) first) in omega arith);
      refuses_adds = λ d. (let w : ◌≡◌ {A = ℕ} 100 2 = ap told (same_answer refuses_adds d refl [] (contact 0 1 1) first) in omega arith);
      refuses_openings = λ d. (let w : Err _ ≡ (Ok tt) = ((determined refuses_openings engine d demand3).openings 3 2 1 blank).1 refl in never cc);
      unsorted_log = λ d. (let w : ◌≡◌ {A = ℕ} 0x4000_0401 0x4000_0400 = same_logged unsorted_log d refl 1 in omega arith);
      repeats_in_log = λ d. (let w : ◌≡◌ {A = ℕ} 0x4000_0400 0xC000_0002 = same_logged repeats_in_log d refl 3 in omega arith);
      removes_nothing = λ d. (let w : ◌≡◌ {A = ℕ} 0xC000_0001 0xC000_0000 = same_word removes_nothing d refl one-removed 7 in omega arith);
      removes_own_interval = λ d. (let w : ◌≡◌ {A = ℕ} 0xC000_0001 0xC000_0000 = same_word removes_own_interval d refl joined-removed 7 in omega arith);
      removes_others = λ d. (let w : ◌≡◌ {A = ℕ} 0xC000_0000 0xC000_0001 = same_word removes_others d refl other-removed 4 in omega arith);
      leaves_joined = λ d. (let w : ◌≡◌ {A = ℕ} 0xC000_0001 0xC000_0000 = same_word leaves_joined d refl joined-removed 7 in omega arith);
      forgets_displaced = λ d. (let w : ◌≡◌ {A = ℕ} 0xC000_0000 0xC000_0001 = same_word forgets_displaced d refl displacing_removed 7 in omega arith);
      leaves_work = λ d.
          (let w : ◌≡◌ {A = ℕ} 0 0x8008_0001 = ap (λ (l : List ℕ). get_or l 0 0) ((agree leaves_work d refl added-one).works (contact 0 1 1) blank (inr (refl, first), refl)) in omega arith);
      refuses_removals = λ d. (let w : Err _ ≡ (Ok tt) = ((agree refuses_removals d refl added-one).accepted (removal (contact 0 1 1) blank)).1 refl in never cc);
      removes_unheld = λ d. (let w : Err _ ≡ (Ok tt) = ((agree removes_unheld d refl added-one).accepted (removal (contact 0 1 2) blank)).0 refl in never cc);
      removes_any_length = λ d. (let w : Err _ ≡ (Ok tt) = ((agree removes_any_length d refl added-one).accepted (removal (contact 0 1 1) [])).0 refl in never cc);
    }

-- ---- demand 2

-- An engine that meets the demand stores on the table what the engine of document 01 stores.
module _ (E : Engine) (Q : Questions) (d : Demand2 E Q) (p : E.open_answer 3 2 1 blank ≡ Ok tt) (A : List Call) (u v : ℕ) (h : IsPair 3 u v) (i : Interval) where
  same-stored : StoredIn 3 2 (table_after E 3 2 1 blank A) u v i ↔ StoredIn 3 2 (table_after engine 3 2 1 blank A) u v i
  unfolding open_answer open_refusal
  same-stored = (determined_answers E engine Q questions d demand2).stored 3 2 1 blank A p refl u v h i

pair-02 : IsPair 3 0 2
pair-02 = record { from_below = omega arith; to_below = omega arith; apart = λ e. omega arith }

pair-01 : IsPair 3 0 1
pair-01 = record { from_below = omega arith; to_below = omega arith; apart = λ e. omega arith }

pair-12 : IsPair 3 1 2
pair-12 = record { from_below = omega arith; to_below = omega arith; apart = λ e. omega arith }

-- An interval of one departure is not in a cell of another.
not_there : (i j : Interval) → (i.departure ≡ j.departure → ⊥) → Memᴰ i (j ∷ []) → ⊥
not_there i j h m = ⊎_elim (λ e. h (ap (λ (k : Interval). k.departure) e)) Memᴰ.not-nil (Memᴰ.cases_cons m)

pub rejected_tables : RejectedTables
unfolding open_answer open_leaves open_refusal table_words flat cell_words run_list add_leaves add_refusal is_open is_of well_formed all_below cell_well_formed rows_well_formed row_well_formed all_unused cells_of cell_at cell_of added_cells add departure_of arrival_of enter_both enter put_in_order without_containing has_inside latest_departure earliest_arrival latest_departing earliest_arriving later sooner stands holds in_log_order listed those remove_refusal remaining table_without remove_answer remove_leaves cells_over add_all
rejected_tables =
    record {
      leaves_table = λ Q d. Memᴰ.not-nil ((same-stored leaves_table Q d refl (addition (contact 0 2 1) ∷ []) 0 2 pair-02 (interval 1 2)).1 (Memᴰ.head refl));
      lone_contacts = λ Q d. Memᴰ.not-nil ((same-stored lone_contacts Q d refl (addition (contact 0 1 1) ∷ addition (contact 1 2 2) ∷ []) 0 2 pair-02 (interval 1 3)).1 (Memᴰ.head refl));
      joins_earlier = λ Q d. Memᴰ.not-nil ((same-stored joins_earlier Q d refl (addition (contact 1 2 2) ∷ addition (contact 0 1 1) ∷ []) 0 2 pair-02 (interval 1 3)).1 (Memᴰ.head refl));
      joins_later = λ Q d. Memᴰ.not-nil ((same-stored joins_later Q d refl (addition (contact 0 1 1) ∷ addition (contact 1 2 2) ∷ []) 0 2 pair-02 (interval 1 3)).1 (Memᴰ.head refl));
      first_pair_only = λ Q d. Memᴰ.not-nil ((same-stored first_pair_only Q d refl (addition (contact 0 1 1) ∷ addition (contact 1 2 2) ∷ []) 1 2 pair-12 (interval 2 3)).1 (Memᴰ.head refl));
      keeps_displaced = λ Q d.
          not_there (interval 1 3) (interval 2 3) (λ e. omega arith)
          ((same-stored keeps_displaced Q d refl (addition (contact 0 1 1) ∷ addition (contact 1 2 2) ∷ addition (contact 0 2 2) ∷ []) 0 2 pair-02 (interval 1 3)).0 (Memᴰ.head refl));
      removes_nothing = λ Q d. Memᴰ.not-nil ((same-stored removes_nothing Q d refl one-removed 0 2 pair-02 (interval 1 2)).0 (Memᴰ.head refl));
      removes_own_interval = λ Q d. Memᴰ.not-nil ((same-stored removes_own_interval Q d refl joined-removed 0 2 pair-02 (interval 1 3)).0 (Memᴰ.head refl));
      removes_others = λ Q d. Memᴰ.not-nil ((same-stored removes_others Q d refl other-removed 0 1 pair-01 (interval 2 3)).1 (Memᴰ.head refl));
      leaves_joined = λ Q d. Memᴰ.not-nil ((same-stored leaves_joined Q d refl joined-removed 0 2 pair-02 (interval 1 3)).0 (Memᴰ.head refl));
      forgets_displaced = λ Q d. Memᴰ.not-nil ((same-stored forgets_displaced Q d refl displacing_removed 0 2 pair-02 (interval 1 3)).1 (Memᴰ.head refl));
    }
