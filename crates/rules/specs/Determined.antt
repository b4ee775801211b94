-- Any two engines that meet demand 3 agree on the tables, on which calls are accepted, on the answers of legal calls, on the second tables of
-- removals and on the logs; any two with questions that meet demand 2 agree on what their tables store and on the answers.
use Rattle.std.specs.Prelude.{ℕ, ◌+◌, ◌≤◌, ◌<◌, ◌≡◌, ◌↔◌, length, Ok}
use mathlib.Core.List.{List, Memᴰ}
use Rattle.journeys.specs.declared.Contact.{Contact}
use Rattle.journeys.specs.declared.Interval.{Interval}
use Rattle.journeys.specs.Journey.{Contacts}
use Rattle.rules.specs.Limits.{max_animals}
use Rattle.rules.specs.Adding.{Legal}
use Rattle.rules.specs.CallLists.{Engine, Call, removal, table_after, AcceptedOn, LegalCall, SetLeft}
use Rattle.rules.specs.Orders.{Sorted, Earlier}
use Rattle.rules.specs.Windows.{IsWindow, IsPair}
use Rattle.rules.specs.Fresh.{Fresh}
use Rattle.rules.specs.Demand2.{Questions, StoredIn, BitSet, Demand2}
use Rattle.rules.specs.Demand3.{Demand3}

-- ---- demand 3

-- Two engines agree on what list A leaves, on a table opened over some words, and on the calls that follow.
pub record AgreeAfter (E F : Engine) (n τ δ : ℕ) (words : List ℕ) (A : List Call) : Type 0 where
  -- Every word of the table.
  pub tables : table_after E n τ δ words A ≡ table_after F n τ δ words A
  -- Which calls are accepted.
  pub accepted : (c : Call) → AcceptedOn E (table_after E n τ δ words A) c ↔ AcceptedOn F (table_after F n τ δ words A) c
  -- The answers of legal adds.
  pub answers : (k : Contact) → Legal n τ k → E.add_answer (table_after E n τ δ words A) k ≡ F.add_answer (table_after F n τ δ words A) k
  -- The answers of legal removals, and every word of their second tables.
  pub removals : (k : Contact) (W : List ℕ) → LegalCall n τ (SetLeft n τ A) (removal k W)
      → E.remove_answer (table_after E n τ δ words A) W k ≡ F.remove_answer (table_after F n τ δ words A) W k
  pub works : (k : Contact) (W : List ℕ) → LegalCall n τ (SetLeft n τ A) (removal k W)
      → E.remove_work (table_after E n τ δ words A) W k ≡ F.remove_work (table_after F n τ δ words A) W k
  -- The log, its answer and every word of a buffer that is long enough.
  pub written : (l : List Contact) → Sorted Earlier l → ((k : Contact) → Memᴰ k l ↔ SetLeft n τ A k) → (B : List ℕ) → length l + 2 ≤ length B
      → E.write_answer (table_after E n τ δ words A) B ≡ F.write_answer (table_after F n τ δ words A) B
  pub log : (l : List Contact) → Sorted Earlier l → ((k : Contact) → Memᴰ k l ↔ SetLeft n τ A k) → (B : List ℕ) → length l + 2 ≤ length B
      → E.write_leaves (table_after E n τ δ words A) B ≡ F.write_leaves (table_after F n τ δ words A) B

pub record Agree (E F : Engine) : Type 0 where
  -- Which openings are accepted.
  pub openings : (n τ δ : ℕ) (words : List ℕ) → (E.open_answer n τ δ words ≡ Ok tt) ↔ (F.open_answer n τ δ words ≡ Ok tt)
  pub after : (n τ δ : ℕ) (words : List ℕ) (A : List Call) → E.open_answer n τ δ words ≡ Ok tt → AgreeAfter E F n τ δ words A

abbrev pub Determined : Type 0
Determined = (E F : Engine) → Demand3 E → Demand3 F → Agree E F

-- ---- demand 2

-- Two sets of questions agree on a table of n animals, τ ticks and carry time δ.
pub record AgreeOn (Q R : Questions) (n τ δ : ℕ) (T : List ℕ) : Type 0 where
  pub reach : (u v first last : ℕ) → IsPair n u v → IsWindow τ first last → Q.reach T u v first last ≡ R.reach T u v first last
  pub earliest : (u v first : ℕ) → IsPair n u v → 1 ≤ first → first ≤ τ + δ → Q.earliest T u v first ≡ R.earliest T u v first
  pub latest : (u v last : ℕ) → IsPair n u v → 1 ≤ last → last ≤ τ + δ → Q.latest T u v last ≡ R.latest T u v last
  pub connected : (first last : ℕ) → IsWindow τ first last → Q.connected T first last ≡ R.connected T first last
  pub reached : (u first last : ℕ) → u < n → IsWindow τ first last → Q.reached T u first last ≡ R.reached T u first last
  pub reached_bits : (u first last : ℕ) → u < n → IsWindow τ first last
      → (i : ℕ) → i < max_animals → BitSet (Q.reached_words T u first last) i ↔ BitSet (R.reached_words T u first last) i
  pub reached_count : (u first last : ℕ) → u < n → IsWindow τ first last → Q.reached_count T u first last ≡ R.reached_count T u first last
  pub chain : (u v first last : ℕ) → IsPair n u v → IsWindow τ first last → (B : List ℕ) → n ≤ length B + 1
      → (Q.chain T u v first last B ≡ R.chain T u v first last B) × (Q.chain_leaves T u v first last B ≡ R.chain_leaves T u v first last B)

pub record AgreeWith (E F : Engine) (Q R : Questions) : Type 1 where
  -- The same intervals are stored after any list of calls on an opened table.
  pub stored : (n τ δ : ℕ) (words : List ℕ) (A : List Call) → E.open_answer n τ δ words ≡ Ok tt → F.open_answer n τ δ words ≡ Ok tt → (u v : ℕ) → IsPair n u v
      → (i : Interval) → StoredIn n τ (table_after E n τ δ words A) u v i ↔ StoredIn n τ (table_after F n τ δ words A) u v i
  -- The answers on any fresh table are the same.
  pub answers : (n τ δ : ℕ) (S : Contacts) (T : List ℕ) → Fresh n τ δ S T → AgreeOn Q R n τ δ T

abbrev pub DeterminedAnswers : Type 1
DeterminedAnswers = (E F : Engine) (Q R : Questions) → Demand2 E Q → Demand2 F R → AgreeWith E F Q R
