-- Lists of calls (document 01, "Lists of calls", and document 02, Seven): what an engine is, the table that a list of adds and removals leaves,
-- which of its calls are legal, and the set of contacts that it leaves; lists of adds alone, how many of them are answered with new, and their
-- legal contacts.
use Rattle.std.specs.Prelude.{ℕ, ◌+◌, ◌≡◌, ◌⊎◌, length, Ok, Err, Result, ⊤}
use mathlib.Core.List.{List, [], ◌∷◌, Memᴰ}
use Rattle.journeys.specs.declared.Contact.{Contact}
use Rattle.journeys.specs.Journey.{Contacts}
use Rattle.rules.specs.declared.Refusal.{Refusal}
use Rattle.rules.specs.declared.Added.{Added}
use Rattle.rules.specs.declared.Added.TheVariants.{New, Known}
use Rattle.rules.specs.Layout.{table_length}
use Rattle.rules.specs.Opening.{open_answer, open_leaves}
use Rattle.rules.specs.Adding.{Legal, add_answer, add_leaves}
use Rattle.rules.specs.Logs.{write_answer, write_leaves}
use Rattle.rules.specs.Removing.{remove_answer, remove_leaves, remove_work}

-- What opening, uncounted adding, removing and log writing answer, and the words that they leave; a removal takes the words of its table, those
-- of the second table that is lent for its work, and the contact. A contact is any three numbers.
pub record Engine : Type 0 where
  pub open_answer : ℕ → ℕ → ℕ → List ℕ → Result ⊤ Refusal
  pub open_leaves : ℕ → ℕ → ℕ → List ℕ → List ℕ
  pub add_answer : List ℕ → Contact → Result Added Refusal
  pub add_leaves : List ℕ → Contact → List ℕ
  pub remove_answer : List ℕ → List ℕ → Contact → Result ⊤ Refusal
  pub remove_leaves : List ℕ → List ℕ → Contact → List ℕ
  pub remove_work : List ℕ → List ℕ → Contact → List ℕ
  pub write_answer : List ℕ → List ℕ → Result ℕ Refusal
  pub write_leaves : List ℕ → List ℕ → List ℕ

-- The engine of documents 01 and 02: the definitions that the contracts of these calls cite.
abbrev pub engine : Engine
engine =
    record {
      open_answer = open_answer;
      open_leaves = open_leaves;
      add_answer = add_answer;
      add_leaves = add_leaves;
      remove_answer = remove_answer;
      remove_leaves = remove_leaves;
      remove_work = remove_work;
      write_answer = write_answer;
      write_leaves = write_leaves;
    }

-- The add is accepted: its answer is no refusal.
abbrev pub Accepted : Result Added Refusal → Type 0
Accepted (Ok (New k)) = Unit {0}
Accepted (Ok (Known k)) = Unit {0}
Accepted (Err r) = ⊥

-- ---- lists of adds and removals

-- A call: an uncounted add of a contact, or a removal of one with the words of the second table lent for it.
pub data Call : Type 0 where
  addition : Contact → Call
  removal : Contact → List ℕ → Call

-- The words of the table that a call leaves.
abbrev pub leaves_after : Engine → List ℕ → Call → List ℕ
leaves_after E T (addition k) = E.add_leaves T k
leaves_after E T (removal k W) = E.remove_leaves T W k

-- A list of calls made on a table, each on the words that the one before it left.
unfoldable pub run_list : Engine → List ℕ → List Call → List ℕ
run_list E T [] = T
run_list E T (c ∷ A) = run_list E (leaves_after E T c) A

-- The table that a list of calls leaves, made on a table freshly opened over some words.
abbrev pub table_after : Engine → ℕ → ℕ → ℕ → List ℕ → List Call → List ℕ
table_after E n τ δ words A = run_list E (E.open_leaves n τ δ words) A

-- The call is accepted on the table.
abbrev pub AcceptedOn : Engine → List ℕ → Call → Type 0
AcceptedOn E T (addition k) = Accepted (E.add_answer T k)
AcceptedOn E T (removal k W) = E.remove_answer T W k ≡ Ok tt

-- On a table of n animals and τ ticks.
module _ (n τ : ℕ) where
  -- The call is legal where the calls before it left the contacts S: an add of a legal contact, or a removal of one of S with a second table as
  -- long as the first.
  abbrev pub LegalCall : Contacts → Call → Type 0
  LegalCall S (addition k) = Legal n τ k
  LegalCall S (removal k W) = S k × (length W ≡ table_length n τ)

  -- The contact is put in, where it is legal.
  abbrev pub PutIn : Contacts → Contact → Contacts
  PutIn S k c = S c ⊎ ((c ≡ k) × Legal n τ k)

  -- The contact is taken out, where the second table is as long as the first.
  abbrev pub TakenOut : Contacts → Contact → List ℕ → Contacts
  TakenOut S k W c = S c × (¬ ((c ≡ k) × (length W ≡ table_length n τ)))

  -- The contacts that a call leaves where S was there before.
  abbrev pub SetAfter : Contacts → Call → Contacts
  SetAfter S (addition k) c = PutIn S k c
  SetAfter S (removal k W) c = TakenOut S k W c

  -- The contacts that a list of calls leaves where S was there before.
  unfoldable pub SetAfterAll : Contacts → List Call → Contacts
  SetAfterAll S [] = S
  SetAfterAll S (c ∷ A) = SetAfterAll (SetAfter S c) A

  -- The contacts that a list of calls leaves on a table freshly opened.
  abbrev pub SetLeft : List Call → Contacts
  SetLeft A = SetAfterAll (λ k. ⊥) A

-- ---- lists of adds

-- A list of contacts added to a table, each to the words that the one before it left.
unfoldable pub run : Engine → List ℕ → List Contact → List ℕ
run E T [] = T
run E T (k ∷ A) = run E (E.add_leaves T k) A

-- A table freshly opened over some words, with the contacts added.
abbrev pub table_with : ℕ → ℕ → ℕ → List ℕ → List Contact → List ℕ
table_with n τ δ words A = run engine (open_leaves n τ δ words) A

-- 1 where the answer is new, else 0.
abbrev pub new_one : Result Added Refusal → ℕ
new_one (Ok (New k)) = 1
new_one (Ok (Known k)) = 0
new_one (Err r) = 0

-- How many calls of the list are answered with new, each on the words that the one before it left.
unfoldable pub new_adds : Engine → List ℕ → List Contact → ℕ
new_adds E T [] = 0
new_adds E T (k ∷ A) = new_one (E.add_answer T k) + new_adds E (E.add_leaves T k) A

-- The legal contacts of a list, as a set.
abbrev pub LegalOf : ℕ → ℕ → List Contact → Contacts
LegalOf n τ A k = Memᴰ k A × Legal n τ k
