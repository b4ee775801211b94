-- The calls that change a table's contacts, what a list of them leaves, and the contacts that it leaves (document 02: tables built from an
-- opening by calls).
use Rattle.std.specs.Prelude.{◌≡◌, ◌↔◌, ◌⊎◌, ℕ, get_or, Ok}
use mathlib.Core.List.{List, [], ◌∷◌, Memᴰ}
use Rattle.journeys.specs.declared.Contact.{Contact}
use Rattle.journeys.specs.Journey.{Contacts, Same}
use Rattle.words.specs.Words.{opening_word}
use Rattle.rules.specs.Checks.{ValidTable}
use Rattle.rules.specs.Opening.{open_answer, open_leaves}
use Rattle.rules.specs.Adding.{add_leaves}
use Rattle.rules.specs.Logs.{held_contacts}
use Rattle.rules.specs.Fresh.{Fresh}
use Rattle.rules.specs.Removing.{remove_leaves}
use Rattle.rules.specs.CallLists.{PutIn, TakenOut}
use Rattle.rules.specs.Joining.{join_leaves}
use Rattle.rules.specs.Stays.{stays_of, stays_leaves}
use Rattle.rules.specs.StayRule.{AreStays, Met}

-- A call: the contact that is added, the contact that is removed and the words of the second table lent for it, the words of the second table
-- that is joined, or the words of the stays whose contacts are added.
pub data TableCall : Type 0 where
  adding : Contact → TableCall
  removing : Contact → List ℕ → TableCall
  joining : List ℕ → TableCall
  staying : List ℕ → TableCall

-- The table that the call leaves.
abbrev pub call_leaves : List ℕ → TableCall → List ℕ
call_leaves T (adding k) = add_leaves T k
call_leaves T (removing k W) = remove_leaves T W k
call_leaves T (joining S) = join_leaves T S
call_leaves T (staying W) = stays_leaves T W

-- The table that a list of calls leaves, each made on the words that the one before it left.
unfoldable pub run_calls : List ℕ → List TableCall → List ℕ
run_calls T [] = T
run_calls T (c ∷ A) = run_calls (call_leaves T c) A

module _ (n τ δ : ℕ) where
  -- S can be joined into a table of these numbers: it passes 5 and 6 and has their opening word.
  pub record Joinable (S : List ℕ) : Type 0 where
    pub valid : ValidTable S
    pub opening : get_or S 0 0 ≡ opening_word n τ δ

  -- The contacts that the call leaves where P was there before: an add puts a legal contact in, a removal with a second table as long as the
  -- first takes its contact out, a join puts in the contacts held by a table that can be joined, a list of stays the contacts that two of its
  -- records tell; a call that is refused leaves P.
  abbrev pub ContactsAfter : Contacts → TableCall → Contacts
  ContactsAfter P (adding k) c = PutIn n τ P k c
  ContactsAfter P (removing k W) c = TakenOut n τ P k W c
  ContactsAfter P (joining S) c = P c ⊎ (Memᴰ c (held_contacts S) × Joinable S)
  ContactsAfter P (staying W) c = P c ⊎ (Met (stays_of W) c × AreStays n τ W)

  -- The contacts that a list of calls leaves.
  unfoldable pub ContactsLeft : Contacts → List TableCall → Contacts
  ContactsLeft P [] = P
  ContactsLeft P (c ∷ A) = ContactsLeft (ContactsAfter P c) A

-- From an accepted opening, after any list of such calls, refused ones included, the table is fresh over the contacts that they leave.
pub record TableCalls : Type 1 where
  pub fresh_after : (n τ δ : ℕ) (words : List ℕ) (A : List TableCall) → open_answer n τ δ words ≡ Ok tt → Fresh n τ δ (ContactsLeft n τ δ (λ k. ⊥) A) (run_calls (open_leaves n τ δ words) A)
  -- So two such lists leave equal tables exactly when they leave the same contacts.
  pub equal_tables : (n τ δ : ℕ) (wordsA wordsB : List ℕ) (A B : List TableCall) → open_answer n τ δ wordsA ≡ Ok tt → open_answer n τ δ wordsB ≡ Ok tt
      → (run_calls (open_leaves n τ δ wordsA) A ≡ run_calls (open_leaves n τ δ wordsB) B) ↔ Same (ContactsLeft n τ δ (λ k. ⊥) A) (ContactsLeft n τ δ (λ k. ⊥) B)
