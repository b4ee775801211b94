-- What a tally means after a list of counted calls (document 01, "Adding a contact", and document 02, Seven).
use Rattle.std.specs.Prelude.{ℕ, ◌+◌, ◌≤◌, ◌≡◌, ◌↔◌, Bool, false, cond, length, Ok}
use mathlib.Core.List.{List, [], ◌∷◌, ◌++◌, map, Memᴰ}
use Rattle.journeys.specs.declared.Contact.{Contact}
use Rattle.journeys.specs.Journey.{Contacts, With, Without}
use Rattle.rules.specs.declared.Tally.{Tally}
use Rattle.rules.specs.Checks.{ValidTable}
use Rattle.rules.specs.Adding.{add_leaves}
use Rattle.rules.specs.Logs.{held_contacts}
use Rattle.rules.specs.Fresh.{Fresh}
use Rattle.rules.specs.CallLists.{Accepted}
use Rattle.rules.specs.Orders.{Sorted, Earlier}
use Rattle.rules.specs.Counting.{full_tally, tally_sum, has_room, counted_answer, counted_tally, counted_leaves, counted_removal, counted_removal_tally, counted_removal_leaves}

-- A tally and a table.
pub record TallyAndTable : Type 0 where
  pub tally : Tally
  pub table : List ℕ

-- A step: a counted add of a contact, a counted removal of one with the words of the second table lent for it, or anything else, by the words
-- that the table has after it. A question and a log that is written leave the table's own.
pub data Step : Type 0 where
  adds : Contact → Step
  removes : Contact → List ℕ → Step
  leaves : List ℕ → Step

-- What a step leaves; only counted calls move the tally.
abbrev pub after_step : TallyAndTable → Step → TallyAndTable
after_step s (adds k) = record { tally = counted_tally s.tally s.table k; table = counted_leaves s.tally s.table k }
after_step s (removes k W) = record { tally = counted_removal_tally s.tally s.table W k; table = counted_removal_leaves s.tally s.table W k }
after_step s (leaves U) = record { tally = s.tally; table = U }

-- What a list of steps leaves.
unfoldable pub run_counted : TallyAndTable → List Step → TallyAndTable
run_counted s [] = s
run_counted s (c ∷ A) = run_counted (after_step s c) A

-- The step is a counted call, and the tally has room for it.
abbrev pub is_counted : Tally → Step → Bool
is_counted t (adds k) = has_room t
is_counted t (removes k W) = has_room t
is_counted t (leaves U) = false

-- The counted calls of the list that are not refused with 16, in their order.
unfoldable pub counted : TallyAndTable → List Step → List Step
counted s [] = []
counted s (c ∷ A) = cond (is_counted s.tally c) (c ∷ counted (after_step s c) A) (counted (after_step s c) A)

-- A zero tally beside a table.
abbrev pub zero_tally : List ℕ → TallyAndTable
zero_tally T = record { tally = record { new = 0; known = 0; refused = 0; removed = 0 }; table = T }

-- Each step that is no counted call leaves a table that passes 5 and 6 and holds the contacts that it held before.
abbrev pub OthersKeep : TallyAndTable → List Step → Type 0
OthersKeep s A = (P : List Step) (U : List ℕ) (Q : List Step) → P ++ (leaves U ∷ Q) ≡ A → ValidTable U × (held_contacts U ≡ held_contacts (run_counted s P).table)

-- ---- counted adds only

-- The contact is that of an add of the list that is accepted, made after those before it.
pub record AcceptedCall (s : TallyAndTable) (A : List Contact) (k : Contact) : Type 0 where
  pub earlier : List Contact
  pub later : List Contact
  pub list : earlier ++ (k ∷ later) ≡ A
  pub accepted : Accepted (counted_answer (run_counted s (map adds earlier)).tally (run_counted s (map adds earlier)).table k)

-- What the numbers of a tally say after the list A of counted adds, begun with zeros on a table T without contacts.
module _ (n τ δ : ℕ) (T : List ℕ) (A : List Contact) where
  pub record CountedAdds : Type 0 where
    -- New counts the contacts that were accepted, each once.
    pub different : List Contact
    pub once : Sorted Earlier different
    pub those : (k : Contact) → Memᴰ k different ↔ AcceptedCall (zero_tally T) A k
    pub new_is : (run_counted (zero_tally T) (map adds A)).tally.new ≡ length different
    -- No call is refused with 16 while there are 4,294,967,295 or fewer.
    pub all_counted : length A ≤ full_tally → counted (zero_tally T) (map adds A) ≡ map adds A
    -- The table is fresh over the contacts accepted.
    pub fresh : Fresh n τ δ (AcceptedCall (zero_tally T) A) (run_counted (zero_tally T) (map adds A)).table

pub record CountedRule : Type 1 where
  -- A counted add that is accepted, on any fresh table and with any tally, leaves the table fresh over the larger set,
  pub larger : (n τ δ : ℕ) (S : Contacts) (T : List ℕ) → Fresh n τ δ S T → (t : Tally) (k : Contact) → Accepted (counted_answer t T k) → Fresh n τ δ (With S k) (counted_leaves t T k)
  -- and a counted removal that is done over the smaller.
  pub smaller : (n τ δ : ℕ) (S : Contacts) (T W : List ℕ) → Fresh n τ δ S T → (t : Tally) (k : Contact) → counted_removal t T W k ≡ Ok tt
      → Fresh n τ δ (Without S k) (counted_removal_leaves t T W k)
  -- What the tally means after a list of counted adds.
  pub from_zero : (n τ δ : ℕ) (T : List ℕ) → Fresh n τ δ (λ k. ⊥) T → (A : List Contact) → CountedAdds n τ δ T A
  -- Begun with zeros on a table without contacts, and where nothing else changes which contacts it holds, new is as many as were removed and are
  -- still held.
  pub new_less_removed : (n τ δ : ℕ) (T : List ℕ) → Fresh n τ δ (λ k. ⊥) T → (A : List Step) → OthersKeep (zero_tally T) A
      → let s = run_counted (zero_tally T) A in s.tally.new ≡ s.tally.removed + length (held_contacts s.table)
  -- Begun with zeros, on any words, the four numbers together count the counted calls, but for those refused with 16.
  pub sum_is : (T : List ℕ) (A : List Step) → tally_sum (run_counted (zero_tally T) A).tally ≡ length (counted (zero_tally T) A)
  -- A repeated uncounted add leaves a fresh table as it was.
  pub repeated : (n τ δ : ℕ) (S : Contacts) (T : List ℕ) → Fresh n τ δ S T → (k : Contact) → S k → add_leaves T k ≡ T
