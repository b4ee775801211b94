-- On any table that passes 5 and 6, whether adds built it or not, what a list of contact calls leaves and how many of them are new is a matter of
-- which legal contacts they are: neither their order nor their repeats count.
use Rattle.std.specs.Prelude.{◌≡◌, ◌↔◌, ◌⊎◌, ℕ}
use mathlib.Core.List.{List, Memᴰ}
use Rattle.journeys.specs.declared.Contact.{Contact}
use Rattle.journeys.specs.Journey.{Same}
use Rattle.rules.specs.Layout.{animals, ticks}
use Rattle.rules.specs.Checks.{ValidTable}
use Rattle.rules.specs.Logs.{held_contacts}
use Rattle.rules.specs.CallLists.{engine, run, new_adds, LegalOf}

pub record AnyOrder : Type 0 where
  -- Two lists of calls with the same legal contacts leave equal tables,
  pub same_tables : (T : List ℕ) → ValidTable T → (A B : List Contact) → Same (LegalOf (animals T) (ticks T) A) (LegalOf (animals T) (ticks T) B) → run engine T A ≡ run engine T B
  -- and as many of their contacts are new.
  pub same_number : (T : List ℕ) → ValidTable T → (A B : List Contact) → Same (LegalOf (animals T) (ticks T) A) (LegalOf (animals T) (ticks T) B) → new_adds engine T A ≡ new_adds engine T B
  -- The table then holds what it held before, and the legal contacts of the list.
  pub held_after : (T : List ℕ) → ValidTable T → (A : List Contact) (k : Contact)
      → Memᴰ k (held_contacts (run engine T A)) ↔ (Memᴰ k (held_contacts T) ⊎ LegalOf (animals T) (ticks T) A k)
