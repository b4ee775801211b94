-- What the loops that add contacts ask of them.
use Rattle.std.specs.Prelude.{ℕ, ◌≤◌, length}
use mathlib.Core.List.{List, Memᴰ}
use Rattle.journeys.specs.declared.Contact.{Contact}
use Rattle.rules.specs.Limits.{max_contacts}
use Rattle.rules.specs.Layout.{animals, ticks}
use Rattle.rules.specs.Checks.{ValidTable}
use Rattle.rules.specs.Adding.{Legal}

-- The table passes 5 and 6, and the contacts are legal for it and no more than the rows of the largest table.
pub record Addable (T : List ℕ) (l : List Contact) : Type 0 where
  pub valid : ValidTable T
  pub legal : (k : Contact) → Memᴰ k l → Legal (animals T) (ticks T) k
  pub few : length l ≤ max_contacts
