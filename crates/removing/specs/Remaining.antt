-- Contacts marked besides others in a table just opened, and the tick at which a cell has one contact.
use Rattle.std.specs.Prelude.{ℕ, ◌+◌, ◌↔◌, ◌⊎◌, cond, ◌&&◌, eqb}
use mathlib.Core.List.{List, Memᴰ}
use Rattle.journeys.specs.declared.Contact.{Contact}
use Rattle.journeys.specs.Journey.{Contacts}
use Rattle.rules.specs.Layout.{animals, ticks, carry}
use Rattle.rules.specs.Adding.{Legal}
use Rattle.tables.specs.declared.Opening.{Opening}
use Rattle.building.specs.Stage.{ContactsMarked}

-- What the opening word of the table T says.
abbrev pub table_opening : List ℕ → Opening
table_opening T = record { animals = animals T; ticks = ticks T; carry = carry T }

-- The contacts ks are marked in the words behind the opening word of a table of this opening.
abbrev pub MarkedFor : Opening → List Contact → List ℕ → List ℕ → Type 0
MarkedFor o ks heads body = ContactsMarked o.animals (o.ticks + 1) o.carry ks heads body

-- The contacts of S can be marked besides some others.
pub record CanMarkAll (o : Opening) (S : Contacts) (heads body : List ℕ) : Type 0 where
  pub others : List Contact
  pub marked : MarkedFor o others heads body
  pub legal : (k : Contact) → S k → Legal o.animals o.ticks k

-- The contacts of S are marked besides the contacts ks, and no more.
pub record MarkedBesides (o : Opening) (ks : List Contact) (S : Contacts) (heads body : List ℕ) : Type 0 where
  pub all : List Contact
  pub marked : MarkedFor o all heads body
  pub are : (k : Contact) → Memᴰ k all ↔ (Memᴰ k ks ⊎ S k)

-- Marks the contacts of S, whatever contacts were marked before.
abbrev pub MarksAll : Opening → Contacts → List ℕ → List ℕ → List ℕ → List ℕ → Type 0
MarksAll o S heads body heads₁ body₁ = (ks : List Contact) → MarkedFor o ks heads body → MarkedBesides o ks S heads₁ body₁

-- The tick at which cell (x, y) has the contact k; 0, at which no contact is, where it is not the cell of its pair.
unfoldable pub tick_left_out : Contact → ℕ → ℕ → ℕ
tick_left_out k x y = cond (eqb x k.from && eqb y k.to) k.tick 0
