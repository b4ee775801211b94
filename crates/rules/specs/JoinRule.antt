-- What document 02, Two, promises of a join, with its sentences above the parts.
use Rattle.std.specs.Prelude.{◌≡◌, ◌↔◌, ◌⊎◌, ◌≢◌, ℕ, get_or, None, Some, Ok, Err}
use mathlib.Core.List.{List, Memᴰ}
use Rattle.journeys.specs.declared.Contact.{Contact}
use Rattle.journeys.specs.Journey.{Contacts, In, Union}
use Rattle.rules.specs.declared.Refusal.{Refusal}
use Rattle.rules.specs.declared.Refusal.TheVariants.{DifferentOpenings}
use Rattle.rules.specs.Checks.{ValidTable, ensure_table}
use Rattle.rules.specs.Logs.{held_contacts}
use Rattle.rules.specs.Fresh.{Fresh}
use Rattle.rules.specs.Orders.{NumberOf}
use Rattle.rules.specs.Joining.{join_answer, join_leaves}

-- S is joined into F, and the answer is the number of the contacts in P, each counted once.
pub record JoinCounts (F S : List ℕ) (P : Contacts) : Type 0 where
  pub new : ℕ
  pub answered : join_answer F S ≡ Ok new
  pub number : NumberOf P new

pub record JoinRule : Type 1 where
  -- 5 and 6 are judged of the first table, whatever the second is, and then of the second;
  pub first_judged : (F S : List ℕ) (r : Refusal) → ensure_table F None ≡ Some r → join_answer F S ≡ Err r
  pub second_judged : (F S : List ℕ) (r : Refusal) → ValidTable F → ensure_table S None ≡ Some r → join_answer F S ≡ Err r
  -- 17 is given behind them, exactly when the two opening words differ; else the second is joined into the first.
  pub openings_differ : (F S : List ℕ) → (join_answer F S ≡ Err DifferentOpenings) ↔ (ValidTable F × ValidTable S × (get_or F 0 0 ≢ get_or S 0 0))
  pub joined_exactly : (F S : List ℕ) → ((m : ℕ) × (join_answer F S ≡ Ok m)) ↔ (ValidTable F × ValidTable S × (get_or F 0 0 ≡ get_or S 0 0))
  -- A first built by adds then is the fresh table over its own contacts and those that the second holds,
  pub first_fresh : (n τ δ : ℕ) (P : Contacts) (F S : List ℕ) → Fresh n τ δ P F → ValidTable S → get_or F 0 0 ≡ get_or S 0 0 → Fresh n τ δ (Union P (In (held_contacts S))) (join_leaves F S)
  -- and where adds built the second too, over both sets of contacts,
  pub union_fresh : (n τ δ : ℕ) (P Q : Contacts) (F S : List ℕ) → Fresh n τ δ P F → Fresh n τ δ Q S → Fresh n τ δ (Union P Q) (join_leaves F S)
  -- so that either may be joined into the other.
  pub either_way : (n τ δ : ℕ) (P Q : Contacts) (F S : List ℕ) → Fresh n τ δ P F → Fresh n τ δ Q S → join_leaves F S ≡ join_leaves S F
  -- The number answered is that of the contacts new to the first: on any two tables that are joined those of the second that the first did not hold,
  pub new_to_first : (F S : List ℕ) → ValidTable F → ValidTable S → get_or F 0 0 ≡ get_or S 0 0
      → JoinCounts F S (λ k. Memᴰ k (held_contacts S) × (¬ Memᴰ k (held_contacts F)))
  -- on tables built by adds those in the second's set and not in the first's.
  pub new_to_set : (n τ δ : ℕ) (P Q : Contacts) (F S : List ℕ) → Fresh n τ δ P F → Fresh n τ δ Q S → JoinCounts F S (λ k. Q k × (¬ P k))
  -- On any two tables that are joined the first then holds its own contacts and the second's.
  pub both_held : (F S : List ℕ) → ValidTable F → ValidTable S → get_or F 0 0 ≡ get_or S 0 0
      → (k : Contact) → Memᴰ k (held_contacts (join_leaves F S)) ↔ (Memᴰ k (held_contacts F) ⊎ Memᴰ k (held_contacts S))
  -- A table joined into an equal one gives 0, and one built by adds stays as it was.
  pub equal_none : (T : List ℕ) → ValidTable T → join_answer T T ≡ Ok 0
  pub equal_kept : (n τ δ : ℕ) (P : Contacts) (T : List ℕ) → Fresh n τ δ P T → join_leaves T T ≡ T
