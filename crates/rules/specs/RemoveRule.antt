-- What document 02, Seven, promises of the removal of a contact.
use Rattle.std.specs.Prelude.{◌≡◌, ◌↔◌, ◌≢◌, ℕ, length, None, Some, Ok, Err}
use mathlib.Core.List.{List, Memᴰ}
use Rattle.journeys.specs.declared.Contact.{Contact}
use Rattle.journeys.specs.Journey.{Contacts, In, Without}
use Rattle.rules.specs.declared.Refusal.{Refusal}
use Rattle.rules.specs.declared.Refusal.TheVariants.{DifferentLengths, NotHeld}
use Rattle.rules.specs.Layout.{animals, ticks, carry}
use Rattle.rules.specs.Checks.{ValidTable, ensure_table}
use Rattle.rules.specs.Adding.{Legal, add_refusal}
use Rattle.rules.specs.Logs.{held_contacts}
use Rattle.rules.specs.Fresh.{Fresh}
use Rattle.rules.specs.Removing.{remove_answer, remove_leaves, remove_work}

pub record RemoveRule : Type 1 where
  -- 5 and 6 are judged of the first table, whatever the second is and the contact.
  pub table_judged : (T W : List ℕ) (k : Contact) (r : Refusal) → ensure_table T None ≡ Some r → remove_answer T W k ≡ Err r
  -- 20 comes behind them, exactly when the two tables differ in length;
  pub lengths_differ : (T W : List ℕ) (k : Contact) → (remove_answer T W k ≡ Err DifferentLengths) ↔ (ValidTable T × (length T ≢ length W))
  -- then 7, 8 and 9, exactly where an add of the contact is refused with them;
  pub as_an_add : (T W : List ℕ) (k : Contact) (r : Refusal) → ValidTable T → length T ≡ length W → r ≢ NotHeld → (remove_answer T W k ≡ Err r) ↔ (add_refusal T k ≡ Some r)
  -- then 21, exactly when the contact is legal and the table does not hold it.
  pub not_held : (T W : List ℕ) (k : Contact)
      → (remove_answer T W k ≡ Err NotHeld) ↔ (ValidTable T × (length T ≡ length W) × Legal (animals T) (ticks T) k × (¬ Memᴰ k (held_contacts T)))
  -- Of a contact that it holds, with a second table of its length, the removal is done.
  pub done_exactly : (T W : List ℕ) (k : Contact) → (remove_answer T W k ≡ Ok tt) ↔ (ValidTable T × (length T ≡ length W) × Memᴰ k (held_contacts T))
  -- It leaves a table that is fresh over a set fresh over the set without the contact,
  pub smaller : (n τ δ : ℕ) (S : Contacts) (T W : List ℕ) (k : Contact) → Fresh n τ δ S T → remove_answer T W k ≡ Ok tt → Fresh n τ δ (Without S k) (remove_leaves T W k)
  -- and any other that passes 5 and 6 fresh over the contacts that it held, without this one.
  pub closed : (T W : List ℕ) (k : Contact) → remove_answer T W k ≡ Ok tt → Fresh (animals T) (ticks T) (carry T) (Without (In (held_contacts T)) k) (remove_leaves T W k)
  -- Both tables end with the same words,
  pub same_words : (T W : List ℕ) (k : Contact) → remove_answer T W k ≡ Ok tt → remove_work T W k ≡ remove_leaves T W k
  -- and of the second only its length counts.
  pub any_work : (T W X : List ℕ) (k : Contact) → length W ≡ length X → (remove_answer T W k ≡ remove_answer T X k) × (remove_leaves T W k ≡ remove_leaves T X k)
