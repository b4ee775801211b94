-- Two tables that can be joined: the second's contacts, as they lie in its cells.
use mathlib.Core.Path.{◌≡◌, ◌∙◌}
use mathlib.Core.List.{List}
use Prim.Native.Nat.{ℕ}
use Rattle.journeys.specs.Journey.{Same}
use Rattle.rules.specs.Layout.{animals, ticks}
use Rattle.rules.specs.Logs.{held_contacts}
use Rattle.rules.specs.CallLists.{engine, run, new_adds, LegalOf}
use Rattle.rules.proofs.Joining.{Joins, joins-legal}
use Rattle.rules.proofs.AnyOrder.{run-same, same_number}
use Rattle.logs.specs.Ordered.{table_contacts}
use Rattle.logs.proofs.TableContacts.{table-iff, table-few}
use Rattle.adding_lists.specs.Contacts.{Addable}

module _ (F S : List ℕ) (j : Joins F S) where
  -- The second's contacts, cell by cell, can be added to the first.
  pub cells-addable : Addable F (table_contacts S)
  cells-addable =
      record {
        valid = j.first;
        legal = λ k m. joins-legal F S j k ((table-iff S j.second k).0 m);
        few = table-few S j.second;
      }

  same-legal : Same (LegalOf (animals F) (ticks F) (table_contacts S)) (LegalOf (animals F) (ticks F) (held_contacts S))
  same-legal k = let i = table-iff S j.second k in (λ m. (i.0 m.0, m.1), λ m. (i.1 m.0, m.1))

  -- Added in this order they leave the same table as in that of a log, and as many are new.
  pub cells-joined : {new : ℕ} {T : List ℕ} → (new ≡ new_adds engine F (table_contacts S)) × (T ≡ run engine F (table_contacts S))
      → (new ≡ new_adds engine F (held_contacts S)) × (T ≡ run engine F (held_contacts S))
  cells-joined h = (
    h.0 ∙ same_number F j.first (table_contacts S) (held_contacts S) same-legal,
    h.1 ∙ run-same F j.first (table_contacts S) (held_contacts S) same-legal,
  )
