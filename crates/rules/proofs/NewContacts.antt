-- A sorted list of legal contacts added to any table that passes 5 and 6: what the table then holds, and how many of them were new to it.
use mathlib.Core.Path.{◌≡◌}
use mathlib.Core.Logic.{◌↔◌, ◌⊎◌, inl, inr, ⊎_elim}
use mathlib.Core.Bool.{Bool}
use mathlib.Core.List.Memᴰ
use mathlib.Core.List.{List, ◌++◌, Memᴰ}
use Prim.Native.Nat.{ℕ, ◌≤◌}
use native.Mathlib.Omega.{arith}
use lib.ListN.{length, length-append}
use Rattle.journeys.specs.declared.Contact.{Contact}
use Rattle.journeys.specs.Journey.{Contacts, Same}
use Rattle.journeys.proofs.Tests.{Outcome, holds, fails}
use Rattle.rules.specs.Layout.{animals, ticks}
use Rattle.rules.specs.Checks.{ValidTable}
use Rattle.rules.specs.Adding.{Legal}
use Rattle.rules.specs.Logs.{held_contacts}
use Rattle.rules.specs.Orders.{Sorted, Earlier, NumberOf}
use Rattle.rules.specs.CallLists.{engine, run, new_adds}
use Rattle.rules.proofs.Reading.{comes_in-outcome}
use Rattle.rules.proofs.Sorted.{earlier-irreflexive, earlier-transitive, sorted-once}
use Rattle.rules.proofs.Distinct.{Once, once-append, once-short}
use Rattle.rules.proofs.Without.{without, without-iff, without-sorted}
use Rattle.rules.proofs.Held.{held-once}
use Rattle.rules.proofs.AnyOrder.{run-held, run-count}

-- The number of the contacts in one set is that of those in the same set.
pub number_same : {P Q : Contacts} {m : ℕ} → Same P Q → NumberOf P m → NumberOf Q m
number_same e a =
    record { contacts = a.contacts; once = a.once; those = λ k. (λ m. (e k).0 ((a.those k).0 m), λ q. (a.those k).1 ((e k).1 q)); number = a.number }

module _ (T : List ℕ) (p : ValidTable T) (l : List Contact) (legal : (k : Contact) → Memᴰ k l → Legal (animals T) (ticks T) k) where
  -- The table then holds its own contacts and those of the list.
  pub list_held : (k : Contact) → Memᴰ k (held_contacts (run engine T l)) ↔ (Memᴰ k (held_contacts T) ⊎ Memᴰ k l)
  list_held k =
      let r = run-held T p l k in
      (λ m. ⊎_elim inl (λ h. inr h.0) (r.0 m), ⊎_elim (λ m. r.1 (inl m)) (λ m. r.1 (inr (m, legal k m))))

  module _ (sorted : Sorted Earlier l) where
    -- The contacts of the list that the table does not hold.
    abbrev not_held : List Contact
    not_held = without (held_contacts T) l

    -- They are those by which the table then holds more.
    not-held_number : new_adds engine T l ≡ length not_held
    not-held_number = omega (arith, run-count l T p, length-append (held_contacts T) not_held, most, least)
      where
        after : List Contact
        after = held_contacts (run engine T l)

        iff : (k : Contact) → Memᴰ k not_held ↔ (Memᴰ k l × (¬ Memᴰ k (held_contacts T)))
        iff = without-iff (held_contacts T) l

        once : Once (held_contacts T ++ not_held)
        once =
            once-append (held_contacts T) not_held (held-once T)
            (sorted-once Earlier earlier-irreflexive earlier-transitive not_held (without-sorted (held_contacts T) l sorted)) (λ k a b. ((iff k).0 b).1 a)

        split : (k : Contact) {b : Bool} → Outcome (Memᴰ k (held_contacts T)) (¬ Memᴰ k (held_contacts T)) b → Memᴰ k l → Memᴰ k (held_contacts T ++ not_held)
        split k (holds h) m = Memᴰ.append_left not_held h
        split k (fails d) m = Memᴰ.append_right (held_contacts T) ((iff k).1 (m, d))

        most : length after ≤ length (held_contacts T ++ not_held)
        most = once-short after (held_contacts T ++ not_held) (held-once _) (λ k m. ⊎_elim (Memᴰ.append_left not_held) (split k (comes_in-outcome k (held_contacts T))) ((list_held k).0 m))

        least : length (held_contacts T ++ not_held) ≤ length after
        least = once-short (held_contacts T ++ not_held) after once (λ k m. (list_held k).1 (⊎_elim inl (λ q. inr ((iff k).0 q).0) (Memᴰ.append_cases (held_contacts T) m)))

    -- As many are new as the list has contacts that the table did not hold.
    pub list-new : NumberOf (λ k. Memᴰ k l × (¬ Memᴰ k (held_contacts T))) (new_adds engine T l)
    list-new =
        record { contacts = not_held; once = without-sorted (held_contacts T) l sorted; those = without-iff (held_contacts T) l; number = not-held_number }
