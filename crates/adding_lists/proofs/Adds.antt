-- Contacts added one list after another, and the invariant of the loops that add them.
use Rattle.std.specs.Prelude.{None, Ok, Err, Result}
use mathlib.Core.Path.{◌≡◌, refl, sym, ap, ap₂, ◌∙◌, subst}
use mathlib.Core.List.Memᴰ
use mathlib.Core.List.{List, [], ◌∷◌, ◌++◌, append-nil, append_assoc}
use Prim.Native.Nat.{ℕ, ◌+◌, ◌-◌, ◌≤◌, ◌<◌}
use native.Mathlib.Omega.{arith}
use lib.ListN.{length, length-append}
use Rattle.journeys.specs.declared.Contact.{Contact}
use Rattle.words.specs.Words.{animals_of, ticks_of}
use Rattle.rules.specs.declared.Refusal.{Refusal}
use Rattle.rules.specs.declared.Added.{Added}
use Rattle.rules.specs.declared.Added.TheVariants.{New, Known}
use Rattle.rules.specs.Limits.{max_contacts}
use Rattle.rules.specs.Folds.{flat}
use Rattle.rules.specs.Adding.{Legal, add_refusal, added, add_answer, add_leaves}
use Rattle.rules.specs.CallLists.{engine, run, new_one, new_adds}
use Rattle.rules.proofs.Folds.{flat_from, from_all, from_next, from-none}
use Rattle.rules.proofs.Judged.{add_iff}
use Rattle.rules.proofs.AnyOrder.{run-first, run-valid, run_length}
use Rattle.adding_lists.specs.Contacts.{Addable}

-- ---- one list of contacts after another

run-append : (T : List ℕ) (a b : List Contact) → run engine T (a ++ b) ≡ run engine (run engine T a) b
unfolding run
run-append T [] b = refl
run-append T (k ∷ a) b = run-append (add_leaves T k) a b

new-append : (T : List ℕ) (a b : List Contact) → new_adds engine T (a ++ b) ≡ new_adds engine T a + new_adds engine (run engine T a) b
unfolding run new_adds
new-append T [] b = omega arith
new-append T (k ∷ a) b = omega (arith, new-append (add_leaves T k) a b)

-- No more contacts are new than there are.
new-few : (T : List ℕ) (a : List Contact) → new_adds engine T a ≤ length a
unfolding new_adds
new-few T [] = omega arith
new-few T (k ∷ a) = omega (arith, new-few (add_leaves T k) a, one (add_answer T k))
  where
    one : (r : Result Added Refusal) → new_one r ≤ 1
    one (Ok (New c)) = omega arith
    one (Ok (Known c)) = omega arith
    one (Err r) = omega arith

-- Where two lists can be added, the first can, and the second can after it.
addable_front : {T : List ℕ} (a b : List Contact) → Addable T (a ++ b) → Addable T a
addable_front a b h = record { valid = h.valid; legal = λ k m. h.legal k (Memᴰ.append_left b m); few = omega (arith, h.few, length-append a b) }

addable_back : {T : List ℕ} (a b : List Contact) → Addable T (a ++ b) → Addable (run engine T a) b
addable_back {T} a b h =
    record {
      valid = run-valid T h.valid a;
      legal = λ k m. subst (λ w. Legal (animals_of w) (ticks_of w) k) (sym (run-first T h.valid a)) (h.legal k (Memᴰ.append_right a m));
      few = omega (arith, h.few, length-append a b);
    }

-- ---- one contact

-- A contact that can be added is an add that is not refused.
pub one-accepted : {T : List ℕ} (k : Contact) → Addable T (k ∷ []) → add_refusal T k ≡ None
one-accepted {T} k h = (add_iff T k).1 (h.valid, h.legal k (Memᴰ.head refl))

-- It leaves what the add leaves, and is new where the table did not hold it.
pub one-leaves : (T : List ℕ) (k : Contact) → add_leaves T k ≡ run engine T (k ∷ [])
unfolding run
one-leaves T k = refl

module _ (T : List ℕ) (k : Contact) (f : add_refusal T k ≡ None) {changed : ℕ} where
  pub one_known : added T k ≡ Known changed → 0 ≡ new_adds engine T (k ∷ [])
  unfolding new_adds add_answer
  one_known e = sym (rw f (ap (λ (a : Added). new_one (Ok a) + 0) e))

  pub one-new : added T k ≡ New changed → 1 ≡ new_adds engine T (k ∷ [])
  unfolding new_adds add_answer
  one-new e = sym (rw f (ap (λ (a : Added). new_one (Ok a) + 0) e))

-- No contact leaves the table, and none is new.
pub none-added : (T : List ℕ) (a : List Contact) → a ≡ [] → (0 ≡ new_adds engine T a) × (T ≡ run engine T a)
unfolding new_adds run
none-added T a e = (ap (new_adds engine T) (sym e), ap (run engine T) (sym e))

-- What is said of a list is said of an equal one.
pub added-as : (T : List ℕ) {U : List ℕ} {new : ℕ} {a b : List Contact} → a ≡ b → (new ≡ new_adds engine T a) × (U ≡ run engine T a) → (new ≡ new_adds engine T b) × (U ≡ run engine T b)
added-as T e h = (h.0 ∙ ap (new_adds engine T) e, h.1 ∙ ap (run engine T) e)

-- ---- the invariant of the loops

-- Of all contacts those before `rest` are added to T₀: T is left, and `new` of them were new.
pub record AddedSoFar (all rest : List Contact) (T₀ T : List ℕ) (new : ℕ) : Type 0 where
  pub done : List Contact
  pub whole : all ≡ done ++ rest
  pub table : T ≡ run engine T₀ done
  pub number : new ≡ new_adds engine T₀ done

-- At first all are left.
pub added-start : (all rest : List Contact) (T : List ℕ) → rest ≡ all → AddedSoFar all rest T T 0
unfolding run new_adds
added-start all rest T e = record { done = []; whole = sym e; table = refl; number = refl }

module _ {all rest : List Contact} {T₀ T : List ℕ} {new : ℕ} (w : AddedSoFar all rest T₀ T new) where
  module _ (a b : List Contact) (e : rest ≡ a ++ b) where
    next-whole : all ≡ (w.done ++ a) ++ b
    next-whole = w.whole ∙ ap (λ (r : List Contact). w.done ++ r) e ∙ sym (append_assoc w.done a b)

    -- The next contacts can be added.
    pub added-addable : Addable T₀ all → Addable T a
    added-addable h = subst (λ (L : List ℕ). Addable L a) (sym w.table) (addable_back w.done a (addable_front (w.done ++ a) b (subst (Addable T₀) next-whole h)))

    module _ {r : ℕ} (f : r ≡ new_adds engine T a) where
      next-number : new + r ≡ new_adds engine T₀ (w.done ++ a)
      next-number = ap₂ ◌+◌ w.number (f ∙ ap (λ (L : List ℕ). new_adds engine L a) w.table) ∙ sym (new-append T₀ w.done a)

      -- Their number can be told.
      pub added-few : Addable T₀ all → new + r ≤ max_contacts
      added-few h = omega (arith, next-number, new-few T₀ (w.done ++ a), (addable_front (w.done ++ a) b (subst (Addable T₀) next-whole h)).few)

      -- They are added.
      pub added-turn : {U : List ℕ} → U ≡ run engine T a → AddedSoFar all b T₀ U (new + r)
      added-turn g =
          record {
            done = w.done ++ a;
            whole = next-whole;
            table = g ∙ ap (λ (L : List ℕ). run engine L a) w.table ∙ sym (run-append T₀ w.done a);
            number = next-number;
          }

  -- The table keeps its length.
  pub added-kept : Addable T₀ all → length T ≡ length T₀
  added-kept h = ap length w.table ∙ run_length T₀ h.valid w.done

  -- At the end none are left.
  pub added-end : rest ≡ [] → (new ≡ new_adds engine T₀ all) × (T ≡ run engine T₀ all)
  added-end e = added-as T₀ (sym (w.whole ∙ ap (λ (r : List Contact). w.done ++ r) e ∙ append-nil w.done)) (w.number, w.table)

-- ---- the lists f 0, f 1, .., m of them

-- The lists before i are added to T₀.
pub record AddedBelow (f : ℕ → List Contact) (m : ℕ) (T₀ T : List ℕ) (new i : ℕ) : Type 0 where
  pub added : AddedSoFar (flat f m) (flat_from f i (m - i)) T₀ T new

-- At first none is.
pub below-start : (f : ℕ → List Contact) (m : ℕ) (T : List ℕ) → AddedBelow f m T T 0 0
below-start f m T = record { added = added-start _ _ T (from_all f m) }

module _ {f : ℕ → List Contact} {m : ℕ} {T₀ T : List ℕ} {new i : ℕ} (w : AddedBelow f m T₀ T new i) where
  module _ (h : i < m) where
    -- The next list can be added.
    pub below-addable : Addable T₀ (flat f m) → Addable T (f i)
    below-addable = added-addable w.added _ _ (from_next f m i h)

    module _ {r : ℕ} (g : r ≡ new_adds engine T (f i)) where
      -- The number of its new contacts can be told.
      pub below-few : Addable T₀ (flat f m) → new + r ≤ max_contacts
      below-few = added-few w.added _ _ (from_next f m i h) g

      -- It is added.
      pub below-turn : {U : List ℕ} → U ≡ run engine T (f i) → AddedBelow f m T₀ U (new + r) (i + 1)
      below-turn e = record { added = added-turn w.added _ _ (from_next f m i h) g e }

  -- The table keeps its length.
  pub below-kept : Addable T₀ (flat f m) → length T ≡ length T₀
  below-kept = added-kept w.added

  -- At the end all are.
  pub below_end : m ≤ i → (new ≡ new_adds engine T₀ (flat f m)) × (T ≡ run engine T₀ (flat f m))
  below_end h = added-end w.added (from-none f m i h)
