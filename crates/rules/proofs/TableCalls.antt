-- A list of calls that change a table's contacts keeps it fresh over the contacts that they leave.
use Rattle.std.specs.Prelude.{Option, None, Some, Ok}
use mathlib.Core.Path.{◌≡◌, refl, sym, ◌∙◌, subst}
use mathlib.Core.Logic.{◌↔◌, ◌⊎◌, inl, inr, ⊎_elim}
use mathlib.Core.List.{List, [], ◌∷◌}
use Prim.Native.Nat.{ℕ}
use Rattle.journeys.specs.Journey.{Contacts, In, Union}
use Rattle.rules.specs.declared.Refusal.{Refusal}
use Rattle.rules.specs.Answers.{unless}
use Rattle.rules.specs.Opening.{open_answer, open_leaves}
use Rattle.rules.specs.Logs.{held_contacts}
use Rattle.rules.specs.Fresh.{Fresh}
use Rattle.rules.specs.Joining.{join_refusal, join_leaves}
use Rattle.rules.specs.Stays.{stays_of, stays_refusal, stays_leaves}
use Rattle.rules.specs.StayRule.{AreStays, Met}
use Rattle.rules.specs.TableCalls.{TableCall, adding, removing, joining, staying, call_leaves, run_calls, Joinable, ContactsAfter, ContactsLeft, TableCalls}
use Rattle.rules.proofs.Judged.{open_none}
use Rattle.rules.proofs.Groups.{some-is_not_none}
use Rattle.rules.proofs.Laid.{laid-first}
use Rattle.rules.proofs.Fresh.{fresh-laid, fresh-animals, fresh-ticks, fresh-passes, fresh-map, open_fresh}
use Rattle.rules.proofs.Runs.{add-after, remove_after}
use Rattle.rules.proofs.Joining.{join-iff, joined-leaves, first_fresh}
use Rattle.rules.proofs.Stays.{stays-iff, added-leaves, fresh-stays, stays_fresh}
use Rattle.rules.proofs.Demand3.{fresh-equal}

module _ {n τ δ : ℕ} {P : Contacts} {T : List ℕ} (f : Fresh n τ δ P T) where
  -- The second can be joined exactly when the join is not refused.
  joinable_iff : (S : List ℕ) → (join_refusal T S ≡ None) ↔ Joinable n τ δ S
  joinable_iff S =
      let w = laid-first (fresh-laid f) in (
        λ e. let j = (join-iff T S).0 e in record { valid = j.second; opening = sym j.opening ∙ w },
        λ j. (join-iff T S).1 (record { first = fresh-passes f; second = j.valid; opening = w ∙ sym j.opening }),
      )

  -- A call that is refused exactly when A does not hold, and else puts the contacts Q in.
  unless-after : {A : Type 0} (Q : Contacts) {U : List ℕ} (o : Option Refusal) → (o ≡ None) ↔ A → (A → Fresh n τ δ (Union P Q) U) → Fresh n τ δ (λ c. P c ⊎ (Q c × A)) (unless o U T)
  unless-after Q None i g = fresh-map (g (i.0 refl)) (λ c. (⊎_elim inl (λ q. inr (q, i.0 refl)), ⊎_elim inl (λ h. inr h.0)))
  unless-after Q (Some r) i g = fresh-map f (λ c. (inl, ⊎_elim (λ p. p) (λ h. some-is_not_none (i.1 h.1))))

  join-after : (S : List ℕ) → Fresh n τ δ (ContactsAfter n τ δ P (joining S)) (join_leaves T S)
  unfolding join_leaves
  join-after S =
      unless-after (In (held_contacts S)) (join_refusal T S) (joinable_iff S)
      (λ j. let i = (join-iff T S).0 ((joinable_iff S).1 j) in subst (Fresh n τ δ (Union P (In (held_contacts S)))) (joined-leaves T S i) (first_fresh f i))

  -- Nothing is refused exactly when the words are stays of these animals and ticks.
  stays-none : (W : List ℕ) → (stays_refusal T W ≡ None) ↔ AreStays n τ W
  stays-none W =
      let i = stays-iff T W in
      (λ e. rw (fresh-animals f, fresh-ticks f) at (i.0 e).1, λ s. i.1 (fresh-passes f, rw (fresh-animals f, fresh-ticks f) s))

  stays_after : (W : List ℕ) → Fresh n τ δ (ContactsAfter n τ δ P (staying W)) (stays_leaves T W)
  unfolding stays_leaves
  stays_after W =
      unless-after (Met (stays_of W)) (stays_refusal T W) (stays-none W)
      (λ s. subst (Fresh n τ δ (Union P (Met (stays_of W)))) (added-leaves T W (fresh-passes f) (fresh-stays f W s)) (stays_fresh f W s))

  -- One call.
  call-after : (c : TableCall) → Fresh n τ δ (ContactsAfter n τ δ P c) (call_leaves T c)
  call-after (adding k) = add-after f k
  call-after (removing k W) = remove_after f k W
  call-after (joining S) = join-after S
  call-after (staying W) = stays_after W

-- A list of calls.
calls_after : {n τ δ : ℕ} (A : List TableCall) {P : Contacts} {T : List ℕ} → Fresh n τ δ P T → Fresh n τ δ (ContactsLeft n τ δ P A) (run_calls T A)
unfolding run_calls ContactsLeft
calls_after [] f = f
calls_after (c ∷ A) f = calls_after A (call-after f c)

fresh_after : (n τ δ : ℕ) (words : List ℕ) (A : List TableCall) → open_answer n τ δ words ≡ Ok tt → Fresh n τ δ (ContactsLeft n τ δ (λ k. ⊥) A) (run_calls (open_leaves n τ δ words) A)
fresh_after n τ δ words A e = calls_after A (open_fresh n τ δ words ((open_none n τ δ words).0 e))

pub table_calls : TableCalls
table_calls = record { fresh_after = fresh_after; equal_tables = λ n τ δ wordsA wordsB A B p q. fresh-equal (fresh_after n τ δ wordsA A p) (fresh_after n τ δ wordsB B q) }
