-- A list of adds keeps the table fresh over the legal contacts so far, and a list of adds and removals over the set that it leaves.
use Rattle.std.specs.Prelude.{Option, None, Some}
use mathlib.Core.Logic.{◌↔◌, inl, inr, ⊎_elim}
use mathlib.Core.Path.{◌≡◌, refl, sym, ◌∙◌, subst}
use mathlib.Core.List.Memᴰ
use mathlib.Core.List.{List, [], ◌∷◌}
use Prim.Native.Nat.{ℕ}
use native.Mathlib.Omega.{arith}
use lib.ListN.{length}
use Rattle.journeys.specs.declared.Contact.{Contact}
use Rattle.journeys.specs.Journey.{Contacts, Union}
use Rattle.journeys.specs.Adding.{add_all}
use Rattle.journeys.proofs.Theorems.{add_all-cells, cells-map}
use Rattle.rules.specs.declared.Refusal.{Refusal}
use Rattle.rules.specs.Layout.{table_length}
use Rattle.rules.specs.Opening.{open_refusal, open_leaves}
use Rattle.rules.specs.Adding.{Legal, add_leaves}
use Rattle.rules.specs.Removing.{remove_refusal, remove_leaves}
use Rattle.rules.specs.Fresh.{Fresh}
use Rattle.rules.specs.CallLists.{engine, Call, addition, removal, leaves_after, run_list, table_after, PutIn, TakenOut, SetAfter, SetAfterAll, SetLeft, run, LegalOf}
use Rattle.rules.proofs.Judged.{none-some}
use Rattle.rules.proofs.Laid.{Ran, run-laid}
use Rattle.rules.proofs.Fresh.{fresh-laid, fresh-length, fresh-passes, fresh-map, open_fresh}
use Rattle.rules.proofs.Held.{fresh-held}
use Rattle.rules.proofs.Removing.{remove_iff, done_exactly, refused-kept, smaller}

-- ---- lists of adds

-- On a fresh table a list of adds joins its legal contacts to the set.
pub run-union : {n τ δ : ℕ} (A : List Contact) {S : Contacts} {T : List ℕ} → Fresh n τ δ S T → Fresh n τ δ (Union S (LegalOf n τ A)) (run engine T A)
run-union {n} {τ} {δ} A {S} {T} f =
    record {
      sizes = f.sizes;
      legal = λ k. ⊎_elim (f.legal k) (λ h. h.1);
      cells = add_all δ f.cells r.added;
      minimal = cells-map (λ k. (⊎_elim inl (λ m. inr ((r.those k).0 m)), ⊎_elim inl (λ m. inr ((r.those k).1 m)))) (add_all-cells δ S f.cells r.added f.minimal);
      words = r.laid.words;
    }
  where
    r : Ran n τ δ f.cells A (run engine T A)
    r = run-laid A (fresh-laid f)

-- From an opening, a list of adds leaves the fresh table over its legal contacts.
pub run-fresh : (n τ δ : ℕ) (words : List ℕ) (A : List Contact) → open_refusal n τ δ words ≡ None → Fresh n τ δ (LegalOf n τ A) (run engine (open_leaves n τ δ words) A)
run-fresh n τ δ words A e = fresh-map (run-union A (open_fresh n τ δ words e)) (λ k. (⊎_elim (λ b. absurd b) (λ h. h), inr))

-- ---- lists of adds and removals

module _ {n τ δ : ℕ} {S : Contacts} {T : List ℕ} (f : Fresh n τ δ S T) where
  -- An add puts its contact in, where it is legal.
  pub add-after : (k : Contact) → Fresh n τ δ (PutIn n τ S k) (add_leaves T k)
  unfolding run
  add-after k =
      fresh-map (run-union (k ∷ []) f)
      (λ c. (
        ⊎_elim inl (λ h. let e = Memᴰ.eq_of_singleton h.0 in inr (e, subst (Legal n τ) e h.1)),
        ⊎_elim inl (λ h. inr (Memᴰ.head h.0, subst (Legal n τ) (sym h.0) h.1)),
      ))

  -- A removal is refused nothing exactly when its contact is in the set and the second table has the first's length.
  pub removal-accepted : (k : Contact) (W : List ℕ) → (remove_refusal T W k ≡ None) ↔ (S k × (length W ≡ table_length n τ))
  removal-accepted k W =
      let i = remove_iff T W k in
      let l = fresh-length f in
      (λ e. let h = i.0 e in ((fresh-held f k).0 h.2, sym h.1 ∙ l), λ h. i.1 (fresh-passes f, l ∙ sym h.1, (fresh-held f k).1 h.0))

  -- It takes its contact out, where the second table has the first's length.
  pub remove_after : (k : Contact) (W : List ℕ) → Fresh n τ δ (TakenOut n τ S k W) (remove_leaves T W k)
  remove_after k W = go (remove_refusal T W k) refl
    where
      go : (o : Option Refusal) → remove_refusal T W k ≡ o → Fresh n τ δ (TakenOut n τ S k W) (remove_leaves T W k)
      go None e =
          let l = ((removal-accepted k W).0 e).1 in
          fresh-map (smaller f W k ((done_exactly T W k).1 ((remove_iff T W k).0 e))) (λ c. (λ h. (h.0, λ q. h.1 q.0), λ h. (h.0, λ q. h.1 (q, omega (arith, l)))))
      go (Some r) e =
          subst (Fresh n τ δ (TakenOut n τ S k W)) (sym (refused-kept T W k r e))
          (fresh-map f (λ c. (λ s. (s, λ h. none-some (remove_refusal T W k) r ((removal-accepted k W).1 (subst S h.0 s, omega (arith, h.1))) e), λ h. h.0)))

  -- One call.
  pub call-fresh : (c : Call) → Fresh n τ δ (SetAfter n τ S c) (leaves_after engine T c)
  call-fresh (addition k) = add-after k
  call-fresh (removal k W) = remove_after k W

-- A list of calls.
pub list-fresh : {n τ δ : ℕ} (A : List Call) {S : Contacts} {T : List ℕ} → Fresh n τ δ S T → Fresh n τ δ (SetAfterAll n τ S A) (run_list engine T A)
unfolding run_list SetAfterAll
list-fresh [] f = f
list-fresh (c ∷ A) f = list-fresh A (call-fresh f c)

-- From an opening, a list of calls leaves the fresh table over the set that it leaves.
pub left-fresh : (n τ δ : ℕ) (words : List ℕ) (A : List Call) → open_refusal n τ δ words ≡ None → Fresh n τ δ (SetLeft n τ A) (table_after engine n τ δ words A)
left-fresh n τ δ words A e = list-fresh A (open_fresh n τ δ words e)
