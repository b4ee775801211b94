-- On any table that passes 5 and 6, contacts may be added in any order and more than once; how many are new is by how many the table holds more.
use Rattle.std.specs.Prelude.{Option, None, Some, Ok}
use mathlib.Core.Path.{◌≡◌, refl, sym, ap, ◌∙◌, subst}
use mathlib.Core.Logic.{◌↔◌, ◌⊎◌, inl, inr, ⊎_elim, ◌≢◌}
use mathlib.Core.Bool.{Bool, true, false, cond}
use mathlib.Core.List.Memᴰ
use mathlib.Core.List.{List, [], ◌∷◌, Memᴰ}
use Prim.Native.Nat.{ℕ, ◌+◌}
use native.Mathlib.Omega.{arith}
use lib.ListN.{length, get_or}
use Rattle.journeys.specs.declared.Contact.{Contact}
use Rattle.journeys.specs.Journey.{In, Same, interval}
use Rattle.journeys.specs.Adding.{Cells, add_all}
use Rattle.journeys.proofs.Tests.{untrue}
use Rattle.journeys.proofs.AnyOrder.{same_contacts, stands_after}
use Rattle.rules.specs.declared.Refusal.{Refusal}
use Rattle.rules.specs.declared.Added.TheVariants.{New, Known}
use Rattle.rules.specs.Answers.{unless, answer_of}
use Rattle.rules.specs.Layout.{animals, ticks, cells_of}
use Rattle.rules.specs.Checks.{ValidTable}
use Rattle.rules.specs.Adding.{Legal, cells_changed, add_refusal, added_cells, add_answer, add_leaves}
use Rattle.rules.specs.Adding as Adding
use Rattle.rules.specs.Logs.{held_contacts}
use Rattle.rules.specs.CallLists.{engine, run, new_one, new_adds, LegalOf}
use Rattle.rules.specs.AnyOrder.{AnyOrder}
use Rattle.rules.proofs.Decode.{table_same}
use Rattle.rules.proofs.Judged.{add_iff}
use Rattle.rules.proofs.Laid.{Laid, laid-first, laid-length, laid-passes, refused-leaves, Ran, run-laid, valid-laid}
use Rattle.rules.proofs.Distinct.{once-short}
use Rattle.rules.proofs.Held.{held-iff, held-once, laid-held}

module _ {n τ δ : ℕ} {C : Cells} {T : List ℕ} (f : Laid n τ δ C T) where
  -- Two lists of calls with the same legal contacts leave the same table.
  laid_same : (A B : List Contact) → Same (LegalOf n τ A) (LegalOf n τ B) → run engine T A ≡ run engine T B
  laid_same A B e =
      let a = run-laid A f in
      let b = run-laid B f in
      a.laid.words
      ∙ table_same n τ δ (add_all δ C a.added) (add_all δ C b.added)
      (λ x y h k. same_contacts f.formed a.added b.added (λ c. (λ m. (b.those c).1 ((e c).0 ((a.those c).0 m)), λ m. (a.those c).1 ((e c).1 ((b.those c).0 m)))) x y)
      ∙ sym b.laid.words

  -- A list of calls leaves a table that holds what it held before, and the legal contacts of the list.
  laid-after : (A : List Contact) (k : Contact) → Memᴰ k (held_contacts (run engine T A)) ↔ (Memᴰ k (held_contacts T) ⊎ LegalOf n τ A k)
  laid-after A k = (to, of)
    where
      r : Ran n τ δ C A (run engine T A)
      r = run-laid A f

      after : k.from ≢ k.to → Memᴰ (interval k.tick (k.tick + δ)) (add_all δ C r.added k.from k.to)
          ↔ (Memᴰ (interval k.tick (k.tick + δ)) (C k.from k.to) ⊎ In r.added k)
      after d = stands_after f.sizes.δ-low f.formed r.added (λ c m. let l = ((r.those c).0 m).1 in (l.from_one, l.to_last)) k.from k.to k.tick d

      to : Memᴰ k (held_contacts (run engine T A)) → Memᴰ k (held_contacts T) ⊎ LegalOf n τ A k
      to m =
          let h = (laid-held r.laid k).0 m in
          ⊎_elim (λ s. inl ((laid-held f k).1 (h.0, s))) (λ s. inr ((r.those k).0 s)) ((after h.0.apart).0 h.1)

      of : Memᴰ k (held_contacts T) ⊎ LegalOf n τ A k → Memᴰ k (held_contacts (run engine T A))
      of (inl m) = let h = (laid-held f k).0 m in (laid-held r.laid k).1 (h.0, (after h.0.apart).1 (inl h.1))
      of (inr l) = (laid-held r.laid k).1 (l.1, (after l.1.apart).1 (inr ((r.those k).1 l)))

-- ---- any table that passes 5 and 6

module _ (T : List ℕ) (p : ValidTable T) where
  pub run-same : (A B : List Contact) → Same (LegalOf (animals T) (ticks T) A) (LegalOf (animals T) (ticks T) B) → run engine T A ≡ run engine T B
  run-same = laid_same (valid-laid T p)

  pub run-held : (A : List Contact) (k : Contact) → Memᴰ k (held_contacts (run engine T A)) ↔ (Memᴰ k (held_contacts T) ⊎ LegalOf (animals T) (ticks T) A k)
  run-held = laid-after (valid-laid T p)

  -- A list of calls leaves a table that passes them too.
  pub run-valid : (A : List Contact) → ValidTable (run engine T A)
  run-valid A = laid-passes (run-laid A (valid-laid T p)).laid

  pub run-first : (A : List Contact) → get_or (run engine T A) 0 0 ≡ get_or T 0 0
  run-first A = laid-first (run-laid A (valid-laid T p)).laid ∙ sym (laid-first (valid-laid T p))

  pub run_length : (A : List Contact) → length (run engine T A) ≡ length T
  run_length A = laid-length (run-laid A (valid-laid T p)).laid ∙ sym (laid-length (valid-laid T p))

  -- A list of calls that a refusal may keep from being made leaves a table that passes them too.
  pub unless-valid : (A : List Contact) (o : Option Refusal) → ValidTable (unless o (run engine T A) T)
  unless-valid A None = run-valid A
  unless-valid A (Some r) = p

  -- After one legal contact the table holds it and what it held before.
  add-held : (k : Contact) → Legal (animals T) (ticks T) k → (c : Contact) → Memᴰ c (held_contacts (add_leaves T k)) ↔ (Memᴰ c (held_contacts T) ⊎ (c ≡ k))
  unfolding run
  add-held k l c =
      let r = run-held (k ∷ []) c in (
        λ m. ⊎_elim inl (λ h. inr (⊎_elim (λ e. e) (λ z. absurd (Memᴰ.not-nil z)) (Memᴰ.cases_cons h.0))) (r.0 m),
        ⊎_elim (λ m. r.1 (inl m)) (λ e. r.1 (inr (Memᴰ.head e, subst (Legal (animals T) (ticks T)) (sym e) l))),
      )

  -- A new contact is one more held, and any other call leaves their number.
  pub add-count : (k : Contact) → length (held_contacts (add_leaves T k)) ≡ new_one (add_answer T k) + length (held_contacts T)
  unfolding add_answer
  add-count k = go (add_refusal T k) refl
    where
      m : ℕ
      m = cells_changed (animals T) (cells_of T) (added_cells T k)

      known : Legal (animals T) (ticks T) k → Memᴰ k (held_contacts T) → length (held_contacts (add_leaves T k)) ≡ length (held_contacts T)
      known l h =
          let a = once-short (held_contacts (add_leaves T k)) (held_contacts T) (held-once (add_leaves T k)) (λ c i. ⊎_elim (λ z. z) (λ e. Memᴰ.cast e h) ((add-held k l c).0 i)) in
          let b = once-short (held_contacts T) (held_contacts (add_leaves T k)) (held-once T) (λ c i. (add-held k l c).1 (inl i)) in
          omega arith

      new : Legal (animals T) (ticks T) k → (¬ Memᴰ k (held_contacts T)) → length (held_contacts (add_leaves T k)) ≡ 1 + length (held_contacts T)
      new l d =
          let a = once-short (held_contacts (add_leaves T k)) (k ∷ held_contacts T) (held-once (add_leaves T k)) (λ c i. ⊎_elim Memᴰ.tail Memᴰ.head ((add-held k l c).0 i)) in
          let b = once-short (k ∷ held_contacts T) (held_contacts (add_leaves T k)) (d, held-once T) (λ c i. ⊎_elim (λ e. (add-held k l c).1 (inr e)) (λ z. (add-held k l c).1 (inl z)) (Memᴰ.cases_cons i)) in
          omega arith

      taken : Legal (animals T) (ticks T) k → (b : Bool) → Adding.holds T k ≡ b → length (held_contacts (add_leaves T k)) ≡ new_one (Ok (cond b (Known m) (New m))) + length (held_contacts T)
      taken l true e = omega (arith, known l ((held-iff T k).1 (record { from_below = l.from_below; to_below = l.to_below; from_one = l.from_one; to_last = l.to_last; passes = e })))
      taken l false e = new l (λ h. untrue (sym e ∙ ((held-iff T k).0 h).passes))

      go : (o : Option Refusal) → add_refusal T k ≡ o → length (held_contacts (add_leaves T k)) ≡ new_one (answer_of o (Ok (cond (Adding.holds T k) (Known m) (New m)))) + length (held_contacts T)
      go None e = taken ((add_iff T k).0 e).1 (Adding.holds T k) refl
      go (Some r) e = omega (arith, ap (λ (L : List ℕ). length (held_contacts L)) (refused-leaves T k r e))

-- A list of calls that a refusal may keep from being made keeps the table's length.
pub unless-length : (T : List ℕ) (A : List Contact) (o : Option Refusal) → (o ≡ None → ValidTable T) → length (unless o (run engine T A) T) ≡ length T
unless-length T A None p = run_length T (p refl) A
unless-length T A (Some r) p = refl

-- A list of calls leaves as many contacts more as were new.
pub run-count : (A : List Contact) (T : List ℕ) → ValidTable T → length (held_contacts (run engine T A)) ≡ new_adds engine T A + length (held_contacts T)
unfolding run new_adds
run-count [] T p = omega arith
run-count (k ∷ A) T p = omega (arith, run-count A (add_leaves T k) (run-valid T p (k ∷ [])), add-count T p k)

pub same_number : (T : List ℕ) → ValidTable T → (A B : List Contact) → Same (LegalOf (animals T) (ticks T) A) (LegalOf (animals T) (ticks T) B) → new_adds engine T A ≡ new_adds engine T B
same_number T p A B e =
    let a = run-count A T p in
    let b = run-count B T p in
    let q = ap (λ (L : List ℕ). length (held_contacts L)) (run-same T p A B e) in
    omega arith

pub any_order : AnyOrder
any_order = record { same_tables = run-same; same_number = same_number; held_after = run-held }
