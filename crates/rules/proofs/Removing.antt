-- What is promised of the removal of a contact: which contacts remain, the table over them, and when it is refused.
use Rattle.std.specs.Prelude.{Option, None, Some, Ok, Err}
use mathlib.Core.Path.{◌≡◌, refl, sym, ◌∙◌, subst}
use mathlib.Core.Logic.{◌↔◌, ◌≢◌}
use mathlib.Core.Bool.{Bool, true, false, not, ◌&&◌}
use mathlib.Core.List.{List, Memᴰ}
use Prim.Native.Nat.{ℕ}
use native.Mathlib.Omega.{arith}
use lib.ListN.{length}
use lib.Dec.{eqb}
use borrow.Author.Tests.{eq-eqb}
use Rattle.journeys.specs.declared.Contact.{Contact}
use Rattle.journeys.specs.Journey.{Contacts, In, Without}
use Rattle.journeys.specs.Adding.{cells_over}
use Rattle.journeys.proofs.Tests.{never, untrue, Outcome, holds, fails}
use Rattle.journeys.proofs.Theorems.{closure}
use Rattle.rules.specs.declared.Refusal.{Refusal}
use Rattle.rules.specs.declared.Refusal.TheVariants.{TickOutOfRange, DifferentLengths, NotHeld}
use Rattle.rules.specs.Answers.{ensure, unless, answer_of, done}
use Rattle.rules.specs.Folds.{within}
use Rattle.rules.specs.Layout.{animals, ticks, carry}
use Rattle.rules.specs.Checks.{ValidTable, ensure_table}
use Rattle.rules.specs.Adding.{Legal, same_contact, ensure_pair, ensure_tick, add_refusal}
use Rattle.rules.specs.Adding as Adding
use Rattle.rules.specs.Logs.{held_contacts}
use Rattle.rules.specs.Fresh.{Fresh}
use Rattle.rules.specs.Removing.{ensure_same_length, ensure_held, remove_refusal, remaining, table_without, remove_answer, remove_leaves, remove_work}
use Rattle.rules.specs.RemoveRule.{RemoveRule}
use Rattle.rules.proofs.Refusals.{refused-iff, done-iff}
use Rattle.rules.proofs.Folds.{both_iff}
use Rattle.rules.proofs.Judged.{ensure-iff, equal-iff}
use Rattle.rules.proofs.Groups.{Group, one-check, both-groups, table-group, pair-group, behind-valid, AheadOf, ahead_of_more, one-ahead, both-ahead, then-ahead, table-ahead, contact-ahead}
use Rattle.rules.proofs.Reading.{same_contact-outcome}
use Rattle.rules.proofs.Sound.{table-sizes, opens-length}
use Rattle.rules.proofs.Fresh.{fresh-animals, fresh-ticks, fresh-carry, fresh-length, fresh-passes, fresh-map}
use Rattle.rules.proofs.LogOrder.{order-iff}
use Rattle.rules.proofs.Held.{held-iff, held-legal, valid-holds, fresh-held}

-- The test that a contact is another than k passes exactly when it is.
other-iff : (c k : Contact) → (not (same_contact c k) ≡ true) ↔ (¬ (c ≡ k))
other-iff c k = go (same_contact-outcome c k)
  where
    go : {b : Bool} → Outcome (c ≡ k) (c ≢ k) b → (not b ≡ true) ↔ (¬ (c ≡ k))
    go (holds e) = (λ q. untrue q, λ d. absurd (d e))
    go (fails d) = (λ q. d, λ q. refl)

module _ (T : List ℕ) (k c : Contact) where
  -- The contact passes the test of those that remain.
  abbrev Passes : Type 0
  Passes = (Adding.holds T c ≡ true) × (¬ (c ≡ k))

  passes-test : ((Adding.holds T c && not (same_contact c k)) ≡ true) ↔ Passes
  passes-test = both_iff (λ e. e, λ e. e) (other-iff c k)

  -- Which contacts remain.
  pub remaining-iff : Memᴰ c (remaining T k) ↔ (Memᴰ c (held_contacts T) × (¬ (c ≡ k)))
  unfolding remaining
  remaining-iff = (to, of)
    where
      to : Memᴰ c (remaining T k) → Memᴰ c (held_contacts T) × (¬ (c ≡ k))
      to m =
          let l = (order-iff (animals T) (ticks T) (λ d. Adding.holds T d && not (same_contact d k)) c).0 m in
          let p = passes-test.0 l.passes in
          ((held-iff T c).1 (record { from_below = l.from_below; to_below = l.to_below; from_one = l.from_one; to_last = l.to_last; passes = p.0 }), p.1)

      of : Memᴰ c (held_contacts T) × (¬ (c ≡ k)) → Memᴰ c (remaining T k)
      of h =
          let l = (held-iff T c).0 h.0 in
          (order-iff (animals T) (ticks T) (λ d. Adding.holds T d && not (same_contact d k)) c).1
          (record { from_below = l.from_below; to_below = l.to_below; from_one = l.from_one; to_last = l.to_last; passes = passes-test.1 (l.passes, h.1) })

-- The table over them is fresh.
pub without-fresh : (T : List ℕ) → ValidTable T → (k : Contact) → Fresh (animals T) (ticks T) (carry T) (In (remaining T k)) (table_without T k)
unfolding table_without
without-fresh T p k =
    record {
      sizes = table-sizes T;
      legal = λ c m. held-legal T p c ((remaining-iff T k c).0 m).0;
      cells = cells_over (carry T) (remaining T k);
      minimal = closure.any_list (carry T) (remaining T k);
      words = refl;
    }

-- ---- when a removal is refused

module _ (T W : List ℕ) (k : Contact) where
  -- The first table passes 5 and 6, the second has its length, and the contact is legal for it.
  pub record Removable : Type 0 where
    pub valid : ValidTable T
    pub same_length : length T ≡ length W
    pub legal : Legal (animals T) (ticks T) k

  -- 5, 6, 20, 7, 8 and 9.
  pub removal-ahead : AheadOf 20 (λ o. ensure_table T (ensure_same_length T W (ensure_pair T k.from k.to (ensure_tick T k.tick o)))) Removable
  removal-ahead =
      both-ahead (ahead_of_more (omega arith) (table-ahead T))
      (then-ahead (one-ahead (eqb (length T) (length W)) DifferentLengths (omega arith) (equal-iff (length T) (length W))) (ahead_of_more (omega arith) (contact-ahead T k)))
      (λ p q. record { valid = p; same_length = q.0; legal = q.1 }) (λ r. (r.valid, (r.same_length, r.legal)))

  -- They are a group.
  pub removal-group : Group (λ o. ensure_table T (ensure_same_length T W (ensure_pair T k.from k.to (ensure_tick T k.tick o))))
  removal-group =
      both-groups (table-group T)
      (both-groups (one-check (eqb (length T) (length W)) DifferentLengths)
      (both-groups (pair-group T k.from k.to) (one-check (within 1 k.tick (ticks T)) TickOutOfRange)))

  -- A removable contact is held exactly when it is among those held.
  held-or_not : Removable → (Adding.holds T k ≡ true) ↔ Memᴰ k (held_contacts T)
  held-or_not r = valid-holds T r.valid k r.legal.from_below r.legal.to_below

  -- Nothing is refused exactly when the table passes 5 and 6, the second has its length, and the contact is held.
  pub remove_iff : (remove_refusal T W k ≡ None) ↔ (ValidTable T × (length T ≡ length W) × Memᴰ k (held_contacts T))
  unfolding remove_refusal
  remove_iff = (to, of)
    where
      to : remove_refusal T W k ≡ None → ValidTable T × (length T ≡ length W) × Memᴰ k (held_contacts T)
      to e =
          let r = (removal-ahead.behind None tt _).0 e in
          (r.0.valid, r.0.same_length, (held-or_not r.0).0 ((ensure-iff (Adding.holds T k) NotHeld None).0 r.1).0)

      of : ValidTable T × (length T ≡ length W) × Memᴰ k (held_contacts T) → remove_refusal T W k ≡ None
      of (p, l, m) =
          let r : Removable = record { valid = p; same_length = l; legal = held-legal T p k m } in
          (removal-ahead.behind None tt _).1 (r, (ensure-iff (Adding.holds T k) NotHeld None).1 ((held-or_not r).1 m, refl))

-- ---- what is answered

-- A check refuses with its number exactly when it fails, where those behind it have other numbers.
check_iff : {P : Type 0} (b : Bool) (r : Refusal) (o : Option Refusal) → (b ≡ true) ↔ P → o ≢ Some r → (ensure b r o ≡ Some r) ↔ (¬ P)
check_iff true r o w d = (λ e. absurd (d e), λ n. absurd (n (w.0 refl)))
check_iff false r o w d = (λ e p. untrue (w.1 p), λ n. refl)

module _ (T W : List ℕ) (k : Contact) where
  table_judged : (r : Refusal) → ensure_table T None ≡ Some r → remove_answer T W k ≡ Err r
  unfolding remove_answer remove_refusal
  table_judged r e = rw ((table-group T).refuses r e (ensure_same_length T W (ensure_pair T k.from k.to (ensure_tick T k.tick (ensure_held T k None))))) refl

  -- The checks behind 20 give other numbers.
  behind-twenty : ensure_pair T k.from k.to (ensure_tick T k.tick (ensure_held T k None)) ≢ Some DifferentLengths
  behind-twenty e = go (Adding.holds T k) (((contact-ahead T k).behind (Some DifferentLengths) (omega arith) (ensure_held T k None)).0 e).1
    where
      go : (b : Bool) → ensure b NotHeld None ≡ Some DifferentLengths → ⊥
      go true q = never cc
      go false q = never cc

  lengths_differ : (remove_answer T W k ≡ Err DifferentLengths) ↔ (ValidTable T × (length T ≢ length W))
  unfolding remove_answer remove_refusal
  lengths_differ =
      let a = refused-iff (remove_refusal T W k) tt DifferentLengths in
      let b = (table-ahead T).behind (Some DifferentLengths) (omega arith) _ in
      let c = check_iff (eqb (length T) (length W)) DifferentLengths _ (equal-iff (length T) (length W)) behind-twenty in
      (λ e. let x = b.0 (a.0 e) in (x.0, c.0 x.1), λ h. a.1 (b.1 (h.0, c.1 h.1)))

  as_an_add : (r : Refusal) → ValidTable T → length T ≡ length W → r ≢ NotHeld → (remove_answer T W k ≡ Err r) ↔ (add_refusal T k ≡ Some r)
  unfolding remove_answer remove_refusal add_refusal
  as_an_add r p l d = (
    λ e. behind-valid T p _ ∙ to (ensure_pair T k.from k.to (ensure_tick T k.tick None)) refl (sym behind ∙ a.0 e),
    λ e. a.1 (behind ∙ g.refuses r (sym (behind-valid T p _) ∙ e) (ensure_held T k None)),
  )
    where
      a : (answer_of (remove_refusal T W k) done ≡ Err r) ↔ (remove_refusal T W k ≡ Some r)
      a = refused-iff (remove_refusal T W k) tt r

      -- The checks of the contact, without 21.
      g : Group (λ o. ensure_pair T k.from k.to (ensure_tick T k.tick o))
      g = both-groups (pair-group T k.from k.to) (one-check (within 1 k.tick (ticks T)) TickOutOfRange)

      behind : remove_refusal T W k ≡ ensure_pair T k.from k.to (ensure_tick T k.tick (ensure_held T k None))
      behind = behind-valid T p _ ∙ rw (eq-eqb (length T) (length W) l) refl

      not-21 : (b : Bool) → ensure b NotHeld None ≡ Some r → ⊥
      not-21 true e = never cc
      not-21 false e = d (let q : NotHeld ≡ r = cc in sym q)

      to : (o : Option Refusal) → ensure_pair T k.from k.to (ensure_tick T k.tick None) ≡ o
          → ensure_pair T k.from k.to (ensure_tick T k.tick (ensure_held T k None)) ≡ Some r → o ≡ Some r
      to None e q = absurd (not-21 (Adding.holds T k) (sym (g.passes e _) ∙ q))
      to (Some s) e q = sym (g.refuses s e _) ∙ q

  not_held_lem : (remove_answer T W k ≡ Err NotHeld) ↔ (ValidTable T × (length T ≡ length W) × Legal (animals T) (ticks T) k × (¬ Memᴰ k (held_contacts T)))
  unfolding remove_answer remove_refusal
  not_held_lem = (to, of)
    where
      a : (answer_of (remove_refusal T W k) done ≡ Err NotHeld) ↔ (remove_refusal T W k ≡ Some NotHeld)
      a = refused-iff (remove_refusal T W k) tt NotHeld

      c : Removable T W k → (ensure_held T k None ≡ Some NotHeld) ↔ (¬ Memᴰ k (held_contacts T))
      c r = check_iff (Adding.holds T k) NotHeld None (held-or_not T W k r) (λ e. never cc)

      to : remove_answer T W k ≡ Err NotHeld → ValidTable T × (length T ≡ length W) × Legal (animals T) (ticks T) k × (¬ Memᴰ k (held_contacts T))
      to e =
          let x = ((removal-ahead T W k).behind (Some NotHeld) (omega arith) _).0 (a.0 e) in
          (x.0.valid, x.0.same_length, x.0.legal, (c x.0).0 x.1)

      of : ValidTable T × (length T ≡ length W) × Legal (animals T) (ticks T) k × (¬ Memᴰ k (held_contacts T)) → remove_answer T W k ≡ Err NotHeld
      of (p, l, h, d) =
          let r : Removable T W k = record { valid = p; same_length = l; legal = h } in
          a.1 (((removal-ahead T W k).behind (Some NotHeld) (omega arith) _).1 (r, (c r).1 d))

  pub done_exactly : (remove_answer T W k ≡ Ok tt) ↔ (ValidTable T × (length T ≡ length W) × Memᴰ k (held_contacts T))
  unfolding remove_answer
  done_exactly = let a = done-iff (remove_refusal T W k) in let b = remove_iff T W k in (λ e. b.0 (a.0 e), λ h. a.1 (b.1 h))

  -- ---- what is left

  -- By cases: refused and as it was, or done and both tables without the contact.
  pub remove_cases : (P : Option Refusal → List ℕ → List ℕ → Type 0) → ((r : Refusal) → remove_refusal T W k ≡ Some r → P (Some r) T W)
      → (remove_refusal T W k ≡ None → P None (table_without T k) (table_without T k)) → P (remove_refusal T W k) (remove_leaves T W k) (remove_work T W k)
  unfolding remove_leaves remove_work
  remove_cases P a b = go (remove_refusal T W k) refl
    where
      go : (o : Option Refusal) → remove_refusal T W k ≡ o → P o (unless o (table_without T k) T) (unless o (table_without T k) W)
      go None e = b e
      go (Some r) e = a r e

  -- A removal that is refused leaves the first table as it was.
  pub refused-kept : (r : Refusal) → remove_refusal T W k ≡ Some r → remove_leaves T W k ≡ T
  refused-kept r = remove_cases (λ o L M. o ≡ Some r → L ≡ T) (λ s e q. refl) (λ e q. never cc)

  -- A removal that is done leaves the closure of the single-contact intervals left,
  pub closed : remove_answer T W k ≡ Ok tt → Fresh (animals T) (ticks T) (carry T) (Without (In (held_contacts T)) k) (remove_leaves T W k)
  unfolding remove_answer
  closed =
      remove_cases (λ o L M. answer_of o done ≡ done → Fresh (animals T) (ticks T) (carry T) (Without (In (held_contacts T)) k) L) (λ r e q. never cc)
      (λ e q. fresh-map (without-fresh T ((remove_iff T W k).0 e).0 k) (remaining-iff T k))

  -- in both tables.
  pub same_words : remove_answer T W k ≡ Ok tt → remove_work T W k ≡ remove_leaves T W k
  unfolding remove_answer
  same_words = remove_cases (λ o L M. answer_of o done ≡ done → M ≡ L) (λ r e q. never cc) (λ e q. refl)

-- On a fresh table these are the contacts of its set, but for this one.
pub smaller : {n τ δ : ℕ} {S : Contacts} {T : List ℕ} → Fresh n τ δ S T → (W : List ℕ) (k : Contact) → remove_answer T W k ≡ Ok tt → Fresh n τ δ (Without S k) (remove_leaves T W k)
smaller f W k e =
    fresh-map (rw (fresh-animals f, fresh-ticks f, fresh-carry f) at (closed _ W k e)) (λ c. let h = fresh-held f c in (λ m. (h.0 m.0, m.1), λ m. (h.1 m.0, m.1)))

-- Two second tables of the same length make no difference.
any_work : (T W X : List ℕ) (k : Contact) → length W ≡ length X → (remove_answer T W k ≡ remove_answer T X k) × (remove_leaves T W k ≡ remove_leaves T X k)
unfolding remove_answer remove_leaves remove_refusal
any_work T W X k e = (rw e refl, rw e refl)

pub remove_rule : RemoveRule
remove_rule =
    record {
      table_judged = table_judged;
      lengths_differ = lengths_differ;
      as_an_add = as_an_add;
      not_held = not_held_lem;
      done_exactly = done_exactly;
      smaller = λ n τ δ S T W k f. smaller f W k;
      closed = closed;
      same_words = same_words;
      any_work = any_work;
    }

-- ---- demand 1

module _ (T W : List ℕ) (k : Contact) where
  pub remove_kept : (r : Refusal) → remove_answer T W k ≡ Err r → (remove_leaves T W k ≡ T) × (remove_work T W k ≡ W)
  unfolding remove_answer
  remove_kept r = remove_cases T W k (λ o L M. answer_of o done ≡ Err r → (L ≡ T) × (M ≡ W)) (λ s e q. (refl, refl)) (λ e q. never cc)

  -- The table without the contact has the first's length, and so the second's.
  without-length : remove_refusal T W k ≡ None → (length (table_without T k) ≡ length T) × (length (table_without T k) ≡ length W)
  without-length e =
      let h = (remove_iff T W k).0 e in
      let l = fresh-length (without-fresh T h.0 k) ∙ sym (opens-length T h.0.opens) in
      (l, l ∙ h.1)

  pub remove_length : (length (remove_leaves T W k) ≡ length T) × (length (remove_work T W k) ≡ length W)
  remove_length = remove_cases T W k (λ o L M. (length L ≡ length T) × (length M ≡ length W)) (λ r e. (refl, refl)) without-length

  pub remove_valid : ValidTable T → ValidTable (remove_leaves T W k)
  remove_valid p = remove_cases T W k (λ o L M. ValidTable L) (λ r e. p) (λ e. fresh-passes (without-fresh T p k))

  pub remove_both_valid : remove_answer T W k ≡ Ok tt → ValidTable (remove_leaves T W k) × ValidTable (remove_work T W k)
  remove_both_valid e = let p = fresh-passes (closed T W k e) in (p, subst ValidTable (sym (same_words T W k e)) p)
