-- What is promised of a join.
use Rattle.std.specs.Prelude.{Option, None, Some, Ok, Err}
use mathlib.Core.Path.{◌≡◌, refl, sym, ap, ◌∙◌, subst}
use mathlib.Core.Logic.{◌↔◌, ◌⊎◌, inl, inr, ⊎_elim, ◌≢◌}
use mathlib.Core.Bool.{Bool, true, false}
use mathlib.Core.List.{List, [], Memᴰ}
use Prim.Native.Nat.{ℕ}
use native.Mathlib.Omega.{arith}
use lib.ListN.{length, get_or}
use lib.Dec.{eqb}
use borrow.Author.Tests.{eq-eqb, ne_eqb, eqb-true, eqb-false}
use Rattle.journeys.specs.declared.Contact.{Contact}
use Rattle.journeys.specs.Journey.{Contacts, In, Union}
use Rattle.journeys.proofs.Tests.{never}
use Rattle.words.specs.Words.{animals_of, ticks_of}
use Rattle.rules.specs.declared.Refusal.{Refusal}
use Rattle.rules.specs.declared.Refusal.TheVariants.{DifferentOpenings}
use Rattle.rules.specs.Answers.{ensure, answer_of}
use Rattle.rules.specs.Layout.{animals, ticks}
use Rattle.rules.specs.Checks.{ValidTable, ensure_table}
use Rattle.rules.specs.Adding.{Legal}
use Rattle.rules.specs.Logs.{held_contacts}
use Rattle.rules.specs.Fresh.{Fresh}
use Rattle.rules.specs.CallLists.{engine, run, new_adds}
use Rattle.rules.specs.Orders.{Earlier}
use Rattle.rules.specs.Joining.{ensure_same_opening, join_refusal, join_answer, join_leaves}
use Rattle.rules.specs.JoinRule.{JoinCounts, JoinRule}
use Rattle.rules.proofs.Refusals.{refused-iff, given-iff, refused-kept}
use Rattle.rules.proofs.Judged.{ensure-iff}
use Rattle.rules.proofs.Asked.{valid-behind}
use Rattle.rules.proofs.Groups.{table-group, behind-valid, table-ahead}
use Rattle.rules.proofs.Laid.{laid-first}
use Rattle.rules.proofs.Fresh.{fresh-laid, fresh-animals, fresh-ticks, fresh-passes, fresh-map, fresh-unique}
use Rattle.rules.proofs.Sorted.{earlier-irreflexive, earlier-transitive, sorted-once}
use Rattle.rules.proofs.Distinct.{once-short}
use Rattle.rules.proofs.Held.{held-sorted, held-legal, fresh-held}
use Rattle.rules.proofs.Runs.{run-union}
use Rattle.rules.proofs.AnyOrder.{unless-valid, unless-length}
use Rattle.rules.proofs.NewContacts.{number_same, list_held, list-new}

-- ---- when a join is refused

-- The two tables can be joined.
pub record Joins (F S : List ℕ) : Type 0 where
  pub first : ValidTable F
  pub second : ValidTable S
  pub opening : get_or F 0 0 ≡ get_or S 0 0

-- A join is refused nothing exactly when the two can be joined.
pub join-iff : (F S : List ℕ) → (join_refusal F S ≡ None) ↔ Joins F S
unfolding join_refusal
join-iff F S = (to, of)
  where
    to : ensure_table F (ensure_table S (ensure_same_opening F S None)) ≡ None → Joins F S
    to e =
        let a = valid-behind F e in
        let b = valid-behind S a.1 in
        let c = (ensure-iff (eqb (get_or F 0 0) (get_or S 0 0)) DifferentOpenings None).0 b.1 in
        record { first = a.0; second = b.0; opening = eqb-true (get_or F 0 0) (get_or S 0 0) c.0 }

    of : Joins F S → ensure_table F (ensure_table S (ensure_same_opening F S None)) ≡ None
    of j = behind-valid F j.first _ ∙ behind-valid S j.second _ ∙ ap (λ (b : Bool). ensure b DifferentOpenings None) (eq-eqb (get_or F 0 0) (get_or S 0 0) j.opening)

-- ---- what is answered

first_judged : (F S : List ℕ) (r : Refusal) → ensure_table F None ≡ Some r → join_answer F S ≡ Err r
unfolding join_answer join_refusal
first_judged F S r e = rw ((table-group F).refuses r e (ensure_table S (ensure_same_opening F S None))) refl

second_judged : (F S : List ℕ) (r : Refusal) → ValidTable F → ensure_table S None ≡ Some r → join_answer F S ≡ Err r
unfolding join_answer join_refusal
second_judged F S r p e = rw (behind-valid F p (ensure_table S (ensure_same_opening F S None)), (table-group S).refuses r e (ensure_same_opening F S None)) refl

-- 17 is given behind 5 and 6.
not-seventeen : (T : List ℕ) (o : Option Refusal) → ensure_table T o ≡ Some DifferentOpenings → ValidTable T × (o ≡ Some DifferentOpenings)
not-seventeen T o = ((table-ahead T).behind (Some DifferentOpenings) (omega arith) o).0

openings_differ : (F S : List ℕ) → (join_answer F S ≡ Err DifferentOpenings) ↔ (ValidTable F × ValidTable S × (get_or F 0 0 ≢ get_or S 0 0))
unfolding join_answer join_refusal
openings_differ F S = (to, of)
  where
    differ : (b : Bool) → ensure b DifferentOpenings None ≡ Some DifferentOpenings → b ≡ false
    differ true e = never cc
    differ false e = refl

    to : answer_of (ensure_table F (ensure_table S (ensure_same_opening F S None))) (Ok (new_adds engine F (held_contacts S))) ≡ Err DifferentOpenings
        → ValidTable F × ValidTable S × (get_or F 0 0 ≢ get_or S 0 0)
    to e =
        let a = not-seventeen F _ ((refused-iff _ _ DifferentOpenings).0 e) in
        let b = not-seventeen S _ a.1 in
        (a.0, b.0, eqb-false (get_or F 0 0) (get_or S 0 0) (differ (eqb (get_or F 0 0) (get_or S 0 0)) b.1))

    of : ValidTable F × ValidTable S × (get_or F 0 0 ≢ get_or S 0 0)
        → answer_of (ensure_table F (ensure_table S (ensure_same_opening F S None))) (Ok (new_adds engine F (held_contacts S))) ≡ Err DifferentOpenings
    of (p, q, d) = rw (behind-valid F p (ensure_table S (ensure_same_opening F S None)), behind-valid S q (ensure_same_opening F S None), ne_eqb (get_or F 0 0) (get_or S 0 0) d) refl

-- Two tables that can be joined are, with as many new contacts as the adds give, and are left as these leave them.
joined-answer : (F S : List ℕ) → Joins F S → join_answer F S ≡ Ok (new_adds engine F (held_contacts S))
unfolding join_answer
joined-answer F S j = rw ((join-iff F S).1 j) refl

pub joined-leaves : (F S : List ℕ) → Joins F S → join_leaves F S ≡ run engine F (held_contacts S)
unfolding join_leaves
joined-leaves F S j = rw ((join-iff F S).1 j) refl

joined_exactly : (F S : List ℕ) → ((m : ℕ) × (join_answer F S ≡ Ok m)) ↔ (ValidTable F × ValidTable S × (get_or F 0 0 ≡ get_or S 0 0))
unfolding join_answer
joined_exactly F S = (to, λ h. let j : Joins F S = record { first = h.0; second = h.1; opening = h.2 } in (new_adds engine F (held_contacts S), joined-answer F S j))
  where
    to : (m : ℕ) × (join_answer F S ≡ Ok m) → ValidTable F × ValidTable S × (get_or F 0 0 ≡ get_or S 0 0)
    to (m, e) = let j = (join-iff F S).0 ((given-iff (join_refusal F S) _ m).0 e).0 in (j.first, j.second, j.opening)

-- ---- which contacts are held, and how many are new

module _ (F S : List ℕ) (j : Joins F S) where
  -- The second's contacts are legal for the first.
  pub joins-legal : (k : Contact) → Memᴰ k (held_contacts S) → Legal (animals F) (ticks F) k
  joins-legal k m = subst (λ w. Legal (animals_of w) (ticks_of w) k) (sym j.opening) (held-legal S j.second k m)

  joined-held : (k : Contact) → Memᴰ k (held_contacts (run engine F (held_contacts S))) ↔ (Memᴰ k (held_contacts F) ⊎ Memᴰ k (held_contacts S))
  joined-held = list_held F j.first (held_contacts S) joins-legal

  joined-counts : JoinCounts F S (λ k. Memᴰ k (held_contacts S) × (¬ Memᴰ k (held_contacts F)))
  joined-counts = record { new = new_adds engine F (held_contacts S); answered = joined-answer F S j; number = list-new F j.first (held_contacts S) joins-legal (held-sorted S) }

new_to_first : (F S : List ℕ) → ValidTable F → ValidTable S → get_or F 0 0 ≡ get_or S 0 0
    → JoinCounts F S (λ k. Memᴰ k (held_contacts S) × (¬ Memᴰ k (held_contacts F)))
new_to_first F S p q e = joined-counts F S (record { first = p; second = q; opening = e })

both_held : (F S : List ℕ) → ValidTable F → ValidTable S → get_or F 0 0 ≡ get_or S 0 0
    → (k : Contact) → Memᴰ k (held_contacts (join_leaves F S)) ↔ (Memᴰ k (held_contacts F) ⊎ Memᴰ k (held_contacts S))
both_held F S p q e k = let j : Joins F S = record { first = p; second = q; opening = e } in rw (joined-leaves F S j) (joined-held F S j k)

-- No contact of an equal table is new.
equal_none : (T : List ℕ) → ValidTable T → join_answer T T ≡ Ok 0
equal_none T p =
    let a = new_to_first T T p p refl in
    let c = a.number in
    let h = once-short c.contacts [] (sorted-once Earlier earlier-irreflexive earlier-transitive c.contacts c.once) (λ k m. let q = (c.those k).0 m in absurd (q.1 q.0)) in
    let e : a.new ≡ 0 = omega (arith, c.number) in
    a.answered ∙ ap Ok e

-- ---- tables built by adds

-- A first built by adds is then fresh over its own contacts and those that the second holds.
pub first_fresh : {n τ δ : ℕ} {P : Contacts} {F S : List ℕ} → Fresh n τ δ P F → Joins F S → Fresh n τ δ (Union P (In (held_contacts S))) (join_leaves F S)
first_fresh {n} {τ} {δ} {P} {F} {S} f j =
    subst (Fresh n τ δ (Union P (In (held_contacts S)))) (sym (joined-leaves F S j))
    (fresh-map (run-union (held_contacts S) f)
    (λ k. (⊎_elim inl (λ h. inr h.0), ⊎_elim inl (λ m. inr (m, rw (fresh-animals f, fresh-ticks f) at (joins-legal F S j k m))))))

module _ {n τ δ : ℕ} {P Q : Contacts} {F S : List ℕ} (f : Fresh n τ δ P F) (g : Fresh n τ δ Q S) where
  fresh-joins : Joins F S
  fresh-joins = record { first = fresh-passes f; second = fresh-passes g; opening = laid-first (fresh-laid f) ∙ sym (laid-first (fresh-laid g)) }

  union_fresh : Fresh n τ δ (Union P Q) (join_leaves F S)
  union_fresh = fresh-map (first_fresh f fresh-joins) (λ k. (⊎_elim inl (λ m. inr ((fresh-held g k).0 m)), ⊎_elim inl (λ q. inr ((fresh-held g k).1 q))))

  new_to_set : JoinCounts F S (λ k. Q k × (¬ P k))
  new_to_set =
      let a = joined-counts F S fresh-joins in
      record {
        new = a.new;
        answered = a.answered;
        number =
            number_same
            (λ k. (
              λ h. ((fresh-held g k).0 h.0, λ p. h.1 ((fresh-held f k).1 p)),
              λ h. ((fresh-held g k).1 h.0, λ m. h.1 ((fresh-held f k).0 m)),
            ))
            a.number;
      }

either_way : {n τ δ : ℕ} {P Q : Contacts} {F S : List ℕ} → Fresh n τ δ P F → Fresh n τ δ Q S → join_leaves F S ≡ join_leaves S F
either_way f g = fresh-unique (union_fresh f g) (fresh-map (union_fresh g f) (λ k. (⊎_elim inr inl, ⊎_elim inr inl)))

equal_kept : {n τ δ : ℕ} {P : Contacts} {T : List ℕ} → Fresh n τ δ P T → join_leaves T T ≡ T
equal_kept f = fresh-unique (fresh-map (union_fresh f f) (λ k. (⊎_elim (λ p. p) (λ p. p), inl))) f

pub join_rule : JoinRule
join_rule =
    record {
      first_judged = first_judged;
      second_judged = second_judged;
      openings_differ = openings_differ;
      joined_exactly = joined_exactly;
      first_fresh = λ n τ δ P F S f q e. first_fresh f (record { first = fresh-passes f; second = q; opening = e });
      union_fresh = λ n τ δ P Q F S. union_fresh;
      either_way = λ n τ δ P Q F S. either_way;
      new_to_first = new_to_first;
      new_to_set = λ n τ δ P Q F S. new_to_set;
      both_held = both_held;
      equal_none = equal_none;
      equal_kept = λ n τ δ P T. equal_kept;
    }

-- ---- demand 1

pub join_kept : (F S : List ℕ) (r : Refusal) → join_answer F S ≡ Err r → join_leaves F S ≡ F
unfolding join_answer join_leaves
join_kept F S r = refused-kept (join_refusal F S) (new_adds engine F (held_contacts S)) _

pub join_length : (F S : List ℕ) → length (join_leaves F S) ≡ length F
unfolding join_leaves
join_length F S = unless-length F (held_contacts S) (join_refusal F S) (λ e. ((join-iff F S).0 e).first)

pub join_valid : (F S : List ℕ) → ValidTable F → ValidTable (join_leaves F S)
unfolding join_leaves
join_valid F S p = unless-valid F p (held_contacts S) (join_refusal F S)
