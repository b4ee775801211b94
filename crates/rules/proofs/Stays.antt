-- What is promised of a list of stays.
use Rattle.std.specs.Prelude.{Option, None, Some, Ok, Err}
use mathlib.Core.Path.{◌≡◌, refl, sym, ap, ◌∙◌, subst}
use mathlib.Core.Logic.{◌↔◌, ◌⊎◌, inl, inr, ⊎_elim, ◌≢◌}
use mathlib.Core.Bool.{Bool, true, false, ◌&&◌}
use mathlib.Core.List.Memᴰ
use mathlib.Core.List.{List, [], ◌∷◌, ◌++◌, Memᴰ}
use Prim.Native.Nat.{ℕ, zero, suc, ◌+◌, ◌*◌, ◌/◌, ◌%◌, ◌<◌}
use native.Mathlib.Omega.{arith}
use lib.ListN.{length}
use lib.Dec.{eqb}
use borrow.Author.Tests.{eqb-true, eqb-false, eq-eqb}
use Rattle.journeys.specs.declared.Contact.{Contact}
use Rattle.journeys.specs.Journey.{contact, Contacts, In, Union, Same}
use Rattle.journeys.proofs.Tests.{untrue}
use Rattle.rules.specs.declared.Refusal.{Refusal}
use Rattle.rules.specs.declared.Refusal.TheVariants.{IllegalStay}
use Rattle.rules.specs.declared.Stay.{Stay}
use Rattle.rules.specs.Limits.{max_contacts, max_pen}
use Rattle.rules.specs.Answers.{ensure, answer_of}
use Rattle.rules.specs.Folds.{flat, any_of}
use Rattle.rules.specs.Layout.{animals, ticks}
use Rattle.rules.specs.Checks.{ValidTable, ensure_table}
use Rattle.rules.specs.Adding.{Legal}
use Rattle.rules.specs.Logs.{held_contacts}
use Rattle.rules.specs.Fresh.{Fresh}
use Rattle.rules.specs.Orders.{Sorted, Earlier}
use Rattle.rules.specs.CallLists.{engine, run, new_adds, LegalOf}
use Rattle.rules.specs.Stays.{stay_at, stays_of, is_whole, is_stay, ensure_each, ensure_stays, stays_refusal, is_there, meet, met, stay_contacts, stays_answer, stays_leaves}
use Rattle.rules.specs.StayRule.{IsStay, AreStays, FirstIllegal, stay_words, There, Met, StaysCount, StayRule}
use Rattle.rules.proofs.Refusals.{refused-iff, given-iff, refused-kept}
use Rattle.rules.proofs.Folds.{both_iff, any_iff, flat-same}
use Rattle.rules.proofs.Judged.{none-some, ensure-iff, below-iff, most-iff, equal-iff, differ-iff, within-iff}
use Rattle.rules.proofs.Asked.{valid-behind}
use Rattle.rules.proofs.Groups.{none-is_not_some, table-group, behind-valid, table-ahead}
use Rattle.rules.proofs.Sorted.{sorted-unique, earlier-irreflexive, earlier-transitive}
use Rattle.rules.proofs.LogOrder.{order-sorted, order-iff, order-few}
use Rattle.rules.proofs.Fresh.{fresh-animals, fresh-ticks, fresh-passes, fresh-map}
use Rattle.rules.proofs.Held.{pairs-few, fresh-held}
use Rattle.rules.proofs.Runs.{run-union}
use Rattle.rules.proofs.AnyOrder.{run-same, same_number, unless-valid, unless-length}
use Rattle.rules.proofs.NewContacts.{number_same, list_held, list-new}

-- ---- the records and their words

-- The first of a list of single elements.
flat-first : {A : Type 0} (g : ℕ → A) (m : ℕ) → flat (λ i. g i ∷ []) (suc m) ≡ g 0 ∷ flat (λ i. g (i + 1) ∷ []) m
unfolding flat
flat-first g zero = refl
flat-first {A} g (suc m) =
    ap (λ (l : List A). l ++ (g (suc m) ∷ [])) (flat-first g m)
    ∙ ap (λ (k : ℕ). g 0 ∷ (flat (λ i. g (i + 1) ∷ []) m ++ (g k ∷ []))) (let e : suc m ≡ m + 1 = omega arith in e)

module _ (a b c d : ℕ) (W : List ℕ) where
  -- Four words more in front.
  abbrev more : List ℕ
  more = a ∷ b ∷ c ∷ d ∷ W

  -- They are a record, and those behind it are the records of the other words.
  at_next : (i : ℕ) → stay_at more (i + 1) ≡ stay_at W i
  unfolding stay_at
  at_next i =
      let p : 4 * (i + 1) ≡ suc (suc (suc (suc (4 * i)))) = omega arith in
      let q : 4 * (i + 1) + 1 ≡ suc (suc (suc (suc (4 * i + 1)))) = omega arith in
      let r : 4 * (i + 1) + 2 ≡ suc (suc (suc (suc (4 * i + 2)))) = omega arith in
      let s : 4 * (i + 1) + 3 ≡ suc (suc (suc (suc (4 * i + 3)))) = omega arith in
      rw (q, r, s, p) refl

  first-record : stays_of more ≡ record { animal = a; pen = b; first = c; last = d } ∷ stays_of W
  unfolding stays_of stay_at
  first-record =
      ap (flat (λ i. stay_at more i ∷ [])) (let e : length more / 4 ≡ suc (length W / 4) = omega arith in e)
      ∙ flat-first (stay_at more) (length W / 4)
      ∙ ap (λ (l : List Stay). stay_at more 0 ∷ l) (flat-same _ _ (length W / 4) (λ i h. ap (λ (s : Stay). s ∷ []) (at_next i)))

  still-whole : is_whole more ≡ is_whole W
  still-whole = ap (λ (k : ℕ). eqb k 0) (let e : length more % 4 ≡ length W % 4 = omega arith in e)

read_again : (l : List Stay) → (stays_of (stay_words l) ≡ l) × (is_whole (stay_words l) ≡ true)
unfolding stay_words
read_again [] = (unfold stays_of flat in refl, refl)
read_again (s ∷ l) =
    let r = read_again l in
    let W = stay_words l in (
      first-record s.animal s.pen s.first s.last W ∙ ap (λ (m : List Stay). s ∷ m) r.0,
      still-whole s.animal s.pen s.first s.last W ∙ r.1,
    )

words_again : (W : List ℕ) → is_whole W ≡ true → stay_words (stays_of W) ≡ W
unfolding stay_words
words_again [] e = unfold stays_of flat in refl
words_again (a ∷ []) e = untrue e
words_again (a ∷ b ∷ []) e = untrue e
words_again (a ∷ b ∷ c ∷ []) e = untrue e
words_again (a ∷ b ∷ c ∷ d ∷ W) e =
    ap stay_words (first-record a b c d W) ∙ ap (λ (l : List ℕ). a ∷ b ∷ c ∷ d ∷ l) (words_again W (sym (still-whole a b c d W) ∙ e))

-- ---- which contacts two records tell

pub there-iff : (s : Stay) (t : ℕ) → (is_there s t ≡ true) ↔ There s t
there-iff s t = let w = within-iff s.first t s.last in (
  λ e. record { from_first = (w.0 e).0; to_last = (w.0 e).1 },
  λ h. w.1 (h.from_first, h.to_last),
)

-- The test of two records, clause by clause.
tells-iff : (k : Contact) (r s : Stay) → ((eqb r.animal k.from && eqb s.animal k.to && meet r s k.tick) ≡ true)
    ↔ (((r.animal ≡ k.from) × (s.animal ≡ k.to)) × ((((r.animal ≢ s.animal) × (r.pen ≡ s.pen)) × There r k.tick) × There s k.tick))
unfolding meet
tells-iff k r s =
    both_iff (both_iff (equal-iff r.animal k.from) (equal-iff s.animal k.to))
    (both_iff (both_iff (both_iff (differ-iff r.animal s.animal) (equal-iff r.pen s.pen)) (there-iff r k.tick)) (there-iff s k.tick))

-- The test passes exactly when two records say so.
pub met-iff : (l : List Stay) (k : Contact) → (met l k ≡ true) ↔ Met l k
unfolding met
met-iff l k = (to, of)
  where
    tells : Stay → Stay → Bool
    tells r s = eqb r.animal k.from && eqb s.animal k.to && meet r s k.tick

    to : any_of (λ r. any_of (tells r) l) l ≡ true → Met l k
    to e =
        let a = (any_iff (λ r. any_of (tells r) l) l).0 e in
        let b = (any_iff (tells a.0) l).0 a.2 in
        let c = (tells-iff k a.0 b.0).0 b.2 in
        record {
          one = a.0;
          other = b.0;
          one_listed = a.1;
          other_listed = b.1;
          from_is = c.0.0;
          to_is = c.0.1;
          different = c.1.0.0.0;
          same_pen = c.1.0.0.1;
          one_there = c.1.0.1;
          other_there = c.1.1;
        }

    of : Met l k → any_of (λ r. any_of (tells r) l) l ≡ true
    of m =
        (any_iff (λ r. any_of (tells r) l) l).1 (
          m.one,
          m.one_listed,
          (any_iff (tells m.one) l).1 (
            m.other,
            m.other_listed,
            (tells-iff k m.one m.other).1
                ((m.from_is, m.to_is), (((m.different, m.same_pen), m.one_there), m.other_there)),
          ),
        )

both_ways : (l : List Stay) (u v t : ℕ) → Met l (contact u v t) → Met l (contact v u t)
both_ways l u v t m =
    record {
      one = m.other;
      other = m.one;
      one_listed = m.other_listed;
      other_listed = m.one_listed;
      from_is = m.to_is;
      to_is = m.from_is;
      different = λ e. m.different (sym e);
      same_pen = sym m.same_pen;
      one_there = m.other_there;
      other_there = m.one_there;
    }

-- Records that are stays tell legal contacts.
met-legal : {n τ : ℕ} {l : List Stay} → ((s : Stay) → Memᴰ s l → IsStay n τ s) → (k : Contact) → Met l k → Legal n τ k
met-legal {n} {τ} each k m =
    let a = each m.one m.one_listed in
    let b = each m.other m.other_listed in
    record {
      from_below = subst (λ u. u < n) m.from_is a.animal_below;
      to_below = subst (λ v. v < n) m.to_is b.animal_below;
      apart = λ e. m.different (m.from_is ∙ e ∙ sym m.to_is);
      from_one = omega (arith, a.first_within.0, m.one_there.from_first);
      to_last = omega (arith, a.last_within.1, m.one_there.to_last);
    }

in_log_order_lem : (T W : List ℕ) → Sorted Earlier (stay_contacts T W)
unfolding stay_contacts
in_log_order_lem T W = order-sorted (animals T) (ticks T) (met (stays_of W))

module _ (T W : List ℕ) (s : AreStays (animals T) (ticks T) W) where
  contacts_exactly : Same (In (stay_contacts T W)) (Met (stays_of W))
  unfolding stay_contacts
  contacts_exactly k =
      let o = order-iff (animals T) (ticks T) (met (stays_of W)) k in
      let i = met-iff (stays_of W) k in (
        λ m. i.0 (o.0 m).passes,
        λ m. let l = met-legal s.each k m in o.1 (record { from_below = l.from_below; to_below = l.to_below; from_one = l.from_one; to_last = l.to_last; passes = i.1 m }),
      )

  pub contacts-legal : (k : Contact) → Memᴰ k (stay_contacts T W) → Legal (animals T) (ticks T) k
  contacts-legal k m = met-legal s.each k ((contacts_exactly k).0 m)

-- They are fewer than the rows of the largest table.
pub contacts-few : (T W : List ℕ) → length (stay_contacts T W) + 2 < max_contacts
unfolding stay_contacts
contacts-few T W = pairs-few T (order-few (animals T) (ticks T) (met (stays_of W)) (λ u t h. own u t (met (stays_of W) (contact u u t)) refl))
  where
    own : (u t : ℕ) (b : Bool) → met (stays_of W) (contact u u t) ≡ b → b ≡ false
    own u t true e = let m = (met-iff (stays_of W) (contact u u t)).0 e in absurd (m.different (m.from_is ∙ sym m.to_is))
    own u t false e = refl

-- ---- when stays are refused

stay-iff : (n τ : ℕ) (s : Stay) → (is_stay n τ s ≡ true) ↔ IsStay n τ s
unfolding is_stay
stay-iff n τ s =
    let w =
    both_iff (both_iff (both_iff (both_iff (below-iff s.animal n) (most-iff s.pen max_pen)) (within-iff 1 s.first τ)) (within-iff 1 s.last τ))
    (most-iff s.first s.last) in (
      λ e. let h = w.0 e in record { animal_below = h.0.0.0.0; pen_within = h.0.0.0.1; first_within = h.0.0.1; last_within = h.0.1; in_order = h.1 },
      λ h. w.1 ((((h.animal_below, h.pen_within), h.first_within), h.last_within), h.in_order),
    )

each-iff : (n τ : ℕ) (l : List Stay) (o : Option Refusal) → (ensure_each n τ l o ≡ None) ↔ (((s : Stay) → Memᴰ s l → IsStay n τ s) × (o ≡ None))
unfolding ensure_each
each-iff n τ [] o = (λ e. (λ s m. absurd (Memᴰ.not-nil m), e), λ h. h.1)
each-iff n τ (r ∷ l) o =
    let a = ensure-iff (is_stay n τ r) IllegalStay (ensure_each n τ l o) in
    let b = each-iff n τ l o in (
      λ e.
          let p = a.0 e in
          let q = b.0 p.1 in
          (λ s m. ⊎_elim (λ z. subst (IsStay n τ) (sym z) ((stay-iff n τ r).0 p.0)) (q.0 s) (Memᴰ.cases_cons m), q.1),
      λ h. a.1 ((stay-iff n τ r).1 (h.0 r (Memᴰ.head refl)), b.1 (λ s m. h.0 s (Memᴰ.tail m), h.1)),
    )

-- Behind 5 and 6 nothing is refused exactly when the words are stays, and else 18.
are-iff : (T W : List ℕ) → (ensure_stays T W None ≡ None) ↔ AreStays (animals T) (ticks T) W
are-iff T W = (
  λ e.
      let a = (each-iff (animals T) (ticks T) (stays_of W) _).0 e in
      record { whole = eqb-true (length W % 4) 0 ((ensure-iff (is_whole W) IllegalStay None).0 a.1).0; each = a.0 },
  λ s. (each-iff (animals T) (ticks T) (stays_of W) _).1 (s.each, (ensure-iff (is_whole W) IllegalStay None).1 (eq-eqb (length W % 4) 0 s.whole, refl)),
)

one-eighteen : (b : Bool) {o : Option Refusal} {r : Refusal} → (o ≡ Some r → r ≡ IllegalStay) → ensure b IllegalStay o ≡ Some r → r ≡ IllegalStay
one-eighteen true f e = f e
one-eighteen false f e = cc

each-eighteen : (n τ : ℕ) (l : List Stay) {o : Option Refusal} {r : Refusal} → (o ≡ Some r → r ≡ IllegalStay) → ensure_each n τ l o ≡ Some r → r ≡ IllegalStay
unfolding ensure_each
each-eighteen n τ [] f e = f e
each-eighteen n τ (s ∷ l) f e = one-eighteen (is_stay n τ s) (each-eighteen n τ l f) e

-- The first record that is refused, or what the checks behind the records refuse.
each_first : (n τ : ℕ) (l : List Stay) {o : Option Refusal} {r : Refusal} → ensure_each n τ l o ≡ Some r → FirstIllegal n τ l ⊎ (o ≡ Some r)
unfolding ensure_each
each_first n τ [] e = inr e
each_first n τ (s ∷ l) {o} {r} e = go (is_stay n τ s) refl e (each_first n τ l)
  where
    later : IsStay n τ s → FirstIllegal n τ l → FirstIllegal n τ (s ∷ l)
    later h f =
        record {
          before = s ∷ f.before;
          illegal = f.illegal;
          behind = f.behind;
          split = ap (λ (m : List Stay). s ∷ m) f.split;
          stays = λ q m. ⊎_elim (λ z. subst (IsStay n τ) (sym z) h) (f.stays q) (Memᴰ.cases_cons m);
          no_stay = f.no_stay;
        }

    here : ¬ IsStay n τ s → FirstIllegal n τ (s ∷ l)
    here d = record { before = []; illegal = s; behind = l; split = refl; stays = λ q m. absurd (Memᴰ.not-nil m); no_stay = d }

    go : (b : Bool) → is_stay n τ s ≡ b → ensure b IllegalStay (ensure_each n τ l o) ≡ Some r → (ensure_each n τ l o ≡ Some r → FirstIllegal n τ l ⊎ (o ≡ Some r)) → FirstIllegal n τ (s ∷ l) ⊎ (o ≡ Some r)
    go true f h k = ⊎_elim (λ q. inl (later ((stay-iff n τ s).0 f) q)) inr (k h)
    go false f h k = inl (here (λ q. untrue (sym f ∙ (stay-iff n τ s).1 q)))

-- The records are refused with 18 or not at all.
eighteen : (T W : List ℕ) (r : Refusal) → ensure_stays T W None ≡ Some r → r ≡ IllegalStay
eighteen T W r = each-eighteen (animals T) (ticks T) (stays_of W) (one-eighteen (is_whole W) none-is_not_some)

pub stays-iff : (T W : List ℕ) → (stays_refusal T W ≡ None) ↔ (ValidTable T × AreStays (animals T) (ticks T) W)
unfolding stays_refusal
stays-iff T W = (
  λ e. let a = valid-behind T e in (a.0, (are-iff T W).0 a.1),
  λ h. behind-valid T h.0 _ ∙ (are-iff T W).1 h.1,
)

-- ---- what is answered

table_judged : (T W : List ℕ) (r : Refusal) → ensure_table T None ≡ Some r → stays_answer T W ≡ Err r
unfolding stays_answer stays_refusal
table_judged T W r e = rw ((table-group T).refuses r e (ensure_stays T W None)) refl

module _ (T W : List ℕ) where
  -- Where the words are no stays, a record is the first that is none, or the last is incomplete.
  abbrev Illegal : Type 0
  Illegal = FirstIllegal (animals T) (ticks T) (stays_of W) ⊎ (length W % 4 ≢ 0)

  refused_exactly : (stays_answer T W ≡ Err IllegalStay) ↔ (ValidTable T × Illegal)
  unfolding stays_answer stays_refusal
  refused_exactly = (to, of)
    where
      incomplete : (b : Bool) → is_whole W ≡ b → ensure b IllegalStay None ≡ Some IllegalStay → length W % 4 ≢ 0
      incomplete true f e = none-is_not_some e
      incomplete false f e = eqb-false (length W % 4) 0 f

      to : answer_of (ensure_table T (ensure_stays T W None)) (Ok (new_adds engine T (stay_contacts T W))) ≡ Err IllegalStay → ValidTable T × Illegal
      to e =
          let a = ((table-ahead T).behind (Some IllegalStay) (omega arith) (ensure_stays T W None)).0 ((refused-iff _ _ IllegalStay).0 e) in
          (a.0, ⊎_elim inl (λ z. inr (incomplete (is_whole W) refl z)) (each_first (animals T) (ticks T) (stays_of W) a.1))

      no_stays : Illegal → ¬ AreStays (animals T) (ticks T) W
      no_stays (inl f) s = f.no_stay (s.each f.illegal (subst (Memᴰ f.illegal) (sym f.split) (Memᴰ.append_right f.before (Memᴰ.head refl))))
      no_stays (inr d) s = d s.whole

      behind : (o : Option Refusal) → ensure_stays T W None ≡ o → (¬ AreStays (animals T) (ticks T) W) → o ≡ Some IllegalStay
      behind None e d = absurd (d ((are-iff T W).0 e))
      behind (Some r) e d = ap Some (eighteen T W r e)

      of : ValidTable T × Illegal → answer_of (ensure_table T (ensure_stays T W None)) (Ok (new_adds engine T (stay_contacts T W))) ≡ Err IllegalStay
      of (p, f) = rw (behind-valid T p (ensure_stays T W None), behind (ensure_stays T W None) refl (no_stays f)) refl

  pub added-answer : ValidTable T → AreStays (animals T) (ticks T) W → stays_answer T W ≡ Ok (new_adds engine T (stay_contacts T W))
  unfolding stays_answer
  added-answer p s = rw ((stays-iff T W).1 (p, s)) refl

  pub added-leaves : ValidTable T → AreStays (animals T) (ticks T) W → stays_leaves T W ≡ run engine T (stay_contacts T W)
  unfolding stays_leaves
  added-leaves p s = rw ((stays-iff T W).1 (p, s)) refl

  added_exactly : ((m : ℕ) × (stays_answer T W ≡ Ok m)) ↔ (ValidTable T × AreStays (animals T) (ticks T) W)
  unfolding stays_answer
  added_exactly = (λ (m, e). (stays-iff T W).0 ((given-iff (stays_refusal T W) _ m).0 e).0, λ h. (new_adds engine T (stay_contacts T W), added-answer h.0 h.1))

-- ---- the contacts added

module _ (T W : List ℕ) (p : ValidTable T) (s : AreStays (animals T) (ticks T) W) where
  -- Any list of these contacts has the legal contacts of the list in log order.
  same-legal : (l : List Contact) → Same (In l) (Met (stays_of W)) → Same (LegalOf (animals T) (ticks T) (stay_contacts T W)) (LegalOf (animals T) (ticks T) l)
  same-legal l e k = let c = contacts_exactly T W s k in (λ h. ((e k).1 (c.0 h.0), h.1), λ h. (c.1 ((e k).0 h.0), h.1))

  singly : (l : List Contact) → Same (In l) (Met (stays_of W)) → (stays_answer T W ≡ Ok (new_adds engine T l)) × (stays_leaves T W ≡ run engine T l)
  singly l e = (
    added-answer T W p s ∙ ap Ok (same_number T p (stay_contacts T W) l (same-legal l e)),
    added-leaves T W p s ∙ run-same T p (stay_contacts T W) l (same-legal l e),
  )

  both_held : (k : Contact) → Memᴰ k (held_contacts (stays_leaves T W)) ↔ (Memᴰ k (held_contacts T) ⊎ Met (stays_of W) k)
  both_held k =
      let h = list_held T p (stay_contacts T W) (contacts-legal T W s) k in
      let c = contacts_exactly T W s k in
      rw (added-leaves T W p s) (λ m. ⊎_elim inl (λ q. inr (c.0 q)) (h.0 m), λ m. h.1 (⊎_elim inl (λ q. inr (c.1 q)) m))

  new_to_table : StaysCount T W (λ k. Met (stays_of W) k × (¬ Memᴰ k (held_contacts T)))
  new_to_table =
      record {
        new = new_adds engine T (stay_contacts T W);
        answered = added-answer T W p s;
        number =
            number_same (λ k. let c = contacts_exactly T W s k in (λ h. (c.0 h.0, h.1), λ h. (c.1 h.0, h.1)))
            (list-new T p (stay_contacts T W) (contacts-legal T W s) (in_log_order_lem T W));
      }

-- ---- tables built by adds

module _ {n τ δ : ℕ} {P : Contacts} {T : List ℕ} (f : Fresh n τ δ P T) (W : List ℕ) (s : AreStays n τ W) where
  pub fresh-stays : AreStays (animals T) (ticks T) W
  fresh-stays = rw (fresh-animals f, fresh-ticks f) s

  pub stays_fresh : Fresh n τ δ (Union P (Met (stays_of W))) (stays_leaves T W)
  stays_fresh =
      subst (Fresh n τ δ (Union P (Met (stays_of W)))) (sym (added-leaves T W (fresh-passes f) fresh-stays))
      (fresh-map (run-union (stay_contacts T W) f)
      (λ k. let c = contacts_exactly T W fresh-stays k in (⊎_elim inl (λ h. inr (c.0 h.0)), ⊎_elim inl (λ m. inr (c.1 m, met-legal s.each k m)))))

  new_to_set : StaysCount T W (λ k. Met (stays_of W) k × (¬ P k))
  new_to_set =
      let a = new_to_table T W (fresh-passes f) fresh-stays in
      record {
        new = a.new;
        answered = a.answered;
        number = number_same (λ k. (λ h. (h.0, λ q. h.1 ((fresh-held f k).1 q)), λ h. (h.0, λ m. h.1 ((fresh-held f k).0 m)))) a.number;
      }

-- ---- the order of the records, and their repeats

module _ (A B : List ℕ) (e : (s : Stay) → Memᴰ s (stays_of A) ↔ Memᴰ s (stays_of B)) where
  met-same : (k : Contact) → Met (stays_of A) k → Met (stays_of B) k
  met-same k m =
      record {
        one = m.one;
        other = m.other;
        one_listed = (e m.one).0 m.one_listed;
        other_listed = (e m.other).0 m.other_listed;
        from_is = m.from_is;
        to_is = m.to_is;
        different = m.different;
        same_pen = m.same_pen;
        one_there = m.one_there;
        other_there = m.other_there;
      }

  listed_same : (T : List ℕ) (k : Contact) → Memᴰ k (stay_contacts T A) → Memᴰ k (stay_contacts T B)
  unfolding stay_contacts
  listed_same T k m =
      let l = (order-iff (animals T) (ticks T) (met (stays_of A)) k).0 m in
      (order-iff (animals T) (ticks T) (met (stays_of B)) k).1
      (record {
        from_below = l.from_below;
        to_below = l.to_below;
        from_one = l.from_one;
        to_last = l.to_last;
        passes = (met-iff (stays_of B) k).1 (met-same k ((met-iff (stays_of A) k).0 l.passes));
      })

  are-same : (n τ : ℕ) → is_whole A ≡ is_whole B → AreStays n τ A → AreStays n τ B
  are-same n τ w a =
      record { whole = eqb-true (length B % 4) 0 (sym w ∙ eq-eqb (length A % 4) 0 a.whole); each = λ s m. a.each s ((e s).1 m) }

module _ (T A B : List ℕ) (w : is_whole A ≡ is_whole B) (e : (s : Stay) → Memᴰ s (stays_of A) ↔ Memᴰ s (stays_of B)) where
  turned : (s : Stay) → Memᴰ s (stays_of B) ↔ Memᴰ s (stays_of A)
  turned s = ((e s).1, (e s).0)

  contacts-same : stay_contacts T A ≡ stay_contacts T B
  contacts-same =
      sorted-unique Earlier earlier-irreflexive earlier-transitive (stay_contacts T A) (stay_contacts T B) (in_log_order_lem T A) (in_log_order_lem T B)
      (λ k. (listed_same A B e T k, listed_same B A turned T k))

  judged_same : ensure_stays T A None ≡ ensure_stays T B None
  judged_same = go (ensure_stays T A None) (ensure_stays T B None) refl refl
    where
      go : (o q : Option Refusal) → ensure_stays T A None ≡ o → ensure_stays T B None ≡ q → o ≡ q
      go None None f g = refl
      go None (Some r) f g = none-some (ensure_stays T B None) r ((are-iff T B).1 (are-same A B e (animals T) (ticks T) w ((are-iff T A).0 f))) g
      go (Some r) None f g = none-some (ensure_stays T A None) r ((are-iff T A).1 (are-same B A turned (animals T) (ticks T) (sym w) ((are-iff T B).0 g))) f
      go (Some r) (Some q) f g = ap Some (eighteen T A r f ∙ sym (eighteen T B q g))

  any_order : (stays_answer T A ≡ stays_answer T B) × (stays_leaves T A ≡ stays_leaves T B)
  unfolding stays_answer stays_leaves stays_refusal
  any_order = rw (judged_same, contacts-same) (refl, refl)

no_stays : (T : List ℕ) → ValidTable T → (stays_answer T [] ≡ Ok 0) × (stays_leaves T [] ≡ T)
unfolding stays_of flat run new_adds
no_stays T p =
    singly T [] p (record { whole = refl; each = λ s m. absurd (Memᴰ.not-nil m) }) []
    (λ k. (λ m. absurd (Memᴰ.not-nil m), λ m. absurd (Memᴰ.not-nil m.one_listed)))

pub stay_rule : StayRule
stay_rule =
    record {
      read_again = read_again;
      words_again = words_again;
      table_judged = table_judged;
      refused_exactly = refused_exactly;
      added_exactly = added_exactly;
      contacts_exactly = contacts_exactly;
      in_log_order = in_log_order_lem;
      both_ways = both_ways;
      singly = singly;
      both_held = both_held;
      new_to_table = new_to_table;
      stays_fresh = λ n τ δ P T W f s. stays_fresh f W s;
      new_to_set = λ n τ δ P T W f s. new_to_set f W s;
      any_order = any_order;
      no_stays = no_stays;
    }

-- ---- demand 1

pub stays-kept : (T W : List ℕ) (r : Refusal) → stays_answer T W ≡ Err r → stays_leaves T W ≡ T
unfolding stays_answer stays_leaves
stays-kept T W r = refused-kept (stays_refusal T W) (new_adds engine T (stay_contacts T W)) _

pub stays_length : (T W : List ℕ) → length (stays_leaves T W) ≡ length T
unfolding stays_leaves
stays_length T W = unless-length T (stay_contacts T W) (stays_refusal T W) (λ e. ((stays-iff T W).0 e).0)

pub stays_valid : (T W : List ℕ) → ValidTable T → ValidTable (stays_leaves T W)
unfolding stays_leaves
stays_valid T W p = unless-valid T p (stay_contacts T W) (stays_refusal T W)
