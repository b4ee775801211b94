-- Any two engines that meet demand 3 agree.
use Rattle.std.specs.Prelude.{Ok}
use mathlib.Core.Path.{◌≡◌, refl, sym, ap, ◌∙◌, subst}
use mathlib.Core.Logic.{◌↔◌, ⊎_elim}
use mathlib.Core.List.Memᴰ
use mathlib.Core.List.{List, [], ◌∷◌, ◌++◌, Memᴰ}
use Prim.Native.Nat.{ℕ}
use native.Mathlib.Decide.{ℕ_discrete}
use lib.ListN.{length}
use Rattle.journeys.specs.declared.Contact.{Contact}
use Rattle.rules.specs.declared.Added.TheVariants.{New, Known}
use Rattle.rules.specs.Adding.{Legal}
use Rattle.rules.specs.Fresh.{Fresh}
use Rattle.rules.specs.CallLists.{Engine, Call, removal, leaves_after, run_list, table_after, SetLeft, AcceptedOn, LegalCall}
use Rattle.rules.specs.Orders.{Sorted, Earlier, Pair, Lower}
use Rattle.rules.specs.Demand3.{OneMore, OneList, Demand3}
use Rattle.rules.specs.Determined.{AgreeAfter, Determined}
use Rattle.rules.proofs.Fresh.{fresh-unique}
use Rattle.rules.proofs.Sorted.{sorted-unique, lower-irreflexive, lower-transitive, earlier-irreflexive, earlier-transitive}

-- Whether two contacts are the same, and whether a list has one, is decided.
pub contact-equal : (k c : Contact) → Dec (k ≡ c)
contact-equal k c = go (ℕ_discrete k.from c.from) (ℕ_discrete k.to c.to) (ℕ_discrete k.tick c.tick)
  where
    go : Dec (k.from ≡ c.from) → Dec (k.to ≡ c.to) → Dec (k.tick ≡ c.tick) → Dec (k ≡ c)
    go (yes p) (yes q) (yes r) = yes (λ i. record { from = p i; to = q i; tick = r i })
    go (yes p) (yes q) (no r) = no (λ e. r (ap (λ j. j.tick) e))
    go (yes p) (no q) r = no (λ e. q (ap (λ j. j.to) e))
    go (no p) q r = no (λ e. p (ap (λ j. j.from) e))

member-decided : (k : Contact) (A : List Contact) → Dec (Memᴰ k A)
member-decided k [] = no Memᴰ.not-nil
member-decided k (c ∷ A) = go (contact-equal k c) (member-decided k A)
  where
    go : Dec (k ≡ c) → Dec (Memᴰ k A) → Dec (Memᴰ k (c ∷ A))
    go (yes e) d = yes (Memᴰ.head e)
    go (no n) (yes m) = yes (Memᴰ.tail m)
    go (no n) (no m) = no (λ h. ⊎_elim n m (Memᴰ.cases_cons h))

-- One call more is made on the words that the list left.
run-snoc : (G : Engine) (T : List ℕ) (A : List Call) (c : Call) → run_list G T (A ++ (c ∷ [])) ≡ leaves_after G (run_list G T A) c
unfolding run_list
run-snoc G T [] c = refl
run-snoc G T (d ∷ A) c = run-snoc G (leaves_after G T d) A c

module _ (E F : Engine) (dE : Demand3 E) (dF : Demand3 F) (n τ δ : ℕ) (words : List ℕ) (A : List Call)
    (pE : E.open_answer n τ δ words ≡ Ok tt) (pF : F.open_answer n τ δ words ≡ Ok tt) where
  abbrev of_e : (A : List Call) → OneList E n τ δ words A
  of_e A = (dE.loaded n τ δ words words A A pE pE).first

  abbrev of_f : (A : List Call) → OneList F n τ δ words A
  of_f A = (dF.loaded n τ δ words words A A pF pF).first

  same-accepted : (c : Call) → AcceptedOn E (table_after E n τ δ words A) c ↔ AcceptedOn F (table_after F n τ δ words A) c
  same-accepted c =
      let a = (of_e (A ++ (c ∷ []))).accepted A c [] refl in
      let b = (of_f (A ++ (c ∷ []))).accepted A c [] refl in
      (λ h. b.1 (a.0 h), λ h. a.1 (b.0 h))

  module _ (k : Contact) (W : List ℕ) (l : LegalCall n τ (SetLeft n τ A) (removal k W)) where
    -- Both answer that it is done.
    same-removal : E.remove_answer (table_after E n τ δ words A) W k ≡ F.remove_answer (table_after F n τ δ words A) W k
    same-removal = ((of_e (A ++ (removal k W ∷ []))).accepted A (removal k W) [] refl).1 l ∙ sym (((of_f (A ++ (removal k W ∷ []))).accepted A (removal k W) [] refl).1 l)

    -- The second tables are the first ones that the removal leaves, which are fresh over the same set.
    same-work : E.remove_work (table_after E n τ δ words A) W k ≡ F.remove_work (table_after F n τ δ words A) W k
    same-work =
        (of_e (A ++ (removal k W ∷ []))).work A k W [] refl l
        ∙ fresh-unique (after E (of_e (A ++ (removal k W ∷ [])))) (after F (of_f (A ++ (removal k W ∷ []))))
        ∙ sym ((of_f (A ++ (removal k W ∷ []))).work A k W [] refl l)
      where
        after : (G : Engine) → OneList G n τ δ words (A ++ (removal k W ∷ [])) → Fresh n τ δ (SetLeft n τ (A ++ (removal k W ∷ []))) (G.remove_leaves (table_after G n τ δ words A) W k)
        after G o = subst (Fresh n τ δ (SetLeft n τ (A ++ (removal k W ∷ [])))) (run-snoc G (G.open_leaves n τ δ words) A (removal k W)) o.fresh

  same_answer : (k : Contact) → Legal n τ k → E.add_answer (table_after E n τ δ words A) k ≡ F.add_answer (table_after F n τ δ words A) k
  same_answer k l = go (member-decided k (of_e A).listed)
    where
      a : OneMore E n τ δ (SetLeft n τ A) (table_after E n τ δ words A) k
      a = (of_e A).one_more k l

      b : OneMore F n τ δ (SetLeft n τ A) (table_after F n τ δ words A) k
      b = (of_f A).one_more k l

      pairs : a.pairs ≡ b.pairs
      pairs =
          sorted-unique Lower lower-irreflexive lower-transitive a.pairs b.pairs a.once b.once
          (λ p. (λ m. (b.those p).1 ((a.those p).0 m), λ m. (a.those p).1 ((b.those p).0 m)))

      go : Dec (Memᴰ k (of_e A).listed) → E.add_answer (table_after E n τ δ words A) k ≡ F.add_answer (table_after F n τ δ words A) k
      go (yes m) = let s = ((of_e A).own k).0 m in a.known.1 s ∙ ap (λ (q : List Pair). Ok (Known (length q))) pairs ∙ sym (b.known.1 s)
      go (no m) = let d : ¬ SetLeft n τ A k = λ h. m (((of_e A).own k).1 h) in a.new.1 d ∙ ap (λ (q : List Pair). Ok (New (length q))) pairs ∙ sym (b.new.1 d)

  -- The contacts listed are any sorted list of those left.
  listed-is : (G : Engine) (o : OneList G n τ δ words A) (l : List Contact) → Sorted Earlier l → ((k : Contact) → Memᴰ k l ↔ SetLeft n τ A k) → o.listed ≡ l
  listed-is G o l s h =
      sorted-unique Earlier earlier-irreflexive earlier-transitive o.listed l o.sorted s (λ k. (λ m. (h k).1 ((o.own k).0 m), λ m. (o.own k).1 ((h k).0 m)))

  agree_after : AgreeAfter E F n τ δ words A
  agree_after =
      record {
        tables = fresh-unique (of_e A).fresh (of_f A).fresh;
        accepted = same-accepted;
        answers = same_answer;
        removals = same-removal;
        works = same-work;
        written = λ l s h B w.
            (let e = listed-is E (of_e A) l s h in
            let f = listed-is F (of_f A) l s h in
            (rw e at (of_e A).written) B w ∙ sym ((rw f at (of_f A).written) B w));
        log = λ l s h B w.
            (let e = listed-is E (of_e A) l s h in
            let f = listed-is F (of_f A) l s h in
            (rw e at (of_e A).log) B w ∙ sym ((rw f at (of_f A).log) B w));
      }

pub determined : Determined
determined E F dE dF = record { openings = opens; after = λ n τ δ words A p. agree_after E F dE dF n τ δ words A p ((opens n τ δ words).0 p) }
  where
    opens : (n τ δ : ℕ) (words : List ℕ) → (E.open_answer n τ δ words ≡ Ok tt) ↔ (F.open_answer n τ δ words ≡ Ok tt)
    opens n τ δ words = (λ p. (dF.opened n τ δ words).1 ((dE.opened n τ δ words).0 p), λ p. (dE.opened n τ δ words).1 ((dF.opened n τ δ words).0 p))
