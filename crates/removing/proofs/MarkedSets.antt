-- Sets of contacts marked one after the other, and the invariant of the loops that mark lists of contacts but for one.
use mathlib.Core.Path.{◌≡◌, sym, ap, ◌∙◌, subst}
use mathlib.Core.Logic.{inl, inr, ⊎_elim}
use mathlib.Core.List.Memᴰ
use mathlib.Core.List.{List, [], ◌∷◌, ◌++◌, append-nil, append_assoc, Memᴰ}
use Prim.Native.Nat.{ℕ, ◌+◌}
use lib.ListN.{length}
use Rattle.journeys.specs.declared.Contact.{Contact}
use Rattle.journeys.specs.Journey.{Contacts, In, Without, Union, Same}
use Rattle.tables.specs.declared.Opening.{Opening}
use Rattle.building.specs.Stage.{MarksContact}
use Rattle.building.proofs.Plans.{member-snoc}
use Rattle.removing.specs.Remaining.{CanMarkAll, MarksAll}

-- ---- sets of contacts

module _ {o : Opening} {S : Contacts} {heads body : List ℕ} where
  -- Where S has no contact, there is nothing to mark.
  pub none-marked : ((k : Contact) → ¬ S k) → MarksAll o S heads body heads body
  none-marked d ks f = record { all = ks; marked = f; are = λ k. (inl, ⊎_elim (λ m. m) (λ h. absurd (d k h))) }

  module _ {heads₁ body₁ : List ℕ} where
    -- Where S has one contact, it is marked.
    pub one-marked : {k : Contact} {r : ℕ} → Same S (λ c. c ≡ k) → MarksContact o.animals (o.ticks + 1) k heads body heads₁ body₁ r
        → MarksAll o S heads body heads₁ body₁
    one-marked {k} e p ks f =
        record {
          all = ks ++ (k ∷ []);
          marked = (p o.carry ks f).marked;
          are = λ c. (λ m. ⊎_elim inl (λ q. inr ((e c).1 q)) (member-snoc ks k c m), ⊎_elim (Memᴰ.append_left (k ∷ [])) (λ h. Memᴰ.append_right ks (Memᴰ.head ((e c).0 h))));
        }

    -- Only which contacts S has matters.
    pub same-marked : {R : Contacts} → Same S R → MarksAll o S heads body heads₁ body₁ → MarksAll o R heads body heads₁ body₁
    same-marked e p ks f =
        let q = p ks f in
        record { all = q.all; marked = q.marked; are = λ k. (λ m. ⊎_elim inl (λ h. inr ((e k).0 h)) ((q.are k).0 m), λ h. (q.are k).1 (⊎_elim inl (λ r. inr ((e k).1 r)) h)) }

    -- The contacts of S are marked, then those of R.
    pub both-marked : {R : Contacts} {heads₂ body₂ : List ℕ} → MarksAll o S heads body heads₁ body₁ → MarksAll o R heads₁ body₁ heads₂ body₂
        → MarksAll o (Union S R) heads body heads₂ body₂
    both-marked p q ks f =
        let a = p ks f in
        let b = q a.all a.marked in
        record {
          all = b.all;
          marked = b.marked;
          are =
              λ k. (
                λ m. ⊎_elim (λ h. ⊎_elim inl (λ s. inr (inl s)) ((a.are k).0 h)) (λ r. inr (inr r)) ((b.are k).0 m),
                λ h. (b.are k).1 (⊎_elim (λ m. inl ((a.are k).1 (inl m))) (⊎_elim (λ s. inl ((a.are k).1 (inr s))) inr) h),
              );
        }

    module _ (g : CanMarkAll o S heads body) {R : Contacts} (p : MarksAll o R heads body heads₁ body₁) where
      -- When others are marked, contacts of S can still be.
      pub still-can_mark : {Q : Contacts} → ((k : Contact) → Q k → S k) → CanMarkAll o Q heads₁ body₁
      still-can_mark h = let a = p g.others g.marked in record { others = a.all; marked = a.marked; legal = λ k q. g.legal k (h k q) }

      -- There are as many words as before.
      pub marked-kept : length body₁ ≡ length body
      marked-kept = (p g.others g.marked).marked.stage.marked.long ∙ sym g.marked.stage.marked.long

-- ---- lists of contacts one after another

-- Of the contacts `all` those in front of `rest` are marked, but for k.
pub record MarkedSoFar (o : Opening) (k : Contact) (all rest : List Contact) (heads₀ body₀ heads body : List ℕ) : Type 0 where
  pub front : List Contact
  pub whole : all ≡ front ++ rest
  pub marks : MarksAll o (Without (In front) k) heads₀ body₀ heads body

-- At first all are left.
pub so_far_start : {o : Opening} {k : Contact} {heads body : List ℕ} {all rest : List Contact} → rest ≡ all → MarkedSoFar o k all rest heads body heads body
so_far_start e = record { front = []; whole = sym e; marks = none-marked (λ c h. Memᴰ.not-nil h.0) }

module _ {o : Opening} {k : Contact} {all rest : List Contact} {heads₀ body₀ heads body : List ℕ} (w : MarkedSoFar o k all rest heads₀ body₀ heads body) where
  module _ (a b : List Contact) (e : rest ≡ a ++ b) where
    -- The next contacts can be marked.
    pub so_far_next : CanMarkAll o (In all) heads₀ body₀ → CanMarkAll o (In a) heads body
    so_far_next g =
        still-can_mark g w.marks
        (λ c m. subst (Memᴰ c) (sym (w.whole ∙ ap (λ (l : List Contact). w.front ++ l) e)) (Memᴰ.append_right w.front (Memᴰ.append_left b m)))

    -- They are marked, but for k.
    pub so_far_turn : {heads₁ body₁ : List ℕ} → MarksAll o (Without (In a) k) heads body heads₁ body₁ → MarkedSoFar o k all b heads₀ body₀ heads₁ body₁
    so_far_turn p =
        record {
          front = w.front ++ a;
          whole = w.whole ∙ ap (λ (l : List Contact). w.front ++ l) e ∙ sym (append_assoc w.front a b);
          marks = same-marked joined (both-marked w.marks p);
        }
      where
        joined : Same (Union (Without (In w.front) k) (Without (In a) k)) (Without (In (w.front ++ a)) k)
        joined c = (
          ⊎_elim (λ h. (Memᴰ.append_left a h.0, h.1)) (λ h. (Memᴰ.append_right w.front h.0, h.1)),
          λ h. ⊎_elim (λ m. inl (m, h.1)) (λ m. inr (m, h.1)) (Memᴰ.append_cases w.front h.0),
        )

  -- At last none is left.
  pub so_far_end : rest ≡ [] → MarksAll o (Without (In all) k) heads₀ body₀ heads body
  so_far_end e =
      subst (λ (l : List Contact). MarksAll o (Without (In l) k) heads₀ body₀ heads body)
      (sym (w.whole ∙ ap (λ (l : List Contact). w.front ++ l) e ∙ append-nil w.front)) w.marks
