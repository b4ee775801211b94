-- The contact of a row, and those of all cells, marked but for one.
use mathlib.Core.Path.{◌≡◌, refl, sym, ap, ◌∙◌, subst}
use mathlib.Core.Logic.{◌↔◌, ◌≢◌, ⊎_elim}
use mathlib.Core.Bool.{Bool, cond, ◌&&◌}
use mathlib.Core.List.Memᴰ
use mathlib.Core.List.{List, [], ◌∷◌, Memᴰ}
use Prim.Native.Nat.{ℕ, ◌+◌, ◌-◌, ◌≤◌}
use native.Mathlib.Omega.{arith}
use borrow.Author.Tests.{eq-eqb, ne_eqb}
use Rattle.journeys.specs.declared.Contact.{Contact}
use Rattle.journeys.specs.Journey.{contact, In, Without, Same}
use Rattle.journeys.proofs.Tests.{Outcome, holds, fails, eq_outcome}
use Rattle.journeys.proofs.Cover.{departure-path}
use Rattle.words.specs.Layout.{get}
use Rattle.words.specs.Words.{departure_field, arrival_field, interval_of}
use Rattle.rules.specs.Layout.{animals, ticks, carry, cell_of}
use Rattle.rules.specs.Checks.{ValidTable}
use Rattle.rules.specs.Adding.{Legal}
use Rattle.rules.specs.Removing.{remaining}
use Rattle.rules.proofs.Held.{held-legal}
use Rattle.rules.proofs.Removing.{remaining-iff}
use Rattle.tables.specs.declared.Opening.{Opening}
use Rattle.cells.specs.Stored.{Stored}
use Rattle.building.specs.Stage.{CanMarkContact, MarksContact}
use Rattle.logs.specs.Ordered.{cell_contacts, table_contacts}
use Rattle.logs.proofs.Passes.{contacts_of, no-contact, one-contact}
use Rattle.logs.proofs.TableContacts.{contact-path, cell-iff, table-iff}
use Rattle.removing.specs.Remaining.{table_opening, MarkedFor, MarkedBesides, CanMarkAll, MarksAll, tick_left_out}
use Rattle.removing.proofs.MarkedSets.{none-marked, one-marked, same-marked}

-- ---- one row

-- A row's word w of cell (u, v), with departure d as it was read off it.
module _ (o : Opening) (u v w d : ℕ) (p : d ≡ get departure_field w) where
  -- The contacts of the row.
  abbrev these : List Contact
  these = contacts_of o.carry u v w

  -- There is none but (u, v, d).
  row-only : (c : Contact) → Memᴰ c these → c ≡ contact u v d
  row-only c m =
      let i = (cell-iff o.carry u v (interval_of w ∷ []) c).0 m in
      let t : c.tick ≡ d = ⊎_elim (λ e. departure-path e ∙ sym p) (λ n. absurd (Memᴰ.not-nil n)) (Memᴰ.cases_cons i.2) in
      contact-path c (contact u v d) i.0 i.1 t

  -- A row that departs at the tick left out has no contact to mark.
  pub row-left_out : {except : ℕ} {heads body : List ℕ} → d ≡ except → MarksAll o (Without (In these) (contact u v except)) heads body heads body
  row-left_out e = none-marked (λ c h. h.1 (row-only c h.0 ∙ ap (contact u v) e))

  -- Its arrival a, as it was read off it too.
  module _ (a : ℕ) (q : a ≡ get arrival_field w) where
    -- Nor has one that is longer than the carry time.
    pub row-longer : {except : ℕ} {heads body : List ℕ} → (a ≡ d + o.carry → ⊥) → MarksAll o (Without (In these) (contact u v except)) heads body heads body
    row-longer n = none-marked (λ c h. Memᴰ.not-nil (subst (Memᴰ c) (no-contact o.carry u v w d a p q n) h.0))

    module _ (h : a ≡ d + o.carry) where
      -- Any other is the contact (u, v, d).
      here : Memᴰ (contact u v d) these
      here = subst (Memᴰ (contact u v d)) (sym (one-contact o.carry u v w d a p q h)) (Memᴰ.head refl)

      module _ {heads body : List ℕ} where
        -- It can be marked.
        pub row-can_mark : CanMarkAll o (In these) heads body → CanMarkContact o.animals (o.ticks + 1) (contact u v d) heads body
        row-can_mark g =
            let z : o.ticks ≡ o.ticks + 1 - 1 = omega arith in
            record {
              carry_time = o.carry;
              others = g.others;
              marked = g.marked;
              legal = subst (λ (i : ℕ). Legal o.animals i (contact u v d)) z (g.legal (contact u v d) here);
            }

        -- It is marked.
        pub row-marked : {except : ℕ} → (d ≡ except → ⊥) → {heads₁ body₁ : List ℕ} {r : ℕ} → MarksContact o.animals (o.ticks + 1) (contact u v d) heads body heads₁ body₁ r
            → MarksAll o (Without (In these) (contact u v except)) heads body heads₁ body₁
        row-marked n =
            one-marked (λ c. (λ m. row-only c m.0, λ e. (subst (λ (k : Contact). Memᴰ k these) (sym e) here, λ f. n (ap (λ (k : Contact). k.tick) (sym e ∙ f)))))

-- ---- the tick left out

module _ (k : Contact) (x y : ℕ) {r : ℕ} where
  -- In the cell of the contact's pair it is the contact's.
  pub left-out_here : x ≡ k.from → y ≡ k.to → r ≡ k.tick → r ≡ tick_left_out k x y
  unfolding tick_left_out
  left-out_here p q e = rw (eq-eqb x k.from p, eq-eqb y k.to q) e

  -- In a cell from another animal it is 0.
  pub left-out_from : (x ≡ k.from → ⊥) → r ≡ 0 → r ≡ tick_left_out k x y
  unfolding tick_left_out
  left-out_from n e = rw (ne_eqb x k.from n) e

  -- So it is in a cell to another animal.
  pub left-out_to : x ≡ k.from → (y ≡ k.to → ⊥) → r ≡ 0 → r ≡ tick_left_out k x y
  unfolding tick_left_out
  left-out_to p n e = rw (eq-eqb x k.from p, ne_eqb y k.to n) e

-- To leave that tick out of cell (x, y) is to leave the contact out.
left_out : (k : Contact) (x y : ℕ) (c : Contact) → c.from ≡ x → c.to ≡ y → 1 ≤ c.tick → (c ≡ contact x y (tick_left_out k x y)) ↔ (c ≡ k)
unfolding tick_left_out
left_out k x y c p q h = go (eq_outcome x k.from) (eq_outcome y k.to)
  where
    go : {a b : Bool} → Outcome (x ≡ k.from) (x ≢ k.from) a → Outcome (y ≡ k.to) (y ≢ k.to) b → (c ≡ contact x y (cond (a && b) k.tick 0)) ↔ (c ≡ k)
    go (holds e) (holds f) = let z = contact-path (contact x y k.tick) k e f refl in (λ s. s ∙ z, λ s. s ∙ sym z)
    go (holds e) (fails n) = (λ s. let t = ap (λ (i : Contact). i.tick) s in absurd (omega arith), λ s. absurd (n (sym q ∙ ap (λ (i : Contact). i.to) s)))
    go (fails n) b = (λ s. let t = ap (λ (i : Contact). i.tick) s in absurd (omega arith), λ s. absurd (n (sym p ∙ ap (λ (i : Contact). i.from) s)))

-- ---- one cell

-- A cell (u, v) of stored words.
module _ (o : Opening) (k : Contact) (u v : ℕ) (cell : List ℕ) (h : Stored cell) where
  -- Its contacts.
  abbrev those : List Contact
  those = cell_contacts o.carry u v (cell_of cell)

  -- Where the cell's tick is left out, k is.
  same_left : Same (Without (In those) (contact u v (tick_left_out k u v))) (Without (In those) k)
  same_left j = (λ m. (m.0, λ e. m.1 ((iff m.0).1 e)), λ m. (m.0, λ e. m.1 ((iff m.0).0 e)))
    where
      iff : Memᴰ j those → (j ≡ contact u v (tick_left_out k u v)) ↔ (j ≡ k)
      iff m = let i = (cell-iff o.carry u v (cell_of cell) j).0 m in left_out k u v j i.0 i.1 (h.departs _ i.2)

  -- Marked but for the one at that tick, they are marked but for k.
  pub cell-marked : {except : ℕ} → except ≡ tick_left_out k u v → {heads body heads₁ body₁ : List ℕ}
      → MarksAll o (Without (In those) (contact u v except)) heads body heads₁ body₁ → MarksAll o (Without (In those) k) heads body heads₁ body₁
  cell-marked f {heads} {body} {heads₁} {body₁} p = same-marked same_left (subst (λ (i : ℕ). MarksAll o (Without (In those) (contact u v i)) heads body heads₁ body₁) f p)

-- ---- all cells

-- The opening that was read off the table T is the one that its opening word says.
pub opening-is : (T : List ℕ) {o : Opening} → (o.animals ≡ animals T) × (o.ticks ≡ ticks T) × (o.carry ≡ carry T) → o ≡ table_opening T
opening-is T e = λ i. record { animals = e.0 i; ticks = e.1 i; carry = e.2 i }

-- A valid table T with the opening o that was read off it, where no contact is marked yet.
module _ (T : List ℕ) (p : ValidTable T) {o : Opening} (e : (o.animals ≡ animals T) × (o.ticks ≡ ticks T) × (o.carry ≡ carry T)) {heads body : List ℕ} (f : MarkedFor (table_opening T) [] heads body) where
  -- Its contacts can be marked.
  pub table-can_mark : CanMarkAll o (In (table_contacts T)) heads body
  table-can_mark =
      record {
        others = [];
        marked = rw (opening-is T e) f;
        legal = λ k m. rw (e.0, e.1) (held-legal T p k ((table-iff T p k).0 m));
      }

  -- Marked but for k, they are those that remain.
  pub table-marked_without : {k : Contact} {heads₁ body₁ : List ℕ} → MarksAll o (Without (In (table_contacts T)) k) heads body heads₁ body₁
      → MarkedBesides (table_opening T) [] (In (remaining T k)) heads₁ body₁
  table-marked_without {k} {heads₁} {body₁} m =
      subst (λ (a : Opening). MarksAll a (In (remaining T k)) heads body heads₁ body₁) (opening-is T e) (same-marked left m) [] f
    where
      left : Same (Without (In (table_contacts T)) k) (In (remaining T k))
      left c = (
        λ q. (remaining-iff T k c).1 ((table-iff T p c).0 q.0, q.1),
        λ q. let z = (remaining-iff T k c).0 q in ((table-iff T p c).1 z.0, z.1),
      )
