-- Tables laid out from well-formed cells: what is read off them, and what a list of calls leaves. A table that passes 5 and 6 is one, whether adds
-- built it or not, and so is a fresh one.
use Rattle.std.specs.Prelude.{Option, None, Some}
use mathlib.Core.Path.{◌≡◌, refl, sym, ap, ◌∙◌, subst}
use mathlib.Core.Logic.{◌↔◌, ⊎_elim}
use mathlib.Core.Bool.{Bool, true, false, cond, ◌&&◌}
use mathlib.Core.List.Memᴰ
use mathlib.Core.List.{List, [], ◌∷◌}
use Prim.Native.Nat.{ℕ, ◌<◌}
use lib.ListN.{length, get_or}
use lib.Dec.{ltb}
use borrow.Author.Tests.{lt-ltb, ltb-true}
use Rattle.journeys.specs.declared.Contact.{Contact}
use Rattle.journeys.specs.Journey.{In, Same}
use Rattle.journeys.specs.Cell.{WellFormedCell}
use Rattle.journeys.specs.Adding.{Cells, add, add_all, WellFormed}
use Rattle.journeys.proofs.Closed.{add_same}
use Rattle.journeys.proofs.Rows.{add-well_formed}
use Rattle.words.specs.Words.{opening_word}
use Rattle.rules.specs.declared.Refusal.{Refusal}
use Rattle.rules.specs.Layout.{table_length, table_words, animals, ticks, carry, cells_of}
use Rattle.rules.specs.Checks.{ValidTable, WellFormedBelow}
use Rattle.rules.specs.Opening.{Sizes}
use Rattle.rules.specs.Adding.{Legal, add_refusal, added_cells, add_leaves}
use Rattle.rules.specs.CallLists.{engine, run, LegalOf}
use Rattle.rules.proofs.Folds.{and_intro}
use Rattle.rules.proofs.Decode.{empty-formed, table-animals, table-ticks, table-carry, table-length, cells-again, table-passes, table_same}
use Rattle.rules.proofs.Sound.{table-sizes, passes-good, passes-table}
use Rattle.rules.proofs.Judged.{none-some, add_iff}

-- T is the table of the well-formed cells C.
pub record Laid (n τ δ : ℕ) (C : Cells) (T : List ℕ) : Type 0 where
  pub sizes : Sizes n τ δ
  pub formed : WellFormed τ δ C
  pub words : T ≡ table_words n τ δ C

-- A refused call leaves the table.
pub refused-leaves : (T : List ℕ) (k : Contact) (r : Refusal) → add_refusal T k ≡ Some r → add_leaves T k ≡ T
unfolding add_leaves
refused-leaves T k r e = rw e

module _ {n τ δ : ℕ} {C : Cells} {T : List ℕ} (f : Laid n τ δ C T) where
  pub laid-good : WellFormedBelow n τ δ C
  laid-good = record { cells = λ x y h k. f.formed.cells x y; diagonal = λ x h. f.formed.diagonal x }

  pub laid-animals : animals T ≡ n
  laid-animals = ap animals f.words ∙ table-animals n τ δ f.sizes C

  pub laid-ticks : ticks T ≡ τ
  laid-ticks = ap ticks f.words ∙ table-ticks n τ δ f.sizes C

  pub laid-carry : carry T ≡ δ
  laid-carry = ap carry f.words ∙ table-carry n τ δ f.sizes C

  -- The opening word of its numbers stands first.
  pub laid-first : get_or T 0 0 ≡ opening_word n τ δ
  unfolding table_words
  laid-first = ap (λ (l : List ℕ). get_or l 0 0) f.words

  -- The table has the length for its numbers.
  pub laid-length : length T ≡ table_length n τ
  laid-length = ap length f.words ∙ table-length n τ δ f.sizes C laid-good

  -- It passes 5 and 6.
  pub laid-passes : ValidTable T
  laid-passes = subst ValidTable (sym f.words) (table-passes n τ δ f.sizes C laid-good)

  -- Its cells are read off its words as they were laid out.
  pub laid_cells : (x y : ℕ) → x < n → y < n → cells_of T x y ≡ C x y
  laid_cells x y h k = ap (λ (l : List ℕ). cells_of l x y) f.words ∙ cells-again n τ δ f.sizes C laid-good x y h k

  -- A call on it is accepted exactly when its contact is legal.
  pub laid-accepts : (k : Contact) → (add_refusal T k ≡ None) ↔ Legal n τ k
  laid-accepts k = (
    λ e. rw (laid-animals, laid-ticks) at ((add_iff T k).0 e).1,
    λ l. (add_iff T k).1 (laid-passes, rw (laid-animals, laid-ticks) l),
  )

  -- A legal add leaves the table of the cells with one contact more.
  pub laid-leaves : (k : Contact) → Legal n τ k → add_leaves T k ≡ table_words n τ δ (add δ C k)
  unfolding add_leaves added_cells
  laid-leaves k l =
      rw ((laid-accepts k).1 l, laid-animals, laid-ticks, laid-carry)
      (table_same n τ δ (add δ (cells_of T) k) (add δ C k)
      (λ x y h j. add_same δ (cells_of T) C k x y (laid_cells x y h j) (laid_cells x k.from h l.from_below) (laid_cells k.to y l.to_below j)))

  laid-add : (k : Contact) → Legal n τ k → Laid n τ δ (add δ C k) (add_leaves T k)
  laid-add k l = record { sizes = f.sizes; formed = add-well_formed τ δ C k f.formed l.from_one l.to_last; words = laid-leaves k l }

-- ---- a list of calls

-- What a list of calls leaves: the table of the cells with the contacts of some list added, which has the legal contacts of the calls.
pub record Ran (n τ δ : ℕ) (C : Cells) (A : List Contact) (T : List ℕ) : Type 0 where
  pub added : List Contact
  pub those : Same (In added) (LegalOf n τ A)
  pub laid : Laid n τ δ (add_all δ C added) T

module _ {n τ : ℕ} {c : Contact} {l A : List Contact} (e : Same (In l) (LegalOf n τ A)) where
  -- A legal contact is one more.
  legal-more : Legal n τ c → Same (In (c ∷ l)) (LegalOf n τ (c ∷ A))
  legal-more h k = (
    λ m. ⊎_elim (λ q. (Memᴰ.head q, subst (Legal n τ) (sym q) h)) (λ q. let r = (e k).0 q in (Memᴰ.tail r.0, r.1)) (Memᴰ.cases_cons m),
    λ m. ⊎_elim Memᴰ.head (λ q. Memᴰ.tail ((e k).1 (q, m.1))) (Memᴰ.cases_cons m.0),
  )

  -- Any other is none of them.
  legal-same : (¬ Legal n τ c) → Same (In l) (LegalOf n τ (c ∷ A))
  legal-same d k = (
    λ m. let r = (e k).0 m in (Memᴰ.tail r.0, r.1),
    λ m. ⊎_elim (λ q. absurd (d (subst (Legal n τ) q m.1))) (λ q. (e k).1 (q, m.1)) (Memᴰ.cases_cons m.0),
  )

pub run-laid : {n τ δ : ℕ} {C : Cells} (A : List Contact) {T : List ℕ} → Laid n τ δ C T → Ran n τ δ C A (run engine T A)
unfolding run add_all
run-laid [] f = record { added = []; those = λ k. (λ m. absurd (Memᴰ.not-nil m), λ m. absurd (Memᴰ.not-nil m.0)); laid = f }
run-laid {n} {τ} {δ} {C} (c ∷ A) {T} f = go (add_refusal T c) refl (λ D U g. run-laid A g)
  where
    go : (o : Option Refusal) → add_refusal T c ≡ o → ((D : Cells) (U : List ℕ) → Laid n τ δ D U → Ran n τ δ D A (run engine U A)) → Ran n τ δ C (c ∷ A) (run engine (add_leaves T c) A)
    go None e r =
        let l = (laid-accepts f c).0 e in
        let g = r (add δ C c) (add_leaves T c) (laid-add f c l) in
        record { added = c ∷ g.added; those = legal-more g.those l; laid = g.laid }
    go (Some q) e r =
        let g = r C (add_leaves T c) (subst (Laid n τ δ C) (sym (refused-leaves T c q e)) f) in
        record { added = g.added; those = legal-same g.those (λ l. none-some (add_refusal T c) q ((laid-accepts f c).1 l) e); laid = g.laid }

-- ---- any table that passes 5 and 6

module _ (T : List ℕ) (p : ValidTable T) where
  -- Its cells, empty where a number is no animal's.
  abbrev cells_below : Cells
  cells_below x y = cond (ltb x (animals T) && ltb y (animals T)) (cells_of T x y) []

  below-same : (x y : ℕ) → x < animals T → y < animals T → cells_of T x y ≡ cells_below x y
  below-same x y h k = ap (λ (b : Bool). cond b (cells_of T x y) []) (sym (and_intro (ltb x (animals T)) (ltb y (animals T)) (lt-ltb x (animals T) h) (lt-ltb y (animals T) k)))

  below-formed : WellFormed (ticks T) (carry T) cells_below
  below-formed = record { cells = λ x y. cell x y (ltb x (animals T)) (ltb y (animals T)) refl refl; diagonal = λ x. empty x (ltb x (animals T)) refl }
    where
      cell : (x y : ℕ) (a b : Bool) → ltb x (animals T) ≡ a → ltb y (animals T) ≡ b → WellFormedCell (ticks T) (carry T) (cond (a && b) (cells_of T x y) [])
      cell x y true true e f = (passes-good T p).cells x y (ltb-true x (animals T) e) (ltb-true y (animals T) f)
      cell x y true false e f = empty-formed (ticks T) (carry T)
      cell x y false b e f = empty-formed (ticks T) (carry T)

      empty : (x : ℕ) (a : Bool) → ltb x (animals T) ≡ a → cond (a && a) (cells_of T x x) [] ≡ []
      empty x true e = (passes-good T p).diagonal x (ltb-true x (animals T) e)
      empty x false e = refl

  -- A table that passes 5 and 6 is laid out from its cells.
  pub valid-laid : Laid (animals T) (ticks T) (carry T) cells_below T
  valid-laid =
      record {
        sizes = table-sizes T;
        formed = below-formed;
        words = passes-table T p ∙ table_same (animals T) (ticks T) (carry T) (cells_of T) cells_below below-same;
      }
