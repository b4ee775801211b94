-- Fresh tables: they pass 5 and 6, are read as their cells, are the only ones over their set, and stay fresh under a legal add.
use Rattle.std.specs.Prelude.{None}
use mathlib.Core.Path.{◌≡◌, refl, sym, ◌∙◌, subst}
use mathlib.Core.Logic.{◌↔◌, ⊎_elim, ◌≢◌}
use mathlib.Core.List.{List, [], Memᴰ}
use Prim.Native.Nat.{ℕ, ◌<◌}
use native.Mathlib.Decide.{ℕ_discrete}
use lib.ListN.{length}
use Rattle.journeys.specs.declared.Contact.{Contact}
use Rattle.journeys.specs.declared.Interval.{Interval}
use Rattle.journeys.specs.Journey.{Contacts, With, Same}
use Rattle.journeys.specs.Cell.{Limits, WellFormedCell}
use Rattle.journeys.specs.Adding.{Cells, add}
use Rattle.journeys.proofs.Reach.{journey-carries, journey-limits}
use Rattle.journeys.proofs.Closed.{add-diagonal}
use Rattle.journeys.proofs.Rows.{add-cell_well_formed}
use Rattle.journeys.proofs.Theorems.{closure, empty-cells, cells-map, cells-unique}
use Rattle.rules.specs.Layout.{table_length, animals, ticks, carry, cells_of}
use Rattle.rules.specs.Checks.{ValidTable, WellFormedBelow}
use Rattle.rules.specs.Opening.{open_refusal, open_leaves}
use Rattle.rules.specs.Adding.{Legal, add_refusal, add_leaves}
use Rattle.rules.specs.Fresh.{Fresh}
use Rattle.rules.proofs.Decode.{empty-formed, table_same}
use Rattle.rules.proofs.Judged.{open_iff}
use Rattle.rules.proofs.Laid.{Laid, laid-good, laid-animals, laid-ticks, laid-carry, laid-length, laid-passes, laid_cells, laid-accepts, laid-leaves}

-- ---- the rule keeps good cells good

pub add-good : (n τ δ : ℕ) (T : Cells) (k : Contact) → Legal n τ k → WellFormedBelow n τ δ T → WellFormedBelow n τ δ (add δ T k)
add-good n τ δ T k l g =
    record {
      cells = λ x y h j. add-cell_well_formed τ δ T k l.from_one l.to_last x y (g.cells x y h j) (g.cells x k.from h l.from_below) (g.cells k.to y l.to_below j);
      diagonal = λ x h. add-diagonal δ T k x ∙ g.diagonal x h;
    }

pub empty-good : (n τ δ : ℕ) → WellFormedBelow n τ δ (λ x y. [])
empty-good n τ δ = record { cells = λ x y h k. empty-formed τ δ; diagonal = λ x h. refl }

-- ---- a fresh table

module _ {n τ δ : ℕ} {S : Contacts} {T : List ℕ} (f : Fresh n τ δ S T) where
  fresh-limits : (x y : ℕ) → x ≢ y → (i : Interval) → Memᴰ i (f.cells x y) → Limits τ δ i
  fresh-limits x y m i h =
      let j = (((f.minimal.cells x y m).exact i).0 h).journey in
      let r = journey-limits τ (λ k s. ((f.legal k s).from_one, (f.legal k s).to_last)) j in
      let c = journey-carries j in
      record { departs = r.0; in_time = r.1; carried = c; arrives = r.2 }

  -- A fresh table is laid out from its cells, which are well formed.
  pub fresh-laid : Laid n τ δ f.cells T
  fresh-laid = record { sizes = f.sizes; formed = record { cells = λ x y. go x y (ℕ_discrete x y); diagonal = f.minimal.diagonal }; words = f.words }
    where
      go : (x y : ℕ) → Dec (x ≡ y) → WellFormedCell τ δ (f.cells x y)
      go x y (yes e) = subst (WellFormedCell τ δ) (sym (subst (λ v. f.cells x v ≡ []) e (f.minimal.diagonal x))) (empty-formed τ δ)
      go x y (no m) = record { rising = (f.minimal.cells x y m).rising; limits = fresh-limits x y m }

  pub fresh-good : WellFormedBelow n τ δ f.cells
  fresh-good = laid-good fresh-laid

  pub fresh-animals : animals T ≡ n
  fresh-animals = laid-animals fresh-laid

  pub fresh-ticks : ticks T ≡ τ
  fresh-ticks = laid-ticks fresh-laid

  pub fresh-carry : carry T ≡ δ
  fresh-carry = laid-carry fresh-laid

  -- A fresh table has the length for its numbers.
  pub fresh-length : length T ≡ table_length n τ
  fresh-length = laid-length fresh-laid

  -- A fresh table passes 5 and 6.
  pub fresh-passes : ValidTable T
  fresh-passes = laid-passes fresh-laid

  -- Its cells, read off its words, are the cells of its set.
  pub fresh_cells : (x y : ℕ) → x < n → y < n → cells_of T x y ≡ f.cells x y
  fresh_cells = laid_cells fresh-laid

  -- A call on it is accepted exactly when its contact is legal.
  pub fresh-accepts : (k : Contact) → (add_refusal T k ≡ None) ↔ Legal n τ k
  fresh-accepts = laid-accepts fresh-laid

  -- A fresh table stays fresh under a legal add.
  unfoldable pub add-fresh : (k : Contact) → Legal n τ k → Fresh n τ δ (With S k) (add_leaves T k)
  add-fresh k l =
      record {
        sizes = f.sizes;
        legal = λ c s. ⊎_elim (f.legal c) (λ e. subst (Legal n τ) (sym e) l) s;
        cells = add δ f.cells k;
        minimal = closure.one_more δ S f.cells k f.minimal;
        words = laid-leaves fresh-laid k l;
      }

  -- Equal sets have the same fresh table.
  pub fresh-map : {R : Contacts} → Same S R → Fresh n τ δ R T
  fresh-map e = record { sizes = f.sizes; legal = λ k r. f.legal k ((e k).1 r); cells = f.cells; minimal = cells-map e f.minimal; words = f.words }

-- Exactly one list of words is fresh over a set.
pub fresh-unique : {n τ δ : ℕ} {S : Contacts} {T U : List ℕ} → Fresh n τ δ S T → Fresh n τ δ S U → T ≡ U
fresh-unique {n} {τ} {δ} f g = f.words ∙ table_same n τ δ f.cells g.cells (λ x y h k. cells-unique f.minimal g.minimal x y) ∙ sym g.words

-- Opening leaves the fresh table over no contacts.
pub open_fresh : (n τ δ : ℕ) (T : List ℕ) → open_refusal n τ δ T ≡ None → Fresh n τ δ (λ k. ⊥) (open_leaves n τ δ T)
unfolding open_leaves
open_fresh n τ δ T e =
    record { sizes = ((open_iff n τ δ T).0 e).0; legal = λ k b. absurd b; cells = λ x y. []; minimal = empty-cells δ; words = rw e }
