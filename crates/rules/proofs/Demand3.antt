-- Demand 3 holds of the engine of documents 01 and 02.
use Rattle.std.specs.Prelude.{None, Ok}
use mathlib.Core.Path.{◌≡◌, refl, sym, ap, ap₂, ◌∙◌, subst}
use mathlib.Core.Logic.{◌↔◌, inl, inr, ◌≢◌}
use mathlib.Core.Bool.{Bool, true, false, cond, not}
use mathlib.Core.List.{List, [], ◌∷◌, ◌++◌, Memᴰ}
use Prim.Native.Nat.{ℕ, zero, suc, ◌+◌, ◌≤◌, ◌<◌}
use native.Mathlib.Omega.{arith}
use lib.ListN.{length, drop, length-append}
use lib.Dec.{leb}
use borrow.Author.Tests.{le-leb}
use Rattle.journeys.specs.declared.Contact.{Contact}
use Rattle.journeys.specs.Journey.{Contacts, With, Same}
use Rattle.journeys.specs.Adding.{Cells, add}
use Rattle.journeys.proofs.Tests.{never, untrue, Outcome, holds, fails}
use Rattle.journeys.proofs.Closed.{add_same}
use Rattle.journeys.proofs.Theorems.{unchanged}
use Rattle.words.specs.Words.{opening_word}
use Rattle.rules.specs.declared.Refusal.TheVariants.{NotOpen, NotWellFormed, LogBufferTooShort}
use Rattle.rules.specs.declared.Added.TheVariants.{New, Known}
use Rattle.rules.specs.Folds.{flat, sum_below, count_below}
use Rattle.rules.specs.Layout.{cell_words, cell_at, cell_of, cells_of}
use Rattle.rules.specs.Checks.{is_open, well_formed}
use Rattle.rules.specs.Opening.{open_refusal}
use Rattle.rules.specs.Adding.{Legal, same_cell, cells_changed, added_cells, add_answer, add_leaves}
use Rattle.rules.specs.Adding as Adding
use Rattle.rules.specs.Logs.{held_contacts, log_words, write_refusal, write_answer, write_leaves}
use Rattle.rules.specs.Fresh.{Fresh}
use Rattle.rules.specs.Removing.{remove_refusal, remove_answer}
use Rattle.rules.specs.CallLists.{engine, Call, addition, removal, table_after, SetLeft, Accepted, AcceptedOn, LegalCall}
use Rattle.rules.specs.Orders.{Sorted, Pair, Lower}
use Rattle.rules.specs.Demand3.{SameMinimal, Changed, OneMore, OneList, TwoLists, Demand3}
use Rattle.rules.proofs.Refusals.{done-iff}
use Rattle.rules.proofs.Folds.{flat-member, member-flat}
use Rattle.rules.proofs.Decode.{cell-again, table-cell}
use Rattle.rules.proofs.Laid.{laid-first}
use Rattle.rules.proofs.Changes.{same_cell-outcome}
use Rattle.rules.proofs.Judged.{ensure-iff, open_iff, open_none, accepted-none}
use Rattle.rules.proofs.Fresh.{fresh-laid, fresh-good, fresh-animals, fresh-carry, fresh-passes, fresh_cells, fresh-accepts, add-fresh, fresh-map, fresh-unique}
use Rattle.rules.proofs.Sorted.{sorted-flat, sorted-one, member-one}
use Rattle.rules.proofs.Held.{held-sorted, fresh_holds, fresh-held}
use Rattle.rules.proofs.Removing.{same_words}
use Rattle.rules.proofs.Runs.{removal-accepted, left-fresh}

-- ---- the pairs whose cells differ

module _ (n : ℕ) (T U : Cells) where
  abbrev differs : ℕ → ℕ → List Pair
  differs x y = cond (not (same_cell (T x y) (U x y))) (record { from = x; to = y } ∷ []) []

  abbrev pair_row : ℕ → List Pair
  pair_row x = flat (differs x) n

  -- The ordered pairs below n whose cells differ, by u, then v.
  abbrev differing : List Pair
  differing = flat pair_row n

  row-length : (x m : ℕ) → length (flat (differs x) m) ≡ count_below (λ y. not (same_cell (T x y) (U x y))) m
  unfolding flat count_below
  row-length x zero = refl
  row-length x (suc m) = length-append (flat (differs x) m) (differs x m) ∙ ap₂ ◌+◌ (row-length x m) (one (not (same_cell (T x m) (U x m))))
    where
      one : (b : Bool) → length {A = Pair} (cond b (record { from = x; to = m } ∷ []) []) ≡ cond b 1 0
      one true = refl
      one false = refl

  rows-length : (m : ℕ) → length (flat pair_row m) ≡ sum_below (λ x. count_below (λ y. not (same_cell (T x y) (U x y))) n) m
  unfolding flat sum_below
  rows-length zero = refl
  rows-length (suc m) = length-append (flat pair_row m) (pair_row m) ∙ ap₂ ◌+◌ (rows-length m) (row-length m n)

  differing-length : length differing ≡ cells_changed n T U
  unfolding cells_changed
  differing-length = rows-length n

  differs_at : (x y : ℕ) (p : Pair) → Memᴰ p (differs x y) → (p ≡ record { from = x; to = y }) × (T x y ≢ U x y)
  differs_at x y p m =
      let r = member-one (not (same_cell (T x y) (U x y))) (record { from = x; to = y }) p m in
      (r.0, go (same_cell-outcome (T x y) (U x y)) r.1)
    where
      go : {b : Bool} → Outcome (T x y ≡ U x y) (T x y ≢ U x y) b → not b ≡ true → T x y ≢ U x y
      go (holds e) q = untrue q
      go (fails d) q = d

  -- Where a listed pair stands.
  record PairAt (x : ℕ) (p : Pair) : Type 0 where
    pub from_is : p.from ≡ x
    pub to_below : p.to < n
    pub differ : T p.from p.to ≢ U p.from p.to

  row-at : (x : ℕ) (p : Pair) → Memᴰ p (pair_row x) → PairAt x p
  row-at x p m =
      let r = member-flat (differs x) n m in
      let e = differs_at x r.0 p r.2 in
      let t = ap (λ q. q.to) e.0 in
      record {
        from_is = ap (λ q. q.from) e.0;
        to_below = omega (arith, r.1);
        differ = subst (λ (q : Pair). T q.from q.to ≢ U q.from q.to) (sym e.0) e.1;
      }

  differing-once : Sorted Lower differing
  differing-once = sorted-flat Lower pair_row n (λ x h. sorted-flat Lower (differs x) n (λ y k. sorted-one Lower (not (same_cell (T x y) (U x y))) (record { from = x; to = y })) (inner x)) outer
    where
      inner : (x i j : ℕ) → i < j → j < n → (p q : Pair) → Memᴰ p (differs x i) → Memᴰ q (differs x j) → Lower p q
      inner x i j o h p q a b =
          let e = (differs_at x i p a).0 in
          let f = (differs_at x j q b).0 in
          let g = ap (λ r. r.to) e in
          let l = ap (λ r. r.to) f in
          inr (ap (λ r. r.from) e ∙ sym (ap (λ r. r.from) f), omega arith)

      outer : (i j : ℕ) → i < j → j < n → (p q : Pair) → Memᴰ p (pair_row i) → Memᴰ q (pair_row j) → Lower p q
      outer i j o h p q a b = inl (omega (arith, (row-at i p a).from_is, (row-at j q b).from_is))

  differing-iff : (p : Pair) → Memᴰ p differing ↔ ((p.from < n) × (p.to < n) × (T p.from p.to ≢ U p.from p.to))
  differing-iff p = (to, of)
    where
      to : Memᴰ p differing → (p.from < n) × (p.to < n) × (T p.from p.to ≢ U p.from p.to)
      to m =
          let r = member-flat pair_row n m in
          let a = row-at r.0 p r.2 in
          (omega (arith, a.from_is, r.1), a.to_below, a.differ)

      of : (p.from < n) × (p.to < n) × (T p.from p.to ≢ U p.from p.to) → Memᴰ p differing
      of h =
          flat-member pair_row n p.from h.0
          (flat-member (differs p.from) n p.to h.1 (here (same_cell-outcome (T p.from p.to) (U p.from p.to))))
        where
          here : {b : Bool} → Outcome (T p.from p.to ≡ U p.from p.to) (T p.from p.to ≢ U p.from p.to) b → Memᴰ p (cond (not b) (p ∷ []) [])
          here (holds e) = absurd (h.2 e)
          here (fails d) = Memᴰ.head refl

-- ---- one contact more on a fresh table

module _ {n τ δ : ℕ} {S : Contacts} {T : List ℕ} (f : Fresh n τ δ S T) where
  -- The words of a cell.
  fresh-words : (x y : ℕ) → x < n → y < n → cell_at n τ T x y ≡ cell_words τ (f.cells x y)
  fresh-words x y h k = ap (λ (l : List ℕ). cell_at n τ l x y) f.words ∙ table-cell n τ δ f.sizes f.cells (fresh-good f) x y h k

  fresh-read : (x y : ℕ) → x < n → y < n → cell_of (cell_at n τ T x y) ≡ f.cells x y
  fresh-read x y h k = ap cell_of (fresh-words x y h k) ∙ cell-again τ δ f.sizes.τ-high f.sizes.δ-high (f.cells x y) ((fresh-good f).cells x y h k)

-- Two fresh tables have the same words in a cell exactly when they have the same cell.
cell-iff : {n τ δ : ℕ} {S R : Contacts} {T U : List ℕ} (f : Fresh n τ δ S T) (g : Fresh n τ δ R U) (x y : ℕ) → x < n → y < n
    → (cell_at n τ T x y ≡ cell_at n τ U x y) ↔ (f.cells x y ≡ g.cells x y)
cell-iff {τ = τ} f g x y h k = (
  λ e. sym (fresh-read f x y h k) ∙ ap cell_of e ∙ fresh-read g x y h k,
  λ e. fresh-words f x y h k ∙ ap (cell_words τ) e ∙ sym (fresh-words g x y h k),
)

module _ {n τ δ : ℕ} {S : Contacts} {T : List ℕ} (f : Fresh n τ δ S T) (k : Contact) (l : Legal n τ k) where
  abbrev after : Fresh n τ δ (With S k) (add_leaves T k)
  after = add-fresh f k l

  more-exactly : (x y : ℕ) → x < n → y < n → x ≢ y → (cell_at n τ (add_leaves T k) x y ≡ cell_at n τ T x y) ↔ SameMinimal S δ k x y
  unfolding add-fresh
  more-exactly x y h j d =
      let p = cell-iff after f x y h j in
      let q = unchanged δ S f.cells k f.minimal x y d in
      (λ e. q.0 (p.0 e), λ e. p.1 (q.1 e))

  more-diagonal : (x : ℕ) → x < n → cell_at n τ (add_leaves T k) x x ≡ cell_at n τ T x x
  more-diagonal x h = (cell-iff after f x x h h).1 (after.minimal.diagonal x ∙ sym (f.minimal.diagonal x))

  abbrev before-cells : Cells
  before-cells = cells_of T

  abbrev after-cells : Cells
  after-cells = add δ (cells_of T) k

  cells-iff : (x y : ℕ) → x < n → y < n → x ≢ y → (before-cells x y ≡ after-cells x y) ↔ SameMinimal S δ k x y
  cells-iff x y h j d =
      let b = fresh_cells f x y h j in
      let a = add_same δ (cells_of T) f.cells k x y b (fresh_cells f x k.from h l.from_below) (fresh_cells f k.to y l.to_below j) in
      let q = unchanged δ S f.cells k f.minimal x y d in
      (λ e. q.0 (sym a ∙ sym e ∙ b), λ e. b ∙ sym (q.1 e) ∙ sym a)

  diagonal-same : (x : ℕ) → x < n → before-cells x x ≡ after-cells x x
  unfolding add-fresh
  diagonal-same x h =
      let a = add_same δ (cells_of T) f.cells k x x (fresh_cells f x x h h) (fresh_cells f x k.from h l.from_below) (fresh_cells f k.to x l.to_below h) in
      fresh_cells f x x h h ∙ f.minimal.diagonal x ∙ sym (a ∙ after.minimal.diagonal x)

  more-those : (p : Pair) → Memᴰ p (differing n before-cells after-cells) ↔ Changed n δ S k p
  more-those p = (to, of)
    where
      q : Memᴰ p (differing n before-cells after-cells) ↔ ((p.from < n) × (p.to < n) × (before-cells p.from p.to ≢ after-cells p.from p.to))
      q = differing-iff n before-cells after-cells p

      to : Memᴰ p (differing n before-cells after-cells) → Changed n δ S k p
      to m =
          let h = q.0 m in
          let d : p.from ≢ p.to = λ e. h.2 (subst (λ v. before-cells p.from v ≡ after-cells p.from v) e (diagonal-same p.from h.0)) in
          record { from_below = h.0; to_below = h.1; different = d; changes = λ s. h.2 ((cells-iff p.from p.to h.0 h.1 d).1 s) }

      of : Changed n δ S k p → Memᴰ p (differing n before-cells after-cells)
      of c = q.1 (c.from_below, c.to_below, λ e. c.changes ((cells-iff p.from p.to c.from_below c.to_below c.different).0 e))

  answer-is : add_answer T k ≡ Ok (cond (Adding.holds T k) (Known (length (differing n before-cells after-cells))) (New (length (differing n before-cells after-cells))))
  unfolding add_answer added_cells
  answer-is = rw ((fresh-accepts f k).1 l, fresh-animals f, fresh-carry f, differing-length n before-cells after-cells) refl

  known-iff : (b : Bool) (m : ℕ) → (cond b (Known m) (New m) ≡ Known m) ↔ (b ≡ true)
  known-iff true m = (λ e. refl, λ e. refl)
  known-iff false m = (λ e. never cc, λ e. untrue e)

  new-iff : (b : Bool) (m : ℕ) → (cond b (Known m) (New m) ≡ New m) ↔ (¬ (b ≡ true))
  new-iff true m = (λ e. never cc, λ e. absurd (e refl))
  new-iff false m = (λ e q. untrue q, λ e. refl)

  stands-iff : (Adding.holds T k ≡ true) ↔ S k
  stands-iff = fresh_holds f k l.from_below l.to_below

  pub fresh-more : OneMore engine n τ δ S T k
  fresh-more =
      record {
        exactly = more-exactly;
        diagonal = more-diagonal;
        pairs = differing n before-cells after-cells;
        once = differing-once n before-cells after-cells;
        those = more-those;
        known = rw answer-is (let q = known-iff (Adding.holds T k) m in (λ e. stands-iff.0 (q.0 (cc)), λ s. ap Ok (q.1 (stands-iff.1 s))));
        new = rw answer-is (let q = new-iff (Adding.holds T k) m in (λ e s. q.0 (cc) (stands-iff.1 s), λ d. ap Ok (q.1 (λ e. d (stands-iff.0 e)))));
        larger = after;
      }
    where
      m : ℕ
      m = length (differing n before-cells after-cells)

-- ---- answers and logs of a fresh table

module _ {n τ δ : ℕ} {S : Contacts} {T : List ℕ} (f : Fresh n τ δ S T) where
  pub fresh-accepted : (k : Contact) → Accepted (add_answer T k) ↔ Legal n τ k
  fresh-accepted k = let a = accepted-none T k in let b = fresh-accepts f k in (λ h. b.0 (a.0 h), λ h. a.1 (b.1 h))

  -- A call is accepted exactly when it is legal.
  call-accepted : (c : Call) → AcceptedOn engine T c ↔ LegalCall n τ S c
  unfolding remove_answer
  call-accepted (addition k) = fresh-accepted k
  call-accepted (removal k W) = let a = done-iff (remove_refusal T W k) in let b = removal-accepted f k W in (λ e. b.0 (a.0 e), λ h. a.1 (b.1 h))

  write_accepts : (B : List ℕ) → length (held_contacts T) + 2 ≤ length B → write_refusal T B ≡ None
  unfolding write_refusal
  write_accepts B h =
      let p = fresh-passes f in
      (ensure-iff (is_open T) NotOpen _).1 (
        p.opens,
        (ensure-iff (well_formed T) NotWellFormed _).1 (
          p.formed,
          (ensure-iff (leb (length (held_contacts T) + 2) (length B)) LogBufferTooShort None).1
              (le-leb (length (held_contacts T) + 2) (length B) h, refl),
        ),
      )

  pub fresh-written : (B : List ℕ) → length (held_contacts T) + 2 ≤ length B → write_answer T B ≡ Ok (length (held_contacts T) + 2)
  unfolding write_answer
  fresh-written B h = rw (write_accepts B h)

  pub fresh-log : (B : List ℕ) → length (held_contacts T) + 2 ≤ length B
      → write_leaves T B ≡ log_words (opening_word n τ δ) (held_contacts T) ++ drop (length (held_contacts T) + 2) B
  unfolding write_leaves
  fresh-log B h = rw (write_accepts B h, laid-first (fresh-laid f))

-- ---- the demand

one_list : (n τ δ : ℕ) (words : List ℕ) (A : List Call) → open_refusal n τ δ words ≡ None → OneList engine n τ δ words A
one_list n τ δ words A e =
    record {
      accepted = λ P c Q q. call-accepted (left-fresh n τ δ words P e) c;
      work = λ P k W Q q l. same_words (table_after engine n τ δ words P) W k ((call-accepted (left-fresh n τ δ words P e) (removal k W)).1 l);
      fresh = f;
      listed = held_contacts (table_after engine n τ δ words A);
      sorted = held-sorted (table_after engine n τ δ words A);
      own = fresh-held f;
      written = fresh-written f;
      log = fresh-log f;
      one_more = fresh-more f;
    }
  where
    f : Fresh n τ δ (SetLeft n τ A) (table_after engine n τ δ words A)
    f = left-fresh n τ δ words A e

-- Equal fresh tables hold the same contacts.
pub fresh-shared : {n τ δ : ℕ} {S R : Contacts} {T U : List ℕ} → Fresh n τ δ S T → Fresh n τ δ R U → T ≡ U → (k : Contact) → S k → R k
fresh-shared f g e k s = (fresh-held g k).0 (subst (λ (L : List ℕ). Memᴰ k (held_contacts L)) e ((fresh-held f k).1 s))

-- Two fresh tables are equal exactly when their sets are.
pub fresh-equal : {n τ δ : ℕ} {S R : Contacts} {T U : List ℕ} → Fresh n τ δ S T → Fresh n τ δ R U → (T ≡ U) ↔ Same S R
fresh-equal f g = (λ e k. (fresh-shared f g e k, fresh-shared g f (sym e) k), λ e. fresh-unique (fresh-map f e) g)

pub demand3 : Demand3 engine
demand3 =
    record {
      opened = λ n τ δ words. (λ e. (open_iff n τ δ words).0 ((open_none n τ δ words).0 e), λ h. (open_none n τ δ words).1 ((open_iff n τ δ words).1 h));
      loaded = λ n τ δ wordsA wordsB A B p q. two n τ δ wordsA wordsB A B ((open_none n τ δ wordsA).0 p) ((open_none n τ δ wordsB).0 q);
    }
  where
    two : (n τ δ : ℕ) (wordsA wordsB : List ℕ) (A B : List Call) → open_refusal n τ δ wordsA ≡ None → open_refusal n τ δ wordsB ≡ None → TwoLists engine n τ δ wordsA wordsB A B
    two n τ δ wordsA wordsB A B p q =
        record {
          first = one_list n τ δ wordsA A p;
          second = one_list n τ δ wordsB B q;
          equal = fresh-equal (left-fresh n τ δ wordsA A p) (left-fresh n τ δ wordsB B q);
        }
