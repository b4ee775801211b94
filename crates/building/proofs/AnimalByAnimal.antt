-- A contact added animal by animal: the turns of the loop over the animals.
use Rattle.std.specs.Prelude.{Option, None, Some}
use mathlib.Core.Path.{◌≡◌, refl, sym, ap, ap₂, ◌∙◌, subst}
use mathlib.Core.Logic.{◌≢◌, ◌⊎◌, inl, inr, ⊎_elim}
use mathlib.Core.Bool.{Bool, true, false, cond, ◌&&◌}
use mathlib.Core.List.{List, [], ◌∷◌, ◌++◌, Memᴰ}
use Prim.Native.Nat.{ℕ, suc, ◌+◌, ◌-◌, ◌*◌, ◌≤◌, ◌<◌}
use native.Mathlib.Omega.{arith}
use lib.ListN.{length, take, drop}
use lib.Seq.{drop-drop}
use lib.Dec.{leb, ltb, eqb}
use borrow.Author.Tests.{lt-ltb, le-ltb}
use Rattle.rules.specs.Limits.{max_arrival}
use Rattle.journeys.specs.declared.Contact.{Contact}
use Rattle.journeys.specs.declared.Interval.{Interval}
use Rattle.journeys.specs.Journey.{interval}
use Rattle.journeys.specs.Cell.{Cell, WellFormedCell, latest_departure}
use Rattle.journeys.specs.Adding.{Cells, add, departure_of}
use Rattle.journeys.proofs.Closed.{add-diagonal}
use Rattle.journeys.proofs.Rows.{rows-suffice}
use Rattle.journeys.proofs.Tests.{Outcome, holds, fails, eq_outcome}
use Rattle.rules.specs.Layout.{cell_of}
use Rattle.rules.proofs.Fresh.{add-good}
use Rattle.grid.specs.Parts.{put}
use Rattle.grid.proofs.Places.{place, part_length}
use Rattle.grid.specs.Cells.{cell_in, Grid}
use Rattle.adding.specs.Steps.{departing}
use Rattle.tables.proofs.Ticks.{Tick, tick-cond, latest-tick}
use Rattle.building.specs.RowsInUse.{put_last, put_last_from, with_rows, put_words, InUse, CanPutLast}
use Rattle.building.specs.Marks.{marks, marked_words, Marked}
use Rattle.building.specs.Stage.{added_below, CanAppend, InUseCell, PartlyAdded, AddsForAnimals}
use Rattle.building.proofs.Places.{apart, put-length as put-kept, part-put_here, part-put_there, number_same}
use Rattle.building.proofs.TickOrder.{add-elsewhere, add-column}
use Rattle.building.proofs.RowsInUse.{rows-length, rows-rest, rows-again, rows-in_use}
use Rattle.building.proofs.Marking.{marks-length, marks-next}

-- Equal cells are marked alike.
pub marked-cells : {n τ : ℕ} {body : List ℕ} {T U : Cells} {L : ℕ → List ℕ} → Marked n τ body T L → ((x y : ℕ) → x < n → y < n → T x y ≡ U x y)
    → Marked n τ body U L
marked-cells {n} {τ} {body} {T} {U} {L} m f =
    record {
      long = m.long;
      cells = λ x y h k. m.cells x y h k ∙ ap (λ (c : Cell). marked_words τ L (x * n + y) c) (f x y h k);
    }

module _ {n τ : ℕ} (δ : ℕ) {body : List ℕ} (T : Cells) {L : ℕ → List ℕ} (k : Contact) where
  -- Added for no animal.
  pub added_none : Marked n τ body T L → Marked n τ body (added_below δ T k 0) L
  unfolding added_below
  added_none m = marked-cells m (λ x y h j. rw (le-ltb x 0 (omega arith)) refl)

  -- Added for all animals.
  pub added-all : CanAppend n τ δ T k → Marked n τ body (added_below δ T k n) L → Marked n τ body (add δ T k) L
  unfolding added_below
  added-all r m = marked-cells m (λ x y h j. rw (lt-ltb x n h) (go x y h j (eq_outcome y k.to)))
    where
      go : (x y : ℕ) → x < n → y < n → {b : Bool} → Outcome (y ≡ k.to) (y ≢ k.to) b → cond b (add δ T k x y) (T x y) ≡ add δ T k x y
      go x y h j (holds e) = refl
      go x y h j (fails d) =
          sym
          (add-elsewhere δ T k x y d (λ i q. let a = r.early k.to y r.legal.to_below j i q in let b = r.sizes.δ-low in omega (arith, a.0)))

module _ (n s δ : ℕ) (k : Contact) where
  -- At first nothing is added.
  pub adds_none : (j : ℕ) (body : List ℕ) → AddsForAnimals n s δ k j j body body
  adds_none j body T L r m = m

  -- One turn after the others.
  pub adds_then : (j i h : ℕ) (b c d : List ℕ) → AddsForAnimals n s δ k j i b c → AddsForAnimals n s δ k i h c d → AddsForAnimals n s δ k j h b d
  adds_then j i h b c d f g T L r m = g T L r (f T L r m)

  -- The words that a turn leaves are ready for the next.
  pub partly_added_on : (j i : ℕ) (b c : List ℕ) → PartlyAdded n s δ k j b → AddsForAnimals n s δ k j i b c → PartlyAdded n s δ k i c
  partly_added_on j i b c p f =
      record { cells = p.cells; lists = p.lists; can_append = p.can_append; marked = f p.cells p.lists p.can_append p.marked }

-- ---- one animal

-- Putting an interval last makes one row more or none.
put-length : (i : Interval) (c : Cell) → (length (put_last i c) ≡ length c) ⊎ (length (put_last i c) ≡ length c + 1)
unfolding put_last
put-length i [] = inr refl
put-length i (j ∷ []) = go (leb i.departure j.departure) (leb i.arrival j.arrival)
  where
    go : (a b : Bool)
        → (length (cond a (j ∷ []) (cond b (i ∷ []) (j ∷ i ∷ []))) ≡ 1) ⊎ (length (cond a (j ∷ []) (cond b (i ∷ []) (j ∷ i ∷ []))) ≡ 1 + 1)
    go true b = inl refl
    go false true = inl refl
    go false false = inr refl
put-length i (j ∷ k ∷ c) = ⊎_elim (λ e. inl (omega arith)) (λ e. inr (omega arith)) (put-length i (k ∷ c))

-- What stands behind a cell with as many rows, or one more.
behind-rows : (L : ℕ → List ℕ) (w τ : ℕ) (c : Cell) (m : ℕ) → (m ≡ length c) ⊎ (m ≡ length c + 1) → m ≤ τ
    → drop (m + 1) (marked_words τ L w c) ≡ marks L w m (τ - m)
behind-rows L w τ c m (inl e) h =
    ap (λ (i : ℕ). drop (i + 1) (marked_words τ L w c)) e
    ∙ rows-rest c (marks L w (length c) (τ - length c))
    ∙ ap (λ (i : ℕ). marks L w i (τ - i)) (sym e)
behind-rows L w τ c m (inr e) h =
    let a : m + 1 ≡ length c + 1 + 1 = omega arith in
    let b : τ - length c ≡ suc (τ - m) = omega arith in
    let d : suc (length c) ≡ m = omega arith in
    ap (λ (i : ℕ). drop i (marked_words τ L w c)) a
    ∙ sym (drop-drop 1 (length c + 1) (marked_words τ L w c))
    ∙ ap (drop 1) (rows-rest c (marks L w (length c) (τ - length c)) ∙ ap (marks L w (length c)) b)
    ∙ marks-next L w (length c) (τ - m)
    ∙ ap (λ (i : ℕ). marks L w i (τ - m)) d

module _ (s : ℕ) {n δ x : ℕ} {body : List ℕ} {T : Cells} {L : ℕ → List ℕ} {k : Contact} (hx : x < n) (r : CanAppend n (s - 1) δ T k) (m : Marked n (s - 1) body (added_below δ T k x) L) where
  abbrev u : ℕ
  u = k.from

  abbrev v : ℕ
  v = k.to

  abbrev t : ℕ
  t = k.tick

  s-is : s - 1 + 1 ≡ s
  s-is = omega (arith, r.sizes.τ-low)

  -- Every cell is well formed.
  formed : (a b : ℕ) → a < n → b < n → WellFormedCell (s - 1) δ (added_below δ T k x a b)
  unfolding added_below
  formed a b ha hb = go (ltb a x && eqb b v)
    where
      go : (w : Bool) → WellFormedCell (s - 1) δ (cond w (add δ T k a b) (T a b))
      go true = (add-good n (s - 1) δ T k r.legal r.good).cells a b ha hb
      go false = r.good.cells a b ha hb

  -- The words of a cell.
  words : (a b : ℕ) → a < n → b < n → cell_in n s body a b ≡ marked_words (s - 1) L (a * n + b) (added_below δ T k x a b)
  words a b ha hb = ap (λ (q : ℕ). cell_in n q body a b) (sym s-is) ∙ m.cells a b ha hb

  -- Rows and marks fill a cell.
  few : (a b : ℕ) → a < n → b < n
      → length (added_below δ T k x a b) + length (marks L (a * n + b) (length (added_below δ T k x a b)) (s - 1 - length (added_below δ T k x a b))) ≡ s - 1
  few a b ha hb =
      let o = rows-suffice (s - 1) δ (added_below δ T k x a b) (formed a b ha hb) in
      omega (arith, marks-length L (a * n + b) (length (added_below δ T k x a b)) (s - 1 - length (added_below δ T k x a b)))

  -- The ends of its intervals.
  bounds : (a b : ℕ) → a < n → b < n → (i : Interval) → Memᴰ i (added_below δ T k x a b)
      → (1 ≤ i.departure) × (i.departure ≤ s - 1) × (i.arrival ≤ max_arrival)
  bounds a b ha hb i q =
      let o = (formed a b ha hb).limits i q in
      let z = r.sizes in
      (o.departs, o.in_time, omega (arith, o.arrives, z.τ-high, z.δ-high))

  -- Its words are rows in use and marks.
  in_use : (a b : ℕ) → a < n → b < n → InUse (cell_in n s body a b)
  in_use a b ha hb =
      let z = r.sizes in
      subst InUse (sym (words a b ha hb))
      (rows-in_use (added_below δ T k x a b) (marks L (a * n + b) (length (added_below δ T k x a b)) (s - 1 - length (added_below δ T k x a b))) (omega (arith, few a b ha hb, z.τ-high)) (formed a b ha hb).rising
      (λ i q. let o = bounds a b ha hb i q in (o.0, omega (arith, o.1, few a b ha hb), o.2)))

  -- Every cell is as the functions on a cell ask.
  pub grid-in_use : Grid InUse n s body
  grid-in_use =
      let z = r.sizes in
      record { few = z.n_high; long = m.long ∙ ap (λ (q : ℕ). n * n * q) s-is; short = omega (arith, z.τ-high); every = in_use }

  -- The cells of x that are read and written.
  pub source_cell : InUseCell n s body x u
  source_cell = record { grid = grid-in_use; from_below = hx; to_below = r.legal.from_below }

  pub goal_cell : InUseCell n s body x v
  goal_cell = record { grid = grid-in_use; from_below = hx; to_below = r.legal.to_below }

  -- The one that is written ends inside the words.
  pub goal_inside : (x * n + v) * s + s ≤ length body
  goal_inside = (place n s body x v grid-in_use.few grid-in_use.long hx r.legal.to_below).inside

  -- The rows in use of a cell.
  cell-is : (a b : ℕ) → a < n → b < n → cell_of (cell_in n s body a b) ≡ added_below δ T k x a b
  cell-is a b ha hb =
      let z = r.sizes in
      ap cell_of (words a b ha hb)
      ∙ rows-again (added_below δ T k x a b) (marks L (a * n + b) (length (added_below δ T k x a b)) (s - 1 - length (added_below δ T k x a b))) (omega (arith, few a b ha hb, z.τ-high))
      (λ i q. let o = bounds a b ha hb i q in (omega (arith, o.1, z.τ-high), o.2))

  -- Those of x are as they were.
  own : (b : ℕ) → added_below δ T k x x b ≡ T x b
  unfolding added_below
  own b = rw (le-ltb x x (omega arith)) refl

  -- The departure read off the words is that of the rule.
  pub departs-by_rule : departing n s body u t x ≡ departure_of T k x
  unfolding departing departure_of
  departs-by_rule = ap (λ (c : Cell). cond (eqb x u) (Some t) (latest_departure c t)) (cell-is x u hx r.legal.from_below ∙ own u)

  ticks : Tick s (departure_of T k x)
  unfolding departure_of
  ticks =
      tick-cond s (eqb x u) (Some t) (latest_departure (T x u) t) (r.legal.from_one, omega (arith, r.legal.to_last))
      (latest-tick s t (T x u) (λ i q. let o = (r.good.cells x u hx r.legal.from_below).limits i q in (o.departs, omega (arith, o.in_time))))

  -- With x added.
  next : (body₁ : List ℕ) → Marked n (s - 1) body₁ (λ a b. cond (eqb a x && eqb b v) (add δ T k a b) (added_below δ T k x a b)) L
      → Marked n (s - 1) body₁ (added_below δ T k (x + 1)) L
  unfolding added_below
  next body₁ q = marked-cells q (λ a b ha hb. go a b (eq_outcome a x) (eq_outcome b v))
    where
      go : (a b : ℕ) {p : Bool} {q : Bool} → Outcome (a ≡ x) (a ≢ x) p → Outcome (b ≡ v) (b ≢ v) q
          → cond (p && q) (add δ T k a b) (cond (ltb a x && q) (add δ T k a b) (T a b)) ≡ cond (ltb a (x + 1) && q) (add δ T k a b) (T a b)
      go a b (holds e) (holds f) = rw (lt-ltb a (x + 1) (omega arith)) refl
      go a b (holds e) (fails f) = rw (le-ltb a x (omega arith), lt-ltb a (x + 1) (omega arith)) refl
      go a b {p} {q} (fails e) f = ap (λ (w : Bool). cond (w && q) (add δ T k a b) (T a b)) (same a e)
        where
          same : (a : ℕ) → a ≢ x → ltb a x ≡ ltb a (x + 1)
          same a d =
              ⊎_elim (λ h. lt-ltb a x h ∙ sym (lt-ltb a (x + 1) (omega arith))) (λ h. le-ltb a x (omega arith) ∙ sym (le-ltb a (x + 1) (omega arith)))
              (apart a x d)

  -- Where the rule adds nothing to the cell of x, nothing need be written.
  pub for_unchanged : add δ T k x v ≡ T x v → Marked n (s - 1) body (added_below δ T k (x + 1)) L
  for_unchanged e = next body (marked-cells m (λ a b ha hb. go a b (eq_outcome a x) (eq_outcome b v)))
    where
      go : (a b : ℕ) {p : Bool} {q : Bool} → Outcome (a ≡ x) (a ≢ x) p → Outcome (b ≡ v) (b ≢ v) q
          → added_below δ T k x a b ≡ cond (p && q) (add δ T k a b) (added_below δ T k x a b)
      go a b (holds f) (holds g) = ap₂ (λ (c d : ℕ). added_below δ T k x c d) f g ∙ own v ∙ sym e ∙ sym (ap₂ (λ (c d : ℕ). add δ T k c d) f g)
      go a b (holds f) (fails g) = refl
      go a b (fails f) g = refl

  -- For x itself the goal of the contact: no cell.
  pub for_goal : x ≡ v → Marked n (s - 1) body (added_below δ T k (x + 1)) L
  for_goal e = for_unchanged (subst (λ (w : ℕ). add δ T k x w ≡ T x w) e (add-diagonal δ T k x))

  module _ (d : x ≢ v) where
    column : add δ T k x v ≡ put_last_from (departure_of T k x) (t + δ) (T x v)
    column = add-column δ T k x d (r.good.cells x v hx r.legal.to_below).rising (λ i q. (r.early x v hx r.legal.to_below i q).1)

    -- No departure.
    pub for_no_departure : departing n s body u t x ≡ None → Marked n (s - 1) body (added_below δ T k (x + 1)) L
    unfolding put_last_from
    for_no_departure e =
        for_unchanged (column ∙ ap (λ (o : Option ℕ). put_last_from o (t + δ) (T x v)) (sym departs-by_rule ∙ e))

    module _ (w : ℕ) (e : departing n s body u t x ≡ Some w) where
      departs : departure_of T k x ≡ Some w
      departs = sym departs-by_rule ∙ e

      -- The departure is a tick of the table.
      departure-tick : (1 ≤ w) × (w < s)
      departure-tick = subst (Tick s) departs ticks

      -- The interval can be put at the end of the cell, lent.
      pub can_put : {lent : List ℕ} → lent ≡ cell_in n s body x v → CanPutLast w (t + δ) lent
      unfolding cell_in
      can_put {lent} f =
          let z = r.sizes in
          let l : length lent ≡ s = ap length f ∙ part_length s (x * n + v) body goal_inside in
          record {
            in_use = subst InUse (sym f) (in_use x v hx r.legal.to_below);
            departs = departure-tick.0;
            in_time = omega (arith, departure-tick.1);
            arrives = omega (arith, r.legal.to_last, z.τ-high, z.δ-high);
          }

      added : put_last (interval w (t + δ)) (T x v) ≡ add δ T k x v
      unfolding put_last_from
      added = sym (column ∙ ap (λ (o : Option ℕ). put_last_from o (t + δ) (T x v)) departs)

      -- The interval put at the end of the cell of x.
      pub for_put : (lent new : List ℕ) → lent ≡ cell_in n s body x v
          → new ≡ put_words (interval w (t + δ)) lent
          → Marked n (s - 1) (put s (x * n + v) new body) (added_below δ T k (x + 1)) L
      unfolding cell_in
      for_put lent new f g =
          next (put s (x * n + v) new body)
          (record {
            long = put-kept s (x * n + v) new body new-long goal_inside ∙ m.long;
            cells =
                λ a b ha hb. ap (λ (q : ℕ). take q (drop ((a * n + b) * q) (put s (x * n + v) new body))) s-is
                ∙ go a b ha hb (eq_outcome a x) (eq_outcome b v);
          })
        where
          c : Cell
          c = add δ T k x v

          hv : v < n
          hv = r.legal.to_below

          rows_fit : length c ≤ s - 1
          rows_fit = rows-suffice (s - 1) δ c ((add-good n (s - 1) δ T k r.legal r.good).cells x v hx hv)

          lent-cell : cell_of lent ≡ T x v
          lent-cell = ap cell_of f ∙ cell-is x v hx hv ∙ own v

          put_is : put_last (interval w (t + δ)) (cell_of lent) ≡ c
          put_is = ap (put_last (interval w (t + δ))) lent-cell ∙ added

          lent-words : lent ≡ marked_words (s - 1) L (x * n + v) (T x v)
          lent-words = f ∙ words x v hx hv ∙ ap (λ (q : Cell). marked_words (s - 1) L (x * n + v) q) (own v)

          grown : (length c ≡ length (T x v)) ⊎ (length c ≡ length (T x v) + 1)
          grown = subst (λ (q : Cell). (length q ≡ length (T x v)) ⊎ (length q ≡ length (T x v) + 1)) added (put-length (interval w (t + δ)) (T x v))

          new_is : new ≡ marked_words (s - 1) L (x * n + v) c
          new_is =
              g
              ∙ ap (λ (q : Cell). with_rows q (drop (length q + 1) lent)) put_is
              ∙ ap (λ (q : List ℕ). with_rows c (drop (length c + 1) q)) lent-words
              ∙ ap (with_rows c) (behind-rows L (x * n + v) (s - 1) (T x v) (length c) grown rows_fit)

          new-long : length new ≡ s
          new-long =
              ap length new_is
              ∙ rows-length c (marks L (x * n + v) (length c) (s - 1 - length c))
              ∙ omega (arith, rows_fit, marks-length L (x * n + v) (length c) (s - 1 - length c))

          old : (a b : ℕ) → a < n → b < n → a * n + b ≢ x * n + v
              → take s (drop ((a * n + b) * s) (put s (x * n + v) new body)) ≡ marked_words (s - 1) L (a * n + b) (added_below δ T k x a b)
          old a b ha hb q = part-put_there s (x * n + v) new body new-long goal_inside (a * n + b) q ∙ words a b ha hb

          go : (a b : ℕ) → a < n → b < n → {p : Bool} {q : Bool} → Outcome (a ≡ x) (a ≢ x) p → Outcome (b ≡ v) (b ≢ v) q
              → take s (drop ((a * n + b) * s) (put s (x * n + v) new body))
              ≡ marked_words (s - 1) L (a * n + b) (cond (p && q) (add δ T k a b) (added_below δ T k x a b))
          go a b ha hb (holds i) (holds j) =
              ap₂ (λ (y o : ℕ). take s (drop ((y * n + o) * s) (put s (x * n + v) new body))) i j
              ∙ part-put_here s (x * n + v) new body new-long goal_inside
              ∙ new_is
              ∙ sym (ap₂ (λ (y o : ℕ). marked_words (s - 1) L (y * n + o) (add δ T k y o)) i j)
          go a b ha hb (holds i) (fails j) = old a b ha hb (λ q. j (number_same n a b x v hb hv q).1)
          go a b ha hb (fails i) o = old a b ha hb (λ q. i (number_same n a b x v hb hv q).0)

      -- The same, with the words as a caller gets them back.
      pub for_given_back : (at : ℕ) → at ≡ (x * n + v) * s → (lent new : List ℕ) → lent ≡ cell_in n s body x v
          → new ≡ put_words (interval w (t + δ)) lent
          → Marked n (s - 1) (take at body ++ (new ++ drop (at + s - at) (drop at body))) (added_below δ T k (x + 1)) L
      for_given_back at o lent new f g =
          let q : s ≡ at + s - at = omega arith in
          subst (λ (i : ℕ). Marked n (s - 1) (take at body ++ (new ++ drop i (drop at body))) (added_below δ T k (x + 1)) L) q
          (subst (λ (i : ℕ). Marked n (s - 1) (take i body ++ (new ++ drop s (drop i body))) (added_below δ T k (x + 1)) L) (sym o) (for_put lent new f g))
