-- Adding as the loops do it is the rule: the words that they leave and the cells that they count.
use Rattle.std.specs.Prelude.{None, Some}
use mathlib.Core.Path.{◌≡◌, refl, sym, ap, ap₂, ◌∙◌}
use mathlib.Core.Bool.{Bool, true, false, cond, not}
use mathlib.Core.List.{List, [], ◌∷◌, ◌++◌, append-nil}
use Prim.Native.Nat.{ℕ, ◌+◌, ◌-◌, ◌*◌, ◌≤◌, ◌<◌}
use native.Mathlib.Omega.{arith}
use lib.ListN.{length, get_or, take, drop, length-drop}
use lib.Seq.{drop-length}
use lib.Dec.{eqb}
use Rattle.journeys.specs.declared.Contact.{Contact}
use Rattle.journeys.specs.Journey.{interval}
use Rattle.journeys.specs.Cell.{Cell, latest_departure, earliest_arrival}
use Rattle.journeys.specs.Adding.{departure_of, arrival_of, enter_both, add}
use Rattle.rules.specs.Limits.{max_ticks, max_carry, max_arrival}
use Rattle.rules.specs.Folds.{flat, sum_below}
use Rattle.rules.specs.Layout.{cell_words, table_words, animals, ticks, carry, cell_at, cell_of, cells_of}
use Rattle.rules.specs.Checks.{ValidTable}
use Rattle.rules.specs.declared.Added.TheVariants.{New, Known}
use Rattle.rules.specs.Adding.{Legal, stands, same_cell, cells_changed, add_refusal, added_cells, holds, added, add_leaves}
use Rattle.rules.proofs.Folds.{flat-length, flat-same, sum_same, count_same}
use Rattle.rules.proofs.Decode.{cell-length}
use Rattle.rules.proofs.Sound.{table-sizes, opens-first, opens-length, part_length, part-words}
use Rattle.rules.proofs.Judged.{add_iff}
use Rattle.rules.proofs.Changes.{same_cell-refl}
use Rattle.rules.proofs.Demand1.{added-good}
use Rattle.grid.specs.Parts.{part, parts}
use Rattle.grid.proofs.Flat.{parts-flat}
use Rattle.grid.specs.Cells.{Grid}
use Rattle.grid.proofs.Places.{cell_in_lem, cell-from, grid-long, from-long, rest-lent}
use Rattle.cells.specs.Stored.{Stored}
use Rattle.tables.proofs.Stored.{cell-read, cell-limits, stored-cells}
use Rattle.tables.proofs.Ticks.{Tick, tick-cond, latest-tick, earliest-tick}
use Rattle.adding.specs.Steps.{tick_by, departing, arriving, Listed, Departures, Arrivals, Below, tick_of, entered, entered_at, entered_from, changes_both, changes, changes_at, changes_from}
use Rattle.adding.proofs.Listed.{listed_below, listed-read}
use Rattle.adding.proofs.Turns.{changes-both}

-- ---- an add that no check refuses

module _ (T : List ℕ) (k : Contact) (ok : add_refusal T k ≡ None) where
  -- The table passes its checks.
  passes : ValidTable T
  passes = ((add_iff T k).0 ok).0

  -- The contact is legal.
  legal : Legal (animals T) (ticks T) k
  legal = ((add_iff T k).0 ok).1

  abbrev m : ℕ
  m = animals T

  abbrev s : ℕ
  s = ticks T + 1

  abbrev body : List ℕ
  body = drop 1 T

  abbrev a : ℕ
  a = k.tick + carry T

  -- Whether the contact is known.
  pub known_is : {b : Bool} (lent : List ℕ) → lent ≡ cell_at m (ticks T) T k.from k.to → b ≡ stands (interval k.tick a) (cell_of lent) → b ≡ holds T k
  unfolding holds
  known_is = cell-read (stands (interval k.tick a)) T k.from k.to

  -- What is answered of a known contact, and of a new one.
  pub added-known : {b : Bool} {m : ℕ} → b ≡ holds T k → b ≡ true → m ≡ cells_changed (animals T) (cells_of T) (added_cells T k) → Known m ≡ added T k
  added-known h t q = rw (sym h ∙ t) (ap Known q)

  pub added-new : {b : Bool} {m : ℕ} → b ≡ holds T k → b ≡ false → m ≡ cells_changed (animals T) (cells_of T) (added_cells T k) → New m ≡ added T k
  added-new h t q = rw (sym h ∙ t) (ap New q)

  -- The departures are those of the rule.
  departure-is : (x : ℕ) → departing m s body k.from k.tick x ≡ departure_of (cells_of T) k x
  unfolding departing departure_of cells_of
  departure-is x = ap (tick_by latest_departure k.from k.tick x) (cell_in_lem m (ticks T) T x k.from)

  -- The arrivals are those of the rule.
  arrival-is : (y : ℕ) → arriving m s body k.to a y ≡ arrival_of (carry T) (cells_of T) k y
  unfolding arriving arrival_of cells_of
  arrival-is y = ap (tick_by earliest_arrival k.to a y) (cell_in_lem m (ticks T) T k.to y)

  -- The departures lie within their limits.
  departure-tick : (x : ℕ) → x < m → Tick s (departure_of (cells_of T) k x)
  unfolding departure_of
  departure-tick x h =
      tick-cond s (eqb x k.from) (Some k.tick) (latest_departure (cells_of T x k.from) k.tick)
      (omega (arith, legal.from_one, legal.to_last))
      (latest-tick s k.tick (cells_of T x k.from) (λ i q. let l = cell-limits T passes x k.from h legal.from_below i q in omega (arith, l.departs, l.in_time)))

  -- The arrivals lie within their limits.
  arrival-tick : (y : ℕ) → y < m → Tick (max_arrival + 1) (arrival_of (carry T) (cells_of T) k y)
  unfolding arrival_of
  arrival-tick y h =
      let z = table-sizes T in
      tick-cond (max_arrival + 1) (eqb y k.to) (Some a) (earliest_arrival (cells_of T k.to y) a)
      (omega (arith, legal.from_one, legal.to_last, z.τ-high, z.δ-high))
      (earliest-tick (max_arrival + 1) a (cells_of T k.to y)
      (λ i q. let l = cell-limits T passes k.to y legal.to_below h i q in omega (arith, l.departs, l.carried, l.arrives, z.τ-high, z.δ-high)))

  module _ (d e : List ℕ) (hd : Listed m (departing m s body k.from k.tick) d) (he : Listed m (arriving m s body k.to a) e) where
    -- The departures lie within the cell.
    pub departures_below : Below m s d
    departures_below = listed_below m s _ (departure_of (cells_of T) k) departure-is departure-tick d hd (omega arith)

    -- The arrivals are within their limit.
    pub arrivals_below : Below m (max_arrival + 1) e
    arrivals_below = listed_below m (max_arrival + 1) _ (arrival_of (carry T) (cells_of T) k) arrival-is arrival-tick e he (omega arith)

    -- A departure is read from the array as the rule has it.
    departure-read : (x : ℕ) → x < m → tick_of (get_or d x 0) ≡ departure_of (cells_of T) k x
    departure-read = listed-read m s _ (departure_of (cells_of T) k) departure-is departure-tick d hd

    -- An arrival is read from the array as the rule has it.
    arrival-read : (y : ℕ) → y < m → tick_of (get_or e y 0) ≡ arrival_of (carry T) (cells_of T) k y
    arrival-read = listed-read m (max_arrival + 1) _ (arrival_of (carry T) (cells_of T) k) arrival-is arrival-tick e he

    -- A cell of those from x is that of the table.
    cell-at : (x y : ℕ) → y < m → part s y (part (m * s) x body) ≡ cell_at m (ticks T) T x y
    cell-at x y h = cell-from m s x y body h ∙ cell_in_lem m (ticks T) T x y

    -- The cell that its words say.
    cell-is : (x y : ℕ) → cell_of (cell_at m (ticks T) T x y) ≡ cells_of T x y
    unfolding cells_of
    cell-is x y = refl

    -- ---- the words

    -- The words of cell (x, y) become those of the cell that the rule leaves.
    step_is : (x y : ℕ) → x < m → y < m → entered_at x (get_or d x 0) e y (part s y (part (m * s) x body)) ≡ cell_words (ticks T) (added_cells T k x y)
    unfolding entered_at entered added_cells add
    step_is x y h j =
        let l : length (cell_at m (ticks T) T x y) - 1 ≡ ticks T = omega (arith, part_length T passes x y h j) in
        rw (cell-at x y j, departure-read x h, arrival-read y j, l) (go (eqb x y))
      where
        go : (b : Bool)
            → cond b (cell_at m (ticks T) T x y) (cell_words (ticks T) (enter_both (departure_of (cells_of T) k x) (arrival_of (carry T) (cells_of T) k y) (cell_of (cell_at m (ticks T) T x y))))
            ≡ cell_words (ticks T) (cond b (cells_of T x y) (enter_both (departure_of (cells_of T) k x) (arrival_of (carry T) (cells_of T) k y) (cells_of T x y)))
        go true = part-words T passes x y h j
        go false = ap (λ (c : Cell). cell_words (ticks T) (enter_both (departure_of (cells_of T) k x) (arrival_of (carry T) (cells_of T) k y) c)) (cell-is x y)

    -- The cell that the rule leaves has its τ + 1 words.
    added-length : (x y : ℕ) → x < m → y < m → length (cell_words (ticks T) (added_cells T k x y)) ≡ s
    added-length x y h j = let z = table-sizes T in cell-length (ticks T) (carry T) z.τ-high z.δ-high (added_cells T k x y) ((added-good T k ok).cells x y h j)

    -- So have the words that a turn leaves.
    step-length : (x y : ℕ) → x < m → y < m → length (entered_at x (get_or d x 0) e y (part s y (part (m * s) x body))) ≡ s
    step-length x y h j = ap length (step_is x y h j) ∙ added-length x y h j

    -- The words of the cells from x become those that the rule leaves.
    from_is : (x : ℕ) → x < m → entered_from m s d e x (part (m * s) x body) ≡ flat (λ y. cell_words (ticks T) (added_cells T k x y)) m
    unfolding entered_from
    from_is x h =
        parts-flat (entered_at x (get_or d x 0) e) s (part (m * s) x body) m (from-long (stored-cells T passes) x h) (λ y j. step-length x y h j)
        ∙ flat-same _ _ m (λ y j. step_is x y h j)

    -- They keep their length.
    from-made : (x : ℕ) → x < m → length (entered_from m s d e x (part (m * s) x body)) ≡ m * s
    from-made x h = ap length (from_is x h) ∙ flat-length _ s m (λ y j. added-length x y h j)

    -- The words after the opening word become those that the rule leaves.
    body_is : parts (entered_from m s d e) (m * s) m body ≡ flat (λ x. flat (λ y. cell_words (ticks T) (added_cells T k x y)) m) m
    body_is = parts-flat (entered_from m s d e) (m * s) body m (grid-long (stored-cells T passes)) from-made ∙ flat-same _ _ m from_is

    -- The first word alone.
    first-only : (l : List ℕ) → 1 ≤ length l → take 1 l ≡ get_or l 0 0 ∷ []
    first-only [] h = absurd (omega arith)
    first-only (w ∷ l) h = refl

    -- The table's words afterwards, where the words after the opening word were lent.
    pub leaves-is : (new : List ℕ) → new ≡ parts (entered_from m s d e) (m * s) m body → take 1 T ++ (new ++ drop (length T - 1) (drop 1 T)) ≡ add_leaves T k
    unfolding add_leaves table_words
    leaves-is new q =
        rw ok
        (ap₂ ◌++◌ (first-only T (omega (arith, opens-length T passes.opens)))
        (ap (λ (i : ℕ). new ++ drop i body) (sym (length-drop 1 T)) ∙ ap (λ (r : List ℕ). new ++ r) (drop-length body) ∙ append-nil new)
        ∙ ap₂ ◌∷◌ (sym (opens-first T passes.opens)) (q ∙ body_is))

    -- ---- the count

    -- A cell is counted where the rule changes it.
    changes-is : (x y : ℕ) → x < m → y < m → changes_at s x (get_or d x 0) e (part (m * s) x body) y ≡ not (same_cell (cells_of T x y) (added_cells T k x y))
    unfolding changes_at changes added_cells add
    changes-is x y h j = rw (cell-at x y j, departure-read x h, arrival-read y j) (go (eqb x y))
      where
        go : (b : Bool)
            → cond b false (changes_both (departure_of (cells_of T) k x) (arrival_of (carry T) (cells_of T) k y) (cell_of (cell_at m (ticks T) T x y)))
            ≡ not (same_cell (cells_of T x y) (cond b (cells_of T x y) (enter_both (departure_of (cells_of T) k x) (arrival_of (carry T) (cells_of T) k y) (cells_of T x y))))
        go true = ap not (sym (same_cell-refl (cells_of T x y)))
        go false =
            ap (changes_both (departure_of (cells_of T) k x) (arrival_of (carry T) (cells_of T) k y)) (cell-is x y)
            ∙ changes-both (departure_of (cells_of T) k x) (arrival_of (carry T) (cells_of T) k y) (cells_of T x y)

    -- The cells that change are those that the rule changes.
    pub count-is : sum_below (changes_from m s d e body) m ≡ cells_changed m (cells_of T) (added_cells T k)
    unfolding changes_from cells_changed
    count-is = sum_same _ _ m (λ x h. count_same _ _ m (λ y j. changes-is x y h j))

-- ---- as the code reads the numbers off the table and lends the words

-- What an accepted add says of the numbers.
pub record Accepted (T : List ℕ) (k : Contact) : Type 0 where
  pub valid : ValidTable T
  pub long : 1 ≤ length T
  pub from_below : k.from < animals T
  pub to_below : k.to < animals T
  pub tick-small : k.tick ≤ max_ticks
  pub carry-small : carry T ≤ max_carry

-- It follows from the checks.
pub accepted : (T : List ℕ) (k : Contact) → add_refusal T k ≡ None → Accepted T k
accepted T k ok =
    let p = passes T k ok in
    let l = legal T k ok in
    let z = table-sizes T in
    record {
      valid = p;
      long = omega (arith, opens-length T p.opens);
      from_below = l.from_below;
      to_below = l.to_below;
      tick-small = omega (arith, l.to_last, z.τ-high);
      carry-small = z.δ-high;
    }

-- The numbers read off B, which is the table.
pub record Read (T : List ℕ) (k : Contact) (B : List ℕ) (n s a : ℕ) : Type 0 where
  pub table_is : B ≡ T
  pub animals-is : n ≡ animals B
  pub size_is : s ≡ ticks B + 1
  pub arrival-is : a ≡ k.tick + carry B

module _ (T : List ℕ) (k : Contact) (ok : add_refusal T k ≡ None) {B : List ℕ} {n s a : ℕ} (r : Read T k B n s a) where
  -- The words after the first as they are lent.
  abbrev rest : List ℕ
  rest = take (length T - 1) (drop 1 T)

  -- What holds of the table, its numbers and its words holds of those read.
  as_read : (P : List ℕ → ℕ → ℕ → ℕ → List ℕ → Type 0) → P T (animals T) (ticks T + 1) (k.tick + carry T) (drop 1 T) → P B n s a rest
  as_read P h = rw (r.animals-is, r.size_is, r.arrival-is, r.table_is, rest-lent T) h

  -- The words lent are as the loops over them ask.
  pub read-cells : Grid Stored n s rest
  read-cells = as_read (λ B n s a l. Grid Stored n s l) (stored-cells T (passes T k ok))

  -- The contact is known exactly when the table holds it.
  pub read_known : {b : Bool} (xs : List ℕ) → xs ≡ cell_at (animals B) (ticks B) B k.from k.to → b ≡ stands (interval k.tick a) (cell_of xs) → b ≡ holds T k
  read_known {b} xs = as_read (λ B n s a l. xs ≡ cell_at (animals B) (ticks B) B k.from k.to → b ≡ stands (interval k.tick a) (cell_of xs) → b ≡ holds T k) (known_is T k ok xs)

  module _ (d e : List ℕ) (hd : Departures B k.from k.tick d) (he : Arrivals B k.to a e) where
    -- What follows from the departures and the arrivals of the table.
    from_ticks : (P : ℕ → ℕ → List ℕ → Type 0)
        → (Departures T k.from k.tick d → Arrivals T k.to (k.tick + carry T) e → P (animals T) (ticks T + 1) (drop 1 T)) → P n s rest
    from_ticks P h = as_read (λ B n s a l. Departures B k.from k.tick d → Arrivals B k.to a e → P n s l) h hd he

    -- The ticks read lie within their limits.
    pub read_below : Below n s d × Below n (max_arrival + 1) e
    read_below = from_ticks (λ n s l. Below n s d × Below n (max_arrival + 1) e) (λ f g. (departures_below T k ok d e f g, arrivals_below T k ok d e f g))

    -- The cells counted are those that the rule changes.
    pub read_count : {c : ℕ} → c ≡ sum_below (changes_from n s d e rest) n → c ≡ cells_changed (animals T) (cells_of T) (added_cells T k)
    read_count {c} =
        from_ticks (λ n s l. c ≡ sum_below (changes_from n s d e l) n → c ≡ cells_changed (animals T) (cells_of T) (added_cells T k))
        (λ f g q. q ∙ count-is T k ok d e f g)

    -- The words left are those of the rule.
    pub read-leaves : (new : List ℕ) → new ≡ parts (entered_from n s d e) (n * s) n rest → take 1 T ++ (new ++ drop (length T - 1) (drop 1 T)) ≡ add_leaves T k
    read-leaves new =
        from_ticks (λ n s l. new ≡ parts (entered_from n s d e) (n * s) n l → take 1 T ++ (new ++ drop (length T - 1) (drop 1 T)) ≡ add_leaves T k)
        (λ f g. leaves-is T k ok d e f g new)
