-- Contacts added in the order of their ticks: what the add rule then comes to, and what the cells then hold.
use Rattle.std.specs.Prelude.{Option, None, Some, option_map}
use mathlib.Core.Path.{◌≡◌, refl, subst, ap, ◌∙◌}
use mathlib.Core.Logic.{◌≢◌}
use mathlib.Core.Bool.{Bool, true, false, cond, ◌||◌}
use mathlib.Core.List.{List, [], ◌∷◌, ◌++◌, Memᴰ}
use Prim.Native.Nat.{ℕ, zero, suc, ◌+◌, ◌≤◌, ◌<◌}
use native.Mathlib.Omega.{arith}
use lib.ListN.{length, get_or}
use lib.Dec.{eqb}
use borrow.Author.Tests.{le-leb, lt-leb, le-ltb, eq-eqb, ne_eqb}
use Rattle.journeys.specs.declared.Contact.{Contact}
use Rattle.journeys.specs.declared.Interval.{Interval}
use Rattle.journeys.specs.Journey.{contact, In, interval, single, onward, Journey}
use Rattle.journeys.specs.Cell.{Cell, Rising, earliest_arrival, inside, has_inside, without_containing, put_in_order, enter}
use Rattle.journeys.specs.Adding.{Cells, departure_of, arrival_of, enter_both, add, add_all, cells_over}
use Rattle.journeys.proofs.Tests.{Outcome, holds, fails, le_outcome}
use Rattle.journeys.proofs.First.{first-none, earliest-arriving}
use Rattle.journeys.proofs.Reach.{journey-limits}
use Rattle.journeys.proofs.Theorems.{closure}
use Rattle.cells.proofs.Search.{get_d_member}
use Rattle.building.specs.RowsInUse.{put_last, put_last_from}

-- ---- an interval that arrives last

-- An interval that arrives as late as any of a rising cell enters it at its end.
pub enter-last : (i : Interval) (c : Cell) → Rising c → ((j : Interval) → Memᴰ j c → j.arrival ≤ i.arrival) → enter i c ≡ put_last i c
unfolding enter has_inside without_containing put_in_order put_last
enter-last i [] u f = refl
enter-last i (j ∷ []) u f = go (le_outcome i.departure j.departure) (le_outcome i.arrival j.arrival)
  where
    go : {a b : Bool} → Outcome (i.departure ≤ j.departure) (j.departure < i.departure) a
        → Outcome (i.arrival ≤ j.arrival) (j.arrival < i.arrival) b
        → enter i (j ∷ []) ≡ put_last i (j ∷ [])
    go (holds h) o = rw (le-leb i.departure j.departure h, le-leb j.arrival i.arrival (f j (Memᴰ.head refl))) refl
    go (fails h) (holds l) =
        rw (lt-leb i.departure j.departure h, le-leb j.departure i.departure (omega arith), le-leb i.arrival j.arrival l) refl
    go (fails h) (fails l) =
        rw
        (lt-leb i.departure j.departure h, le-leb j.departure i.departure (omega arith), lt-leb i.arrival j.arrival l, le-ltb i.departure j.departure (omega arith))
        refl
enter-last i (j ∷ k ∷ c) u f =
    go (le_outcome i.departure k.departure) (f k (Memᴰ.tail (Memᴰ.head refl)))
    ∙ ap (λ (d : Cell). j ∷ d) (enter-last i (k ∷ c) u.1 (λ l m. f l (Memᴰ.tail m)))
  where
    met : (b : Bool) (d e : Cell) → cond (b || true) d e ≡ d
    met true d e = refl
    met false d e = refl

    past : (b : Bool) (d : Cell) → cond b (j ∷ k ∷ c) (j ∷ d) ≡ j ∷ cond b (k ∷ c) d
    past true d = refl
    past false d = refl

    go : {b : Bool} → Outcome (i.departure ≤ k.departure) (k.departure < i.departure) b → k.arrival ≤ i.arrival
        → enter i (j ∷ k ∷ c) ≡ j ∷ enter i (k ∷ c)
    go (holds h) l = rw (le-leb i.departure k.departure h, le-leb k.arrival i.arrival l) (met (inside j i) (j ∷ k ∷ c) _)
    go (fails h) l =
        rw (
          lt-leb i.departure j.departure (omega (arith, u.0)),
          le-leb j.departure i.departure (omega (arith, u.0)),
          lt-leb i.arrival j.arrival (omega (arith, u.0)),
          le-ltb i.departure j.departure (omega (arith, u.0)),
        )
        (past (has_inside i (k ∷ c)) (put_in_order i (without_containing i (k ∷ c))))

-- ---- the add rule

-- Where every row departs before t there is no arrival.
earliest-past : (t : ℕ) (c : Cell) → ((i : Interval) → Memᴰ i c → i.departure < t) → earliest_arrival c t ≡ None
unfolding earliest_arrival
earliest-past t c f = ap (option_map (λ i. i.arrival)) ((first-none (earliest-arriving t c)).1 (λ j m h. let l = f j m in omega arith))

-- A contact after which no journey goes on from its animal changes only the cells that end there.
pub add-elsewhere : (δ : ℕ) (T : Cells) (k : Contact) (x y : ℕ) → y ≢ k.to
    → ((i : Interval) → Memᴰ i (T k.to y) → i.departure < k.tick + δ)
    → add δ T k x y ≡ T x y
unfolding add arrival_of enter_both
add-elsewhere δ T k x y n f =
    rw (ne_eqb y k.to n, earliest-past (k.tick + δ) (T k.to y) f) (go (eqb x y) (departure_of T k x))
  where
    go : (b : Bool) (d : Option ℕ) → cond b (T x y) (enter_both d None (T x y)) ≡ T x y
    go true d = refl
    go false None = refl
    go false (Some d) = refl

-- Into those cells, where no journey arrives later, it puts its intervals last.
pub add-column : (δ : ℕ) (T : Cells) (k : Contact) (x : ℕ) → x ≢ k.to → Rising (T x k.to)
    → ((i : Interval) → Memᴰ i (T x k.to) → i.arrival ≤ k.tick + δ)
    → add δ T k x k.to ≡ put_last_from (departure_of T k x) (k.tick + δ) (T x k.to)
unfolding add arrival_of enter_both put_last_from
add-column δ T k x n u f = rw (ne_eqb x k.to n, eq-eqb k.to k.to refl) (go (departure_of T k x))
  where
    go : (d : Option ℕ) → enter_both d (Some (k.tick + δ)) (T x k.to) ≡ put_last_from d (k.tick + δ) (T x k.to)
    go None = refl
    go (Some d) = enter-last (interval d (k.tick + δ)) (T x k.to) u f

-- The cells after one contact more at the end of the list.
pub over_snoc : (δ : ℕ) (A : List Contact) (k : Contact) (x y : ℕ) → cells_over δ (A ++ (k ∷ [])) x y ≡ add δ (cells_over δ A) k x y
unfolding cells_over add_all
over_snoc δ A k x y = go (λ x y. []) A
  where
    go : (T : Cells) (A : List Contact) → add_all δ T (A ++ (k ∷ [])) x y ≡ add δ (add_all δ T A) k x y
    go T [] = refl
    go T (l ∷ A) = go (add δ T l) A

-- ---- the cells of contacts with ticks from 1 to t

module _ (δ t : ℕ) (A : List Contact) where
  -- An interval of a cell is that of a journey.
  over_journey : (x y : ℕ) → x ≢ y → (i : Interval) → Memᴰ i (cells_over δ A x y) → Journey (In A) δ x y i
  over_journey x y n i m = ((((closure.any_list δ A).cells x y n).exact i).0 m).journey

  -- Each of their intervals departs from 1 to t and arrives by t + δ.
  pub over_limits : ((k : Contact) → Memᴰ k A → (1 ≤ k.tick) × (k.tick ≤ t))
      → (x y : ℕ) → x ≢ y → (i : Interval) → Memᴰ i (cells_over δ A x y) → (1 ≤ i.departure) × (i.departure ≤ t) × (i.arrival ≤ t + δ)
  over_limits f x y n i m = journey-limits t f (over_journey x y n i m)

  -- One that departs at t is that of a single contact, since another would follow at t + δ or later.
  pub over_last : 1 ≤ δ → ((k : Contact) → Memᴰ k A → (1 ≤ k.tick) × (k.tick ≤ t))
      → (x y : ℕ) → x ≢ y → (i : Interval) → Memᴰ i (cells_over δ A x y) → i.departure ≡ t → Memᴰ (contact x y t) A
  over_last h f x y n i m e = subst (λ (s : ℕ). Memᴰ (contact x y s) A) e (go (over_journey x y n i m))
    where
      go : Journey (In A) δ x y i → Memᴰ (contact x y i.departure) A
      go (single s p) = s
      go (onward z s c l j) = absurd (omega (arith, journey-limits t f j))

-- ---- rows

-- Each row of a rising cell departs at least as many ticks after the first as it stands behind it.
rising-row : (i : Interval) (c : Cell) (k : ℕ) (z : Interval) → Rising (i ∷ c) → k ≤ length c → i.departure + k ≤ (get_or (i ∷ c) k z).departure
rising-row i c zero z u l = omega arith
rising-row i [] (suc k) z u l = absurd (omega arith)
rising-row i (j ∷ c) (suc k) z u l = let r = rising-row j c k z u.1 (omega arith) in omega (arith, u.0)

-- With departures from 1 on, a row departs after as many ticks as rows stand before it.
pub rising-late : (c : Cell) (k : ℕ) (z : Interval) → Rising c → ((i : Interval) → Memᴰ i c → 1 ≤ i.departure) → k < length c
    → k < (get_or c k z).departure
rising-late [] k z u f l = absurd (omega arith)
rising-late (i ∷ c) k z u f l = omega (arith, rising-row i c k z u (omega arith), f i (Memᴰ.head refl))

-- A rising cell with departures from 1 and below d has fewer than d rows.
pub rising-few : (c : Cell) (d : ℕ) → Rising c → ((i : Interval) → Memᴰ i c → (1 ≤ i.departure) × (i.departure < d)) → 1 ≤ d → length c < d
rising-few [] d u f l = l
rising-few (i ∷ c) d u f l =
    omega (
      arith,
      rising-late (i ∷ c) (length c) i u (λ j m. (f j m).0) (omega arith),
      f (get_or (i ∷ c) (length c) i) (get_d_member (i ∷ c) (length c) i (omega arith)),
    )
