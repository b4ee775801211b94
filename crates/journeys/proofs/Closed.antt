-- A cell that covers what its pair can reach by a set of contacts alone lists the pair's minimal intervals, and the other way round. On top of
-- any cells, the add rule takes what can be reached by a set of contacts to what can be reached with one contact more.
use Rattle.std.specs.Prelude.{Option, Some}
use mathlib.Core.Path.{◌≡◌, refl, sym, subst, ◌∙◌}
use mathlib.Core.Logic.{◌↔◌, inl, inr, ⊎_elim, ◌≢◌}
use mathlib.Core.Bool.{Bool, cond}
use mathlib.Core.List.Memᴰ
use mathlib.Core.List.{List, [], ◌∷◌, Memᴰ}
use Prim.Native.Nat.{ℕ, zero, suc, ◌+◌, ◌≤◌}
use native.Mathlib.Omega.{arith}
use native.Mathlib.Decide.{ℕ_discrete}
use Rattle.journeys.specs.declared.Contact.{Contact}
use Rattle.journeys.specs.declared.Interval.{Interval}
use Rattle.journeys.specs.Journey.{Contacts, In, With, Union, Same, interval, Inside, Journey, Minimal}
use Rattle.journeys.specs.Cell.{Cell, Rising, latest_departure, earliest_arrival}
use Rattle.journeys.specs.Adding.{Cells, departure_of, arrival_of, enter_both, add, add_all, ListsMinimal}
use Rattle.journeys.proofs.Tests.{Outcome, holds, fails, eq_outcome}
use Rattle.journeys.proofs.Cover.{Covers, covers-find, covers-member, covers-wider, rising-least, same-cover, interval-path, departure-path, arrival-path, NotBefore, NotAfter, latest-iff, earliest-iff, has_inside-outcome}
use Rattle.journeys.proofs.Enter.{enter_both-rising, enter_both-iff}
use Rattle.journeys.proofs.Reach.{Reach, direct, step, stay, stored, Forward, empty, reach-le, journey-reach, journey-carries, Within, reach-within, within-reach, reach-map, with_iff}

-- The cell rises, and covers exactly the intervals in which its pair can be reached by the contacts S on top of the cells B.
pub record ClosedOn (B : Cells) (S : Contacts) (δ x y : ℕ) (c : Cell) : Type 0 where
  pub rising : Rising c
  pub covers : (i : Interval) → Covers i c ↔ Reach B S δ y i.arrival x i.departure

-- The same, by the contacts alone.
abbrev pub Closed : Contacts → ℕ → ℕ → ℕ → Cell → Type 0
Closed S δ x y c = ClosedOn empty S δ x y c

-- ---- closed cells list the minimal intervals

module _ {S : Contacts} {δ x y : ℕ} {c : Cell} (n : x ≢ y) (k : Closed S δ x y c) where
  journey-covered : {i : Interval} → Journey S δ x y i → Covers i c
  journey-covered {i} j = (k.covers i).1 (journey-reach j)

  covered_within : {i : Interval} → Covers i c → Within S δ x y i
  covered_within {i} v = reach-within n ((k.covers i).0 v)

  member-minimal : (i : Interval) → Memᴰ i c → Minimal S δ x y i
  member-minimal i m = record { journey = subst (λ j. Journey S δ x y j) e w.1; least = λ j h. rising-least i c k.rising m (journey-covered h) }
    where
      w : Within S δ x y i
      w = covered_within (covers-member m)

      e : w.0 ≡ i
      e = rising-least i c k.rising m (journey-covered w.1) w.2

  minimal-member : (i : Interval) → Minimal S δ x y i → Memᴰ i c
  minimal-member i m =
      let r = covers-find (journey-covered m.journey) in
      let w = covered_within (covers-member r.1) in
      let e = m.least w.0 w.1 (omega (arith, r.2, w.2)) in
      let p = departure-path e in
      let q = arrival-path e in
      Memᴰ.cast (interval-path i r.0 (omega (arith, r.2, w.2)) (omega (arith, r.2, w.2))) r.1

  -- A cell that covers what its pair can reach lists exactly the minimal journey intervals.
  pub closed-lists : ListsMinimal S δ x y c
  closed-lists = record { rising = k.rising; exact = λ i. (member-minimal i, minimal-member i) }

-- ---- cells that list the minimal intervals are closed

module _ {S : Contacts} {δ x y : ℕ} {c : Cell} (k : ListsMinimal S δ x y c) where
  -- Every journey interval has a minimal one inside; the width bounds how often a smaller one is taken.
  journey-covers : (width : ℕ) (i : Interval) → i.arrival ≤ i.departure + width → Journey S δ x y i → Covers i c
  journey-covers zero i w j =
      covers-member ((k.exact i).1
      (record { journey = j; least = λ p h l. (let z = journey-carries h in let o = journey-carries j in interval-path p i (omega arith) (omega arith)) }))
  journey-covers (suc width) i w j = go (journey-covers width) (has_inside-outcome i c)
    where
      go : {b : Bool} → ((p : Interval) → p.arrival ≤ p.departure + width → Journey S δ x y p → Covers p c) → Outcome (Covers i c) (¬ Covers i c) b → Covers i c
      go f (holds v) = v
      go f (fails n) = covers-member ((k.exact i).1 (record { journey = j; least = equal }))
        where
          equal : (p : Interval) → Journey S δ x y p → Inside p i → p ≡ i
          equal p h l = pick (ℕ_discrete p.departure i.departure) (ℕ_discrete p.arrival i.arrival)
            where
              pick : Dec (p.departure ≡ i.departure) → Dec (p.arrival ≡ i.arrival) → p ≡ i
              pick (yes a) (yes b) = interval-path p i a b
              pick (yes a) (no b) = absurd (n (covers-wider l (f p (omega arith) h)))
              pick (no a) b = absurd (n (covers-wider l (f p (omega arith) h)))

  -- A cell that lists the minimal journey intervals covers exactly what its pair can reach.
  pub lists-closed : x ≢ y → Closed S δ x y c
  lists-closed n = record { rising = k.rising; covers = λ i. (to i, of i) }
    where
      to : (i : Interval) → Covers i c → Reach empty S δ y i.arrival x i.departure
      to i v = let r = covers-find v in within-reach (r.0, ((k.exact r.0).0 r.1).journey, r.2)

      of : (i : Interval) → Reach empty S δ y i.arrival x i.departure → Covers i c
      of i r = let w = reach-within n r in covers-wider w.2 (journey-covers w.0.arrival w.0 (omega arith) w.1)

-- ---- closed cells are equal where their sets are

pub closed-map : {B : Cells} {S R : Contacts} {δ x y : ℕ} {c : Cell} → Same S R → ClosedOn B S δ x y c → ClosedOn B R δ x y c
closed-map e k =
    record {
      rising = k.rising;
      covers = λ i. (λ v. reach-map (λ c. (e c).0) ((k.covers i).0 v), λ r. (k.covers i).1 (reach-map (λ c. (e c).1) r));
    }

pub closed-unique : {B : Cells} {S : Contacts} {δ x y : ℕ} {c d : Cell} → ClosedOn B S δ x y c → ClosedOn B S δ x y d → c ≡ d
closed-unique {c = c} {d = d} k l =
    same-cover c d k.rising l.rising (λ i. (λ v. (l.covers i).1 ((k.covers i).0 v), λ v. (k.covers i).1 ((l.covers i).0 v)))

-- ---- the add rule

module _ {B : Cells} (w : Forward B) {S : Contacts} {δ : ℕ} (T : Cells) (k : Contact) where
  departure-iff : (x a : ℕ) → (x ≢ k.from → ClosedOn B S δ x k.from (T x k.from)) → NotBefore a (departure_of T k x) ↔ Reach B S δ k.from k.tick x a
  unfolding departure_of
  departure-iff x a f = go (eq_outcome x k.from)
    where
      go : {b : Bool} → Outcome (x ≡ k.from) (x ≢ k.from) b
          → NotBefore a (cond b (Some k.tick) (latest_departure (T x k.from) k.tick)) ↔ Reach B S δ k.from k.tick x a
      go (holds e) = (λ h. direct (stay e h), reach-le w)
      go (fails n) = (
        λ h. ((f n).covers (interval a k.tick)).0 ((latest-iff a k.tick (T x k.from)).0 h),
        λ r. (latest-iff a k.tick (T x k.from)).1 (((f n).covers (interval a k.tick)).1 r),
      )

  arrival-iff : (y b : ℕ) → (k.to ≢ y → ClosedOn B S δ k.to y (T k.to y)) → NotAfter b (arrival_of δ T k y) ↔ Reach B S δ y b k.to (k.tick + δ)
  unfolding arrival_of
  arrival-iff y b f = go (eq_outcome y k.to)
    where
      go : {q : Bool} → Outcome (y ≡ k.to) (y ≢ k.to) q
          → NotAfter b (cond q (Some (k.tick + δ)) (earliest_arrival (T k.to y) (k.tick + δ))) ↔ Reach B S δ y b k.to (k.tick + δ)
      go (holds e) = (λ h. direct (stay (sym e) h), reach-le w)
      go (fails n) = (
        λ h. ((f (λ e. n (sym e))).covers (interval (k.tick + δ) b)).0 ((earliest-iff (k.tick + δ) b (T k.to y)).0 h),
        λ r. (earliest-iff (k.tick + δ) b (T k.to y)).1 (((f (λ e. n (sym e))).covers (interval (k.tick + δ) b)).1 r),
      )

  entered-closed : (x y : ℕ) → ((p q : ℕ) → p ≢ q → ClosedOn B S δ p q (T p q)) → x ≢ y
      → ClosedOn B (With S k) δ x y (enter_both (departure_of T k x) (arrival_of δ T k y) (T x y))
  entered-closed x y f n = record { rising = enter_both-rising d e (T x y) (f x y n).rising; covers = λ i. (to i, of i) }
    where
      d : Option ℕ
      d = departure_of T k x

      e : Option ℕ
      e = arrival_of δ T k y

      to : (i : Interval) → Covers i (enter_both d e (T x y)) → Reach B (With S k) δ y i.arrival x i.departure
      to i v =
          (with_iff k).1
          (⊎_elim (λ q. inl (((f x y n).covers i).0 q))
          (λ q. inr ((departure-iff x i.departure (f x k.from)).0 q.0, (arrival-iff y i.arrival (f k.to y)).0 q.1))
          ((enter_both-iff d e i (T x y)).0 v))

      of : (i : Interval) → Reach B (With S k) δ y i.arrival x i.departure → Covers i (enter_both d e (T x y))
      of i r =
          (enter_both-iff d e i (T x y)).1
          (⊎_elim (λ q. inl (((f x y n).covers i).1 q))
          (λ q. inr ((departure-iff x i.departure (f x k.from)).1 q.0, (arrival-iff y i.arrival (f k.to y)).1 q.1))
          ((with_iff k).0 r))

  -- The add rule takes cells that cover what S reaches to cells that cover what S with the contact reaches.
  pub add-closed : (x y : ℕ) → ((p q : ℕ) → p ≢ q → ClosedOn B S δ p q (T p q)) → x ≢ y → ClosedOn B (With S k) δ x y (add δ T k x y)
  unfolding add
  add-closed x y f n = go (eq_outcome x y)
    where
      go : {b : Bool} → Outcome (x ≡ y) (x ≢ y) b → ClosedOn B (With S k) δ x y (cond b (T x y) (enter_both (departure_of T k x) (arrival_of δ T k y) (T x y)))
      go (holds e) = absurd (n e)
      go (fails m) = entered-closed x y f n

-- The add rule leaves each (x, x) as it was.
pub add-diagonal : (δ : ℕ) (T : Cells) (k : Contact) (x : ℕ) → add δ T k x x ≡ T x x
unfolding add
add-diagonal δ T k x = go (eq_outcome x x)
  where
    go : {b : Bool} → Outcome (x ≡ x) (x ≢ x) b → cond b (T x x) (enter_both (departure_of T k x) (arrival_of δ T k x) (T x x)) ≡ T x x
    go (holds e) = refl
    go (fails m) = absurd (m refl)

-- ---- a list of contacts

-- The first contact of a list joins the set, and then the others.
union_cons : (S : Contacts) (k : Contact) (l : List Contact) → Same (Union (With S k) (In l)) (Union S (In (k ∷ l)))
union_cons S k l c = (to, of)
  where
    to : Union (With S k) (In l) c → Union S (In (k ∷ l)) c
    to (inl (inl s)) = inl s
    to (inl (inr e)) = inr (Memᴰ.head e)
    to (inr m) = inr (Memᴰ.tail m)

    of : Union S (In (k ∷ l)) c → Union (With S k) (In l) c
    of (inl s) = inl (inl s)
    of (inr m) = ⊎_elim (λ e. inl (inr e)) inr (Memᴰ.cases_cons m)

-- On top of any cells, a list of contacts takes what S reaches to what S with the list reaches.
pub add_all-closed : {B : Cells} → Forward B → {δ : ℕ} (l : List Contact) (S : Contacts) (T : Cells) → ((p q : ℕ) → p ≢ q → ClosedOn B S δ p q (T p q))
    → (x y : ℕ) → x ≢ y → ClosedOn B (Union S (In l)) δ x y (add_all δ T l x y)
unfolding add_all
add_all-closed w [] S T f x y n = closed-map (λ k. (inl, ⊎_elim (λ s. s) (λ m. absurd (Memᴰ.not-nil m)))) (f x y n)
add_all-closed w {δ} (k ∷ l) S T f x y n = closed-map (union_cons S k l) (add_all-closed w l (With S k) (add δ T k) (λ p q m. add-closed w T k p q f m) x y n)

pub add_all-diagonal : (δ : ℕ) (T : Cells) (l : List Contact) (x : ℕ) → add_all δ T l x x ≡ T x x
unfolding add_all
add_all-diagonal δ T [] x = refl
add_all-diagonal δ T (k ∷ l) x = add_all-diagonal δ (add δ T k) l x ∙ add-diagonal δ T k x

-- Rising cells cover what is reached on top of them by no contacts.
pub rising-closed : (δ : ℕ) (T : Cells) → ((x y : ℕ) → Rising (T x y)) → (x y : ℕ) → x ≢ y → ClosedOn T (λ k. ⊥) δ x y (T x y)
rising-closed δ T f x y n = record { rising = f x y; covers = λ i. (λ v. direct (stored n v), of) }
  where
    of : {i : Interval} → Reach T (λ k. ⊥) δ y i.arrival x i.departure → Covers i (T x y)
    of (direct (stay e h)) = absurd (n e)
    of (direct (stored d v)) = v
    of (step u v t g m r) = absurd m

-- The rule reads three cells.
pub add_same : (δ : ℕ) (T U : Cells) (k : Contact) (x y : ℕ) → T x y ≡ U x y → T x k.from ≡ U x k.from → T k.to y ≡ U k.to y
    → add δ T k x y ≡ add δ U k x y
unfolding add departure_of arrival_of
add_same δ T U k x y e d a = rw (e, d, a)
