-- The proofs of the theorems of specs/Theorems.antt.
use mathlib.Core.Path.{◌≡◌, refl, sym, subst, ◌∙◌}
use mathlib.Core.Logic.{◌↔◌, inr, ⊎_elim, ◌≢◌}
use mathlib.Core.List.{List, [], Memᴰ}
use Prim.Native.Nat.{ℕ, ◌+◌, ◌≤◌}
use native.Mathlib.Omega.{arith}
use native.Mathlib.Decide.{ℕ_discrete}
use Rattle.journeys.specs.declared.Contact.{Contact}
use Rattle.journeys.specs.declared.Interval.{Interval}
use Rattle.journeys.specs.Journey.{contact, Contacts, In, With, Union, Same, Apart, interval, Inside, JourneyTo, single, onward, Minimal}
use Rattle.journeys.specs.Cell.{Cell}
use Rattle.journeys.specs.Adding.{Cells, add, add_all, cells_over, ListsMinimal, CellsOf}
use Rattle.journeys.specs.Theorems.{Closure, ContactsStand, EqualCells, Unchanged, InsideStored, RowsSuffice, SameMembers}
use Rattle.journeys.proofs.Cover.{covers-find, same-cover, members_cover}
use Rattle.journeys.proofs.Reach.{empty, empty-forward, journey-carries, within-reach}
use Rattle.journeys.proofs.Closed.{Closed, closed-lists, lists-closed, closed-map, closed-unique, add-closed, add-diagonal, add_all-closed, add_all-diagonal, rising-closed}
use Rattle.journeys.proofs.Rows.{rows-suffice, add-well_formed}

pub cells-closed : {S : Contacts} {δ : ℕ} {T : Cells} → CellsOf S δ T → (x y : ℕ) → x ≢ y → Closed S δ x y (T x y)
cells-closed k x y n = lists-closed (k.cells x y n) n

closed-cells : {S : Contacts} {δ : ℕ} {T : Cells} → ((x y : ℕ) → x ≢ y → Closed S δ x y (T x y)) → ((x : ℕ) → T x x ≡ []) → CellsOf S δ T
closed-cells f d = record { cells = λ x y n. closed-lists n (f x y n); diagonal = d }

-- Equal sets have the same cells.
pub cells-map : {S R : Contacts} {δ : ℕ} {T : Cells} → Same S R → CellsOf S δ T → CellsOf R δ T
cells-map e k = closed-cells (λ x y n. closed-map e (cells-closed k x y n)) k.diagonal

-- ---- 1

one_more : (δ : ℕ) (S : Contacts) (T : Cells) (k : Contact) → CellsOf S δ T → CellsOf (With S k) δ (add δ T k)
one_more δ S T k c = closed-cells (λ x y n. add-closed empty-forward T k x y (cells-closed c) n) (λ x. add-diagonal δ T k x ∙ c.diagonal x)

-- A list of contacts added to the cells of a set gives the cells of both together.
pub add_all-cells : (δ : ℕ) (S : Contacts) (T : Cells) (l : List Contact) → CellsOf S δ T → CellsOf (Union S (In l)) δ (add_all δ T l)
add_all-cells δ S T l k = closed-cells (add_all-closed empty-forward l S T (cells-closed k)) (λ x. add_all-diagonal δ T l x ∙ k.diagonal x)

-- Empty cells are those of no contacts.
pub empty-cells : (δ : ℕ) → CellsOf (λ k. ⊥) δ (λ x y. [])
empty-cells δ = closed-cells (rising-closed δ empty (λ x y. tt)) (λ x. refl)

any_list : (δ : ℕ) (l : List Contact) → CellsOf (In l) δ (cells_over δ l)
unfolding cells_over
any_list δ l = cells-map (λ k. (⊎_elim (λ b. absurd b) (λ m. m), inr)) (add_all-cells δ (λ k. ⊥) (λ x y. []) l (empty-cells δ))

pub closure : Closure
closure = record { one_more = one_more; any_list = any_list }

-- ---- 2

-- A journey no longer than the carry time is one contact.
short : {S : Contacts} {δ x y b t : ℕ} → 1 ≤ δ → JourneyTo S δ y b x t → b ≤ t + δ → S (contact x y t)
short d (single s e) h = s
short d (onward z r s l j) h = let k = journey-carries j in absurd (omega arith)

pub contacts-stand : ContactsStand
contacts-stand δ S T d k u v t n = (stands, held)
  where
    exact : (i : Interval) → Memᴰ i (T u v) ↔ Minimal S δ u v i
    exact = (k.cells u v n).exact

    stands : Memᴰ (interval t (t + δ)) (T u v) → S (contact u v t)
    stands m = short d ((exact (interval t (t + δ))).0 m).journey (omega arith)

    held : S (contact u v t) → Memᴰ (interval t (t + δ)) (T u v)
    held s = (exact (interval t (t + δ))).1 (record { journey = single s refl; least = λ j h l. shortest j (journey-carries h) l })
      where
        shortest : (j : Interval) → j.departure + δ ≤ j.arrival → Inside j (interval t (t + δ)) → j ≡ interval t (t + δ)
        shortest j h l = λ i. record { departure = p i; arrival = q i }
          where
            p : j.departure ≡ t
            p = omega arith

            q : j.arrival ≡ t + δ
            q = omega arith

-- ---- 3

-- The cells of a set are unique.
pub cells-unique : {S : Contacts} {δ : ℕ} {T U : Cells} → CellsOf S δ T → CellsOf S δ U → (x y : ℕ) → T x y ≡ U x y
cells-unique {S} {δ} {T} {U} k l x y = go (ℕ_discrete x y)
  where
    go : Dec (x ≡ y) → T x y ≡ U x y
    go (yes e) = subst (λ z. T x z ≡ U x z) e (k.diagonal x ∙ sym (l.diagonal x))
    go (no n) = closed-unique (cells-closed k x y n) (cells-closed l x y n)

of_sets : (δ : ℕ) (S R : Contacts) (T U : Cells) → 1 ≤ δ → Apart S → Apart R → CellsOf S δ T → CellsOf R δ U
    → ((x y : ℕ) → T x y ≡ U x y) ↔ Same S R
of_sets δ S R T U d p q k l = (λ e c. (shared S R T U p k l e c, shared R S U T q l k (λ x y. sym (e x y)) c), λ e. cells-unique (cells-map e k) l)
  where
    shared : (S R : Contacts) (T U : Cells) → Apart S → CellsOf S δ T → CellsOf R δ U → ((x y : ℕ) → T x y ≡ U x y) → (c : Contact) → S c → R c
    shared S R T U p k l e c s =
        let u = c.from in
        let v = c.to in
        let t = c.tick in
        (contacts-stand δ R U d l u v t (p c s)).0
        (subst (λ z. Memᴰ (interval t (t + δ)) z) (e u v) ((contacts-stand δ S T d k u v t (p c s)).1 s))

pub equal-cells : EqualCells
equal-cells = record { of_sets = of_sets; of_lists = λ δ l m d p q. of_sets δ (In l) (In m) (cells_over δ l) (cells_over δ m) d p q (any_list δ l) (any_list δ m) }

-- ---- 4

-- Two cells that list the minimal intervals of their sets are equal exactly when these are the same.
pub equal-minimal : {S R : Contacts} {δ x y : ℕ} {c d : Cell} → ListsMinimal S δ x y c → ListsMinimal R δ x y d
    → (c ≡ d) ↔ ((i : Interval) → Minimal S δ x y i ↔ Minimal R δ x y i)
equal-minimal {S} {R} {δ} {x} {y} {c} {d} k l = (to, of)
  where
    to : c ≡ d → (i : Interval) → Minimal S δ x y i ↔ Minimal R δ x y i
    to e i = (
      λ m. (l.exact i).0 (subst (λ z. Memᴰ i z) e ((k.exact i).1 m)),
      λ m. (k.exact i).0 (subst (λ z. Memᴰ i z) (sym e) ((l.exact i).1 m)),
    )

    of : ((i : Interval) → Minimal S δ x y i ↔ Minimal R δ x y i) → c ≡ d
    of f =
        same-cover c d k.rising l.rising
        (λ p. (
          members_cover (λ i m. (l.exact i).1 ((f i).0 ((k.exact i).0 m))) p,
          members_cover (λ i m. (k.exact i).1 ((f i).1 ((l.exact i).0 m))) p,
        ))

pub unchanged : Unchanged
unchanged δ S T k c x y n = equal-minimal ((one_more δ S T k c).cells x y n) (c.cells x y n)

-- ---- 5

pub inside-stored : InsideStored
inside-stored δ S T k x y first last n = (
  λ w. covers-find (((cells-closed k x y n).covers (interval first last)).1 (within-reach w)),
  λ w. (w.0, (((k.cells x y n).exact w.0).0 w.1).journey, w.2),
)

-- ---- 6

pub rows-suffice_always : RowsSuffice
rows-suffice_always = record { added = add-well_formed; rows = rows-suffice }

-- ---- 7

pub same-members : SameMembers
same-members c d u w f = same-cover c d u w (λ p. (members_cover (λ i. (f i).0) p, members_cover (λ i. (f i).1) p))
