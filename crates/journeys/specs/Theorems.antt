-- The theorems on which the engine stands, each one declaration. Their proofs are in proofs/.
use Rattle.std.specs.Prelude.{◌≡◌, ◌↔◌, ◌⊎◌, ◌≢◌, ℕ, ◌+◌, ◌≤◌, length}
use mathlib.Core.List.{List, Memᴰ}
use Rattle.journeys.specs.declared.Contact.{Contact}
use Rattle.journeys.specs.declared.Interval.{Interval}
use Rattle.journeys.specs.Journey.{contact, Contacts, In, With, Same, Apart, interval, Inside, Journey, Minimal}
use Rattle.journeys.specs.Cell.{Cell, Rising, WellFormedCell}
use Rattle.journeys.specs.Adding.{Cells, add, add_all, cells_over, CellsOf, WellFormed}

-- 1. The closure theorem.
pub record Closure : Type 1 where
  -- Adding one contact to the cells of a set of contacts gives the cells of the larger set.
  pub one_more : (δ : ℕ) (S : Contacts) (T : Cells) (k : Contact) → CellsOf S δ T → CellsOf (With S k) δ (add δ T k)
  -- After any list of contacts, in any order, each cell of two different animals lists exactly their minimal journey
  -- intervals, rising, and each (u, u) is empty.
  pub any_list : (δ : ℕ) (l : List Contact) → CellsOf (In l) δ (cells_over δ l)

-- 2. [t, t+δ] stands in cell (u, v) exactly when (u, v, t) is among the contacts.
abbrev pub ContactsStand : Type 1
ContactsStand = (δ : ℕ) (S : Contacts) (T : Cells) → 1 ≤ δ → CellsOf S δ T
    → (u v t : ℕ) → u ≢ v → Memᴰ (interval t (t + δ)) (T u v) ↔ S (contact u v t)

-- 3. All cells are equal exactly when the sets of contacts are equal; order and repeats do not matter.
pub record EqualCells : Type 1 where
  pub of_sets : (δ : ℕ) (S R : Contacts) (T U : Cells) → 1 ≤ δ → Apart S → Apart R → CellsOf S δ T → CellsOf R δ U
      → ((x y : ℕ) → T x y ≡ U x y) ↔ Same S R
  pub of_lists : (δ : ℕ) (l m : List Contact) → 1 ≤ δ → Apart (In l) → Apart (In m)
      → ((x y : ℕ) → cells_over δ l x y ≡ cells_over δ m x y) ↔ Same (In l) (In m)

-- 4. A cell is unchanged by one contact more exactly when that pair's minimal intervals are unchanged.
abbrev pub Unchanged : Type 1
Unchanged = (δ : ℕ) (S : Contacts) (T : Cells) (k : Contact) → CellsOf S δ T
    → (x y : ℕ) → x ≢ y → (add δ T k x y ≡ T x y) ↔ ((i : Interval) → Minimal (With S k) δ x y i ↔ Minimal S δ x y i)

-- 5. A journey of the pair has its interval inside [a, b] exactly when a stored interval lies inside it.
abbrev pub InsideStored : Type 1
InsideStored = (δ : ℕ) (S : Contacts) (T : Cells) → CellsOf S δ T → (x y a b : ℕ) → x ≢ y
    → ((i : Interval) × Journey S δ x y i × Inside i (interval a b))
    ↔ ((i : Interval) × Memᴰ i (T x y) × Inside i (interval a b))

-- 6. On any well-formed cells, even of no closure, a contact at a tick of 1 to τ leaves well-formed cells, and no
-- cell ever needs more than τ rows.
pub record RowsSuffice : Type 0 where
  pub added : (τ δ : ℕ) (T : Cells) (k : Contact) → WellFormed τ δ T → 1 ≤ k.tick → k.tick ≤ τ → WellFormed τ δ (add δ T k)
  pub rows : (τ δ : ℕ) (c : Cell) → WellFormedCell τ δ c → length c ≤ τ

-- 7. Two rising cells with the same members are the same list.
abbrev pub SameMembers : Type 0
SameMembers = (c d : Cell) → Rising c → Rising d → ((i : Interval) → Memᴰ i c ↔ Memᴰ i d) → c ≡ d

-- 8. On any well-formed cells, even of no closure, contacts may be added in any order, and more than once.
pub record AnyOrder : Type 0 where
  -- Two contacts added in either order leave the same cells.
  pub either_order : (τ δ : ℕ) (T : Cells) (k c : Contact) → WellFormed τ δ T → (x y : ℕ) → add δ (add δ T k) c x y ≡ add δ (add δ T c) k x y
  -- A contact added twice leaves what it leaves when added once.
  pub twice : (τ δ : ℕ) (T : Cells) (k : Contact) → WellFormed τ δ T → (x y : ℕ) → add δ (add δ T k) k x y ≡ add δ T k x y
  -- Two lists of the same contacts leave the same cells.
  pub same_contacts : (τ δ : ℕ) (T : Cells) (l m : List Contact) → WellFormed τ δ T → Same (In l) (In m) → (x y : ℕ) → add_all δ T l x y ≡ add_all δ T m x y
  -- Whether a contact is new does not depend on what else was added before it: after a list of contacts at ticks of 1 to τ, [t, t+δ] stands in
  -- cell (u, v) exactly when it stood there before them or (u, v, t) is among them.
  pub stands_after : (τ δ : ℕ) (T : Cells) (l : List Contact) → 1 ≤ δ → WellFormed τ δ T → ((k : Contact) → In l k → (1 ≤ k.tick) × (k.tick ≤ τ))
      → (u v t : ℕ) → u ≢ v → Memᴰ (interval t (t + δ)) (add_all δ T l u v) ↔ (Memᴰ (interval t (t + δ)) (T u v) ⊎ In l (contact u v t))
