-- The add rule over all pairs (document 01, "Adding a contact"), and what the cells of a set of contacts are.
use Rattle.std.specs.Prelude.{◌≡◌, ◌↔◌, ◌≢◌, cond, ℕ, ◌+◌, eqb, Option, None, Some}
use mathlib.Core.List.{List, [], ◌∷◌, Memᴰ}
use Rattle.journeys.specs.declared.Contact.{Contact}
use Rattle.journeys.specs.declared.Interval.{Interval}
use Rattle.journeys.specs.Journey.{Contacts, interval, Minimal}
use Rattle.journeys.specs.Cell.{Cell, Rising, WellFormedCell, latest_departure, earliest_arrival, enter}

-- A cell for each ordered pair of animals.
abbrev pub Cells : Type 0
Cells = ℕ → ℕ → Cell

-- d(x): t for u itself; for another animal the latest departure from it that has reached u by t, where there is one.
unfoldable pub departure_of : Cells → Contact → ℕ → Option ℕ
departure_of T k x = cond (eqb x k.from) (Some k.tick) (latest_departure (T x k.from) k.tick)

-- e(y): t + δ for v itself; for another animal the earliest arrival at it that leaves v at t + δ or later, where there is one.
unfoldable pub arrival_of : ℕ → Cells → Contact → ℕ → Option ℕ
arrival_of δ T k y = cond (eqb y k.to) (Some (k.tick + δ)) (earliest_arrival (T k.to y) (k.tick + δ))

-- Where both ends exist, their interval enters the cell.
unfoldable pub enter_both : Option ℕ → Option ℕ → Cell → Cell
enter_both None e c = c
enter_both (Some d) None c = c
enter_both (Some d) (Some e) c = enter (interval d e) c

-- The cells after one contact more, from the cells before it: for every x other than y, [d(x), e(y)] enters cell (x, y).
unfoldable pub add : ℕ → Cells → Contact → Cells
add δ T k x y = cond (eqb x y) (T x y) (enter_both (departure_of T k x) (arrival_of δ T k y) (T x y))

-- The cells after a list of contacts, added in its order.
unfoldable pub add_all : ℕ → Cells → List Contact → Cells
add_all δ T [] = T
add_all δ T (k ∷ l) = add_all δ (add δ T k) l

-- The table of cells over a list of contacts: every cell empty, then each contact added.
unfoldable pub cells_over : ℕ → List Contact → Cells
cells_over δ l = add_all δ (λ x y. []) l

-- The cell lists exactly the minimal journey intervals of the pair, rising.
pub record ListsMinimal (S : Contacts) (δ x y : ℕ) (c : Cell) : Type 0 where
  pub rising : Rising c
  pub exact : (i : Interval) → Memᴰ i c ↔ Minimal S δ x y i

-- The cells of a set of contacts: for each ordered pair of different animals its minimal intervals; each (x, x) empty.
pub record CellsOf (S : Contacts) (δ : ℕ) (T : Cells) : Type 0 where
  pub cells : (x y : ℕ) → x ≢ y → ListsMinimal S δ x y (T x y)
  pub diagonal : (x : ℕ) → T x x ≡ []

-- All cells are well formed for τ ticks and carry time δ, and each (x, x) is empty. The cells of no contacts at all need stand behind them.
pub record WellFormed (τ δ : ℕ) (T : Cells) : Type 0 where
  pub cells : (x y : ℕ) → WellFormedCell τ δ (T x y)
  pub diagonal : (x : ℕ) → T x x ≡ []
