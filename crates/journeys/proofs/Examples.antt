-- Worked examples, by computation: the session's cells, P7, P8 and P9 of document 01, and which of two intervals is found.
use Rattle.std.specs.Prelude.{Some}
use mathlib.Core.Path.{◌≡◌, refl}
use mathlib.Core.List.{List, [], ◌∷◌, ◌++◌}
use Prim.Native.Nat.{ℕ, zero, suc}
use Rattle.journeys.specs.declared.Contact.{Contact}
use Rattle.journeys.specs.Journey.{contact, interval}
use Rattle.journeys.specs.Cell.{Cell, later, sooner, latest_departing, earliest_arriving, latest_departure, earliest_arrival, has_inside, without_containing, put_in_order, enter}
use Rattle.journeys.specs.Adding.{departure_of, arrival_of, enter_both, add, add_all, cells_over}

-- The cells (x, 0), (x, 1), .. of n animals.
abbrev row : (ℕ → ℕ → Cell) → ℕ → ℕ → List Cell
row T x zero = []
row T x (suc n) = row T x n ++ (T x n ∷ [])

-- All cells of n animals, row by row.
abbrev rows : (ℕ → ℕ → Cell) → ℕ → ℕ → List (List Cell)
rows T n zero = []
rows T n (suc m) = rows T n m ++ (row T m n ∷ [])

abbrev session : List Contact
session = contact 0 1 1 ∷ contact 0 1 2 ∷ contact 1 3 4 ∷ []

-- The session: every cell of its four animals.
session-cells : rows (cells_over 1 session) 4 4
    ≡ ([] ∷ (interval 1 2 ∷ interval 2 3 ∷ []) ∷ [] ∷ (interval 2 5 ∷ []) ∷ [])
    ∷ ([] ∷ [] ∷ [] ∷ (interval 4 5 ∷ []) ∷ [])
    ∷ ([] ∷ [] ∷ [] ∷ [] ∷ [])
    ∷ ([] ∷ [] ∷ [] ∷ [] ∷ [])
    ∷ []
unfolding cells_over add_all add enter_both departure_of arrival_of enter put_in_order without_containing has_inside latest_departure earliest_arrival latest_departing earliest_arriving later sooner
session-cells = refl

-- The same contacts, the last one loaded first: the same cells.
session-backwards : rows (cells_over 1 (contact 1 3 4 ∷ contact 0 1 2 ∷ contact 0 1 1 ∷ [])) 4 4 ≡ rows (cells_over 1 session) 4 4
unfolding cells_over add_all add enter_both departure_of arrival_of enter put_in_order without_containing has_inside latest_departure earliest_arrival latest_departing earliest_arriving later sooner
session-backwards = refl

-- P7: with δ = 2, cell (0, 3) is [2,6].
p7 : cells_over 2 session 0 3 ≡ interval 2 6 ∷ []
unfolding cells_over add_all add enter_both departure_of arrival_of enter put_in_order without_containing has_inside latest_departure earliest_arrival latest_departing earliest_arriving later sooner
p7 = refl

-- P7 with the last contact loaded first: it departs just when the one before it arrives.
p7-backwards : cells_over 2 (contact 1 3 4 ∷ contact 0 1 2 ∷ contact 0 1 1 ∷ []) 0 3 ≡ interval 2 6 ∷ []
unfolding cells_over add_all add enter_both departure_of arrival_of enter put_in_order without_containing has_inside latest_departure earliest_arrival latest_departing earliest_arriving later sooner
p7-backwards = refl

-- P8: with δ = 3, cell (0, 3) is [1,7].
p8 : cells_over 3 session 0 3 ≡ interval 1 7 ∷ []
unfolding cells_over add_all add enter_both departure_of arrival_of enter put_in_order without_containing has_inside latest_departure earliest_arrival latest_departing earliest_arriving later sooner
p8 = refl

abbrev nine : List Contact
nine = contact 0 2 1 ∷ contact 2 3 2 ∷ contact 0 1 1 ∷ contact 1 3 4 ∷ contact 3 4 6 ∷ []

-- P9: cell (0, 3) is [1,3].
p9 : cells_over 1 nine 0 3 ≡ interval 1 3 ∷ []
unfolding cells_over add_all add enter_both departure_of arrival_of enter put_in_order without_containing has_inside latest_departure earliest_arrival latest_departing earliest_arriving later sooner
p9 = refl

-- P9: cell (0, 4) is [1,7].
p9-further : cells_over 1 nine 0 4 ≡ interval 1 7 ∷ []
unfolding cells_over add_all add enter_both departure_of arrival_of enter put_in_order without_containing has_inside latest_departure earliest_arrival latest_departing earliest_arriving later sooner
p9-further = refl

-- One interval displaces three that contain it.
displaced : enter (interval 4 6) (interval 1 7 ∷ interval 2 8 ∷ interval 3 9 ∷ interval 5 10 ∷ []) ≡ interval 4 6 ∷ interval 5 10 ∷ []
unfolding enter put_in_order without_containing has_inside
displaced = refl

-- A return to the animal itself stores nothing.
returned : cells_over 1 (contact 0 1 1 ∷ contact 1 0 2 ∷ []) 0 0 ≡ []
unfolding cells_over add_all add enter_both departure_of arrival_of enter put_in_order without_containing has_inside latest_departure earliest_arrival latest_departing earliest_arriving later sooner
returned = refl

-- Of two intervals that depart at or after a tick the one with the earlier arrival is found.
earliest-of_two : earliest_arriving (interval 1 2 ∷ interval 2 3 ∷ []) 1 ≡ Some (interval 1 2)
unfolding earliest_arriving sooner
earliest-of_two = refl

-- Of two that arrive by a tick the one with the later departure is found.
latest-of_two : latest_departing (interval 1 2 ∷ interval 2 3 ∷ []) 3 ≡ Some (interval 2 3)
unfolding latest_departing later
latest-of_two = refl
