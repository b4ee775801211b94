-- The two checks of any call on an open table (document 01, "Words of the table" and "Where each check sits").
use Rattle.std.specs.Prelude.{ℕ, ◌+◌, ◌<◌, ◌≡◌, Bool, true, false, cond, ◌&&◌, List, [], ◌∷◌, length, get_or, take, drop, leb, ltb, eqb, Option}
use Rattle.journeys.specs.Cell.{WellFormedCell}
use Rattle.journeys.specs.Adding.{Cells}
use Rattle.words.specs.Layout.{get, is_of}
use Rattle.words.specs.Words.{opening_layout, count_layout, rows_field, interval_layout, departure_field, arrival_field, unused_layout}
use Rattle.rules.specs.Folds.{all_below}
use Rattle.rules.specs.Layout.{table_length, animals, ticks, carry, cell_at}
use Rattle.rules.specs.declared.Refusal.{Refusal}
use Rattle.rules.specs.declared.Refusal.TheVariants.{NotOpen, NotWellFormed}
use Rattle.rules.specs.Answers.{ensure}

-- An opening word stands first, and the length is the one for it.
unfoldable pub is_open : List ℕ → Bool
is_open T = is_of opening_layout (get_or T 0 0) && eqb (length T) (table_length (animals T) (ticks T))

-- An interval word that departs after p and arrives after q, the ends of the row before it: its departure at most τ, its arrival
-- departure + δ to τ + δ. The positions are: τ, δ, p, q, the word.
unfoldable pub row_well_formed : ℕ → ℕ → ℕ → ℕ → ℕ → Bool
row_well_formed τ δ p q w =
    is_of interval_layout w
    && ltb p (get departure_field w)
    && ltb q (get arrival_field w)
    && leb (get departure_field w) τ
    && leb (get departure_field w + δ) (get arrival_field w)
    && leb (get arrival_field w) (τ + δ)

-- Rows whose departures and arrivals are both strictly rising, from after p and q.
unfoldable pub rows_well_formed : ℕ → ℕ → ℕ → ℕ → List ℕ → Bool
rows_well_formed τ δ p q [] = true
rows_well_formed τ δ p q (w ∷ ws) = row_well_formed τ δ p q w && rows_well_formed τ δ (get departure_field w) (get arrival_field w) ws

unfoldable pub all_unused : List ℕ → Bool
all_unused [] = true
all_unused (w ∷ ws) = is_of unused_layout w && all_unused ws

-- A cell's words, with at most m rows in use: the count word, that many rising rows, then unused words.
unfoldable pub cell_well_formed : ℕ → ℕ → ℕ → List ℕ → Bool
cell_well_formed τ δ m [] = false
cell_well_formed τ δ m (w ∷ ws) =
    is_of count_layout w
    && leb (get rows_field w) m
    && rows_well_formed τ δ 0 0 (take (get rows_field w) ws)
    && all_unused (drop (get rows_field w) ws)

-- Every cell is well formed: at most τ rows, and none in (u, u).
unfoldable pub well_formed : List ℕ → Bool
well_formed T =
    all_below (λ u. all_below (λ v. cell_well_formed (ticks T) (carry T) (cond (eqb u v) 0 (ticks T)) (cell_at (animals T) (ticks T) T u v)) (animals T)) (animals T)

-- The table passes checks 5 and 6. This is its shape only: no contacts need stand behind its intervals.
pub record ValidTable (T : List ℕ) : Type 0 where
  pub opens : is_open T ≡ true
  pub formed : well_formed T ≡ true

-- The cells of animals below n are well formed, and each (x, x) is empty.
pub record WellFormedBelow (n τ δ : ℕ) (T : Cells) : Type 0 where
  pub cells : (x y : ℕ) → x < n → y < n → WellFormedCell τ δ (T x y)
  pub diagonal : (x : ℕ) → x < n → T x x ≡ []

-- Any call on an open table checks these first.
abbrev pub ensure_table : List ℕ → Option Refusal → Option Refusal
ensure_table T o = ensure (is_open T) NotOpen (ensure (well_formed T) NotWellFormed o)
