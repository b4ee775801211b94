-- Windows (document 01, "Questions"; document 02, Five and Six): their ticks, what it is to fit one, single ticks, and pairs of animals.
use Rattle.std.specs.Prelude.{ℕ, ◌+◌, ◌≤◌, ◌<◌, ◌≢◌, ◌⊎◌, Bool, ◌&&◌, List, leb, Option}
use Rattle.journeys.specs.declared.Contact.{Contact}
use Rattle.journeys.specs.declared.Interval.{Interval}
use Rattle.journeys.specs.Journey.{Contacts, interval, Inside, Journey}
use Rattle.journeys.specs.Cell.{inside}
use Rattle.rules.specs.declared.Refusal.{Refusal}
use Rattle.rules.specs.declared.Refusal.TheVariants.{TickOutOfRange, FirstAfterLast}
use Rattle.rules.specs.Answers.{ensure}
use Rattle.rules.specs.Folds.{within}
use Rattle.rules.specs.Layout.{ticks, carry}

-- ---- the ticks of a window

-- The tick is in a range that ends with end: 1 to end.
abbrev pub InRange : ℕ → ℕ → Type 0
InRange end t = (1 ≤ t) × (t ≤ end)

-- The tick is out of that range, on either side.
abbrev pub OutOfRange : ℕ → ℕ → Type 0
OutOfRange end t = (t < 1) ⊎ (end < t)

-- The two ticks are a window: both are ticks of the calendar, and first comes no later than last.
pub record IsWindow (τ first last : ℕ) : Type 0 where
  pub from_one : 1 ≤ first
  pub in_order : first ≤ last
  pub to_last : last ≤ τ

-- A tick of the two is out of its range.
abbrev pub TickOut : ℕ → ℕ → ℕ → Type 0
TickOut τ first last = OutOfRange τ first ⊎ OutOfRange τ last

-- The two ticks are a window turned round: both are in range, and first is after last.
pub record TurnedRound (τ first last : ℕ) : Type 0 where
  pub first_in_range : InRange τ first
  pub last_in_range : InRange τ last
  pub after : last < first

-- Both ticks are in range: 1 to τ.
abbrev pub window_in_range : List ℕ → ℕ → ℕ → Bool
window_in_range T first last = within 1 first (ticks T) && within 1 last (ticks T)

-- First is not after last.
abbrev pub in_order : ℕ → ℕ → Bool
in_order first last = leb first last

-- A window: 9 when a tick is out of range, then 19 when first is after last.
abbrev pub ensure_window : List ℕ → ℕ → ℕ → Option Refusal → Option Refusal
ensure_window T first last o = ensure (window_in_range T first last) TickOutOfRange (ensure (in_order first last) FirstAfterLast o)

-- ---- what it is to fit a window

-- The contact is one of the set and lies in the window: its tick is first to last.
pub record InWindow (S : Contacts) (first last : ℕ) (k : Contact) : Type 0 where
  pub is_contact : S k
  pub from_first : first ≤ k.tick
  pub to_last : k.tick ≤ last

-- That the contact lies in the window, as a test.
abbrev pub in_window : ℕ → ℕ → Contact → Bool
in_window first last k = within first k.tick last

-- A journey from u to v fits the window: all its contacts lie in it.
pub record Fits (S : Contacts) (δ u v first last : ℕ) : Type 0 where
  pub taken : Interval
  pub journey : Journey (InWindow S first last) δ u v taken

-- A stored interval fits the window when it lies inside this one: it departs at first or later and arrives no later than last + δ.
abbrev pub widest : ℕ → ℕ → ℕ → Interval
widest δ first last = interval first (last + δ)

-- The interval fits the window.
abbrev pub FitsWindow : ℕ → Interval → ℕ → ℕ → Type 0
FitsWindow δ i first last = Inside i (widest δ first last)

-- The same, as a test.
abbrev pub fits_window : ℕ → Interval → ℕ → ℕ → Bool
fits_window δ i first last = inside i (widest δ first last)

-- ---- single ticks

-- Arrivals run to τ+δ.
abbrev pub last_arrival : List ℕ → ℕ
last_arrival T = ticks T + carry T

-- A single tick, of earliest arrival and latest departure: 9 when it is not 1 to τ+δ.
abbrev pub ensure_moment : List ℕ → ℕ → Option Refusal → Option Refusal
ensure_moment T t o = ensure (within 1 t (last_arrival T)) TickOutOfRange o

-- ---- pairs of animals

-- Two different animals below n.
pub record IsPair (n u v : ℕ) : Type 0 where
  pub from_below : u < n
  pub to_below : v < n
  pub apart : u ≢ v
