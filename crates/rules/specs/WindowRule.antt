-- What it is to be a window and to fit one (document 02, Five and Six): which ticks are accepted, and that fitting, said of a journey's
-- contacts, comes to the two ends of its interval.
use Rattle.std.specs.Prelude.{ℕ, ◌≤◌, ◌≡◌, ◌↔◌, ◌⊎◌, Option, Some}
use mathlib.Core.List.{List, Memᴰ}
use Rattle.journeys.specs.declared.Contact.{Contact}
use Rattle.journeys.specs.declared.Interval.{Interval}
use Rattle.journeys.specs.Journey.{Contacts, Journey, contacts_of}
use Rattle.rules.specs.declared.Refusal.{Refusal}
use Rattle.rules.specs.declared.Refusal.TheVariants.{TickOutOfRange, FirstAfterLast}
use Rattle.rules.specs.Layout.{ticks}
use Rattle.rules.specs.Adding.{Legal}
use Rattle.rules.specs.Windows.{InRange, OutOfRange, IsWindow, TickOut, TurnedRound, ensure_window, InWindow, Fits, FitsWindow, last_arrival, ensure_moment}

-- Every contact of the list lies in the window.
abbrev pub AllInWindow : ℕ → ℕ → List Contact → Type 0
AllInWindow first last l = (k : Contact) → Memᴰ k l → (first ≤ k.tick) × (k.tick ≤ last)

pub record WindowRule : Type 1 where
  -- Any two ticks are a window, or one of them is out of its range, or they are a window turned round.
  pub any_two : (τ first last : ℕ) → IsWindow τ first last ⊎ TickOut τ first last ⊎ TurnedRound τ first last
  -- A window passes the check; a tick out of its range is refused with 9, a window turned round with 19.
  pub window_accepted : (T : List ℕ) (first last : ℕ) → IsWindow (ticks T) first last → (o : Option Refusal) → ensure_window T first last o ≡ o
  pub window_out : (T : List ℕ) (first last : ℕ) → TickOut (ticks T) first last → (o : Option Refusal) → ensure_window T first last o ≡ Some TickOutOfRange
  pub window_turned : (T : List ℕ) (first last : ℕ) → TurnedRound (ticks T) first last → (o : Option Refusal) → ensure_window T first last o ≡ Some FirstAfterLast
  -- A single tick up to the last arrival passes the check of earliest and latest; any other is refused with 9.
  pub moment_accepted : (T : List ℕ) (t : ℕ) → InRange (last_arrival T) t → (o : Option Refusal) → ensure_moment T t o ≡ o
  pub moment_refused : (T : List ℕ) (t : ℕ) → OutOfRange (last_arrival T) t → (o : Option Refusal) → ensure_moment T t o ≡ Some TickOutOfRange
  -- A journey fits the window exactly when there is one with all its contacts in it.
  pub fits_when : (S : Contacts) (δ u v first last : ℕ)
      → Fits S δ u v first last ↔ ((i : Interval) × (j : Journey S δ u v i) × AllInWindow first last (contacts_of j))
  -- All contacts of a journey lie in the window exactly when it departs at first or later and arrives no later than last + δ.
  pub all_contacts : (S : Contacts) (δ u v : ℕ) (i : Interval) (j : Journey S δ u v i) (first last : ℕ) → AllInWindow first last (contacts_of j) ↔ FitsWindow δ i first last
  -- So the contacts in the window have just the journeys with such an interval.
  pub by_the_ends : (S : Contacts) (δ u v first last : ℕ) (i : Interval) → Journey (InWindow S first last) δ u v i ↔ (Journey S δ u v i × FitsWindow δ i first last)
  -- Every journey of legal contacts fits [1, τ].
  pub whole_calendar : (n τ δ : ℕ) (S : Contacts) → ((k : Contact) → S k → Legal n τ k) → (u v : ℕ) (i : Interval) → Journey S δ u v i → Journey (InWindow S 1 τ) δ u v i
