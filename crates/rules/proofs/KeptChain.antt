-- The chain of the interval kept, taken apart once: what the rule of the chain can give, on any table.
use Rattle.std.specs.Prelude.{Option, None, Some}
use mathlib.Core.Logic.{◌⊎◌}
use mathlib.Core.Bool.{Bool, cond}
use mathlib.Core.List.{List}
use Prim.Native.Nat.{ℕ, ◌+◌, ◌-◌, ◌<◌}
use Rattle.journeys.specs.declared.Contact.{Contact}
use Rattle.journeys.specs.Journey.{interval}
use Rattle.journeys.specs.Cell.{latest_departure, earliest_arrival}
use Rattle.journeys.proofs.Tests.{Outcome, holds, fails, inside-outcome}
use Rattle.rules.specs.Layout.{animals, carry, cells_of}
use Rattle.rules.specs.Windows.{widest, FitsWindow, fits_window}
use Rattle.rules.specs.Chains.{chain_from, with_tick, chain_of}

module _ (T : List ℕ) (u v first last : ℕ) where
  -- It is none, or the chain of an interval [d, b] that fits the window.
  pub data KeptChain : Option (List Contact) → Type 0 where
    nothing-kept : KeptChain None
    kept : (b d : ℕ) → FitsWindow (carry T) (interval d b) first last → KeptChain (chain_from T v b (animals T - 1) u d)

  -- The chain of [d, b], if it fits; and that of the latest departure by b.
  abbrev fitting : ℕ → ℕ → Option (List Contact)
  fitting b d = cond (fits_window (carry T) (interval d b) first last) (chain_from T v b (animals T - 1) u d) None

  abbrev arriving : ℕ → Option (List Contact)
  arriving b = with_tick (latest_departure (cells_of T u v) b) (fitting b)

  kept-fitting : (b d : ℕ) {t : Bool} → Outcome (FitsWindow (carry T) (interval d b) first last) ((d < first) ⊎ (last + carry T < b)) t
      → KeptChain (cond t (chain_from T v b (animals T - 1) u d) None)
  kept-fitting b d (holds f) = kept b d f
  kept-fitting b d (fails n) = nothing-kept

  kept-departing : (b : ℕ) (o : Option ℕ) → KeptChain (with_tick o (fitting b))
  kept-departing b None = nothing-kept
  kept-departing b (Some d) = kept-fitting b d (inside-outcome (interval d b) (widest (carry T) first last))

  kept-arriving : (o : Option ℕ) → KeptChain (with_tick o arriving)
  kept-arriving None = nothing-kept
  kept-arriving (Some b) = kept-departing b (latest_departure (cells_of T u v) b)

  pub kept-chain : KeptChain (chain_of T u v first last)
  unfolding chain_of
  kept-chain = kept-arriving (earliest_arrival (cells_of T u v) first)
