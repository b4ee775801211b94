-- An array of ticks, one for each animal, read again.
use Rattle.std.specs.Prelude.{Option}
use mathlib.Core.Path.{◌≡◌, ap, ◌∙◌}
use mathlib.Core.List.{List}
use Prim.Native.Nat.{ℕ, ◌≤◌, ◌<◌}
use lib.ListN.{get_or}
use Rattle.cells.specs.Stored.{or_zero}
use Rattle.tables.proofs.Ticks.{Tick, tick-below}
use Rattle.adding.specs.Steps.{Listed, Below, tick_of}
use Rattle.adding.proofs.Ticks.{tick-again}

-- An array of the ticks f, where f x is the tick o x, and below m, if there is one.
module _ (n m : ℕ) (f o : ℕ → Option ℕ) (is : (x : ℕ) → f x ≡ o x) (tick : (x : ℕ) → x < n → Tick m (o x)) (l : List ℕ) (h : Listed n f l) where
  -- The ticks lie below m.
  pub listed_below : 1 ≤ m → Below n m l
  listed_below k x b = rw (h x b, is x) (tick-below m (o x) k (tick x b))

  -- They are read as they are.
  pub listed-read : (x : ℕ) → x < n → tick_of (get_or l x 0) ≡ o x
  listed-read x b = ap tick_of (h x b ∙ ap or_zero (is x)) ∙ tick-again m (o x) (tick x b)
