-- `ends::fill` meets its contract. The loop's invariant: the slots passed hold the ticks of their animals.
use Prim.Native.Nat.{ℕ, ◌<◌}
use lib.ListN.{get_or}
use Rattle.adding.proofs.ends.fill.Given as goal

abbrev pub invariant-loop-x : goal.invariant-loop-x
invariant-loop-x g l = (k : ℕ) → k < l.x → goal.F-post g l.tick k (get_or l.slots k 0)
