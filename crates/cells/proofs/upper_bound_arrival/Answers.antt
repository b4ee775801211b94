-- `cells::upper_bound_arrival` meets its contract: the rows that arrive by t stand at the front, and it counts them.
use mathlib.Core.Bool.{Bool}
use Prim.Native.Nat.{ℕ, ◌+◌}
use lib.Dec.{leb}
use Rattle.std.proofs.Common.{rules}
use Rattle.std.proofs.lemmas.List.Sorted.{IsPartitionPoint-from_clause}
use Rattle.words.specs.Words.{interval_of}
use Rattle.cells.specs.Stored.{arrival_end}
use Rattle.cells.proofs.Search.{arrival-follows, Tests, by-outcome, point-is}
use Rattle.cells.proofs.upper_bound_arrival.Goals as goal

pub returns : goal.returns
returns c =
    let p : ℕ → Bool = λ w. leb (arrival_end (interval_of w)) c.args.t in
    let tests : Tests arrival_end (c.args.t + 1) p = λ w. by-outcome _ _ in
    point-is arrival_end arrival-follows (c.args.t + 1) c.args.rows.now c.requires p tests _ c.partition_point.ensures.bound
    (λ h. IsPartitionPoint-from_clause p _ _ c.partition_point.ensures.partitioned h (λ a r q k. search rules))
