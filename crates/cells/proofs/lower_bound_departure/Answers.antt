-- `cells::lower_bound_departure` meets its contract: the rows that depart before t stand at the front, and it counts them.
use mathlib.Core.Bool.{Bool}
use Prim.Native.Nat.{ℕ}
use lib.Dec.{ltb}
use Rattle.std.proofs.Common.{rules}
use Rattle.std.proofs.lemmas.List.Sorted.{IsPartitionPoint-from_clause}
use Rattle.journeys.proofs.Tests.{lt_outcome}
use Rattle.words.specs.Words.{interval_of}
use Rattle.cells.specs.Stored.{departure_end}
use Rattle.cells.proofs.Search.{departure-follows, Tests, point-is}
use Rattle.cells.proofs.lower_bound_departure.Goals as goal

pub returns : goal.returns
returns c =
    let p : ℕ → Bool = λ w. ltb (departure_end (interval_of w)) c.args.t in
    let tests : Tests departure_end c.args.t p = λ w. lt_outcome _ _ in
    point-is departure_end departure-follows c.args.t c.args.rows.now c.requires p tests _ c.partition_point.ensures.bound
    (λ h. IsPartitionPoint-from_clause p _ _ c.partition_point.ensures.partitioned h (λ a r q k. search rules))
