-- The sum is tested as the rule tests it.
use Rattle.std.proofs.Common.{refl}
use Rattle.tallies.proofs.Counts.{room-test}
use Rattle.tallies.proofs.has_room.Goals as goal

pub returns : goal.returns
returns c = room-test c.args.tally c.sum_of.ensures refl
