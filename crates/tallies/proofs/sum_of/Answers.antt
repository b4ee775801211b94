-- The sum is the sum of the rule.
use Rattle.std.proofs.Common.{refl}
use Rattle.rules.specs.Counting.{tally_sum}
use Rattle.tallies.proofs.sum_of.Goals as goal

pub returns : goal.returns
unfolding tally_sum
returns c = refl
