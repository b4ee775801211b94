-- `is_stay` meets its contract: its tests, one after the other.
use Rattle.std.proofs.Common.{rules}
use Rattle.rules.specs.Stays.{is_stay}
use Rattle.stay_checks.proofs.is_stay.Goals as goal

pub returns-then-is_within-2 : goal.returns-then-is_within-2
unfolding is_stay
returns-then-is_within-2 c = search rules

pub returns-else-is_within-2 : goal.returns-else-is_within-2
unfolding is_stay
returns-else-is_within-2 c = search rules
