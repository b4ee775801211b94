-- `stay_at` meets its contract: four words of the list are the record.
use mathlib.Core.Path.{refl}
use Rattle.rules.specs.Stays.{stay_at}
use Rattle.stay_checks.proofs.stay_at.Goals as goal

pub returns : goal.returns
unfolding stay_at
returns c = refl
