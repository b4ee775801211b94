-- `between` meets its contract.
use Rattle.log_checks.proofs.Logged.{between_none, between-lent}
use mathlib.Core.Path.{refl}
use Rattle.log_checks.proofs.between.Goals as goal

pub returns-then-log-lt2 : goal.returns-then-log-lt2
returns-then-log-lt2 c = between_none c.args.log.now c.if-log-lt2.true

pub returns : goal.returns
returns c = between-lent c.args.log.now _ refl
