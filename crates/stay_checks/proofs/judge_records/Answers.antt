-- `judge_records` meets its contract: the records in turn, then the length.
use Rattle.std.proofs.Common.{rules}
use Rattle.rules.specs.Layout.{animals, ticks}
use Rattle.rules.specs.Stays.{stays_of}
use Rattle.checks.proofs.Judged.{group_refused}
use Rattle.stay_checks.proofs.Judged.{each-group}
use Rattle.stay_checks.proofs.judge_records.Goals as goal

pub returns-in_err-judge_each : goal.returns-in_err-judge_each
returns-in_err-judge_each c = group_refused (each-group (animals c.args.table.now) (ticks c.args.table.now) (stays_of c.args.stays.now)) _ (search (rules, c.judge_each.ensures)) c.in_err-judge_each.was c.from_residual.ensures.1
