-- `judge_read` meets its contract: its groups, one after the other.
use lib.Dec.{eqb}
use lib.ListN.{length}
use Rattle.rules.specs.declared.Refusal.TheVariants.{NotALog, WrongLength}
use Rattle.rules.specs.Layout.{table_length, animals, ticks}
use Rattle.rules.specs.Reading.{is_log, between, read_refusal}
use Rattle.rules.proofs.Groups.{one-check}
use Rattle.checks.proofs.Judged.{group_refused, group_passed, check_as}
use Rattle.log_checks.proofs.Logged.{words-group}
use Rattle.log_checks.proofs.judge_read.Goals as goal

pub returns-in_err-judge_words : goal.returns-in_err-judge_words
unfolding read_refusal
returns-in_err-judge_words c = group_passed (one-check (is_log c.args.log.now) NotALog) _ (check_as NotALog c.ensure.ensures c.is_log.ensures) c.in_ok-ensure.was (group_passed (one-check (eqb (length c.args.table.now) (table_length (animals c.args.log.now) (ticks c.args.log.now))) WrongLength) _ c.judge_length.ensures c.in_ok-judge_length.was (group_refused (words-group (animals c.args.log.now) (ticks c.args.log.now) (between c.args.log.now)) _ c.judge_words.ensures c.in_err-judge_words.was c.from_residual-in_err-judge_words.ensures.1))
