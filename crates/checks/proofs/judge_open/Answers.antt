-- `judge_open` meets its contract: the limits, then the length.
use Rattle.checks.proofs.Opened.{open_beyond, within-limits, open_refused, open_passed}
use Rattle.checks.proofs.judge_open.Goals as goal

pub returns-in_err-opening : goal.returns-in_err-opening
returns-in_err-opening c = open_beyond c.args.animals c.args.ticks c.args.carry c.new.ensures c.args.table.now c.in_err-opening.was c.from_residual.ensures.1

pub table_length-requires : goal.table_length-requires
table_length-requires c = within-limits c.args.animals c.args.ticks c.args.carry c.new.ensures _ c.in_ok-opening.was

pub returns-in_err-ensure : goal.returns-in_err-ensure
returns-in_err-ensure c = open_refused c.args.animals c.args.ticks c.args.carry c.new.ensures _ c.in_ok-opening.was c.args.table.now c.table_length.ensures c.ensure.ensures c.in_err-ensure.was c.from_residual-in_err-ensure.ensures.1

pub returns : goal.returns
returns c = open_passed c.args.animals c.args.ticks c.args.carry c.new.ensures _ c.in_ok-opening.was c.args.table.now c.table_length.ensures c.ensure.ensures c.in_ok-ensure.was
