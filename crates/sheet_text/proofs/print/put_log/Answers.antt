-- `print::put_log` meets its contract: a log beyond the limits is too large, any other is read into a blank table, which prints it.
use Rattle.sheet_text.proofs.Printed.{lent-prints}
use Rattle.sheet_text.proofs.print.put_log.Goals as goal

pub put_read-requires-clause-prints : goal.put_read-requires-clause-prints
put_read-requires-clause-prints c =
    lent-prints c.args.log.now _ _ c.blank_table-table.ensures c.table_size-size.ensures.upper_bound c.table_size-size.ensures.value
