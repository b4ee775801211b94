-- `print::put_read` meets its contract: the table read is valid, and the answer is how many contacts it holds.
use Rattle.sheet_text.proofs.Printed.{read_table}
use Rattle.sheet_text.proofs.print.put_read.Goals as goal

pub of_valid-requires : goal.of_valid-requires
of_valid-requires c = (read_table c.args.log.now c.args.table.now _ _ c.in-Ok.ensures.value c.in-Ok.ensures.table_after).0

pub put_table-requires-clause-held_value : goal.put_table-requires-clause-held_value
put_table-requires-clause-held_value c =
    rw c.of_valid.ensures (read_table c.args.log.now c.args.table.now _ _ c.in-Ok.ensures.value c.in-Ok.ensures.table_after).1
