-- `print::table_size` meets its contract: what is no log needs no table, any other the one that its first word says.
use Rattle.std.proofs.Common.{ap₂, ◌∙◌, arith}
use Rattle.rules.specs.Layout.{table_length}
use Rattle.sheet_text.proofs.Printed.{size_small}
use Rattle.sheet_text.proofs.print.table_size.Goals as goal

pub returns-clause-upper_bound : goal.returns-clause-upper_bound
returns-clause-upper_bound c =
    let e = c.table_length.ensures ∙ ap₂ table_length c.of_word.ensures.0 c.of_word.ensures.1 in
    omega (arith, size_small c.args.log.now _ c.in-Some.ensures.value c.if-not-is_opening.ensures c.requires, e)
