-- The byte goes behind the number.
use Rattle.std.proofs.Common.{refl}
use Rattle.table_text.proofs.Writing.{last_byte, first}
use Rattle.table_text.proofs.put_then.Goals as goal

pub returns-clause-out_after : goal.returns-clause-out_after
returns-clause-out_after c =
    let w = first _ _ _ _ refl c.put_number-end.ensures.value c.put_number-end.ensures.out_after c.requires in
    last_byte w c.args.byte c.args.byte refl refl
