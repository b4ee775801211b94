-- `is_open` meets its contract: each of its returns is a case of the check.
use Rattle.tables.proofs.Openings.{open_none, open_kind, open_length}
use Rattle.tables.proofs.is_open.Goals as goal

pub returns-in_default : goal.returns-in_default
returns-in_default c = open_none _ c.in_default.ensures.value

pub returns-then-is_opening : goal.returns-then-is_opening
returns-then-is_opening c = let e = c.of_word.ensures in
    open_length _ _ c.in-Some.ensures.value c.is_opening.ensures c.if-is_opening.true e.0 e.1 _ c.table_length.ensures

pub returns-else-is_opening : goal.returns-else-is_opening
returns-else-is_opening c = open_kind _ _ c.in-Some.ensures.value c.is_opening.ensures c.if-is_opening.false
