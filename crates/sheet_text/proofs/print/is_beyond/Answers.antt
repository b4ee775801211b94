-- `print::is_beyond` meets its contract: each of its returns is a case of the rule.
use Rattle.sheet_text.proofs.Printed.{beyond_none, beyond_other, beyond_animals, beyond_ticks}
use Rattle.sheet_text.proofs.print.is_beyond.Goals as goal

pub returns-in_default : goal.returns-in_default
returns-in_default c = beyond_none c.args.log.now c.in_default.ensures.value

pub returns-then-animals_of-gt-MOST_ANIMALS : goal.returns-then-animals_of-gt-MOST_ANIMALS
returns-then-animals_of-gt-MOST_ANIMALS c = beyond_animals c.args.log.now _ c.in-Some.ensures.value c.if-is_opening.ensures _ c.animals_of.ensures c.if-animals_of-gt-MOST_ANIMALS.true

pub returns-else-animals_of-gt-MOST_ANIMALS : goal.returns-else-animals_of-gt-MOST_ANIMALS
returns-else-animals_of-gt-MOST_ANIMALS c =
    beyond_ticks c.args.log.now _ c.in-Some.ensures.value c.if-is_opening.ensures _ c.animals_of.ensures c.if-animals_of-gt-MOST_ANIMALS.false _ c.ticks_of.ensures

pub returns-else-is_opening : goal.returns-else-is_opening
returns-else-is_opening c = beyond_other c.args.log.now _ c.in-Some.ensures.value _ c.is_opening.ensures c.if-is_opening.false
