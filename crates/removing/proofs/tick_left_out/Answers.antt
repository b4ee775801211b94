-- `tick_left_out` meets its contract: each return is a case of the rule.
use mathlib.Core.Path.{refl}
use Rattle.removing.proofs.CellByCell.{left-out_here, left-out_from, left-out_to}
use Rattle.removing.proofs.tick_left_out.Goals as goal

pub returns-then-u-contact : goal.returns-then-u-contact
returns-then-u-contact c = left-out_from _ _ _ c.if-u-contact.true refl

pub returns-then-v-contact : goal.returns-then-v-contact
returns-then-v-contact c = left-out_to _ _ _ c.if-u-contact.false c.if-v-contact.true refl

pub returns : goal.returns
returns c = left-out_here _ _ _ c.if-u-contact.false c.if-v-contact.false refl
