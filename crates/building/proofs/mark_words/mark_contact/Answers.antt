-- `mark_words::mark_contact` meets its contract: the row of the contact's tick in its cell is marked.
use native.Mathlib.Omega.{arith}
use Rattle.building.proofs.MarkingContacts.{contact-can_mark, contact-marked}
use Rattle.building.proofs.mark_words.mark_contact.Goals as goal

pub overflow_mul-cell : goal.overflow_mul-cell
overflow_mul-cell c = omega (arith, (contact-can_mark c.requires).place.cell_below)

pub overflow_add-cell : goal.overflow_add-cell
overflow_add-cell c = omega (arith, (contact-can_mark c.requires).place.cell_below)

pub mark-requires : goal.mark-requires
mark-requires c = contact-can_mark c.requires

pub returns : goal.returns
returns c = contact-marked c.requires c.mark.ensures
