-- `mark_row` meets its contract: the row is left out, or is no contact, or is marked.
use native.Mathlib.Omega.{arith}
use Rattle.removing.proofs.CellByCell.{row-left_out, row-longer, row-can_mark, row-marked}
use Rattle.removing.proofs.mark_row.Goals as goal

pub returns-then-t-except : goal.returns-then-t-except
returns-then-t-except c = row-left_out _ _ _ _ _ c.departure_of-t.ensures (omega arith)

pub returns-then-arrival_of-t : goal.returns-then-arrival_of-t
returns-then-arrival_of-t c = row-longer _ _ _ _ _ c.departure_of-t.ensures _ c.arrival_of.ensures (λ e. omega arith)

pub mark_contact-requires : goal.mark_contact-requires
mark_contact-requires c = row-can_mark _ _ _ _ _ c.departure_of-t.ensures _ c.arrival_of.ensures (omega arith) c.requires

pub returns : goal.returns
returns c = row-marked _ _ _ _ _ c.departure_of-t.ensures _ c.arrival_of.ensures (omega arith) (λ e. omega arith) c.mark_contact.ensures
