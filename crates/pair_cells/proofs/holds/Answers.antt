-- `holds` meets its contract: a contact is held where its interval stands in its cell.
use native.Mathlib.Omega.{arith}
use Rattle.rules.proofs.Held.{holds_at}
use Rattle.pair_cells.proofs.holds.Goals as goal

pub returns : goal.returns
returns c = holds_at c.args.table.now c.args.contact.from c.args.contact.to c.args.contact.tick _ (omega (arith, c.carry.ensures)) c.stands.ensures
