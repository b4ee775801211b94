-- `next_cell` meets its contract: to the next animal where there is one, else from the next to animal 0.
use Rattle.grid.proofs.Steps.{next-on, next-anew}
use Rattle.grid.proofs.next_cell.Goals as goal

pub returns-then-to-n : goal.returns-then-to-n
returns-then-to-n c = next-on _ _ _ c.if-to-n.true

pub returns : goal.returns
returns c = next-anew _ _ _ c.if-to-n.false
