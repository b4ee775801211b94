-- `ends::arrival` meets its contract: the cell read is the one from v to y.
use mathlib.Core.Path.{sym, ◌∙◌}
use Rattle.grid.proofs.Places.{cell_in_lem}
use Rattle.cells.proofs.Lent.{stored-in_use}
use Rattle.adding.proofs.Ticks.{arriving-self, arriving-other}
use Rattle.adding.proofs.ends.arrival.Goals as goal

pub returns-then-y-v : goal.returns-then-y-v
returns-then-y-v c = arriving-self _ _ _ _ _ _ c.if-y-v.true

pub earliest_arrival-requires : goal.earliest_arrival-requires
earliest_arrival-requires c = stored-in_use c.cell.ensures.stored

pub returns : goal.returns
returns c = arriving-other _ _ _ _ _ _ c.if-y-v.false _ _ (c.cell.ensures.words ∙ sym (cell_in_lem _ _ _ _ _)) c.earliest_arrival.ensures
