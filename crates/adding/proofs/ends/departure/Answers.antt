-- `ends::departure` meets its contract: the cell read is the one from x to u.
use mathlib.Core.Path.{sym, ◌∙◌}
use Rattle.grid.proofs.Places.{cell_in_lem}
use Rattle.cells.proofs.Lent.{stored-in_use}
use Rattle.adding.proofs.Ticks.{departing-self, departing-other}
use Rattle.adding.proofs.ends.departure.Goals as goal

pub returns-then-x-u : goal.returns-then-x-u
returns-then-x-u c = departing-self _ _ _ _ _ _ c.if-x-u.true

pub latest_departure-requires : goal.latest_departure-requires
latest_departure-requires c = stored-in_use c.cell.ensures.stored

pub returns : goal.returns
returns c = departing-other _ _ _ _ _ _ c.if-x-u.false _ _ (c.cell.ensures.words ∙ sym (cell_in_lem _ _ _ _ _)) c.latest_departure.ensures
