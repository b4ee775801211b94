-- `reaches` meets its contract: the cell read is the one from u to v, and the carry time is the table's.
use mathlib.Core.Path.{ap, ◌∙◌}
use Prim.Native.Nat.{ℕ}
use Rattle.journeys.specs.Cell.{has_inside}
use Rattle.rules.specs.Layout.{cells_of}
use Rattle.rules.specs.Windows.{widest}
use Rattle.rules.specs.Questions.{reaches}
use Rattle.cells.proofs.Lent.{stored-in_use}
use Rattle.tables.proofs.Stored.{cell-read}
use Rattle.pair_cells.proofs.reaches.Goals as goal

pub has_fitting-requires : goal.has_fitting-requires
has_fitting-requires c = stored-in_use c.cell.ensures.stored

pub returns : goal.returns
unfolding reaches
returns c = cell-read (has_inside (widest c.carry-carry.result c.args.first c.args.last)) c.args.table.now c.args.u c.args.v _ c.cell.ensures.words c.has_fitting.ensures
    ∙ ap (λ (d : ℕ). has_inside (widest d c.args.first c.args.last) (cells_of c.args.table.now c.args.u c.args.v)) c.carry-carry.ensures
