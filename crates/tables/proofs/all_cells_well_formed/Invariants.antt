-- `all_cells_well_formed` meets its contract. The loop's invariant: the cells from the animals so far are well formed.
use Rattle.grid.proofs.Reading.{Tested}
use Rattle.tables.specs.Cells.{cells_from_well_formed}
use Rattle.tables.proofs.all_cells_well_formed.Given as goal

abbrev pub invariant-loop-u : goal.invariant-loop-u
invariant-loop-u l = Tested (cells_from_well_formed l.ticks l.carry l.n l.body) l.n l.u
