-- `column::departure` meets its contract: the cell read is the one from x to u.
use Rattle.grid.proofs.Places.{grid-lent}
use Rattle.adding.proofs.Ticks.{departing-self, departing-other}
use Rattle.building.proofs.column.departure.Goals as goal

pub returns-then-x-u : goal.returns-then-x-u
returns-then-x-u c = departing-self _ _ _ _ _ _ c.if-x-u.true

pub cell-requires : goal.cell-requires
cell-requires c =
    record {
      n_le_max_animals = (c.requires.grid.few, c.requires.grid.short, c.requires.grid.long);
      x_lt_n = (c.requires.from_below, c.requires.to_below);
    }

pub departure_by-requires : goal.departure_by-requires
departure_by-requires c = grid-lent c.requires.grid _ _ c.requires.from_below c.requires.to_below c.cell.ensures

pub returns : goal.returns
returns c = departing-other _ _ _ _ _ _ c.if-x-u.false _ _ c.cell.ensures c.departure_by.ensures
