-- `cell` meets its contract: the part begins where the cell begins, and has its size.
use native.Mathlib.Omega.{arith}
use Rattle.grid.proofs.Places.{place, cell-lent}
use Rattle.grid.proofs.cell.Goals as goal

pub overflow_add-result : goal.overflow_add-result
overflow_add-result c = let p = (place c.args.n c.args.size c.args.body.now c.args.x c.args.y c.requires.n_le_max_animals.0 c.requires.n_le_max_animals.2 c.requires.x_lt_n.0 c.requires.x_lt_n.1) in omega arith

pub offset_bounds-body-at : goal.offset_bounds-body-at
offset_bounds-body-at c = let p = (place c.args.n c.args.size c.args.body.now c.args.x c.args.y c.requires.n_le_max_animals.0 c.requires.n_le_max_animals.2 c.requires.x_lt_n.0 c.requires.x_lt_n.1) in omega arith

pub slice_bounds-result-end : goal.slice_bounds-result-end
slice_bounds-result-end c = let p = (place c.args.n c.args.size c.args.body.now c.args.x c.args.y c.requires.n_le_max_animals.0 c.requires.n_le_max_animals.2 c.requires.x_lt_n.0 c.requires.x_lt_n.1) in omega arith

pub returns : goal.returns
returns c = cell-lent c.args.n c.args.size c.args.body.now c.args.x c.args.y _ c.start-at.ensures
