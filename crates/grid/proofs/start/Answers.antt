-- `start` meets its contract: where a cell begins is no more than the words of the largest grid.
use native.Mathlib.Omega.{arith}
use Rattle.grid.proofs.Places.{start-bound}
use Rattle.grid.proofs.start.Goals as goal

pub overflow_mul-result : goal.overflow_mul-result
overflow_mul-result c = omega (arith, (start-bound c.args.n c.args.size c.args.x c.args.y c.requires.n_le_max_animals.0 c.requires.n_le_max_animals.1 c.requires.x_lt_n.0 c.requires.x_lt_n.1))

pub overflow_add-result : goal.overflow_add-result
overflow_add-result c = omega (arith, (start-bound c.args.n c.args.size c.args.x c.args.y c.requires.n_le_max_animals.0 c.requires.n_le_max_animals.1 c.requires.x_lt_n.0 c.requires.x_lt_n.1))

pub overflow_mul-result-2 : goal.overflow_mul-result-2
overflow_mul-result-2 c = omega (arith, (start-bound c.args.n c.args.size c.args.x c.args.y c.requires.n_le_max_animals.0 c.requires.n_le_max_animals.1 c.requires.x_lt_n.0 c.requires.x_lt_n.1))
