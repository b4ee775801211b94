-- `Opening::table_length` meets its contract: the length fits.
use native.Mathlib.Omega.{arith}
use Rattle.tables.proofs.Openings.{length-bound}
use Rattle.tables.proofs.Opening.table_length.Goals as goal

pub overflow_mul-result : goal.overflow_mul-result
overflow_mul-result c = omega (arith, (length-bound c.args.self.animals c.args.self.ticks c.requires.0 c.requires.1))

pub overflow_mul-result-2 : goal.overflow_mul-result-2
overflow_mul-result-2 c = omega (arith, (length-bound c.args.self.animals c.args.self.ticks c.requires.0 c.requires.1))

pub overflow_add-result : goal.overflow_add-result
overflow_add-result c = omega (arith, (length-bound c.args.self.animals c.args.self.ticks c.requires.0 c.requires.1))
