-- `copy` meets its contract. The loop's invariant: the words passed are copied. The measure is how many are left.
use native.Mathlib.Omega.{arith}
use Rattle.removing.proofs.Copied.{copied_start, copied_turn, copied_end}
use Rattle.removing.proofs.copy.Goals as goal

pub loop-i-init : goal.loop-i-init
loop-i-init c = (omega arith, copied_start (omega arith))

pub loop-i-preserved : goal.loop-i-preserved
loop-i-preserved c = (omega arith, copied_turn c.loop-i.invariant.1 (omega arith) (omega arith))

pub returns : goal.returns
returns c = copied_end c.loop-i.invariant.1 (omega arith)
