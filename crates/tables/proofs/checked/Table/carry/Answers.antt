-- `carry` reads the first word, which a valid table has.
use native.Mathlib.Omega.{arith}
use Rattle.rules.proofs.Sound.{opens-length}
use Rattle.tables.proofs.checked.Table.carry.Goals as goal

pub bounds-self-inside-0 : goal.bounds-self-inside-0
bounds-self-inside-0 c = omega (arith, opens-length c.self.inside.words.now c.self.invariant.opens)
