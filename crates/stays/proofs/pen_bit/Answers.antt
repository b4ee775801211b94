-- `pen_bit` meets its contract: before the first tick, after the last, and between them.
use mathlib.Core.Path.{◌∙◌}
use native.Mathlib.Omega.{arith}
use Rattle.stays.proofs.Bits.{shifted}
use Rattle.stays.proofs.Pens.{bit-before, bit-after, bit-there}
use Rattle.stays.proofs.pen_bit.Goals as goal
use Rattle.stays.proofs.pen_bit.Goals.{then-t-stay-via-then-t-stay, then-t-stay-via-else-t-stay+then-stay-t}

pub returns-then-t-stay : goal.returns-then-t-stay
returns-then-t-stay c =
    elim c.then-t-stay.branch [
      | then-t-stay-via-then-t-stay w ↦ bit-before _ _ (omega (arith, w.if-t-stay.true))
      | then-t-stay-via-else-t-stay+then-stay-t w ↦ bit-after _ _ (omega (arith, w.if-t-stay.false)) (omega (arith, w.if-stay-t.true))
    ]

pub returns : goal.returns
returns c = shifted _ c.requires ∙ bit-there _ _ (omega (arith, c.if-t-stay.false)) (omega (arith, c.if-stay-t.false))
