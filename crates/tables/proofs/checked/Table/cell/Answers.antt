-- `cell` lends the cell as the functions on a cell ask.
use Rattle.std.proofs.Common.{◌≡◌, ap}
use native.Mathlib.Omega.{arith}
use Rattle.rules.specs.Layout.{animals}
use Rattle.tables.proofs.Stored.{lent-stored}
use Rattle.tables.proofs.checked.Table.cell.Goals as goal

pub returns-clause-stored : goal.returns-clause-stored
returns-clause-stored c =
    let e : animals c.self.inside.words.now ≡ animals c.args.self.now = ap animals c.self.view_is in
    lent-stored c.self.inside.words.now c.self.invariant c.args.u c.args.v (omega (arith, c.requires, e)) (omega (arith, c.requires, e)) c.cell.ensures
