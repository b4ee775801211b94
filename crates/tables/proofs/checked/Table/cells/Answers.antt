-- `cells` lends the words behind the opening word, which a valid table has.
use native.Mathlib.Omega.{arith}
use Rattle.std.proofs.Common.{◌+◌, ap, sym}
use Rattle.rules.specs.Layout.{animals, ticks}
use Rattle.rules.proofs.Sound.{opens-length}
use Rattle.tables.proofs.Stored.{lent-cells}
use Rattle.tables.proofs.checked.Table.cells.Goals as goal

pub slice_bounds-result-count : goal.slice_bounds-result-count
slice_bounds-result-count c = omega (arith, opens-length c.self.inside.words.now c.self.invariant.opens)

pub slice_bounds-result-start : goal.slice_bounds-result-start
slice_bounds-result-start c = omega (arith, opens-length c.self.inside.words.now c.self.invariant.opens)

pub returns-clause-stored : goal.returns-clause-stored
returns-clause-stored c =
    lent-cells c.self.inside.words.now c.self.invariant _ _ (ap animals (sym c.self.view_is)) (ap (λ T. ticks T + 1) (sym c.self.view_is))
