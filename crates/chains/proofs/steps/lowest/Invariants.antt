-- `steps::lowest` meets its contract. The loop's invariant: no contact leads to an animal passed.
use mathlib.Core.Path.{◌≡◌}
use Rattle.rules.specs.Chains.{nobody, leads, lowest}
use Rattle.chains.proofs.steps.lowest.Given as goal

abbrev pub invariant-loop-to : goal.invariant-loop-to
invariant-loop-to l = lowest (leads l.table l.goal l.b l.from l.tick) l.to ≡ nobody
