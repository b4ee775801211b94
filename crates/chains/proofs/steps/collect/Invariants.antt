-- `steps::collect` meets its contract. The loop's invariant: the words kept are those of the contacts so far, and with the chain that is
-- left they are the whole.
use Rattle.chains.proofs.Walking.{Walk}
use Rattle.chains.proofs.steps.collect.Given as goal

abbrev pub invariant-loop-k : goal.invariant-loop-k
invariant-loop-k l = Walk l.table l.goal l.b l.u l.d l.n l.from l.tick l.k l.kept
