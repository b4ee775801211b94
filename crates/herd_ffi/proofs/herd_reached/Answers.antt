-- `herd_reached` meets its contract: the reply is that of the question's answer, and its set is written.
use Rattle.std.proofs.Common.{ap, ◌∙◌}
use Rattle.replies.specs.Sets.{set_leaves}
use Rattle.replies.proofs.Sets.{reached-left}
use Rattle.herd_ffi.proofs.herd_reached.Goals as goal

pub returns-clause-set_after : goal.returns-clause-set_after
returns-clause-set_after c =
    c.put_set.ensures
    ∙ ap (λ o. set_leaves o c.args.set.now) c.reached-found.ensures.set
    ∙ reached-left c.args.table.now c.args.u c.args.first c.args.last c.args.set.now
