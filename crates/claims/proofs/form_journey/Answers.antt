-- `form_journey` meets its contract: there are words, and they lead on to v.
use Rattle.claims.proofs.Words.{forms_none, forms_some}
use Rattle.claims.proofs.form_journey.Goals as goal

pub returns-then-not-is_empty : goal.returns-then-not-is_empty
returns-then-not-is_empty c = forms_some c.args.table.now c.args.v c.args.first c.args.last c.args.u 0 c.args.chain.now c.is_empty.ensures c.if-not-is_empty.true c.follows.ensures

pub returns-else-not-is_empty : goal.returns-else-not-is_empty
returns-else-not-is_empty c = rw c.if-not-is_empty.false (forms_none c.args.table.now c.args.v c.args.first c.args.last c.args.u 0 c.args.chain.now c.is_empty.ensures c.if-not-is_empty.false)
