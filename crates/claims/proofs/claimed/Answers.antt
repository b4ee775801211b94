-- `claimed` meets its contract: each return is a case of the rule.
use Rattle.claims.proofs.Words.{claim_refused, claim_judged}
use Rattle.claims.proofs.claimed.Goals as goal

pub returns-in_err-table : goal.returns-in_err-table
returns-in_err-table c = let a = c.args in claim_refused a.table.now a.u a.v a.first a.last a.chain.now c.judge_reach.ensures c.in_err-table.was c.from_residual.ensures.1

pub returns : goal.returns
returns c = let a = c.args in claim_judged a.table.now a.u a.v a.first a.last a.chain.now c.judge_reach.ensures c.in_ok-table.was c.form_journey.ensures
