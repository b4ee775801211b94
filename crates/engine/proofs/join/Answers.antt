-- `join_held` may be called: the two tables passed the checks of a join.
use Rattle.rules.proofs.Joining.{join-iff}
use Rattle.checks.proofs.Judged.{judge_passed, judge_gave}
use Rattle.engine.proofs.join.Goals as goal

pub join_held-requires : goal.join_held-requires
join_held-requires c =
    let j = (join-iff _ _).0 (judge_passed _ _ c.judge_join.ensures c.in_ok-second.was) in
    rw (judge_gave _ _ c.judge_join.ensures c.in_ok-second.was) (j.first, j.opening)
