-- `remove_held` may be called: the two tables and the contact passed the checks of a removal.
use Rattle.rules.proofs.Removing.{remove_iff}
use Rattle.checks.proofs.Judged.{verdict_passed}
use Rattle.engine.proofs.remove.Goals as goal

pub remove_held-requires : goal.remove_held-requires
remove_held-requires c =
    let i = (remove_iff _ _ _).0 (verdict_passed c.judge_remove.ensures c.in_ok-judge_remove.was) in
    record { valid_table = i.0; table_len = i.1 }
