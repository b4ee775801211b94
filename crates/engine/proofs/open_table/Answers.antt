-- `write_opened` may be called: the table passed the checks of an opening.
use Rattle.rules.proofs.Judged.{open_iff}
use Rattle.checks.proofs.Judged.{judge_passed, judge_gave}
use Rattle.engine.proofs.open_table.Goals as goal

pub write_opened-requires : goal.write_opened-requires
write_opened-requires c =
    let r = (open_iff _ _ _ _).0 (judge_passed _ _ c.judge_open.ensures c.in_ok-opening.was) in
    rw (judge_gave _ _ c.judge_open.ensures c.in_ok-opening.was) (record { sizes = r.0; table_len = r.1 })
