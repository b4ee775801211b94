-- A full tally is refused, else the removal is answered and counted.
use Rattle.std.proofs.Common.{sym, ◌∙◌}
use Rattle.counted_removals.proofs.Counts.{full_refused, room-counted}
use Rattle.counted_removals.proofs.remove_counted.Goals as goal

pub returns-then-not-has_room : goal.returns-then-not-has_room
returns-then-not-has_room c =
    let s = full_refused c.args.tally c.args.table.now c.args.work.now _ (sym c.has_room.ensures ∙ c.if-not-has_room.true) in
    record { tally_value = s.0; answer_value = s.1.0; table_after = s.1.1.0; work_after = s.1.1.1 }

pub returns : goal.returns
returns c =
    let room = sym c.has_room.ensures ∙ c.if-not-has_room.false in
    let s = room-counted c.args.tally c.args.table.now c.args.work.now _ room _ _ _ _ c.raise_by_removal.ensures c.remove-answer.ensures.value c.remove-answer.ensures.table_after c.remove-answer.ensures.work_after in
    record { tally_value = s.0; answer_value = s.1.0; table_after = s.1.1.0; work_after = s.1.1.1 }
