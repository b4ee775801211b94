-- A full tally is refused, else the add is answered and counted.
use Rattle.std.proofs.Common.{sym, ◌∙◌}
use Rattle.counted_adds.proofs.Counts.{full_refused, room-counted}
use Rattle.counted_adds.proofs.add_counted.Goals as goal

pub returns-then-not-has_room : goal.returns-then-not-has_room
returns-then-not-has_room c =
    let s = full_refused c.args.tally c.args.table.now _ (sym c.has_room.ensures ∙ c.if-not-has_room.true) in
    record { tally_value = s.0; answer_value = s.1.0; table_after = s.1.1 }

pub returns : goal.returns
returns c =
    let room = sym c.has_room.ensures ∙ c.if-not-has_room.false in
    let s = room-counted c.args.tally c.args.table.now _ room _ _ _ c.raise.ensures c.add_contact-answer.ensures.value c.add_contact-answer.ensures.table_after in
    record { tally_value = s.0; answer_value = s.1.0; table_after = s.1.1 }
