-- `enters` meets its contract: where the interval goes is one record of facts, from which every later need follows.
use mathlib.Core.Path.{sym, ap, ◌∙◌}
use mathlib.Core.Bool.{not}
use native.Mathlib.Omega.{arith}
use Rattle.words.specs.Words.{count_word}
use Rattle.rules.specs.Layout.{cell_of}
use Rattle.cells.proofs.Lent.{stored-in_use}
use Rattle.entering.proofs.Slots.{no-slot}
use Rattle.entering.proofs.Entered.{same, slot-goes, ready, entered}
use Rattle.entering.proofs.enters.Goals as goal

pub find-requires : goal.find-requires
find-requires c = stored-in_use c.requires.stored

pub returns-in_default-clause-value : goal.returns-in_default-clause-value
returns-in_default-clause-value c = ap not (sym (no-slot c.args.interval (cell_of c.args.cell.now) (sym c.find.ensures ∙ c.in_default.is)))

pub returns-in_default-clause-cell_after : goal.returns-in_default-clause-cell_after
returns-in_default-clause-cell_after c =
    same c.args.cell.now c.requires.stored c.args.interval (no-slot c.args.interval (cell_of c.args.cell.now) (sym c.find.ensures ∙ c.in_default.is))

pub replace-rows-requires-clause-lo_le_hi : goal.replace-rows-requires-clause-lo_le_hi
replace-rows-requires-clause-lo_le_hi c = (ready c.args.cell.now c.args.interval _ _ c.requires.stored c.rows_of-n.ensures
    (slot-goes c.requires.stored c.rows_of-n.ensures c.requires.le_d (sym c.find.ensures ∙ c.in-Some.is))).0

pub replace-rows-requires-clause-rows_value : goal.replace-rows-requires-clause-rows_value
replace-rows-requires-clause-rows_value c = (ready c.args.cell.now c.args.interval _ _ c.requires.stored c.rows_of-n.ensures
    (slot-goes c.requires.stored c.rows_of-n.ensures c.requires.le_d (sym c.find.ensures ∙ c.in-Some.is))).1

pub overflow_cast-rows : goal.overflow_cast-rows
overflow_cast-rows c =
    let g = slot-goes c.requires.stored c.rows_of-n.ensures c.requires.le_d (sym c.find.ensures ∙ c.in-Some.is) in
    omega (arith, g, c.replace-rows.ensures.count)

pub count_word-requires : goal.count_word-requires
count_word-requires c =
    let g = slot-goes c.requires.stored c.rows_of-n.ensures c.requires.le_d (sym c.find.ensures ∙ c.in-Some.is) in
    omega (arith, g, c.replace-rows.ensures.count)

pub returns-clause-value : goal.returns-clause-value
returns-clause-value c =
    ap not (sym (slot-goes c.requires.stored c.rows_of-n.ensures c.requires.le_d (sym c.find.ensures ∙ c.in-Some.is)).new)

pub returns-clause-cell_after : goal.returns-clause-cell_after
returns-clause-cell_after c =
    entered c.args.cell.now c.args.interval _ _ c.requires.stored c.rows_of-n.ensures
    (slot-goes c.requires.stored c.rows_of-n.ensures c.requires.le_d (sym c.find.ensures ∙ c.in-Some.is)) _ _ _
    c.interval_word.ensures c.replace-rows.ensures.rows_after (c.count_word.ensures ∙ ap count_word c.replace-rows.ensures.count)
