-- The text of the rows that are left is left to write.
use Rattle.rules.specs.Layout.{cell_of}
use Rattle.rules.specs.Sheet.{intervals_text}
use Rattle.table_text.proofs.Writing.{Writing}
use Rattle.table_text.proofs.Texts.{rows_left}
use Rattle.table_text.proofs.cell.put_intervals.Given as goal

abbrev pub invariant-loop-w : goal.invariant-loop-w
invariant-loop-w l = Writing (intervals_text (cell_of l.cell)) l.initial.out l.out l.at (rows_left l.w-items l.w-index)
