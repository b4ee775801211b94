-- `mark_cells` meets its contract: chunk k is cell k of the table, and its contacts are marked but for the one left out.
use mathlib.Core.Path.{◌∙◌, refl}
use native.Mathlib.Omega.{arith}
use Rattle.std.proofs.Common.{rules}
use Rattle.grid.proofs.Reading.{chunks-start, chunk-given, chunks-turn, chunks-end}
use Rattle.grid.proofs.CellNumbers.{cell-given}
use Rattle.logs.proofs.Numbered.{cells-all, cells-next, cells-none}
use Rattle.logs.proofs.WholeLog.{read_opening, read-contacts, read-cells}
use Rattle.removing.proofs.MarkedSets.{marked-kept, so_far_start, so_far_next, so_far_turn, so_far_end}
use Rattle.removing.proofs.CellByCell.{cell-marked, table-can_mark, table-marked_without}
use Rattle.removing.proofs.mark_cells.Goals as goal

pub loop-k-init : goal.loop-k-init
loop-k-init c =
    let T = c.args.table.now in
    let r = read_opening T c.opening-opening.ensures refl in
    let p = c.cells.ensures.valid in (
      chunks-start (omega arith) (read-cells T p r).long (search rules) (search rules) (search rules),
      so_far_start (cells-all _ _ _ _ (search rules) ∙ read-contacts T p r),
    )

pub mark_cell-requires : goal.mark_cell-requires
mark_cell-requires c =
    let T = c.args.table.now in
    let p = c.cells.ensures.valid in
    let o = c.opening-opening.ensures in
    let e = c.in-Some.ensures.steps in
    let g = cell-given (read-cells T p (read_opening T o refl)) (chunk-given c.loop-k.invariant.0 _ _ _ e.0 e.1) in
    record { stored = g.property; can_mark_all = so_far_next c.loop-k.invariant.1 _ _ (cells-next _ _ _ _ g e.1 refl) (table-can_mark T p o c.requires) }

pub loop-k-preserved : goal.loop-k-preserved
loop-k-preserved c =
    let T = c.args.table.now in
    let r = read_opening T c.opening-opening.ensures refl in
    let e = c.in-Some.ensures.steps in
    let g = cell-given (read-cells T c.cells.ensures.valid r) (chunk-given c.loop-k.invariant.0 _ _ _ e.0 e.1) in (
      chunks-turn c.loop-k.invariant.0 _ _ _ e.0 e.2,
      so_far_turn c.loop-k.invariant.1 _ _ (cells-next _ _ _ _ g e.1 e.2)
          (cell-marked _ _ _ _ _ g.property (omega (arith, c.tick_left_out-except.ensures)) c.mark_cell.ensures),
    )

pub shape_of-body : goal.shape_of-body
shape_of-body c =
    marked-kept (table-can_mark c.args.table.now c.cells.ensures.valid c.opening-opening.ensures c.requires) c.loop-k.invariant.1.marks

pub returns : goal.returns
returns c =
    let w = c.loop-k.invariant in
    let p = c.cells.ensures.valid in
    let e = cells-none _ _ _ _ (chunks-end w.0 c.in-None.ensures.steps.0.1.0) in
    record { marked = table-marked_without c.args.table.now p c.opening-opening.ensures c.requires (so_far_end w.1 e); valid = p }
