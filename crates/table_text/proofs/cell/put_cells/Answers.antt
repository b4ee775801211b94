-- Chunk k is cell k of the table, and its line goes behind the part written.
use Rattle.std.proofs.Common.{rules, refl, arith}
use Rattle.grid.proofs.Reading.{chunks-start, chunk-given, chunks-turn, chunks-end}
use Rattle.grid.proofs.CellNumbers.{cell-given}
use Rattle.table_text.proofs.Writing.{inside, start, fits, piece, end}
use Rattle.table_text.proofs.Texts.{cells-stored, cells-all, cells-next, cells-none}
use Rattle.table_text.proofs.cell.put_cells.Goals as goal

pub loop-k-init : goal.loop-k-init
loop-k-init c =
    let T = c.args.table.now in
    let o = c.opening-opening.ensures in
    let s = cells-stored T o c.cells.ensures.valid in (
      chunks-start (omega arith) s.long (search rules) (search rules) (search rules),
      start _ _ _ (cells-all T o (search rules)) c.requires,
    )

pub put_cell-end-requires-clause-stored : goal.put_cell-end-requires-clause-stored
put_cell-end-requires-clause-stored c =
    let e = c.in-Some.ensures.steps in
    let s = cells-stored c.args.table.now c.opening-opening.ensures c.cells.ensures.valid in
    let g = cell-given s (chunk-given c.loop-k.invariant.0 _ _ _ e.0 e.1) in
    g.property

pub put_cell-end-requires-clause-cell_in_bounds : goal.put_cell-end-requires-clause-cell_in_bounds
put_cell-end-requires-clause-cell_in_bounds c =
    let e = c.in-Some.ensures.steps in
    let s = cells-stored c.args.table.now c.opening-opening.ensures c.cells.ensures.valid in
    let g = cell-given s (chunk-given c.loop-k.invariant.0 _ _ _ e.0 e.1) in
    fits c.loop-k.invariant.1 _ _ (cells-next _ _ _ g e.1 refl)

pub overflow_add-end : goal.overflow_add-end
overflow_add-end c =
    let e = c.in-Some.ensures.steps in
    let s = cells-stored c.args.table.now c.opening-opening.ensures c.cells.ensures.valid in
    let g = cell-given s (chunk-given c.loop-k.invariant.0 _ _ _ e.0 e.1) in
    let w = piece c.loop-k.invariant.1 _ _ _ _ (cells-next _ _ _ g e.1 e.2) c.put_cell-end.ensures.value c.put_cell-end.ensures.out_after in
    omega (arith, inside w)

pub loop-k-preserved : goal.loop-k-preserved
loop-k-preserved c =
    let e = c.in-Some.ensures.steps in
    let s = cells-stored c.args.table.now c.opening-opening.ensures c.cells.ensures.valid in
    let g = cell-given s (chunk-given c.loop-k.invariant.0 _ _ _ e.0 e.1) in (
      chunks-turn c.loop-k.invariant.0 _ _ _ e.0 e.2,
      piece c.loop-k.invariant.1 _ _ _ _ (cells-next _ _ _ g e.1 e.2) c.put_cell-end.ensures.value c.put_cell-end.ensures.out_after,
    )

pub returns-clause-value : goal.returns-clause-value
returns-clause-value c = let w = c.loop-k.invariant in (end w.1 (cells-none _ _ _ (chunks-end w.0 c.in-None.ensures.steps.0.1.0))).0

pub returns-clause-out_after : goal.returns-clause-out_after
returns-clause-out_after c = let w = c.loop-k.invariant in (end w.1 (cells-none _ _ _ (chunks-end w.0 c.in-None.ensures.steps.0.1.0))).1
