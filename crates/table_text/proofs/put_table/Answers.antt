-- The first line goes first, and the lines of the cells behind it.
use Rattle.std.proofs.Common.{refl, arith}
use Rattle.table_text.proofs.Writing.{inside, fits_whole, first, fits_last, last, end}
use Rattle.table_text.proofs.Texts.{table-text}
use Rattle.table_text.proofs.put_table.Goals as goal

pub put_first_line-at-requires : goal.put_first_line-at-requires
put_first_line-at-requires c =
    let t = table-text c.args.table.now c.opening-opening.ensures _ c.requires.held_value in
    fits_whole _ c.args.out.now _ _ t c.requires.table_in_bounds

pub slice_bounds-put_cells-count : goal.slice_bounds-put_cells-count
slice_bounds-put_cells-count c =
    let t = table-text c.args.table.now c.opening-opening.ensures _ c.requires.held_value in
    let w1 = first _ _ _ _ t c.put_first_line-at.ensures.value c.put_first_line-at.ensures.out_after c.requires.table_in_bounds in
    omega (arith, inside w1)

pub slice_bounds-put_cells-start : goal.slice_bounds-put_cells-start
slice_bounds-put_cells-start c =
    let t = table-text c.args.table.now c.opening-opening.ensures _ c.requires.held_value in
    let w1 = first _ _ _ _ t c.put_first_line-at.ensures.value c.put_first_line-at.ensures.out_after c.requires.table_in_bounds in
    omega (arith, inside w1)

pub put_cells-requires : goal.put_cells-requires
put_cells-requires c =
    let t = table-text c.args.table.now c.opening-opening.ensures _ c.requires.held_value in
    let w1 = first _ _ _ _ t c.put_first_line-at.ensures.value c.put_first_line-at.ensures.out_after c.requires.table_in_bounds in
    fits_last w1 _ refl

pub overflow_add-result : goal.overflow_add-result
overflow_add-result c =
    let t = table-text c.args.table.now c.opening-opening.ensures _ c.requires.held_value in
    let w1 = first _ _ _ _ t c.put_first_line-at.ensures.value c.put_first_line-at.ensures.out_after c.requires.table_in_bounds in
    let w2 = last w1 _ _ _ refl c.put_cells.ensures.value c.put_cells.ensures.out_after in
    omega (arith, inside w2)

pub returns-clause-value : goal.returns-clause-value
returns-clause-value c =
    let t = table-text c.args.table.now c.opening-opening.ensures _ c.requires.held_value in
    let w1 = first _ _ _ _ t c.put_first_line-at.ensures.value c.put_first_line-at.ensures.out_after c.requires.table_in_bounds in
    let w2 = last w1 _ _ _ refl c.put_cells.ensures.value c.put_cells.ensures.out_after in
    (end w2 refl).0

pub returns-clause-out_after : goal.returns-clause-out_after
returns-clause-out_after c =
    let t = table-text c.args.table.now c.opening-opening.ensures _ c.requires.held_value in
    let w1 = first _ _ _ _ t c.put_first_line-at.ensures.value c.put_first_line-at.ensures.out_after c.requires.table_in_bounds in
    let w2 = last w1 _ _ _ refl c.put_cells.ensures.value c.put_cells.ensures.out_after in
    (end w2 refl).1
