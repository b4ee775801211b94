-- `well_formed` meets its contract: the opening word says how the words after it lie in cells.
use native.Mathlib.Omega.{arith}
use mathlib.Core.Path.{◌∙◌}
use lib.ListN.{get_or}
use Rattle.words.proofs.Packed.{animals_of-bound, ticks_of-bound, carry_of-bound}
use Rattle.tables.proofs.Openings.{opened}
use Rattle.tables.proofs.Cells.{cells-fill, cells-formed}
use Rattle.tables.proofs.well_formed.Goals as goal

pub bounds-table-0 : goal.bounds-table-0
bounds-table-0 c = omega (arith, opened c.args.table.now c.requires)

pub slice_bounds-all_cells_well_formed-count : goal.slice_bounds-all_cells_well_formed-count
slice_bounds-all_cells_well_formed-count c = omega (arith, opened c.args.table.now c.requires)

pub slice_bounds-all_cells_well_formed-start : goal.slice_bounds-all_cells_well_formed-start
slice_bounds-all_cells_well_formed-start c = omega (arith, opened c.args.table.now c.requires)

pub all_cells_well_formed-requires : goal.all_cells_well_formed-requires
all_cells_well_formed-requires c = let e = c.of_word-o.ensures in
    let w = get_or c.args.table.now 0 0 in
    let r = cells-fill c.args.table.now _ _ _ e.0 e.1 e.2 c.requires in
    record { few = omega (arith, animals_of-bound w, ticks_of-bound w, carry_of-bound w); body_len = r }

pub returns : goal.returns
returns c = let e = c.of_word-o.ensures in
    c.all_cells_well_formed.ensures ∙ cells-formed c.args.table.now _ _ _ e.0 e.1 e.2
