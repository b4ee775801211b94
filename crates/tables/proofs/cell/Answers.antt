-- `cell` meets its contract: the opening word says where the cell lies after it.
use native.Mathlib.Omega.{arith}
use Prim.Native.Nat.{ℕ, ◌+◌}
use mathlib.Core.Path.{ap, ◌∙◌}
use Rattle.tables.proofs.Openings.{opened}
use Rattle.tables.proofs.Stored.{lent-cells, lent-cell}
use Rattle.tables.proofs.cell.Goals as goal

pub bounds-table-0 : goal.bounds-table-0
bounds-table-0 c = omega (arith, opened c.args.table.now c.requires.valid_table.opens)

pub slice_bounds-cell-count : goal.slice_bounds-cell-count
slice_bounds-cell-count c = omega (arith, opened c.args.table.now c.requires.valid_table.opens)

pub slice_bounds-cell-start : goal.slice_bounds-cell-start
slice_bounds-cell-start c = omega (arith, opened c.args.table.now c.requires.valid_table.opens)

pub cell-requires : goal.cell-requires
cell-requires c = let e = c.of_word-o.ensures in
    let g = lent-cells c.args.table.now c.requires.valid_table _ _ e.0 (ap (λ (i : ℕ). i + 1) e.1) in record { n_le_max_animals = (g.few, g.short, g.long); x_lt_n = (omega (arith, e.0, c.requires.u_bound), omega (arith, e.0, c.requires.u_bound)) }

pub returns : goal.returns
returns c = let e = c.of_word-o.ensures in
    c.cell.ensures ∙ lent-cell c.args.table.now c.requires.valid_table _ _ e.0 (ap (λ (i : ℕ). i + 1) e.1) c.args.u c.args.v
