-- `join_held` meets its contract: chunk k is cell k of the second table, and its contacts are added.
use mathlib.Core.Path.{◌∙◌, refl}
use native.Mathlib.Omega.{arith}
use Rattle.std.proofs.Common.{rules}
use Rattle.rules.proofs.Joining.{Joins}
use Rattle.grid.proofs.Reading.{chunks-start, chunk-given, chunks-turn, chunks-end}
use Rattle.grid.proofs.CellNumbers.{cell-given}
use Rattle.tables.proofs.TableRead.{read-carry}
use Rattle.logs.proofs.Numbered.{cells-all, cells-next, cells-none}
use Rattle.logs.proofs.WholeLog.{read_opening, read-contacts, read-cells}
use Rattle.adding_lists.proofs.Adds.{added-kept, added-start, added-addable, added-few, added-turn, added-end}
use Rattle.joining.proofs.Adds.{cells-addable, cells-joined}
use Rattle.joining.proofs.join_held.Goals as goal

pub loop-k-init : goal.loop-k-init
loop-k-init c =
    let S = c.args.second.now in
    let r = read_opening S c.opening-opening.ensures refl in
    let p = c.cells.ensures.valid in (
      chunks-start (omega arith) (read-cells S p r).long (search rules) (search rules) (search rules),
      added-start _ _ c.args.first.now (cells-all _ _ _ _ (search rules) ∙ read-contacts S p r),
    )

pub join_cell-new-requires : goal.join_cell-new-requires
join_cell-new-requires c =
    let S = c.args.second.now in
    let j : Joins c.args.first.now S = record { first = c.requires.0; second = c.cells.ensures.valid; opening = c.requires.1 } in
    let r = read_opening S c.opening-opening.ensures refl in
    let e = c.in-Some.ensures.steps in
    let g = cell-given (read-cells S j.second r) (chunk-given c.loop-k.invariant.0 _ _ _ e.0 e.1) in
    record {
      carry_le_max_carry = (read-carry S r, g.property);
      addable = added-addable c.loop-k.invariant.1 _ _ (cells-next _ _ _ _ g e.1 e.2) (cells-addable _ _ j);
    }

pub overflow_add-new : goal.overflow_add-new
overflow_add-new c =
    let S = c.args.second.now in
    let j : Joins c.args.first.now S = record { first = c.requires.0; second = c.cells.ensures.valid; opening = c.requires.1 } in
    let r = read_opening S c.opening-opening.ensures refl in
    let e = c.in-Some.ensures.steps in
    let g = cell-given (read-cells S j.second r) (chunk-given c.loop-k.invariant.0 _ _ _ e.0 e.1) in
    let h = added-few c.loop-k.invariant.1 _ _ (cells-next _ _ _ _ g e.1 e.2) c.join_cell-new.ensures.value (cells-addable _ _ j) in
    omega arith

pub loop-k-preserved : goal.loop-k-preserved
loop-k-preserved c =
    let S = c.args.second.now in
    let r = read_opening S c.opening-opening.ensures refl in
    let e = c.in-Some.ensures.steps in
    let g = cell-given (read-cells S c.cells.ensures.valid r) (chunk-given c.loop-k.invariant.0 _ _ _ e.0 e.1) in (
      chunks-turn c.loop-k.invariant.0 _ _ _ e.0 e.2,
      added-turn c.loop-k.invariant.1 _ _ (cells-next _ _ _ _ g e.1 e.2) c.join_cell-new.ensures.value c.join_cell-new.ensures.first_after,
    )

pub shape_of-first : goal.shape_of-first
shape_of-first c =
    let j : Joins c.args.first.now c.args.second.now = record { first = c.requires.0; second = c.cells.ensures.valid; opening = c.requires.1 } in
    added-kept c.loop-k.invariant.1 (cells-addable _ _ j)

pub returns : goal.returns
returns c =
    let j : Joins c.args.first.now c.args.second.now = record { first = c.requires.0; second = c.cells.ensures.valid; opening = c.requires.1 } in
    let r = cells-joined _ _ j (added-end c.loop-k.invariant.1 (cells-none _ _ _ _ (chunks-end c.loop-k.invariant.0 c.in-None.ensures.steps.0.1.0))) in
    record { value = r.0; first_after = r.1 }
