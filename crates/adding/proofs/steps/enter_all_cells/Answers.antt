-- `steps::enter_all_cells` meets its contract: the cells from each animal are turned, one animal after the other.
use mathlib.Core.Path.{◌≡◌, ap, ◌∙◌}
use native.Mathlib.Omega.{arith}
use Rattle.rules.specs.Folds.{sum_below}
use Rattle.grid.specs.Cells.{CellsFrom}
use Rattle.grid.proofs.Places.{grid-long, grid-from}
use Rattle.grid.proofs.Walk.{walk_first, walk_same, walk_lent, walk_next, walk_end}
use Rattle.cells.specs.Stored.{Stored}
use Rattle.adding.specs.Steps.{entered_from, changes_from}
use Rattle.adding.proofs.Turns.{sum-start, sum-turn, sum-small}
use Rattle.adding.proofs.steps.enter_all_cells.Goals as goal

pub loop-x-init : goal.loop-x-init
loop-x-init c = (walk_first _ _ _ _, sum-start _)

pub enter_cells_from-changed-requires : goal.enter_cells_from-changed-requires
enter_cells_from-changed-requires c =
    let a = c.args in
    let l = c.loop-x in
    record {
      cells_from = walk_lent l.invariant.0 (CellsFrom Stored a.n a.size) (grid-from c.requires.grid l.x (omega arith));
      d_lt_size = (c.requires.below.0 l.x (omega arith), c.requires.below.1);
    }

pub overflow_add-changed : goal.overflow_add-changed
overflow_add-changed c =
    let a = c.args in
    let l = c.loop-x in
    let f = c.enter_cells_from-changed in
    omega
    (arith, sum-small a.n a.size a.d.now a.e.now a.body.now l.x l.changed f.result _ c.requires.grid.few l.invariant.0.through.below l.invariant.1 f.ensures.value)

pub loop-x-preserved : goal.loop-x-preserved
unfolding entered_from
loop-x-preserved c =
    let a = c.args in
    let w = c.loop-x.invariant.0 in
    let f = c.enter_cells_from-changed in (
      walk_next w (omega (arith, grid-long c.requires.grid)) (omega arith) f.new.cells f.auto.cells f.ensures.cells_after,
      sum-turn a.n a.size a.d.now a.e.now a.body.now c.loop-x.x _ _ (walk_same w) c.loop-x.invariant.1 f.ensures.value,
    )

pub returns : goal.returns
returns c =
    let a = c.args in
    let w = c.loop-x.invariant.0 in
    let e : c.loop-x.x ≡ a.n = omega (arith, w.through.below) in
    record {
      value = c.loop-x.invariant.1 ∙ ap (sum_below (changes_from a.n a.size a.d.now a.e.now a.body.now)) e;
      body_after = walk_end w (omega arith);
    }
