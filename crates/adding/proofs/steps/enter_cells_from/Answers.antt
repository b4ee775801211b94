-- `steps::enter_cells_from` meets its contract: the cells are turned one after the other, unless there is no departure.
use mathlib.Core.Path.{◌≡◌, ap, ◌∙◌}
use native.Mathlib.Omega.{arith}
use Rattle.rules.specs.Folds.{count_below}
use Rattle.grid.proofs.Walk.{walk_first, walk_same, walk_next, walk_end}
use Rattle.adding.specs.Steps.{entered_at, changes_at}
use Rattle.adding.proofs.Turns.{count-start, count_turn, count_small, idle_count, idle_words}
use Rattle.adding.proofs.steps.enter_cells_from.Goals as goal

pub returns-then-d-eq0 : goal.returns-then-d-eq0
returns-then-d-eq0 c =
    let a = c.args in
    record {
      value = idle_count a.n a.size a.x a.d a.e.now a.cells.now c.requires.cells_from c.if-d-eq0.true;
      cells_after = idle_words a.n a.size a.x a.d a.e.now a.cells.now c.requires.cells_from c.if-d-eq0.true;
    }

pub loop-y-init : goal.loop-y-init
loop-y-init c = (walk_first _ _ _ _, count-start _)

pub overflow_add-changed : goal.overflow_add-changed
overflow_add-changed c =
    let l = c.loop-y in
    omega (arith, count_small _ l.y l.changed c.from-changed.result c.enter_cell.result l.invariant.1 c.from-changed.ensures, c.requires.cells_from.few)

pub loop-y-preserved : goal.loop-y-preserved
unfolding entered_at
loop-y-preserved c =
    let a = c.args in
    let w = c.loop-y.invariant.0 in
    let f = c.enter_cell in (
      walk_next w (omega (arith, c.requires.cells_from.long)) (omega arith) f.new.cell f.auto.cell f.ensures.cell_after,
      count_turn a.size a.x a.d a.e.now a.cells.now c.loop-y.y _ _ (walk_same w) c.loop-y.invariant.1 f.ensures.value c.from-changed.ensures,
    )

pub returns : goal.returns
returns c =
    let a = c.args in
    let w = c.loop-y.invariant.0 in
    let e : c.loop-y.y ≡ a.n = omega (arith, w.through.below) in
    record {
      value = c.loop-y.invariant.1 ∙ ap (count_below (changes_at a.size a.x a.d a.e.now a.cells.now)) e;
      cells_after = walk_end w (omega arith);
    }
