-- `steps::enter_cell` meets its contract: each way through it is one turn.
use Rattle.adding.proofs.Turns.{idle_turn, enter-turn}
use Rattle.adding.proofs.steps.enter_cell.Goals as goal

pub returns-then-x-y : goal.returns-then-x-y
returns-then-x-y c =
    let a = c.args in
    let t = idle_turn a.x a.y a.d a.a a.cell.now c.requires.stored c.then-x-y.either in
    record { value = t.value; cell_after = t.cell_after }

pub returns : goal.returns
returns c =
    let a = c.args in
    let f = c.enters in
    let t = enter-turn a.x a.y a.d a.a a.cell.now c.if-x-y.false c.requires.le_d.0 c.if-a-eq0.false f.result f.new.cell f.ensures.value f.ensures.cell_after in
    record { value = t.value; cell_after = t.cell_after }
