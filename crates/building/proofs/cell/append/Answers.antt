-- `cell::append` meets its contract: a row more has room, since the departures are different ticks from 1 on, all below d.
use Prim.Native.Nat.{◌+◌}
use lib.ListN.{length-set}
use native.Mathlib.Omega.{arith}
use Rattle.building.proofs.RowsInUse.{counted}
use Rattle.rules.specs.Layout.{cell_of}
use Rattle.building.proofs.Appending.{Behind, put-kept, put-over, put-more, behind-none, behind-last}
use Rattle.building.proofs.cell.append.Goals as goal
use Rattle.building.proofs.cell.append.Goals.{then-last-gt0+else-interval-departure_of+else-interval-arrival_of, else-last-gt0}

pub interval_word-w-requires : goal.interval_word-w-requires
interval_word-w-requires c = omega (arith, c.requires.in_time, c.requires.arrives, c.requires.in_use.short)

pub offset_bounds-cell-last : goal.offset_bounds-cell-last
offset_bounds-cell-last c = let p = counted c.requires.in_use c.rows_of-last.ensures in omega arith

pub bounds-cell-last : goal.bounds-cell-last
bounds-cell-last c = let p = counted c.requires.in_use c.rows_of-last.ensures in omega arith

pub returns-then-interval-departure_of : goal.returns-then-interval-departure_of
returns-then-interval-departure_of c =
    put-kept (counted c.requires.in_use c.rows_of-last.ensures) c.args.interval (omega arith) (omega (arith, c.departure_of.ensures))

pub offset_bounds-cell-last-then-last-gt0 : goal.offset_bounds-cell-last-then-last-gt0
offset_bounds-cell-last-then-last-gt0 c = let p = counted c.requires.in_use c.rows_of-last.ensures in omega arith

pub bounds-cell-last-then-last-gt0 : goal.bounds-cell-last-then-last-gt0
bounds-cell-last-then-last-gt0 c = let p = counted c.requires.in_use c.rows_of-last.ensures in omega arith

pub offset_bounds-cell-last-then-interval-arrival_of : goal.offset_bounds-cell-last-then-interval-arrival_of
offset_bounds-cell-last-then-interval-arrival_of c = let p = counted c.requires.in_use c.rows_of-last.ensures in omega arith

pub bounds-cell-last-then-interval-arrival_of : goal.bounds-cell-last-then-interval-arrival_of
bounds-cell-last-then-interval-arrival_of c = let p = counted c.requires.in_use c.rows_of-last.ensures in omega arith

pub returns-then-interval-arrival_of : goal.returns-then-interval-arrival_of
returns-then-interval-arrival_of c =
    put-over
    (counted c.requires.in_use c.rows_of-last.ensures) c.args.interval (omega arith) (omega (arith, c.departure_of.ensures))
    (omega (arith, c.arrival_of.ensures)) _ c.interval_word-w.ensures

pub overflow_add-end : goal.overflow_add-end
overflow_add-end c = let p = counted c.requires.in_use c.rows_of-last.ensures in omega arith

pub offset_bounds-cell-end : goal.offset_bounds-cell-end
offset_bounds-cell-end c = let p = counted c.requires.in_use c.rows_of-last.ensures in omega arith

pub bounds-cell-end : goal.bounds-cell-end
bounds-cell-end c =
    let p = counted c.requires.in_use c.rows_of-last.ensures in
    let i = c.args.interval in
    let b : Behind i (cell_of c.args.cell.now) =
    elim c.if-last-gt0.branch [
      | then-last-gt0+else-interval-departure_of+else-interval-arrival_of w ↦
          behind-last p i w.if-last-gt0.true (omega (arith, w.departure_of.ensures, w.if-interval-departure_of.false)) (omega (arith, w.arrival_of.ensures, w.if-interval-arrival_of.false))
      | else-last-gt0 w ↦ behind-none p i (omega arith) c.requires.departs
    ] in
    omega (arith, b.few, c.requires.in_time)

pub overflow_cast-end : goal.overflow_cast-end
overflow_cast-end c = let p = counted c.requires.in_use c.rows_of-last.ensures in omega arith

pub count_word-requires : goal.count_word-requires
count_word-requires c = let p = counted c.requires.in_use c.rows_of-last.ensures in omega arith

pub bounds-cell-0-2 : goal.bounds-cell-0-2
bounds-cell-0-2 c =
    let p = counted c.requires.in_use c.rows_of-last.ensures in
    omega (arith, length-set c.args.cell.now (c.rows_of-last.result + 1) c.interval_word-w.result)

pub returns : goal.returns
returns c =
    let p = counted c.requires.in_use c.rows_of-last.ensures in
    let i = c.args.interval in
    let b : Behind i (cell_of c.args.cell.now) =
    elim c.if-last-gt0.branch [
      | then-last-gt0+else-interval-departure_of+else-interval-arrival_of w ↦
          behind-last p i w.if-last-gt0.true (omega (arith, w.departure_of.ensures, w.if-interval-departure_of.false)) (omega (arith, w.arrival_of.ensures, w.if-interval-arrival_of.false))
      | else-last-gt0 w ↦ behind-none p i (omega arith) c.requires.departs
    ] in
    put-more p i b c.requires.in_time _ _ c.interval_word-w.ensures c.count_word.ensures
