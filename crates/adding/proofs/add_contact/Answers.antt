-- `adding::add_contact` meets its contract: the numbers are read off the table, and the laws of `Added` say what the loops leave.
use mathlib.Core.Path.{◌≡◌, ap}
use mathlib.Core.List.{List}
use Prim.Native.Nat.{ℕ, ◌+◌}
use native.Mathlib.Omega.{arith}
use Rattle.journeys.specs.declared.Contact.{Contact}
use Rattle.rules.specs.Layout.{animals, ticks, carry}
use Rattle.cells.proofs.Lent.{stored-in_use}
use Rattle.tables.specs.declared.Opening.{Opening}
use Rattle.adding.proofs.Added.{added-known, added-new, accepted, Read, read-cells, read_below, read_known, read_count, read-leaves}
use Rattle.adding.proofs.add_contact.Goals as goal

-- The numbers as they were read.
read : {T B : List ℕ} (k : Contact) (o : Opening) → B ≡ T → (o.animals ≡ animals B) × (o.ticks ≡ ticks B) × (o.carry ≡ carry B)
    → Read T k B o.animals (o.ticks + 1) (k.tick + o.carry)
read k o t e =
    record {
      table_is = t;
      animals-is = e.0;
      size_is = ap (λ m. m + 1) e.1;
      arrival-is = ap (λ m. k.tick + m) e.2;
    }

pub of_valid-before-requires : goal.of_valid-before-requires
of_valid-before-requires c = (accepted _ c.args.contact c.requires).valid

pub overflow_add-arrival : goal.overflow_add-arrival
overflow_add-arrival c =
    let f = accepted _ c.args.contact c.requires in
    omega (arith, c.opening-o.ensures.2, ap carry c.of_valid-before.ensures)

pub departures-d-requires : goal.departures-d-requires
departures-d-requires c = rw c.of_valid-before.ensures (accepted _ c.args.contact c.requires).from_below

pub arrivals-e-requires : goal.arrivals-e-requires
arrivals-e-requires c = rw c.of_valid-before.ensures (accepted _ c.args.contact c.requires).to_below

pub cell-cell-requires : goal.cell-cell-requires
cell-cell-requires c = let f = accepted _ c.args.contact c.requires in rw c.of_valid-before.ensures (f.from_below, f.to_below)

pub stands-known-requires : goal.stands-known-requires
stands-known-requires c = stored-in_use c.cell-cell.ensures.stored

pub slice_bounds-enter_all_cells-count : goal.slice_bounds-enter_all_cells-count
slice_bounds-enter_all_cells-count c = (accepted _ c.args.contact c.requires).long

pub slice_bounds-enter_all_cells-start : goal.slice_bounds-enter_all_cells-start
slice_bounds-enter_all_cells-start c = let f = accepted _ c.args.contact c.requires in omega arith

pub enter_all_cells-changed-requires : goal.enter_all_cells-changed-requires
enter_all_cells-changed-requires c =
    let r = read c.args.contact c.opening-o.result c.of_valid-before.ensures c.opening-o.ensures in
    record {
      grid = read-cells _ _ c.requires r;
      below = read_below _ _ c.requires r c.departures-d.result c.arrivals-e.result c.departures-d.ensures c.arrivals-e.ensures;
    }

pub returns-then-known : goal.returns-then-known
returns-then-known c =
    let T = c.args.table.now in
    let k = c.args.contact in
    let r = read k c.opening-o.result c.of_valid-before.ensures c.opening-o.ensures in
    let d = c.departures-d in
    let e = c.arrivals-e in
    let f = c.enter_all_cells-changed in
    record {
      value =
          added-known T k c.requires (read_known T k c.requires r _ c.cell-cell.ensures.words c.stands-known.ensures) c.if-known.true
          (read_count T k c.requires r d.result e.result d.ensures e.ensures f.ensures.value);
      table_after = read-leaves T k c.requires r d.result e.result d.ensures e.ensures f.new.body f.ensures.body_after;
    }

pub returns-else-known : goal.returns-else-known
returns-else-known c =
    let T = c.args.table.now in
    let k = c.args.contact in
    let r = read k c.opening-o.result c.of_valid-before.ensures c.opening-o.ensures in
    let d = c.departures-d in
    let e = c.arrivals-e in
    let f = c.enter_all_cells-changed in
    record {
      value =
          added-new T k c.requires (read_known T k c.requires r _ c.cell-cell.ensures.words c.stands-known.ensures) c.if-known.false
          (read_count T k c.requires r d.result e.result d.ensures e.ensures f.ensures.value);
      table_after = read-leaves T k c.requires r d.result e.result d.ensures e.ensures f.new.body f.ensures.body_after;
    }
