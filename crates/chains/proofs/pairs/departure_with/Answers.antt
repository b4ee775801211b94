-- `pairs::departure_with` meets its contract: only the last row that arrives by b can have arrival b.
use Rattle.rules.specs.Chains.{departure_with}
use Rattle.cells.proofs.Lent.{stored-in_use}
use Rattle.tables.proofs.Stored.{cell-read}
use Rattle.chains.proofs.Lending.{with_none, with_other, with_here, row_departs}
use Rattle.chains.proofs.pairs.departure_with.Goals as goal

pub last_arriving-requires : goal.last_arriving-requires
last_arriving-requires c = stored-in_use c.cell.ensures.stored

pub returns-in_err-departure-clause-departure_value : goal.returns-in_err-departure-clause-departure_value
returns-in_err-departure-clause-departure_value c =
    let a = c.args in
    rw c.from_residual.ensures (cell-read (departure_with a.a a.b) a.table.now a.u a.v _ c.cell.ensures.words (with_none a.a a.b c.cell.ensures.stored c.last_arriving.ensures c.in_err-departure.was))

pub returns-then-a-departure-clause-departure_value : goal.returns-then-a-departure-clause-departure_value
returns-then-a-departure-clause-departure_value c =
    let a = c.args in
    cell-read (departure_with a.a a.b) a.table.now a.u a.v _ c.cell.ensures.words
    (with_here a.a a.b c.cell.ensures.stored c.last_arriving.ensures c.in_ok-departure.was c.if-arrival-b.true c.if-a-departure.true)

pub returns-then-a-departure-clause-departure_bound : goal.returns-then-a-departure-clause-departure_bound
returns-then-a-departure-clause-departure_bound c = row_departs c.args.a c.args.b c.cell.ensures.stored c.last_arriving.ensures c.in_ok-departure.was

pub returns-else-arrival-b-clause-departure_value : goal.returns-else-arrival-b-clause-departure_value
returns-else-arrival-b-clause-departure_value c =
    let a = c.args in
    cell-read (departure_with a.a a.b) a.table.now a.u a.v _ c.cell.ensures.words
    (with_other a.a a.b c.cell.ensures.stored c.last_arriving.ensures c.in_ok-departure.was c.else-arrival-b.either)
