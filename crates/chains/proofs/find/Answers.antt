-- `find` meets its contract: the interval kept is that of the first row which departs in the window.
use mathlib.Core.Path.{◌≡◌}
use mathlib.Core.List.{List}
use Prim.Native.Nat.{ℕ}
use Rattle.std.specs.Prelude.{Option}
use Rattle.rules.specs.Layout.{animals, ticks, cell_at, cell_of}
use Rattle.cells.specs.declared.Row.{Row}
use Rattle.cells.specs.Stored.{Stored}
use Rattle.cells.specs.Rows.{first_departing}
use Rattle.cells.proofs.Lent.{stored-in_use}
use Rattle.chains.proofs.Replies.{Kept, none-departs, none-fits, departs, departs-by}
use Rattle.chains.proofs.find.Goals as goal

-- The row found, from what the search for it says.
kept : {T : List ℕ} {u v first : ℕ} {xs : List ℕ} {f : Option Row} → Stored xs → xs ≡ cell_at (animals T) (ticks T) T u v → f ≡ first_departing (cell_of xs) first → Kept T u v first xs f
kept s l e = record { stored = s; lent = l; row_is = e }

pub first_departing-requires : goal.first_departing-requires
first_departing-requires c = stored-in_use c.cell.ensures.stored

pub returns-in_err-interval-clause-words_value : goal.returns-in_err-interval-clause-words_value
returns-in_err-interval-clause-words_value c =
    rw c.from_residual.ensures (none-departs (kept c.cell.ensures.stored c.cell.ensures.words c.first_departing.ensures) _ c.in_err-interval.was)

pub collect-requires : goal.collect-requires
collect-requires c =
    let d = departs-by {T = c.args.table.now} {u = c.args.u} {v = c.args.v} (kept c.cell.ensures.stored c.cell.ensures.words c.first_departing.ensures) c.args.last c.in_ok-interval.was in
    (c.requires.0, c.requires.1, d.0, d.1)

pub returns-then-fits-clause-words_value : goal.returns-then-fits-clause-words_value
returns-then-fits-clause-words_value c =
    departs (kept c.cell.ensures.stored c.cell.ensures.words c.first_departing.ensures) _ c.in_ok-interval.was c.carry-carry.ensures c.fits.ensures c.if-fits.true c.collect.ensures.words_value

pub returns-else-fits-clause-words_value : goal.returns-else-fits-clause-words_value
returns-else-fits-clause-words_value c =
    none-fits (kept c.cell.ensures.stored c.cell.ensures.words c.first_departing.ensures) _ c.in_ok-interval.was c.carry-carry.ensures c.fits.ensures c.if-fits.false
