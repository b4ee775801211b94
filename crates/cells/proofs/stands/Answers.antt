-- `cells::stands` meets its contract: the only row that can be the interval is the first that departs at or after it.
use mathlib.Core.Path.{sym, ◌∙◌}
use Rattle.cells.proofs.Rows.{stands-found}
use Rattle.cells.proofs.stands.Goals as goal

pub returns-in-Some : goal.returns-in-Some
returns-in-Some c = c.eq.ensures ∙ sym (stands-found c.args.interval _ c.requires.rising (sym c.in-Some.is ∙ c.first_departing.ensures))

pub returns-in-None : goal.returns-in-None
returns-in-None c = sym (stands-found c.args.interval _ c.requires.rising (sym c.in-None.is ∙ c.first_departing.ensures))
