-- `cells::has_fitting` meets its contract: if any row fits, the first that departs in the window does.
use mathlib.Core.Path.{sym, ◌∙◌}
use Rattle.rules.specs.Windows.{widest}
use Rattle.cells.proofs.Rows.{inside_found}
use Rattle.cells.proofs.has_fitting.Goals as goal

pub returns-in-Some : goal.returns-in-Some
returns-in-Some c = c.fits.ensures ∙ sym (inside_found (widest c.args.carry c.args.first c.args.last) _ c.requires.rising (sym c.in-Some.is ∙ c.first_departing.ensures))

pub returns-in-None : goal.returns-in-None
returns-in-None c = sym (inside_found (widest c.args.carry c.args.first c.args.last) _ c.requires.rising (sym c.in-None.is ∙ c.first_departing.ensures))
