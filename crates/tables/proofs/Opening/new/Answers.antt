-- `Opening::new` meets its contract: each of its returns is a case of the constructor.
use mathlib.Core.Path.{sym}
use Rattle.tables.proofs.Openings.{animals-beyond, ticks-beyond, carry-beyond, all-within}
use Rattle.tables.proofs.Opening.new.Goals as goal

pub returns-then-not-is_within : goal.returns-then-not-is_within
returns-then-not-is_within c = animals-beyond _ _ _ (sym c.if-not-is_within.ensures)

pub returns-then-not-is_within-2 : goal.returns-then-not-is_within-2
returns-then-not-is_within-2 c = ticks-beyond _ _ _ (sym c.if-not-is_within.ensures) (sym c.if-not-is_within-2.ensures)

pub returns-then-not-is_within-3 : goal.returns-then-not-is_within-3
returns-then-not-is_within-3 c = carry-beyond _ _ _ (sym c.if-not-is_within.ensures) (sym c.if-not-is_within-2.ensures) (sym c.if-not-is_within-3.ensures)

pub returns : goal.returns
returns c = all-within _ _ _ (sym c.if-not-is_within.ensures) (sym c.if-not-is_within-2.ensures) (sym c.if-not-is_within-3.ensures)
