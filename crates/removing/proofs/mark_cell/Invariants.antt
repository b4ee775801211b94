-- `mark_cell` meets its contract. The loop's invariant: the contacts of the rows passed are marked, but for the one left out.
use Rattle.journeys.specs.Journey.{contact}
use Rattle.rules.specs.Layout.{cell_of}
use Rattle.logs.specs.Ordered.{cell_contacts}
use Rattle.logs.proofs.Passes.{contacts_left}
use Rattle.removing.proofs.MarkedSets.{MarkedSoFar}
use Rattle.removing.proofs.mark_cell.Given as goal

abbrev pub invariant-loop-w : goal.invariant-loop-w
invariant-loop-w l =
    MarkedSoFar l.opening (contact l.u l.v l.except) (cell_contacts l.opening.carry l.u l.v (cell_of l.cell)) (contacts_left l.opening.carry l.u l.v l.w-items l.w-index) l.initial.heads l.initial.body l.heads l.body
