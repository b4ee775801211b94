-- `join_cell` meets its contract. The loop's invariant: the contacts of the rows passed are added.
use Rattle.rules.specs.Layout.{cell_of}
use Rattle.logs.specs.Ordered.{cell_contacts}
use Rattle.logs.proofs.Passes.{contacts_left}
use Rattle.adding_lists.proofs.Adds.{AddedSoFar}
use Rattle.joining.proofs.join_cell.Given as goal

abbrev pub invariant-loop-w : goal.invariant-loop-w
invariant-loop-w l = AddedSoFar (cell_contacts l.carry l.u l.v (cell_of l.cell)) (contacts_left l.carry l.u l.v l.w-items l.w-index) l.initial.first l.first l.new
