-- `column::append_contact` meets its contract. The loop's invariant: the contact is added for the animals passed.
use Prim.Native.Nat.{◌-◌, ◌≤◌}
use mathlib.Core.Path.{◌≡◌}
use lib.ListN.{length}
use Rattle.building.specs.Stage.{AddsForAnimals}
use Rattle.building.proofs.column.append_contact.Given as goal

abbrev pub invariant-loop-x : goal.invariant-loop-x
invariant-loop-x l = (l.x ≤ l.n) × AddsForAnimals l.n l.size l.carry l.contact 0 l.x l.initial.body l.body × (length l.body ≡ length l.initial.body)

abbrev pub decreases-loop-x : goal.decreases-loop-x
decreases-loop-x l = l.n - l.x
