-- `column::append_contact` meets its contract. The loop's invariant: the contact is added for the animals passed.
use Prim.Native.Nat.{◌+◌}
use mathlib.Core.Path.{refl, subst}
use native.Mathlib.Omega.{arith}
use Rattle.building.specs.Stage.{AddsForAnimals}
use Rattle.building.proofs.AnimalByAnimal.{adds_none, adds_then, partly_added_on}
use Rattle.building.proofs.column.append_contact.Goals as goal

pub loop-x-init : goal.loop-x-init
loop-x-init c = (omega arith, adds_none _ _ _ c.args.contact 0 _, refl)

pub append_for-requires : goal.append_for-requires
append_for-requires c =
    record {
      partly_added = partly_added_on _ _ _ c.args.contact 0 c.loop-x.x _ _ c.requires c.loop-x.invariant.1;
      x_lt_n = omega arith;
    }

pub loop-x-preserved : goal.loop-x-preserved
loop-x-preserved c = (
  omega arith,
  adds_then _ _ _ c.args.contact 0 c.loop-x.x (c.loop-x.x + 1) _ _ _ c.loop-x.invariant.1 c.append_for.ensures,
  omega arith,
)

pub shape_of-body : goal.shape_of-body
shape_of-body c = c.loop-x.invariant.2

pub returns : goal.returns
returns c =
    let a = c.args in
    subst (λ i. AddsForAnimals a.n a.size a.carry a.contact 0 i a.body.now c.loop-x.body) (omega (arith, c.loop-x.invariant.0)) c.loop-x.invariant.1
