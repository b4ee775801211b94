-- `pens_at` meets its contract. The loop's invariant: the pens of the records passed are marked. The measure is how many are left.
use Prim.Native.Nat.{ℕ, ◌/◌, ◌<◌}
use mathlib.Core.Path.{◌≡◌, sym, subst}
use mathlib.Core.List.{List}
use native.Mathlib.Omega.{arith}
use lib.ListN.{length}
use Rattle.rules.specs.declared.Stay.{Stay}
use Rattle.rules.specs.Limits.{max_animals, max_ticks}
use Rattle.rules.specs.Stays.{stay_at}
use Rattle.rules.specs.StayRule.{IsStay, AreStays}
use Rattle.stays.specs.Meetings.{PensBy}
use Rattle.stays.proofs.Pens.{at_listed, pens_start, pens_turn}
use Rattle.stays.proofs.pens_at.Goals as goal

-- The record read is a stay.
is_read : {W : List ℕ} {i : ℕ} {s : Stay} → AreStays max_animals max_ticks W → i < length W / 4 → s ≡ stay_at W i → IsStay max_animals max_ticks s
is_read h l e = subst (IsStay max_animals max_ticks) (sym e) (h.each _ (at_listed _ _ l))

pub loop-i-init : goal.loop-i-init
loop-i-init c = (omega arith, pens_start _ _)

pub pen_bit-bit-requires : goal.pen_bit-bit-requires
pen_bit-bit-requires c = (is_read c.requires (omega arith) c.stay_at-stay.ensures).pen_within

pub offset_bounds-pens-at : goal.offset_bounds-pens-at
offset_bounds-pens-at c = omega (arith, (is_read c.requires (omega arith) c.stay_at-stay.ensures).animal_below)

pub bounds-pens-at : goal.bounds-pens-at
bounds-pens-at c = omega (arith, (is_read c.requires (omega arith) c.stay_at-stay.ensures).animal_below)

pub offset_bounds-pens-at-in-loop-i : goal.offset_bounds-pens-at-in-loop-i
offset_bounds-pens-at-in-loop-i c = omega (arith, (is_read c.requires (omega arith) c.stay_at-stay.ensures).animal_below)

pub bounds-pens-at-in-loop-i : goal.bounds-pens-at-in-loop-i
bounds-pens-at-in-loop-i c = omega (arith, (is_read c.requires (omega arith) c.stay_at-stay.ensures).animal_below)

pub loop-i-preserved : goal.loop-i-preserved
loop-i-preserved c =
    let placed = (is_read c.requires (omega arith) c.stay_at-stay.ensures).animal_below in
    (omega arith, pens_turn c.loop-i.invariant.1 c.stay_at-stay.ensures placed c.pen_bit-bit.ensures)

pub returns : goal.returns
returns c =
    let e : c.loop-i.i ≡ length c.args.stays.now / 4 = omega (arith, c.loop-i.invariant.0) in
    subst (λ (i : ℕ). PensBy c.args.stays.now c.args.t i c.loop-i.pens) e c.loop-i.invariant.1
