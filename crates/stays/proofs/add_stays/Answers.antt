-- `add_stays` meets its contract. The loop's invariant: the contacts of the ticks passed are added. The measure is how many ticks are left.
use Rattle.std.specs.Prelude.{None}
use Prim.Native.Nat.{ℕ, ◌≤◌}
use mathlib.Core.Path.{◌≡◌, sym, subst}
use mathlib.Core.List.{List}
use native.Mathlib.Omega.{arith}
use lib.ListN.{length}
use Rattle.rules.specs.Stays.{stays_refusal}
use Rattle.rules.proofs.Sound.{opens-length, table-sizes}
use Rattle.adding_lists.specs.Contacts.{Addable}
use Rattle.adding_lists.proofs.Adds.{added-as, below-start, below-addable, below-few, below-turn, below-kept, below_end}
use Rattle.stays.proofs.Meetings.{tick-meetings, table-valid, contacts-addable, contacts-added, stays_within}
use Rattle.stays.proofs.add_stays.Goals as goal

-- The table has a first word.
long : (T W : List ℕ) → stays_refusal T W ≡ None → 1 ≤ length T
long T W h = omega (arith, opens-length T (table-valid T W h).opens)

pub bounds-table-0 : goal.bounds-table-0
bounds-table-0 c = omega (arith, long _ _ c.requires)

pub bounds-table-0-2 : goal.bounds-table-0-2
bounds-table-0-2 c = omega (arith, long _ _ c.requires)

pub loop-i-init : goal.loop-i-init
loop-i-init c = below-start _ _ _

pub pens_at-pens-requires : goal.pens_at-pens-requires
pens_at-pens-requires c = stays_within _ _ c.requires

pub add_meetings-new-requires : goal.add_meetings-new-requires
add_meetings-new-requires c =
    let e = tick-meetings _ _ _ _ c.animals_of-n.ensures c.pens_at-pens.ensures in
    record {
      n_le_max_animals = omega (arith, c.animals_of-n.ensures, (table-sizes c.args.table.now).n_high);
      addable = subst (Addable _) (sym e) (below-addable c.loop-i.invariant c.loop-i-test.true (contacts-addable _ _ c.requires c.ticks_of-ticks.ensures));
    }

pub overflow_add-new : goal.overflow_add-new
overflow_add-new c =
    let f = c.add_meetings-new.ensures in
    let r = added-as _ (tick-meetings _ _ _ _ c.animals_of-n.ensures c.pens_at-pens.ensures) (f.value, f.table_after) in
    let h = below-few c.loop-i.invariant c.loop-i-test.true r.0 (contacts-addable _ _ c.requires c.ticks_of-ticks.ensures) in
    omega arith

pub loop-i-preserved : goal.loop-i-preserved
loop-i-preserved c =
    let f = c.add_meetings-new.ensures in
    let r = added-as _ (tick-meetings _ _ _ _ c.animals_of-n.ensures c.pens_at-pens.ensures) (f.value, f.table_after) in
    below-turn c.loop-i.invariant c.loop-i-test.true r.0 r.1

pub shape_of-table : goal.shape_of-table
shape_of-table c = below-kept c.loop-i.invariant (contacts-addable _ _ c.requires c.ticks_of-ticks.ensures)

pub returns : goal.returns
returns c =
    let r = contacts-added _ _ c.requires c.ticks_of-ticks.ensures (below_end c.loop-i.invariant c.loop-i-test.false) in
    record { value = r.0; table_after = r.1 }
