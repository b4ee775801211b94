-- `join_row` meets its contract: a row that is no contact leaves the table, any other is added.
use mathlib.Core.Path.{sym, subst}
use native.Mathlib.Omega.{arith}
use Rattle.logs.proofs.Passes.{no-contact, one-contact}
use Rattle.adding_lists.specs.Contacts.{Addable}
use Rattle.adding_lists.proofs.Adds.{none-added, added-as}
use Rattle.joining.proofs.join_row.Goals as goal

pub returns-then-arrival_of-t : goal.returns-then-arrival_of-t
returns-then-arrival_of-t c =
    let a = c.args in
    let e = no-contact a.carry a.u a.v a.w _ _ c.departure_of-t.ensures c.arrival_of.ensures (λ e. omega (arith, c.if-arrival_of-t.true)) in
    let r = none-added a.first.now _ e in
    record { value = r.0; first_after = r.1 }

pub add_counting-requires : goal.add_counting-requires
add_counting-requires c =
    subst (Addable _) (one-contact _ _ _ _ _ _ c.departure_of-t.ensures c.arrival_of.ensures (omega (arith, c.if-arrival_of-t.false))) c.requires.addable

pub returns : goal.returns
returns c =
    let e = one-contact _ _ _ _ _ _ c.departure_of-t.ensures c.arrival_of.ensures (omega (arith, c.if-arrival_of-t.false)) in
    let f = c.add_counting.ensures in
    let r = added-as _ (sym e) (f.value, f.table_after) in
    record { value = r.0; first_after = r.1 }
