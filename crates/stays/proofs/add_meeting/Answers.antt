-- `add_meeting` meets its contract: an animal with itself and two that share no pen leave the table, any others are added.
use mathlib.Core.Path.{sym, subst}
use native.Mathlib.Omega.{arith}
use Rattle.adding_lists.specs.Contacts.{Addable}
use Rattle.adding_lists.proofs.Adds.{none-added, added-as}
use Rattle.stays.proofs.Meetings.{apart_none, shared-one}
use Rattle.stays.proofs.add_meeting.Goals as goal

pub returns-then-shared-eq0 : goal.returns-then-shared-eq0
returns-then-shared-eq0 c =
    let a = c.args in
    let r = none-added a.table.now _ (apart_none a.pens.now a.u a.v a.t (λ e. omega arith) (omega (arith, c.if-shared-eq0.true))) in
    record { value = r.0; table_after = r.1 }

pub add_counting-requires : goal.add_counting-requires
add_counting-requires c =
    subst (Addable _) (shared-one _ _ _ _ (λ e. omega arith) (λ e. omega (arith, c.if-shared-eq0.false))) c.requires.addable

pub returns : goal.returns
returns c =
    let a = c.args in
    let e = shared-one a.pens.now a.u a.v a.t (λ e. omega arith) (λ e. omega (arith, c.if-shared-eq0.false)) in
    let f = c.add_counting.ensures in
    let r = added-as _ (sym e) (f.value, f.table_after) in
    record { value = r.0; table_after = r.1 }
