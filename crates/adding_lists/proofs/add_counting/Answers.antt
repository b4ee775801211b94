-- `add_counting` meets its contract: the add is accepted, and new where the table did not hold the contact.
use mathlib.Core.Path.{sym, ◌∙◌}
use Rattle.adding_lists.proofs.Adds.{one-accepted, one-leaves, one_known, one-new}
use Rattle.adding_lists.proofs.add_counting.Goals as goal

pub add_contact-requires : goal.add_contact-requires
add_contact-requires c = one-accepted _ c.requires

pub returns-in-New : goal.returns-in-New
returns-in-New c =
    let r = c.add_contact.ensures in
    record {
      value = one-new _ _ (one-accepted _ c.requires) (sym r.value ∙ c.in-New.is);
      table_after = r.table_after ∙ one-leaves _ _;
    }

pub returns-in-Known : goal.returns-in-Known
returns-in-Known c =
    let r = c.add_contact.ensures in
    record {
      value = one_known _ _ (one-accepted _ c.requires) (sym r.value ∙ c.in-Known.is);
      table_after = r.table_after ∙ one-leaves _ _;
    }
