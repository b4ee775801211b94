-- `mark_words::mark_words` meets its contract. The loop's invariant: the contacts of the words passed are marked and counted.
use native.Mathlib.Omega.{arith}
use Rattle.building.proofs.MarkingContacts.{words-start, words-next, words-turn, words-few, words-end}
use Rattle.building.proofs.mark_words.mark_words.Goals as goal

pub loop-w-init : goal.loop-w-init
loop-w-init c = words-start

pub mark_contact-count-requires : goal.mark_contact-count-requires
mark_contact-count-requires c = words-next c.loop-w.invariant c.requires c.loop-w-test.true c.contact_of.ensures

pub overflow_add-count : goal.overflow_add-count
overflow_add-count c =
    omega (arith, words-few (words-turn c.loop-w.invariant c.requires c.loop-w-test.true c.contact_of.ensures c.mark_contact-count.ensures) c.requires (omega (arith, c.loop-w-test.true)))

pub loop-w-preserved : goal.loop-w-preserved
loop-w-preserved c = words-turn c.loop-w.invariant c.requires c.loop-w-test.true c.contact_of.ensures c.mark_contact-count.ensures

pub returns : goal.returns
returns c =
    let r = words-end c.loop-w.invariant (omega arith) in
    record { value = r.0; by_index = r.1 }
