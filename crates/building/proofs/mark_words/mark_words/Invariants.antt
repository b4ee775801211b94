-- `mark_words::mark_words` meets its contract. The loop's invariant: the contacts of the words passed are marked and counted.
use Rattle.building.proofs.MarkingContacts.{WordsMarked}
use Rattle.building.proofs.mark_words.mark_words.Given as goal

abbrev pub invariant-loop-w : goal.invariant-loop-w
invariant-loop-w l = WordsMarked l.n l.size l.words l.initial.heads l.initial.body l.w-index l.heads l.body l.count
