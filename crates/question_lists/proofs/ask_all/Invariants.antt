-- The records passed are answered.
use Rattle.std.proofs.Common.{◌≡◌}
use Rattle.rules.specs.QuestionList.{asked}
use Rattle.question_lists.proofs.Planned.{upto}
use Rattle.question_lists.proofs.ask_all.Given as goal

abbrev pub invariant-loop-q : goal.invariant-loop-q
invariant-loop-q l = l.list ≡ upto (asked l.table) l.q-index l.initial.list
