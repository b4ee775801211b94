-- Everything that is promised, in one declaration. `Promised` in proofs/ proves it.
use Rattle.std.specs.Prelude.{◌≡◌}
use Rattle.rules.specs.CallLists.{engine}
use Rattle.rules.specs.Demand1.{Demand1}
use Rattle.rules.specs.Demand2.{questions, Demand2}
use Rattle.rules.specs.Demand3.{Demand3}
use Rattle.rules.specs.LogsRead.{LogsRead}
use Rattle.rules.specs.CountedCalls.{CountedRule}
use Rattle.rules.specs.AnyOrder.{AnyOrder}
use Rattle.rules.specs.JoinRule.{JoinRule}
use Rattle.rules.specs.RemoveRule.{RemoveRule}
use Rattle.rules.specs.StayRule.{StayRule}
use Rattle.rules.specs.TableCalls.{TableCalls}
use Rattle.rules.specs.ListRule.{ListRule, ListExamples}
use Rattle.rules.specs.WindowRule.{WindowRule}
use Rattle.rules.specs.TickRefusals.{TickRefusals}
use Rattle.rules.specs.StoredAnswers.{StoredAnswers}
use Rattle.rules.specs.ReachedRule.{ReachedRule}
use Rattle.rules.specs.Claims.{ClaimsJudged}
use Rattle.rules.specs.NamedChains.{NamedChains}
use Rattle.rules.specs.Sheet.{sheet_text}
use Rattle.rules.specs.SheetRule.{SheetRule}
use Rattle.rules.specs.Examples.{Marked, Worked}
use Rattle.rules.specs.LogExamples.{LogsAnswered}
use Rattle.rules.specs.JoinExamples.{JoinsWorked}
use Rattle.rules.specs.RemoveExamples.{RemovesWorked}
use Rattle.rules.specs.StayExamples.{StaysWorked}
use Rattle.rules.specs.Session.{session_bytes, session_text}
use Rattle.rules.specs.Determined.{Determined, DeterminedAnswers}
use Rattle.rules.specs.Wrong.{Rejected, RejectedTables}
use Rattle.rules.specs.WrongAnswers.{RejectedAnswers}

pub record Promised : Type 1 where
  -- The three demands of the tender, of this engine and its questions.
  pub demand1 : Demand1
  pub demand2 : Demand2 engine questions
  pub demand3 : Demand3 engine
  -- What documents 01 and 02 say beside them: reading a log, counted calls, contacts added in any order to any table, removing a contact, joining two
  -- tables, stays, tables built by lists of calls, windows, the refusals of ticks, lists of questions, reach, the earliest arrival and the latest departure on
  -- tables that no adds built, the answer with the animals reached, claimed chains, the chain named, the sheet.
  pub logs_read : LogsRead
  pub counted_rule : CountedRule
  pub any_order : AnyOrder
  pub remove_rule : RemoveRule
  pub join_rule : JoinRule
  pub stay_rule : StayRule
  pub table_calls : TableCalls
  pub window_rule : WindowRule
  pub tick_refusals : TickRefusals
  pub list_rule : ListRule
  pub stored_answers : StoredAnswers
  pub reached_rule : ReachedRule
  pub claims_judged : ClaimsJudged
  pub named_chains : NamedChains
  pub sheet_rule : SheetRule
  -- Examples: P1 to P9, those not marked, logs, joins, removals, stays and lists of questions, and the session printed.
  pub marked_hold : Marked
  pub worked_hold : Worked
  pub logs_answered : LogsAnswered
  pub joins_worked : JoinsWorked
  pub removes_worked : RemovesWorked
  pub stays_worked : StaysWorked
  pub list_examples : ListExamples
  pub session_printed : sheet_text session_bytes ≡ session_text
  -- Any two engines that meet demand 3, or with their questions demand 2, agree on what it speaks of.
  pub determined : Determined
  pub determined_answers : DeterminedAnswers
  -- Wrong engines and wrong answers do not meet them.
  pub rejected : Rejected
  pub rejected_tables : RejectedTables
  pub rejected_answers : RejectedAnswers
