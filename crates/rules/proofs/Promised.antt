-- Everything promised holds.
use Rattle.rules.specs.Promised.{Promised}
use Rattle.rules.proofs.Demand1.{demand1}
use Rattle.rules.proofs.Demand2.{demand2}
use Rattle.rules.proofs.Demand3.{demand3}
use Rattle.rules.proofs.LogsRead.{logs_read}
use Rattle.rules.proofs.CountedCalls.{counted_rule}
use Rattle.rules.proofs.AnyOrder.{any_order}
use Rattle.rules.proofs.Removing.{remove_rule}
use Rattle.rules.proofs.Joining.{join_rule}
use Rattle.rules.proofs.Stays.{stay_rule}
use Rattle.rules.proofs.TableCalls.{table_calls}
use Rattle.rules.proofs.Windows.{window_rule}
use Rattle.rules.proofs.TickRefusals.{tick_refusals}
use Rattle.rules.proofs.ListRule.{list_rule, list_examples}
use Rattle.rules.proofs.EarliestLatest.{stored_answers}
use Rattle.rules.proofs.ReachedRule.{reached_rule}
use Rattle.rules.proofs.Claims.{claims_judged}
use Rattle.rules.proofs.ChainShown.{named_chains}
use Rattle.rules.proofs.SheetRule.{sheet_rule}
use Rattle.rules.proofs.Examples.{marked_hold, worked_hold}
use Rattle.rules.proofs.LogExamples.{logs_answered}
use Rattle.rules.proofs.JoinExamples.{joins_worked}
use Rattle.rules.proofs.RemoveExamples.{removes_worked}
use Rattle.rules.proofs.StayExamples.{stays_worked}
use Rattle.rules.proofs.Session.{session_printed}
use Rattle.rules.proofs.Determined.{determined}
use Rattle.rules.proofs.DeterminedAnswers.{determined_answers}
use Rattle.rules.proofs.Rejected.{rejected, rejected_tables}
use Rattle.rules.proofs.RejectedAnswers.{rejected_answers}

pub promised : Promised
promised =
    record {
      demand1 = demand1;
      demand2 = demand2;
      demand3 = demand3;
      logs_read = logs_read;
      counted_rule = counted_rule;
      any_order = any_order;
      remove_rule = remove_rule;
      join_rule = join_rule;
      stay_rule = stay_rule;
      table_calls = table_calls;
      window_rule = window_rule;
      tick_refusals = tick_refusals;
      list_rule = list_rule;
      stored_answers = stored_answers;
      reached_rule = reached_rule;
      claims_judged = claims_judged;
      named_chains = named_chains;
      sheet_rule = sheet_rule;
      marked_hold = marked_hold;
      worked_hold = worked_hold;
      logs_answered = logs_answered;
      joins_worked = joins_worked;
      removes_worked = removes_worked;
      stays_worked = stays_worked;
      list_examples = list_examples;
      session_printed = session_printed;
      determined = determined;
      determined_answers = determined_answers;
      rejected = rejected;
      rejected_tables = rejected_tables;
      rejected_answers = rejected_answers;
    }
