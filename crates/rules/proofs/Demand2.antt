-- Demand 2 holds of the engine and the questions of documents 01 and 02.
use Rattle.rules.specs.CallLists.{engine}
use Rattle.rules.specs.Demand2.{questions, Demand2}
use Rattle.rules.proofs.Judged.{open_none}
use Rattle.rules.proofs.Runs.{left-fresh}
use Rattle.rules.proofs.EarliestLatest.{earliest_at, earliest_none, latest_at, latest_none}
use Rattle.rules.proofs.Answered.{stored, reach_yes, reach_no, connected_yes, connected_no, reached_found, reached_eight, reached_bit, reached_count_lem}
use Rattle.rules.proofs.ChainShown.{named-when, one-chain, chain-is_shown, none-is_shown}

pub demand2 : Demand2 engine questions
demand2 =
    record {
      stored = λ n τ δ words A p. stored (left-fresh n τ δ words A ((open_none n τ δ words).0 p));
      fresh_stored = λ n τ δ S T f. stored f;
      answered = λ n τ δ S T f.
          record {
            reach_yes = reach_yes f;
            reach_no = reach_no f;
            earliest_at = λ u v first p. earliest_at f u v p first;
            earliest_none = λ u v first p. earliest_none f u v p first;
            latest_at = λ u v last p. latest_at f u v p last;
            latest_none = λ u v last p. latest_none f u v p last;
            connected_yes = connected_yes f;
            connected_no = connected_no f;
            reached_found = reached_found f;
            reached_bit = reached_bit f;
            reached_count = reached_count_lem f;
            chain_named = named-when f;
            chain_shown = chain-is_shown f;
            chain_none = none-is_shown f;
          };
      chain_one = one-chain;
      reached_eight = reached_eight;
    }
