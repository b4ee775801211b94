-- `output::print_numbers` keeps within its text: what the text holds is within.
use Rattle.std.proofs.Common.{◌≤◌}
use Rattle.run_tally_and_list.specs.Bounds.{most_text}
use Rattle.run_tally_and_list.proofs.output.print_numbers.Given as goal

abbrev pub invariant-loop-i : goal.invariant-loop-i
invariant-loop-i g l = l.at ≤ most_text
