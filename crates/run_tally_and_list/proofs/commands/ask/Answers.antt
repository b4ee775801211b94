-- `commands::ask` keeps the bounds, and the reply of its list fits.
use Rattle.std.proofs.Common.{arith}
use Rattle.run_tally_and_list.proofs.Lines.{reply-fits}
use Rattle.run_tally_and_list.proofs.commands.ask.Goals as goal

pub of_list-requires : goal.of_list-requires
of_list-requires g c = reply-fits _ _ c.args.state.count _ c.ask_first-asked.ensures.1 (omega arith)
