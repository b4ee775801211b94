-- `output::put_number` keeps within the text.
use Rattle.std.proofs.Common.{arith}
use Rattle.run_tally_and_list.proofs.Lines.{number_short, number_fits}
use Rattle.run_tally_and_list.proofs.output.put_number.Goals as goal

pub put_then-requires : goal.put_then-requires
put_then-requires g c =
    number_fits c.args.n c.args.behind c.in_ok-from.from c.args.text.now c.ranges.n.fits c.in_ok-from.ensures (omega arith)

pub overflow_add-result : goal.overflow_add-result
overflow_add-result g c =
    record { fits = omega (arith, c.put_then.ensures.value, number_short c.args.n c.args.behind c.ranges.n.fits) }

pub returns : goal.returns
returns g c = omega (arith, c.put_then.ensures.value, number_short c.args.n c.args.behind c.ranges.n.fits)
