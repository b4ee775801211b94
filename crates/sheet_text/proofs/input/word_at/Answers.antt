-- `input::word_at` meets its contract: the four bytes were taken from `at` on.
use native.Mathlib.Omega.{arith}
use Rattle.sheet_text.proofs.Words.{word-is}
use Rattle.sheet_text.proofs.input.word_at.Goals as goal

pub returns : goal.returns
returns c = omega (arith, c.from_be_bytes.ensures, word-is c.args.bytes.now c.args.at c.requires)
