-- `input::put_words` meets its contract: one word more is written in each turn, and at the end all are.
use Prim.Native.Nat.{◌/◌}
use native.Mathlib.Omega.{arith}
use lib.ListN.{length, length-take}
use Rattle.sheet_text.proofs.Words.{words-start, words-turn, words-done}
use Rattle.sheet_text.proofs.input.put_words.Goals as goal

pub loop-i-init : goal.loop-i-init
loop-i-init c = words-start c.args.bytes.now _ (omega (arith, c.requires, length-take (length c.args.bytes.now / 4) c.args.out.now))

pub word_at-requires : goal.word_at-requires
word_at-requires c = omega (arith, c.loop-i-test.true, length-take (length c.args.bytes.now / 4) c.args.out.now)

pub loop-i-preserved : goal.loop-i-preserved
loop-i-preserved c = words-turn _ _ _ _ c.loop-i.invariant (omega (arith, c.loop-i-test.true, length-take (length c.args.bytes.now / 4) c.args.out.now)) _ c.word_at.ensures

pub returns : goal.returns
returns c = words-done c.args.bytes.now c.args.out.now _ _ c.requires.0 c.requires.1 c.loop-i.invariant (omega (arith, c.loop-i-test.false, length-take (length c.args.bytes.now / 4) c.args.out.now))
