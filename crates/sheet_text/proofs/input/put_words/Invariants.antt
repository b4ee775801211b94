-- `input::put_words` meets its contract. The loop's invariant: the words passed are written.
use Prim.Native.Nat.{◌*◌}
use lib.ListN.{drop}
use Rattle.rules.specs.Sheet.{words_of}
use Rattle.table_text.proofs.Writing.{Writing}
use Rattle.sheet_text.proofs.input.put_words.Given as goal

abbrev pub invariant-loop-i : goal.invariant-loop-i
invariant-loop-i l = Writing (words_of l.bytes) l.initial.word-items l.word-items l.i (words_of (drop (4 * l.i) l.bytes))
