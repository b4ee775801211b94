-- `write_empty` meets its contract: the count of no rows stands before unused words.
use mathlib.Core.Path.{ap, ◌∙◌}
use Prim.Native.Nat.{ℕ}
use mathlib.Core.List.{List}
use lib.ListN.{length, set}
use Rattle.tables.proofs.Cells.{emptied-words}
use Rattle.tables.proofs.write_empty.Goals as goal

pub returns : goal.returns
returns c = ap (λ (l : List ℕ). set l 0 c.count_word.result) (c.fill.ensures.after (λ y e. e))
    ∙ emptied-words (length c.args.cell.now) _ _ c.requires c.unused_word.ensures c.count_word.ensures
