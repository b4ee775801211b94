-- `remove_held` meets its contract: the second table is as long as the opening word of the first says.
use mathlib.Core.Path.{sym, ◌∙◌}
use Rattle.rules.proofs.Sound.{opens-length}
use Rattle.removing.proofs.remove_held.Goals as goal

pub build_without-requires : goal.build_without-requires
build_without-requires c =
    rw c.of_valid.ensures (sym c.requires.table_len ∙ opens-length _ c.requires.valid_table.opens)
