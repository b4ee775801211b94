-- `is_count` meets its contract: the field fills the bits below bit 11.
use mathlib.Core.Path.{refl, ◌∙◌}
use Rattle.words.specs.Words.{count_layout}
use Rattle.words.proofs.Fields.{is_of-filling}
use Rattle.words.proofs.is_count.Goals as goal

pub returns : goal.returns
returns c = c.is_filled.ensures ∙ is_of-filling _ count_layout 11 c.args.w refl (refl, refl) (refl, refl)
