-- `is_interval` meets its contract: the fields fill the bits below bit 22.
use mathlib.Core.Path.{refl, ◌∙◌}
use Rattle.words.specs.Words.{interval_layout}
use Rattle.words.proofs.Fields.{is_of-filling}
use Rattle.words.proofs.is_interval.Goals as goal

pub returns : goal.returns
returns c = c.is_filled.ensures ∙ is_of-filling _ interval_layout 22 c.args.w refl (refl, refl) (refl, (refl, refl))
