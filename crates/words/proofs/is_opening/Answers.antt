-- `is_opening` meets its contract: the fields fill the bits below bit 26.
use mathlib.Core.Path.{refl, ◌∙◌}
use Rattle.words.specs.Words.{opening_layout}
use Rattle.words.proofs.Fields.{is_of-filling}
use Rattle.words.proofs.is_opening.Goals as goal

pub returns : goal.returns
returns c = c.is_filled.ensures ∙ is_of-filling _ opening_layout 26 c.args.w refl (refl, refl) (refl, (refl, (refl, refl)))
