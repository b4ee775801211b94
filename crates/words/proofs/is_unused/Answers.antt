-- `words::is_unused` meets its contract: the layout has no field, so the whole word is compared.
use mathlib.Core.Path.{refl}
use Rattle.words.specs.Layout.{is_of}
use Rattle.words.proofs.is_unused.Goals as goal

pub returns : goal.returns
unfolding is_of
returns c = refl
