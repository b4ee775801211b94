-- `all_unused` meets its contract: the joined bits are zero exactly when every word is unused.
use Rattle.std.proofs.Common.{rules}
use mathlib.Core.Path.{◌≡◌, ap, ◌∙◌}
use lib.Bits.{bit_or}
use Rattle.std.specs.List.{fold}
use Rattle.words.specs.Layout.{is_of}
use Rattle.words.specs.Words.{unused_layout}
use Rattle.cell_checks.proofs.Checks.{unused-joined}
use Rattle.cell_checks.proofs.all_unused.Goals as goal

pub returns : goal.returns
returns c = let e : c.fold.result ≡ fold bit_or 0 c.args.rest.now = search rules in
    c.is_unused.ensures ∙ ap (is_of unused_layout) e ∙ unused-joined c.args.rest.now
