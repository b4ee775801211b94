-- `is_filled` meets its contract: what stands above the lowest bits decides.
use Rattle.words.proofs.Fields.{is_of-filled}
use Rattle.words.proofs.is_filled.Goals as goal

pub returns : goal.returns
returns g c = is_of-filled g.row.KIND g.row.WIDTH c.args.w c.requires.0 c.requires.1
