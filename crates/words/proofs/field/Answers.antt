-- `field` meets its contract: the number of values of the field fits a word.
use native.Mathlib.Omega.{arith}
use Prim.Native.Nat.{ℕ, ◌/◌, ◌%◌, ◌^◌}
use mathlib.Core.Path.{ap}
use Rattle.std.proofs.lemmas.Nat.{one_shl}
use Rattle.words.proofs.field.Goals as goal

pub returns : goal.returns
returns g c = ap (λ (n : ℕ). c.args.w / 2 ^ g.row.LOW % n) (one_shl g.row.WIDTH 32 (omega (arith, c.requires)))
