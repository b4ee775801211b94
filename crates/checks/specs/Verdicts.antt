-- The verdict of a group of checks: whether a call goes on or is refused.
use Rattle.std.specs.Prelude.{Option, None, Some, Result, Ok, Err, ⊤}
use Rattle.rules.specs.declared.Refusal.{Refusal}

unfoldable pub verdict_of : Option Refusal → Result ⊤ Refusal
verdict_of None = Ok tt
verdict_of (Some r) = Err r
