-- What the writing of a log answers: the number of words written, or that the buffer is too short for so many.
use Rattle.std.specs.Prelude.{ℕ, ◌+◌, List, cond, length, leb, Result, Ok, Err}
use Rattle.logs.specs.declared.TooShort.{TooShort}
use Rattle.rules.specs.Logs.{held_contacts}

unfoldable pub written : List ℕ → List ℕ → Result ℕ TooShort
written T B =
    let needed = length (held_contacts T) + 2 in cond (leb needed (length B)) (Ok needed) (Err (record { needed = needed }))
