-- How many question records an array of them holds.
use Rattle.std.specs.Prelude.{ℕ}

-- The records of an array of them.
abbrev pub most_records : ℕ
most_records = 64
