-- The bounds of the program's memories and of what it writes.
use Rattle.std.specs.Prelude.{ℕ}

-- The words of each memory: the table of 8 animals and 64 ticks.
abbrev pub most_table : ℕ
most_table = 4161

-- The bytes that are written at once.
abbrev pub most_text : ℕ
most_text = 4096

-- The most bytes of a number of 32 bits and of the byte behind it.
abbrev pub most_number : ℕ
most_number = 11
