-- A table into which the sheet's log is read.
use Rattle.std.specs.Prelude.{ℕ, ◌≡◌, List}
use Rattle.rules.specs.Reading.{read_answer, read_leaves}
use Rattle.rules.specs.Sheet.{read_text, log_text}

-- What reading log L into the words T answers and leaves is what the sheet of L shows.
abbrev pub Prints : List ℕ → List ℕ → Type 0
Prints L T = read_text (read_answer L T) (read_leaves L T) ≡ log_text L
