-- What is written of a set.
use Rattle.std.specs.Prelude.{List, ℕ, Result, Ok, Err}
use Rattle.rules.specs.declared.Refusal.{Refusal}
use Rattle.rules.specs.declared.AnimalSet.{AnimalSet}
use Rattle.rules.specs.Questions.{set_over}

-- The words lent for a set afterwards: its eight words at their front where it was found.
abbrev pub set_leaves : Result AnimalSet Refusal → List ℕ → List ℕ
set_leaves (Ok s) B = set_over s.words B
set_leaves (Err r) B = B
