-- What the loops over the animals test and collect.
use Rattle.std.specs.Prelude.{ℕ, Bool, ◌||◌, List, eqb}
use Rattle.rules.specs.Folds.{all_below}
use Rattle.rules.specs.Layout.{animals}
use Rattle.rules.specs.Questions.{reaches}

-- v is u, or reached from it in the window.
unfoldable pub joins : List ℕ → ℕ → ℕ → ℕ → ℕ → Bool
joins T first last u v = eqb u v || reaches T u v first last

-- Every animal but u is reached from it in the window.
unfoldable pub joins_all : List ℕ → ℕ → ℕ → ℕ → Bool
joins_all T first last u = all_below (joins T first last u) (animals T)
