-- What the loop over a claimed chain tests.
use Rattle.std.specs.Prelude.{ℕ, ◌+◌, Bool, ◌&&◌, List, [], ◌∷◌, eqb}
use Rattle.words.specs.Words.{contact_of}
use Rattle.rules.specs.Layout.{carry}
use Rattle.rules.specs.Claims.{goes_on}

-- The words, of which there may be none, lead on from x at tick a to v. The positions are those of `form_journey`.
unfoldable pub follows : List ℕ → ℕ → ℕ → ℕ → ℕ → ℕ → List ℕ → Bool
follows T v first last x a [] = eqb x v
follows T v first last x a (w ∷ ws) = goes_on T first last x a w && follows T v first last (contact_of w).to ((contact_of w).tick + carry T) ws
