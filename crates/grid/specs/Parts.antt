-- A list in parts of equal size, as a loop over lent parts sees it.
use Rattle.std.specs.Prelude.{ℕ, zero, suc, ◌*◌, List, ◌++◌, take, drop}

-- The k-th part of s elements.
abbrev pub part : ℕ → ℕ → List ℕ → List ℕ
part s k l = take s (drop (k * s) l)

-- The list with another part in the place of the k-th.
abbrev pub put : ℕ → ℕ → List ℕ → List ℕ → List ℕ
put s k new l = take (k * s) l ++ (new ++ drop s (drop (k * s) l))

-- The first n parts replaced, one after the other, each by f of its number and itself.
unfoldable pub parts : (ℕ → List ℕ → List ℕ) → ℕ → ℕ → List ℕ → List ℕ
parts f s zero l = l
parts f s (suc n) l = let r = parts f s n l in put s n (f n (part s n r)) r
