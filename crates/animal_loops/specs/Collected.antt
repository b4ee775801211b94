-- A set of animals as it is collected: the bits of the animals passed so far.
use Rattle.std.specs.Prelude.{ℕ, ◌+◌, ◌*◌, ◌^◌, ◌<◌, ◌≡◌, Bool, cond, ◌&&◌, List, ltb, length, get_or}
use Rattle.rules.specs.Folds.{sum_below, count_below}

-- Bit b of word j, where its animal is below i and passes the test p.
unfoldable pub bit_below : (ℕ → Bool) → ℕ → ℕ → ℕ → ℕ
bit_below p i j b = cond (ltb (j * 32 + b) i && p (j * 32 + b)) (2 ^ b) 0

-- Word j of the set of the animals below i that pass the test.
unfoldable pub word_below : (ℕ → Bool) → ℕ → ℕ → ℕ
word_below p i j = sum_below (bit_below p i j) 32

-- The eight words and the number of the animals below i that pass the test.
pub record Collected (p : ℕ → Bool) (i : ℕ) (ws : List ℕ) (count : ℕ) : Type 0 where
  pub long : length ws ≡ 8
  pub words : (j : ℕ) → j < 8 → get_or ws j 0 ≡ word_below p i j
  pub counted : count ≡ count_below p i
