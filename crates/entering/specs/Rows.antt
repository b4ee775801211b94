-- Rows of a cell as a list, and what the moves do to them.
use Rattle.std.specs.Prelude.{ℕ, ◌-◌, List, ◌∷◌, ◌++◌, length, take, drop, replicate}
use Rattle.words.specs.Words.{unused_word}

-- n unused words.
abbrev pub unused : ℕ → List ℕ
unused n = replicate n unused_word

-- The rows, with unused words behind them up to τ rows.
unfoldable pub padded : ℕ → List ℕ → List ℕ
padded τ ws = ws ++ unused (τ - length ws)

-- Rows lo to hi - 1 make place for w.
abbrev pub spliced : {A : Type 0} → List A → ℕ → ℕ → A → List A
spliced ws lo hi w = take lo ws ++ w ∷ drop hi ws
