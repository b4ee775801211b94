-- What the constructor of an opening gives.
use Rattle.std.specs.Prelude.{ℕ, None, Result, Ok}
use Rattle.rules.specs.declared.Refusal.{Refusal}
use Rattle.rules.specs.Answers.{answer_of}
use Rattle.rules.specs.Opening.{ensure_sizes}
use Rattle.tables.specs.declared.Opening.{Opening}

abbrev pub opening : ℕ → ℕ → ℕ → Opening
opening n τ δ = record { animals = n; ticks = τ; carry = δ }

-- The opening of the three numbers, or the refusal of the first that is beyond its limits.
unfoldable pub made : ℕ → ℕ → ℕ → Result Opening Refusal
made n τ δ = answer_of (ensure_sizes n τ δ None) (Ok (opening n τ δ))
