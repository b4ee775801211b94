-- A set's words at the front of the words lent for it.
use Rattle.std.specs.Prelude.{Option, None, Some, Ok}
use mathlib.Core.Path.{◌≡◌, refl}
use mathlib.Core.List.{List}
use Prim.Native.Nat.{ℕ}
use lib.ListN.{replicate}
use Rattle.rules.specs.declared.Refusal.{Refusal}
use Rattle.rules.specs.Answers.{unless, answer_of}
use Rattle.rules.specs.Folds.{count_below}
use Rattle.rules.specs.Layout.{animals}
use Rattle.rules.specs.Questions.{is_reached, set_words, reached_refusal, reached_words, reached_count, reached_set, set_over, reached_leaves}
use Rattle.replies.specs.Sets.{set_leaves}

-- The answer of the question leaves what the question leaves.
pub reached-left : (T : List ℕ) (u first last : ℕ) (B : List ℕ) → set_leaves (reached_set T u first last) B ≡ reached_leaves T u first last B
unfolding reached_set reached_words reached_count reached_leaves
reached-left T u first last B = go (reached_refusal T u first last)
  where
    ws : List ℕ
    ws = set_words T u first last

    n : ℕ
    n = count_below (is_reached T u first last) (animals T)

    go : (o : Option Refusal) → set_leaves (answer_of o (Ok (record { words = unless o ws (replicate 8 0); count = unless o n 0 }))) B ≡ unless o (set_over ws B) B
    go None = refl
    go (Some r) = refl
