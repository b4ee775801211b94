-- The checks of a log: each word in turn, and the words between the first and the last.
use Rattle.std.specs.Prelude.{Option, None, Err, Result, IsErrAnd, ⊤}
use mathlib.Core.Path.{◌≡◌, refl, sym, ap, ◌∙◌}
use mathlib.Core.List.{List, [], ◌∷◌}
use Prim.Native.Nat.{ℕ, suc, ◌+◌, ◌-◌, ◌≤◌, ◌<◌}
use native.Mathlib.Numerals.{add-one}
use native.Mathlib.Omega.{arith}
use lib.ListN.{length, get_or, take, drop, length-drop}
use lib.Seq.{drop-cons}
use Rattle.words.specs.Layout.{is_of}
use Rattle.words.specs.Words.{contact_layout, contact_of}
use Rattle.rules.specs.declared.Refusal.{Refusal}
use Rattle.rules.specs.declared.Refusal.TheVariants.{NotAContact, IllegalContact}
use Rattle.rules.specs.Answers.{done}
use Rattle.rules.specs.Reading.{between, is_legal, ensure_word, ensure_words}
use Rattle.checks.specs.Verdicts.{verdict_of}
use Rattle.checks.proofs.Judged.{verdict_passed, group_refused}
use Rattle.rules.proofs.Groups.{Group, one-check, both-groups, none-is_not_some}

-- Checks 12 and 13 of one word are a group.
word-group : (n τ w : ℕ) → Group (ensure_word n τ w)
unfolding ensure_word
word-group n τ w = both-groups (one-check (is_of contact_layout w) NotAContact) (one-check (is_legal n τ (contact_of w)) IllegalContact)

-- The checks of all words are a group.
pub words-group : (n τ : ℕ) (ws : List ℕ) → Group (ensure_words n τ ws)
unfolding ensure_words
words-group n τ [] = record { refuses = λ r e o. none-is_not_some e; passes = λ e o. refl }
words-group n τ (w ∷ ws) = both-groups (word-group n τ w) (words-group n τ ws)

-- Where the checks of all words pass, those behind them decide.
pub words_pass : (n τ : ℕ) (ws : List ℕ) (o : Option Refusal) → ensure_words n τ ws None ≡ None → ensure_words n τ ws o ≡ o
words_pass n τ ws o e = (words-group n τ ws).passes e o

-- The first i of the words are judged: what is left to judge equals the whole.
pub record Judging (n τ : ℕ) (ws : List ℕ) (i : ℕ) : Type 0 where
  pub left : ensure_words n τ (drop i ws) None ≡ ensure_words n τ ws None

pub judging_start : (n τ : ℕ) (ws : List ℕ) → Judging n τ ws 0
judging_start n τ ws = record { left = refl }

module _ {n τ : ℕ} {ws : List ℕ} {i : ℕ} (g : Judging n τ ws i) where
  module _ (h : i < length ws) {a : Result ⊤ Refusal} (p : a ≡ verdict_of (ensure_word n τ (get_or ws i 0) None)) where
    turn : ensure_words n τ ws None ≡ ensure_word n τ (get_or ws i 0) (ensure_words n τ (drop (suc i) ws) None)
    unfolding ensure_words
    turn = sym g.left ∙ ap (λ (l : List ℕ). ensure_words n τ l None) (drop-cons ws i 0 h)

    -- The word is refused, and so are all words.
    pub judging_refused : {v : Result ⊤ Refusal} {r : Refusal} → a ≡ Err r → IsErrAnd v (λ e. e ≡ r) → v ≡ verdict_of (ensure_words n τ ws None)
    judging_refused q k = group_refused (word-group n τ (get_or ws i 0)) (ensure_words n τ (drop (suc i) ws) None) p q k ∙ ap verdict_of (sym turn)

    -- The word passes.
    pub judging_turn : a ≡ done → Judging n τ ws (i + 1)
    judging_turn q = record { left = rw (turn, (word-group n τ (get_or ws i 0)).passes (verdict_passed p q) (ensure_words n τ (drop (suc i) ws) None), add-one) refl }

  -- All words have passed.
  pub judging_end : length ws ≤ i → done ≡ verdict_of (ensure_words n τ ws None)
  unfolding verdict_of
  judging_end h = ap verdict_of (sym (none_left (drop i ws) (omega (arith, length-drop i ws))) ∙ g.left)
    where
      none_left : (l : List ℕ) → length l ≤ 0 → ensure_words n τ l None ≡ None
      none_left [] k = unfold ensure_words in refl
      none_left (w ∷ l) k = absurd (omega arith)

-- ---- the words between the first and the last

-- Of fewer than two words there are none.
pub between_none : (L : List ℕ) → length L < 2 → take 0 L ≡ between L
unfolding between
between_none L h = let e : length L - 2 ≡ 0 = omega arith in rw e refl

-- As they are lent.
pub between-lent : (L : List ℕ) (end : ℕ) → end ≡ length L - 1 → take (end - 1) (drop 1 L) ≡ between L
unfolding between
between-lent L end s = let k : end - 1 ≡ length L - 2 = omega arith in ap (λ (i : ℕ). take i (drop 1 L)) k
