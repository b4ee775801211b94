-- The words of bytes: four bytes each, highest first.
use mathlib.Core.Path.{◌≡◌, refl, sym, ap, ap₂, ◌∙◌}
use mathlib.Core.List.{List, [], ◌∷◌, ◌++◌, append-nil}
use Prim.Native.Nat.{ℕ, ◌+◌, ◌*◌, ◌/◌, ◌%◌, ◌^◌, ◌≤◌, ◌<◌}
use native.Mathlib.Numerals.{add-one}
use native.Mathlib.Omega.{arith}
use lib.ListN.{length, get_or, take, drop, set, drop_of_length-le, length-take}
use lib.Seq.{drop-cons}
use Rattle.std.specs.Int.{w32, from_be_bytes}
use Rattle.rules.specs.Sheet.{words_of}
use Rattle.table_text.proofs.Writing.{Writing, start, byte, end}
use Rattle.table_text.specs.Lines.{overwrite_front}

-- Four bytes make one word, and no more words than that.
pub words-few : (B : List ℕ) → 4 * length (words_of B) ≤ length B
unfolding words_of
words-few [] = omega arith
words-few (a ∷ []) = omega arith
words-few (a ∷ b ∷ []) = omega arith
words-few (a ∷ b ∷ c ∷ []) = omega arith
words-few (a ∷ b ∷ c ∷ d ∷ B) = omega (arith, words-few B)

-- Whole words are a quarter of their bytes.
pub words-length : (B : List ℕ) → length B % 4 ≡ 0 → length (words_of B) ≡ length B / 4
unfolding words_of
words-length [] h = refl
words-length (a ∷ []) h = absurd (omega arith)
words-length (a ∷ b ∷ []) h = absurd (omega arith)
words-length (a ∷ b ∷ c ∷ []) h = absurd (omega arith)
words-length (a ∷ b ∷ c ∷ d ∷ B) h = omega (arith, words-length B (omega arith))

-- The word of the four bytes from `at` on.
abbrev word : List ℕ → ℕ → ℕ
word B at = get_or B at 0 * 2 ^ 24 + get_or B (at + 1) 0 * 2 ^ 16 + get_or B (at + 2) 0 * 2 ^ 8 + get_or B (at + 3) 0

words-next : (B : List ℕ) (at : ℕ) → at + 4 ≤ length B → words_of (drop at B) ≡ word B at ∷ words_of (drop (at + 4) B)
unfolding words_of
words-next B at h = ap words_of four
  where
    next : (i j : ℕ) → j ≡ i + 1 → i < length B → drop i B ≡ get_or B i 0 ∷ drop j B
    next i j e k = drop-cons B i 0 k ∙ ap (λ (m : ℕ). get_or B i 0 ∷ drop m B) (sym (e ∙ add-one i))

    four : drop at B ≡ get_or B at 0 ∷ get_or B (at + 1) 0 ∷ get_or B (at + 2) 0 ∷ get_or B (at + 3) 0 ∷ drop (at + 4) B
    four =
        next at (at + 1) refl (omega arith)
        ∙ ap (λ (l : List ℕ). get_or B at 0 ∷ l)
        (next (at + 1) (at + 2) (omega arith) (omega arith)
        ∙ ap (λ (l : List ℕ). get_or B (at + 1) 0 ∷ l)
        (next (at + 2) (at + 3) (omega arith) (omega arith) ∙ ap (λ (l : List ℕ). get_or B (at + 2) 0 ∷ l) (next (at + 3) (at + 4) (omega arith) (omega arith))))

-- Four bytes from `at` on, read as a word, are the first word from there.
pub word-is : (B : List ℕ) (at : ℕ) → at + 4 ≤ length B
    → from_be_bytes w32 (get_or B at 0 ∷ get_or B (at + 1) 0 ∷ get_or B (at + 2) 0 ∷ get_or B (at + 3) 0 ∷ []) ≡ get_or (words_of (drop at B)) 0 0
word-is B at h = omega (arith, ap (λ (l : List ℕ). get_or l 0 0) (words-next B at h))

-- ---- written word by word

module _ (B l : List ℕ) where
  -- At first all words are left.
  pub words-start : length B ≤ 4 * length l → Writing (words_of B) l l 0 (words_of (drop (4 * 0) B))
  words-start h = start (words_of B) l (words_of B) refl (omega (arith, words-few B))

  module _ (out : List ℕ) (i : ℕ) (w : Writing (words_of B) l out i (words_of (drop (4 * i) B))) where
    -- One word more.
    pub words-turn : 4 * i + 4 ≤ length B → (x : ℕ) → x ≡ get_or (words_of (drop (4 * i) B)) 0 0 → Writing (words_of B) l (set out i x) (i + 1) (words_of (drop (4 * (i + 1)) B))
    words-turn h x e =
        let n = words-next B (4 * i) h in
        let k : 4 * i + 4 ≡ 4 * (i + 1) = omega arith in
        let f : words_of (drop (4 * i) B) ≡ x ∷ words_of (drop (4 * (i + 1)) B) =
        n ∙ ap (λ (y : ℕ). y ∷ words_of (drop (4 * i + 4) B)) (sym (ap (λ (m : List ℕ). get_or m 0 0) n) ∙ sym e) ∙ ap (λ (j : ℕ). x ∷ words_of (drop j B)) k in
        byte w x (words_of (drop (4 * (i + 1)) B)) f

-- At last all are written, in the place of as many words at the front of the list.
pub words-done : (B out new : List ℕ) (i : ℕ) → length B % 4 ≡ 0 → length B ≤ 4 * length out → Writing (words_of B) (take (length B / 4) out) new i (words_of (drop (4 * i) B)) → length B / 4 ≤ i
    → new ++ drop (length B / 4) out ≡ overwrite_front (words_of B) out
unfolding overwrite_front words_of
words-done B out new i d r w h =
    let n : length (words_of B) ≡ length B / 4 = words-length B d in
    let all = (end w (ap words_of (drop_of_length-le B (omega arith)))).1 in
    let none = drop_of_length-le (take (length B / 4) out) {i = length (words_of B)} (omega (arith, n, length-take (length B / 4) out)) in
    ap₂ ◌++◌ (all ∙ ap (λ (l : List ℕ). words_of B ++ l) none ∙ append-nil (words_of B)) (ap (λ (k : ℕ). drop k out) (sym n))
