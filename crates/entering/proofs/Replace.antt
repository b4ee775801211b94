-- What the moves of rows come to: a new row in the place of others.
use Prim.Native.Nat.{ℕ, ◌+◌, ◌-◌, ◌≤◌}
use mathlib.Core.Path.{◌≡◌, sym, ap, ap₂, ◌∙◌}
use mathlib.Core.List.{List, [], ◌∷◌, ◌++◌}
use native.Mathlib.Omega.{arith}
use native.Mathlib.Numerals.{add-one}
use lib.ListN.{length, take, drop, set, length-append, length-drop, length-replicate, replicate, replicate-append-replicate}
use lib.Seq.{paste, take-take, take-add, drop_at, drop-drop, drop-append-add, drop-set-lt, take-suc-set, take-set-lt, take-paste, drop-paste, length-take-le, append_snoc}
use borrow.Rule.Slice.PartMut.{put_mid, Post-is}
use Rattle.std.proofs.lemmas.List.{set-append_left}
use Rattle.words.specs.Words.{unused_word}
use Rattle.entering.specs.Rows.{unused, padded, spliced}

-- ---- a new row in the place of others

-- Without i of them, fewer unused words are left.
drop-unused : (m i : ℕ) → i ≤ m → drop i (unused m) ≡ unused (m - i)
drop-unused m i h =
    let e : m ≡ i + (m - i) = omega arith in
    ap (λ (k : ℕ). drop i (unused k)) e
    ∙ ap (drop i) (sym (replicate-append-replicate {A = ℕ} i (m - i) unused_word))
    ∙ drop_at (unused i) (unused (m - i)) i (length-replicate {A = ℕ} i unused_word)

-- The rest of the first n is the first of the rest.
pub slice_take : (lo n : ℕ) (xs : List ℕ) → lo ≤ n → n ≤ length xs → drop lo (take n xs) ≡ take (n - lo) (drop lo xs)
slice_take lo n xs h l =
    let e : n ≡ lo + (n - lo) = omega arith in
    ap (λ (k : ℕ). drop lo (take k xs)) e
    ∙ ap (drop lo) (take-add lo (n - lo) xs)
    ∙ drop_at (take lo xs) (take (n - lo) (drop lo xs)) lo (length-take-le lo xs (omega arith))

-- How many rows there are with the new one in the place of others.
pub spliced-length : {A : Type 0} (ws : List A) (lo hi : ℕ) (w : A) → lo ≤ hi → hi ≤ length ws → length (spliced ws lo hi w) ≡ lo + 1 + (length ws - hi)
spliced-length ws lo hi w a b = simp (length-append, length-drop) (omega (arith, length-take-le lo ws (omega arith)))

-- Words from index a to k - 1 that were made unused.
pub cleared : (xs ys : List ℕ) (a k v : ℕ) → ys ≡ replicate (length (take (k - a) (drop a xs))) v → v ≡ unused_word → k ≤ length xs → ys ≡ unused (k - a)
cleared xs ys a k v e u l = e ∙ ap₂ replicate (length-take-le (k - a) (drop a xs) (omega (arith, length-drop a xs))) u

module _ (xs : List ℕ) (n : ℕ) (le : n ≤ length xs) (e : xs ≡ padded (length xs) (take n xs)) where
  -- From the rows in use on, all words are unused.
  tail-unused : (k : ℕ) → n ≤ k → k ≤ length xs → drop k xs ≡ unused (length xs - k)
  unfolding padded
  tail-unused k nk kl =
      let ws : List ℕ = take n xs in
      let m : ℕ = length xs - length ws in
      let lw : length ws ≡ n = length-take-le n xs le in
      let q : k ≡ length ws + (k - n) = omega arith in
      let r : m - (k - n) ≡ length xs - k = omega arith in
      ap (drop k) e
      ∙ ap (λ (i : ℕ). drop i (ws ++ unused m)) q
      ∙ drop-append-add ws (unused m) (k - n)
      ∙ drop-unused m (k - n) (omega arith)
      ∙ ap (λ (i : ℕ). unused i) r

  module _ (lo hi w : ℕ) (h : lo ≤ hi) (l : hi ≤ n) (m : lo + 1 + (n - hi) ≤ length xs) where
    -- Where the rows end then.
    abbrev end : ℕ
    end = lo + 1 + (n - hi)

    -- The rows behind those that go, moved behind the place of the new one, and the new one written there.
    abbrev moved : List ℕ
    moved = set (paste xs (lo + 1) (drop hi xs) (n - hi)) lo w

    moved-long : n - hi ≤ length (drop hi xs)
    moved-long = simp length-drop (omega arith)

    -- The rows in use are then the rows with the new one in the place of those that go.
    moved_front : take end moved ≡ spliced (take n xs) lo hi w
    moved_front =
        take-set-lt end (paste xs (lo + 1) (drop hi xs) (n - hi)) lo w (omega arith)
        ∙ ap (λ (t : List ℕ). set t lo w) (take-paste xs (lo + 1) (drop hi xs) (n - hi) (omega arith) moved-long)
        ∙ set-append_left (take (lo + 1) xs) (take (n - hi) (drop hi xs)) lo w (omega (arith, length-take-le (lo + 1) xs (omega arith)))
        ∙ ap₂ ◌++◌ front (sym (slice_take hi n xs l le))
        ∙ append_snoc (take lo (take n xs)) w (drop hi (take n xs))
      where
        front : set (take (lo + 1) xs) lo w ≡ take lo (take n xs) ++ (w ∷ [])
        front =
            sym (take-set-lt (lo + 1) xs lo w (omega arith))
            ∙ rw add-one (take-suc-set xs lo w (omega arith) ∙ ap (λ (t : List ℕ). t ++ (w ∷ [])) (sym (take-take lo n xs (omega arith))))

    -- Behind them and the rows in use before, all words are unused as they were.
    moved-rest : (k : ℕ) → end ≤ k → n ≤ k → k ≤ length xs → drop k moved ≡ unused (length xs - k)
    moved-rest k p q r =
        let i : ℕ = k - end in
        let e : k ≡ end + i = omega arith in
        drop-set-lt k (paste xs (lo + 1) (drop hi xs) (n - hi)) lo w (omega arith)
        ∙ ap (λ (j : ℕ). drop j (paste xs (lo + 1) (drop hi xs) (n - hi))) e
        ∙ sym (drop-drop i end (paste xs (lo + 1) (drop hi xs) (n - hi)))
        ∙ ap (drop i) (drop-paste xs (lo + 1) (drop hi xs) (n - hi) (omega arith) moved-long)
        ∙ drop-drop i end xs
        ∙ ap (λ (j : ℕ). drop j xs) (sym e)
        ∙ tail-unused k q r

    -- With the words between made unused, the rows are those with the new one in the place of those that go.
    pub replace_fits : (k : ℕ) → end ≤ k → n ≤ k → k ≤ length xs
        → put_mid end (k - end) moved (unused (k - end)) ≡ padded (length xs) (spliced (take n xs) lo hi w)
    unfolding padded
    replace_fits k p q r =
        ap₂ ◌++◌ moved_front (ap (λ (t : List ℕ). unused (k - end) ++ t) (Post-is end k moved p ∙ moved-rest k p q r))
        ∙ ap (λ (t : List ℕ). spliced (take n xs) lo hi w ++ t) (replicate-append-replicate {A = ℕ} (k - end) (length xs - k) unused_word ∙ ap (λ (i : ℕ). unused i) left)
      where
        left : k - end + (length xs - k) ≡ length xs - length (spliced (take n xs) lo hi w)
        left =
            let lw : length (take n xs) ≡ n = length-take-le n xs le in
            omega (arith, spliced-length (take n xs) lo hi w h (omega arith))
