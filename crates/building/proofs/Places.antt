-- One part of a list replaced, and the numbers of cells.
use mathlib.Core.Path.{◌≡◌, refl, sym, ap, ap₂, ◌∙◌}
use mathlib.Core.Logic.{◌≢◌, ◌⊎◌, inl, inr}
use mathlib.Core.List.{List, ◌∷◌, ◌++◌, append_assoc}
use Prim.Native.Nat.{ℕ, zero, suc, ◌+◌, ◌-◌, ◌*◌, ◌/◌, ◌%◌, ◌≤◌, ◌<◌}
use native.Mathlib.Nat.{mul-le-mul_right, mod-lt, div-add-mod'}
use native.Mathlib.Decide.{ℕ_discrete, dec_le}
use native.Mathlib.Omega.{arith}
use lib.ListN.{length, get_or, take, drop, set, length-append, length-drop, take-append-drop}
use lib.Seq.{length-take-le, take_at, drop_at, take-append-le, drop-append-le, take-take, drop-drop, take-add, set_split, get_or-take, get_or-drop}
use Rattle.grid.specs.Parts.{part, put}
use Rattle.grid.proofs.Places.{part-inside, part_length}

-- Of two different numbers one is below.
pub apart : (j k : ℕ) → j ≢ k → (j < k) ⊎ (k < j)
apart zero zero d = absurd (d refl)
apart zero (suc k) d = inl (omega arith)
apart (suc j) zero d = inr (omega arith)
apart (suc j) (suc k) d = go (apart j k (λ e. d (ap suc e)))
  where
    go : (j < k) ⊎ (k < j) → (suc j < suc k) ⊎ (suc k < suc j)
    go (inl h) = inl (omega arith)
    go (inr h) = inr (omega arith)

module _ (s k : ℕ) (new l : List ℕ) (n-long : length new ≡ s) (inside : k * s + s ≤ length l) where
  front : length (take (k * s) l) ≡ k * s
  front = length-take-le (k * s) l (omega arith)

  -- The list keeps its length.
  pub put-length : length (put s k new l) ≡ length l
  put-length =
      length-append (take (k * s) l) (new ++ drop s (drop (k * s) l))
      ∙ omega (arith, front, length-append new (drop s (drop (k * s) l)), length-drop s (drop (k * s) l), length-drop (k * s) l)

  -- The part that was replaced.
  pub part-put_here : part s k (put s k new l) ≡ new
  part-put_here =
      ap (take s) (drop_at (take (k * s) l) (new ++ drop s (drop (k * s) l)) (k * s) front) ∙ take_at new (drop s (drop (k * s) l)) s n-long

  -- Any other part is as it was.
  pub part-put_there : (j : ℕ) → j ≢ k → part s j (put s k new l) ≡ part s j l
  part-put_there j d = go (apart j k d)
    where
      tail : List ℕ
      tail = new ++ drop s (drop (k * s) l)

      below : j * s + s ≤ k * s → take s (drop (j * s) (take (k * s) l ++ tail)) ≡ take s (drop (j * s) l)
      below h =
          ap (take s) (drop-append-le (j * s) (take (k * s) l) tail (omega (arith, front)))
          ∙ take-append-le s (drop (j * s) (take (k * s) l)) tail (omega (arith, front, length-drop (j * s) (take (k * s) l)))
          ∙ sym (take-append-le s (drop (j * s) (take (k * s) l)) (drop (k * s) l) (omega (arith, front, length-drop (j * s) (take (k * s) l))))
          ∙ ap (take s) (sym (drop-append-le (j * s) (take (k * s) l) (drop (k * s) l) (omega (arith, front))))
          ∙ ap (λ (m : List ℕ). take s (drop (j * s) m)) (take-append-drop (k * s) l)

      above : k * s + s ≤ j * s → take s (drop (j * s) (take (k * s) l ++ tail)) ≡ take s (drop (j * s) l)
      above h =
          let i : ℕ = j * s - (k * s + s) in
          let e : k * s + s + i ≡ j * s = omega arith in
          let p : length (take (k * s) l ++ new) ≡ k * s + s = length-append (take (k * s) l) new ∙ omega (arith, front) in
          ap (λ (m : ℕ). take s (drop m (take (k * s) l ++ tail))) (sym e)
          ∙ ap (take s)
          (sym (drop-drop i (k * s + s) (take (k * s) l ++ tail))
          ∙ ap (drop i)
          (ap (drop (k * s + s)) (sym (append_assoc (take (k * s) l) new (drop s (drop (k * s) l))))
          ∙ drop_at (take (k * s) l ++ new) (drop s (drop (k * s) l)) (k * s + s) p
          ∙ drop-drop s (k * s) l)
          ∙ drop-drop i (k * s + s) l)
          ∙ ap (λ (m : ℕ). take s (drop m l)) e

      go : (j < k) ⊎ (k < j) → take s (drop (j * s) (take (k * s) l ++ tail)) ≡ take s (drop (j * s) l)
      go (inl h) = below (part-inside j k s h)
      go (inr h) = above (part-inside k j s h)

-- A word set inside a part replaces that part.
pub set-put : (s k : ℕ) (l : List ℕ) (i w : ℕ) → i < s → k * s + s ≤ length l → set l (k * s + i) w ≡ put s k (set (part s k l) i w) l
set-put s k l i w h inside =
    let a = set_split l (k * s + i) w (omega arith) in
    let p : length (part s k l) ≡ s = part_length s k l inside in
    let b = set_split (part s k l) i w (omega arith) in
    let x : take (k * s + i) l ≡ take (k * s) l ++ take i (drop (k * s) l) = take-add (k * s) i l in
    let y : take i (part s k l) ≡ take i (drop (k * s) l) = take-take i s (drop (k * s) l) (omega arith) in
    let q : suc (k * s + i) ≡ k * s + suc i = omega arith in
    let z : drop (suc (k * s + i)) l ≡ drop (suc i) (drop (k * s) l) = ap (λ (m : ℕ). drop m l) q ∙ sym (drop-drop (suc i) (k * s) l) in
    let r : drop (suc i) (part s k l) ++ drop s (drop (k * s) l) ≡ drop (suc i) (drop (k * s) l) =
    sym (drop-append-le (suc i) (part s k l) (drop s (drop (k * s) l)) (omega arith)) ∙ ap (drop (suc i)) (take-append-drop s (drop (k * s) l)) in
    a
    ∙ ap₂ (λ (m o : List ℕ). m ++ w ∷ o) x z
    ∙ append_assoc (take (k * s) l) (take i (drop (k * s) l)) (w ∷ drop (suc i) (drop (k * s) l))
    ∙ ap (λ (m : List ℕ). take (k * s) l ++ (take i (drop (k * s) l) ++ w ∷ m)) (sym r)
    ∙ ap (λ (m : List ℕ). take (k * s) l ++ m)
    (sym (append_assoc (take i (drop (k * s) l)) (w ∷ drop (suc i) (part s k l)) (drop s (drop (k * s) l)))
    ∙ ap (λ (m : List ℕ). m ++ drop s (drop (k * s) l)) (ap (λ (m : List ℕ). m ++ w ∷ drop (suc i) (part s k l)) (sym y) ∙ sym b))

-- A word of a part is one of the list.
pub get_d_part : (s k i : ℕ) (l : List ℕ) → i < s → k * s + s ≤ length l → get_or (part s k l) i 0 ≡ get_or l (k * s + i) 0
get_d_part s k i l h inside = get_or-take {A = ℕ} s (drop (k * s) l) i 0 h ∙ get_or-drop {A = ℕ} (k * s) l i 0

-- ---- the numbers of cells

-- A number below n·n is that of a cell below n, and of one only.
pub number_same : (n x y u v : ℕ) → y < n → v < n → x * n + y ≡ u * n + v → (x ≡ u) × (y ≡ v)
number_same n x y u v h k e = go (ℕ_discrete x u)
  where
    go : Dec (x ≡ u) → (x ≡ u) × (y ≡ v)
    go (yes p) = (p, let q : x * n ≡ u * n = ap (λ (i : ℕ). i * n) p in omega arith)
    go (no d) = absurd (other (apart x u d))
      where
        other : (x < u) ⊎ (u < x) → ⊥
        other (inl l) = let r = part-inside x u n l in omega arith
        other (inr l) = let r = part-inside u x n l in omega arith

-- The animals of cell number c.
pub record PairOf (n c : ℕ) : Type 0 where
  pub from_below : c / n < n
  pub to_below : c % n < n
  pub number : c / n * n + c % n ≡ c

-- Both lie below n, and the number is theirs.
pub pair_of : (n c : ℕ) → c < n * n → PairOf n c
pair_of n c h = record { from_below = go (dec_le n (c / n)); to_below = mod-lt c {m = n} low; number = div-add-mod' c n }
  where
    low : 1 ≤ n
    low = some n h
      where
        some : (n : ℕ) → c < n * n → 1 ≤ n
        some zero q = absurd (omega arith)
        some (suc n) q = omega arith

    go : Dec (n ≤ c / n) → c / n < n
    go (yes q) = absurd (let w = mul-le-mul_right n q in omega (arith, div-add-mod' c n))
    go (no q) = omega (arith, q)
