-- The invariant of a loop that lends the parts of a list one after the other to be written: where it starts, one turn, where it ends.
use Prim.Native.Nat.{ℕ, ◌+◌, ◌-◌, ◌*◌, ◌<◌, ◌≤◌}
use mathlib.Core.Path.{◌≡◌, refl, sym, ap, ◌∙◌}
use mathlib.Core.List.{List, ◌++◌, append_assoc}
use native.Mathlib.Nat.{zero-mul}
use native.Mathlib.Numerals.{add-one}
use native.Mathlib.Omega.{arith}
use lib.ListN.{length, take, drop, length-append}
use lib.Seq.{drop_at, drop-drop, length-take-le}
use borrow.Rule.Slice.PartMut.{same_len_mid}
use Rattle.grid.specs.Parts.{part, parts}
use Rattle.grid.proofs.Places.{lent-words, lent_length, next-part}
use Rattle.grid.proofs.Reading.{Through, through-start, through-room, through-turn}

-- What lies past a replaced part is as it was.
past-part : (l out new : List ℕ) (at s : ℕ) → at + s ≤ length out → length new ≡ length (take (at + s - at) (drop at out)) → drop at out ≡ drop at l
    → drop (at + s) (take at out ++ (new ++ drop (at + s - at) (drop at out))) ≡ drop (at + s) l
past-part l out new at s le en ed =
    let k : at + s - at ≡ s = omega arith in
    let a : length (take at out) ≡ at = length-take-le at out (omega arith) in
    let b : length new ≡ s = en ∙ lent_length out at s le in
    let c : length (take at out ++ new) ≡ at + s = length-append (take at out) new ∙ omega arith in
    ap (drop (at + s)) (sym (append_assoc (take at out) new (drop (at + s - at) (drop at out))))
    ∙ drop_at (take at out ++ new) (drop (at + s - at) (drop at out)) (at + s) c
    ∙ ap (λ (i : ℕ). drop i (drop at out)) k
    ∙ ap (drop s) ed
    ∙ drop-drop s at l

-- `out` is l with the first y of its n parts replaced, `at` is where the next part begins, and what lies from there on is as it was.
pub record Walk (f : ℕ → List ℕ → List ℕ) (s n : ℕ) (l out : List ℕ) (at y : ℕ) : Type 0 where
  pub through : Through s n at y
  pub len : length out ≡ length l
  pub is : out ≡ parts f s y l
  pub rest : drop at out ≡ drop at l

pub walk_start : (f : ℕ → List ℕ → List ℕ) (s n : ℕ) (l : List ℕ) → Walk f s n l l 0 0
walk_start f s n l = record { through = through-start s n; len = refl; is = unfold parts in refl; rest = refl }

module _ {f : ℕ → List ℕ → List ℕ} {s n : ℕ} {l out : List ℕ} {at y : ℕ} (w : Walk f s n l out at y) where
  -- The next part lies inside the list.
  pub walk_room : n * s ≤ length l → y < n → at + s ≤ length out
  walk_room h t = omega (arith, through-room w.through l h t, w.len)

  -- The next part is as it was at first.
  pub walk_same : take (at + s - at) (drop at out) ≡ part s y l
  walk_same = lent-words out at s ∙ ap (take s) w.rest ∙ ap (λ (i : ℕ). take s (drop i l)) w.through.place

  pub walk_lent : (P : List ℕ → Type 0) → P (part s y l) → P (take (at + s - at) (drop at out))
  walk_lent P h = rw walk_same h

  walk_is : (new : List ℕ) → new ≡ f y (take (at + s - at) (drop at out)) → take at out ++ (new ++ drop (at + s - at) (drop at out)) ≡ parts f s (y + 1) l
  unfolding parts
  walk_is new en = let k : at + s - at ≡ s = omega arith in rw (en, k, w.through.place, w.is, add-one) refl

  -- One turn: what a callee made of the part that it was lent stands in the part's place.
  pub walk_turn : n * s ≤ length l → y < n → (new : List ℕ) → length new ≡ length (take (at + s - at) (drop at out)) → new ≡ f y (take (at + s - at) (drop at out))
      → Walk f s n l (take at out ++ (new ++ drop (at + s - at) (drop at out))) (at + s) (y + 1)
  walk_turn h t new en ef =
      record {
        through = through-turn w.through t;
        len = same_len_mid at (at + s - at) out new en ∙ w.len;
        is = walk_is new ef;
        rest = past-part l out new at s (walk_room h t) en w.rest;
      }

  pub walk_end : n ≤ y → out ≡ parts f s n l
  walk_end h = let e : y ≡ n = omega (arith, w.through.below) in w.is ∙ ap (λ (k : ℕ). parts f s k l) e

-- ---- the same where the place of a part is computed from its number

pub walk_first : (f : ℕ → List ℕ → List ℕ) (s n : ℕ) (l : List ℕ) → Walk f s n l l (0 * s) 0
walk_first f s n l = rw (zero-mul s) (walk_start f s n l)

pub walk_next : {f : ℕ → List ℕ → List ℕ} {s n : ℕ} {l out : List ℕ} {y : ℕ} → Walk f s n l out (y * s) y → n * s ≤ length l → y < n → (new : List ℕ)
    → length new ≡ length (take (y * s + s - y * s) (drop (y * s) out)) → new ≡ f y (take (y * s + s - y * s) (drop (y * s) out))
    → Walk f s n l (take (y * s) out ++ (new ++ drop (y * s + s - y * s) (drop (y * s) out))) ((y + 1) * s) (y + 1)
walk_next {s} {y} w h t new en ef = rw (next-part y s) (walk_turn w h t new en ef)
