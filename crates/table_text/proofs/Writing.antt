-- A text written piece by piece to the front of a list.
use mathlib.Core.Path.{◌≡◌, refl, sym, ap, ap₂, ◌∙◌, subst}
use mathlib.Core.List.{List, [], ◌∷◌, ◌++◌, append_assoc, append-nil}
use Prim.Native.Nat.{ℕ, ◌+◌, ◌-◌, ◌≤◌}
use native.Mathlib.Nat.{zero-add}
use native.Mathlib.Omega.{arith}
use lib.ListN.{length, take, drop, set, length-append, length-drop, take-append-drop, drop_of_length-le}
use lib.Seq.{take_all, take_at, drop_at, drop-drop, sets, sets-eq, length-take-le}
use Rattle.rules.specs.Sheet.{decimal}
use Rattle.table_text.specs.Lines.{overwrite_front}

-- Of the text `all` the part before `at` is written, and `rest` is left; from `at` on the list is as it was.
pub record Writing (all l out : List ℕ) (at : ℕ) (rest : List ℕ) : Type 0 where
  pub whole : take at out ++ rest ≡ all
  pub behind : drop at out ≡ drop at l
  pub kept : length out ≡ length l
  pub room : at + length rest ≤ length out

-- The list with what a callee left in the rest that it was lent.
abbrev pub back : List ℕ → ℕ → List ℕ → List ℕ
back out at new = take at out ++ (new ++ drop (length out - at) (drop at out))

-- At first all is left.
pub start : (all l rest : List ℕ) → rest ≡ all → length all ≤ length l → Writing all l l 0 rest
start all l rest e h = record { whole = e; behind = refl; kept = refl; room = omega (arith, ap length e) }

-- A text, a byte and more: the text with the byte behind it, then more.
pub then : (text : List ℕ) (b : ℕ) (more : List ℕ) → text ++ (b ∷ more) ≡ (text ++ (b ∷ [])) ++ more
then text b more = sym (append_assoc text (b ∷ []) more)

module _ {all l out : List ℕ} {at : ℕ} {rest : List ℕ} (w : Writing all l out at rest) where
  -- The part written ends at `at`.
  front : length (take at out) ≡ at
  front = length-take-le at out (omega (arith, w.room))

  -- The rest of the list, as it is lent.
  lent : take (length out - at) (drop at out) ≡ drop at out
  lent = take_all (length out - at) (drop at out) (omega (arith, length-drop at out))

  -- The place lies inside the list.
  pub inside : (at ≤ length out) × (at ≤ length l)
  inside = (omega (arith, w.room), omega (arith, w.room, w.kept))

  -- The next piece fits the rest of the list.
  pub fits : (text more : List ℕ) → rest ≡ text ++ more → length text ≤ length (take (length out - at) (drop at out))
  fits text more e = rw lent (omega (arith, length-drop at out, w.room, ap length e, length-append text more))

  -- The next piece stands behind the part written.
  next : (new text more : List ℕ) (k : ℕ) → rest ≡ text ++ more → k ≡ length text → new ≡ (take at out ++ text) ++ drop (at + k) out → Writing all l new (at + k) more
  next new text more k e i f =
      let h : length (take at out ++ text) ≡ at + k = length-append (take at out) text ∙ omega (arith, front) in
      let size : length new ≡ length out =
      ap length f
      ∙ length-append (take at out ++ text) (drop (at + k) out)
      ∙ omega (arith, h, length-drop (at + k) out, w.room, ap length e, length-append text more) in
      record {
        whole =
            ap (λ (x : List ℕ). take (at + k) x ++ more) f
            ∙ ap (λ (x : List ℕ). x ++ more) (take_at (take at out ++ text) (drop (at + k) out) (at + k) h)
            ∙ append_assoc (take at out) text more
            ∙ ap (λ (x : List ℕ). take at out ++ x) (sym e)
            ∙ w.whole;
        behind =
            ap (drop (at + k)) f
            ∙ drop_at (take at out ++ text) (drop (at + k) out) (at + k) h
            ∙ sym (drop-drop k at out)
            ∙ ap (drop k) w.behind
            ∙ drop-drop k at l;
        kept = size ∙ w.kept;
        room = omega (arith, size, w.room, ap length e, length-append text more);
      }

  -- A piece is written by a callee that was lent the rest of the list.
  pub piece : (new text more : List ℕ) (k : ℕ) → rest ≡ text ++ more → k ≡ length text → new ≡ overwrite_front text (take (length out - at) (drop at out))
      → Writing all l (back out at new) (at + k) more
  unfolding overwrite_front
  piece new text more k e i f =
      next _ text more k e i
      (ap₂ (λ (x y : List ℕ). take at out ++ (x ++ y)) (f ∙ ap₂ (λ (x : List ℕ) (j : ℕ). text ++ drop j x) lent (sym i)) (drop_of_length-le (drop at out) {i = length out - at} (omega (arith, length-drop at out)))
      ∙ ap (λ (x : List ℕ). take at out ++ x) (append-nil (text ++ drop k (drop at out)))
      ∙ ap (λ (x : List ℕ). take at out ++ (text ++ x)) (drop-drop k at out)
      ∙ sym (append_assoc (take at out) text (drop (at + k) out)))

  -- The last piece fits the rest of the list, and is written there.
  pub fits_last : (text : List ℕ) → rest ≡ text → length text ≤ length (take (length out - at) (drop at out))
  fits_last text e = fits text [] (e ∙ sym (append-nil text))

  pub last : (new text : List ℕ) (k : ℕ) → rest ≡ text → k ≡ length text → new ≡ overwrite_front text (take (length out - at) (drop at out)) → Writing all l (back out at new) (at + k) []
  last new text k e i f = piece new text [] k (e ∙ sym (append-nil text)) i f

  -- A number with the byte behind it fits the rest of the list, and is written there.
  pub number_fits : (k b : ℕ) (more : List ℕ) → rest ≡ decimal k ++ (b ∷ more) → length (decimal k ++ (b ∷ [])) ≤ length (take (length out - at) (drop at out))
  number_fits k b more e = fits (decimal k ++ (b ∷ [])) more (e ∙ then (decimal k) b more)

  pub number : (new more : List ℕ) (k b r : ℕ) → rest ≡ decimal k ++ (b ∷ more) → r ≡ length (decimal k ++ (b ∷ [])) → new ≡ overwrite_front (decimal k ++ (b ∷ [])) (take (length out - at) (drop at out))
      → Writing all l (back out at new) (at + r) more
  number new more k b r e i f = piece new (decimal k ++ (b ∷ [])) more r (e ∙ then (decimal k) b more) i f

  -- Bytes are written one after the other.
  pub bytes : (text more : List ℕ) → rest ≡ text ++ more → Writing all l (sets out at text) (at + length text) more
  bytes text more e = next (sets out at text) text more (length text) e refl (sets-eq text out at (omega (arith, w.room, ap length e, length-append text more)))

  pub byte : (b : ℕ) (more : List ℕ) → rest ≡ b ∷ more → Writing all l (set out at b) (at + 1) more
  byte b more e = bytes (b ∷ []) more e

  -- At the end the text stands at the front of the list.
  pub end : rest ≡ [] → (at ≡ length all) × (out ≡ overwrite_front all l)
  unfolding overwrite_front
  end e =
      let h : take at out ≡ all = sym (append-nil (take at out)) ∙ ap (λ (x : List ℕ). take at out ++ x) (sym e) ∙ w.whole in
      let i : at ≡ length all = sym front ∙ ap length h in
      (i, sym (take-append-drop at out) ∙ ap₂ ◌++◌ h (w.behind ∙ ap (λ (j : ℕ). drop j l) i))

module _ {all l out : List ℕ} {at : ℕ} {rest : List ℕ} (w : Writing all l out at rest) (b : ℕ) where
  -- The last byte, b, ends the text; any x equal to b may be stored for it.
  pub last-place : rest ≡ b ∷ [] → at + 1 ≡ length all
  last-place e = (end (byte w b [] e) refl).0

  pub last_byte : (x : ℕ) → rest ≡ b ∷ [] → x ≡ b → set out at x ≡ overwrite_front all l
  last_byte x e i = ap (set out at) i ∙ (end (byte w b [] e) refl).1

-- The first piece fits the whole list.
pub fits_whole : (all l text more : List ℕ) → text ++ more ≡ all → length all ≤ length l → length text ≤ length l
fits_whole all l text more e h = omega (arith, ap length e, length-append text more)

-- So does a first number with the byte behind it.
pub number-fits_whole : (all l more : List ℕ) (k b : ℕ) → all ≡ decimal k ++ (b ∷ more) → length all ≤ length l → length (decimal k ++ (b ∷ [])) ≤ length l
number-fits_whole all l more k b e h = fits_whole all l (decimal k ++ (b ∷ [])) more (sym (e ∙ then (decimal k) b more)) h

-- The first piece is written by a callee that was lent the whole list.
pub first : {all l : List ℕ} (new text more : List ℕ) (k : ℕ) → text ++ more ≡ all → k ≡ length text → new ≡ overwrite_front text l → length all ≤ length l → Writing all l new k more
unfolding overwrite_front
first {all} {l} new text more k e i f h =
    subst (λ (j : ℕ). Writing all l new j more) (zero-add k)
    (next (start all l (text ++ more) e h) new text more k refl i (f ∙ ap (λ (j : ℕ). text ++ drop j l) (sym i ∙ sym (zero-add k))))

-- So is a first number with the byte behind it.
pub first-number : {all l : List ℕ} (new more : List ℕ) (k b r : ℕ) → all ≡ decimal k ++ (b ∷ more) → r ≡ length (decimal k ++ (b ∷ [])) → new ≡ overwrite_front (decimal k ++ (b ∷ [])) l → length all ≤ length l
    → Writing all l new r more
first-number new more k b r e i f h = first new (decimal k ++ (b ∷ [])) more r (sym (e ∙ then (decimal k) b more)) i f h
