-- Laws of the fields of a word, over any layout: a word's values are read back as they were packed, and a word of the layout is packed again as it was.
-- A word is of the layout exactly when its top is the layout's kind and every bit that no field names is zero.
use mathlib.Core.Path.{◌≡◌, refl, sym, ap, ap₂, ◌∙◌, subst}
use mathlib.Core.Logic.{◌↔◌, ⊎_elim}
use mathlib.Core.Bool.{true}
use mathlib.Core.List.Memᴰ
use mathlib.Core.List.{List, [], ◌∷◌, map, Memᴰ}
use Prim.Native.Nat.{ℕ, zero, suc, ◌+◌, ◌-◌, ◌*◌, ◌/◌, ◌%◌, ◌^◌, ◌≤◌, ◌<◌}
use native.Mathlib.Nat.{le_trans, lt_of_lt_of_le, le_of_eq, mod-lt, mod-one, div-add-mod', add_assoc, add_comm, add-mul, mul_assoc, zero-add, zero-mul, sub-add_cancel}
use native.Mathlib.Decide.{dec_le, ℕ_discrete}
use native.Mathlib.Omega.{arith}
use Rattle.std.proofs.Math.Nat.{mod-eq_of_lt}
use Rattle.std.proofs.lemmas.Nat.{shl_below}
use lib.Dec.{eqb}
use lib.Arith.{digits_lt, digits_div}
use lib.Pow.{pow_pos, pow_mono, pow-add, high, low, mod-pow-add}
use borrow.Author.Tests.{eqb-true, eq-eqb, ne_eqb}
use Rattle.words.specs.Layout.{Field, Layout, get, place, pack, unpack, is_of, filled}

-- The fields lie below bit `top`, from the highest down, and do not overlap.
abbrev pub Descending : ℕ → List Field → Type 0
Descending top [] = Unit {0}
Descending top (f ∷ fs) = (f.shift + f.width ≤ top) × Descending f.shift fs

-- There are as many values as fields, and each fits its field.
abbrev pub Fitting : List Field → List ℕ → Type 0
Fitting [] [] = Unit {0}
Fitting [] (v ∷ vs) = ⊥
Fitting (f ∷ fs) [] = ⊥
Fitting (f ∷ fs) (v ∷ vs) = (v < 2 ^ f.width) × Fitting fs vs

-- No field holds bit b.
abbrev pub Unnamed : List Field → ℕ → Type 0
Unnamed fs b = (f : Field) → Memᴰ f fs → ¬ ((f.shift ≤ b) × (b < f.shift + f.width))

-- Bit b of the number is zero.
abbrev pub ZeroBit : ℕ → ℕ → Type 0
ZeroBit b w = w / 2 ^ b % 2 ≡ 0

-- ---- one field

-- The value of a field fits the field.
pub get-bound : (f : Field) (w : ℕ) → get f w < 2 ^ f.width
get-bound f w = mod-lt _ (pow_pos f.width)

-- A shift by `top` is a shift by the rest and then by s.
shift-twice : (h : ℕ) {s top : ℕ} → s ≤ top → h * 2 ^ top ≡ h * 2 ^ (top - s) * 2 ^ s
shift-twice h {s} {top} l =
    ap (λ (x : ℕ). h * 2 ^ x) (sym (sub-add_cancel l))
    ∙ ap (λ (x : ℕ). h * x) (pow-add 2 (top - s) s)
    ∙ sym (mul_assoc h (2 ^ (top - s)) (2 ^ s))

-- What stands above bit s is one number, shifted by s.
above : (h v r : ℕ) {s top : ℕ} → s ≤ top → h * 2 ^ top + (v * 2 ^ s + r) ≡ (h * 2 ^ (top - s) + v) * 2 ^ s + r
above h v r {s} {top} l =
    ap (λ (x : ℕ). x + (v * 2 ^ s + r)) (shift-twice h l)
    ∙ sym (add_assoc (h * 2 ^ (top - s) * 2 ^ s) (v * 2 ^ s) r)
    ∙ ap (λ (x : ℕ). x + r) (sym (add-mul (h * 2 ^ (top - s)) v (2 ^ s)))

-- A field reads the value that stands in it, whatever stands above and below it.
pub get-field : (f : Field) {top v r : ℕ} (h : ℕ) → f.shift + f.width ≤ top → v < 2 ^ f.width → r < 2 ^ f.shift
    → get f (h * 2 ^ top + (v * 2 ^ f.shift + r)) ≡ v
get-field f {top} {v} {r} h l hv hr =
    ap (λ (x : ℕ). x / 2 ^ f.shift % 2 ^ f.width) (above h v r (omega arith))
    ∙ ap (λ (x : ℕ). x % 2 ^ f.width) (high (h * 2 ^ (top - f.shift) + v) f.shift hr)
    ∙ ap (λ (x : ℕ). (x + v) % 2 ^ f.width) (shift-twice h {s = f.width} {top = top - f.shift} (omega arith))
    ∙ low (h * 2 ^ (top - f.shift - f.width)) f.width hv

-- ---- all fields of a layout

-- Values that fit fields below bit `top` make a number below 2 ^ top.
pub place-bound : (top : ℕ) (fs : List Field) (vs : List ℕ) → Descending top fs → Fitting fs vs → place fs vs < 2 ^ top
place-bound top [] vs d t = pow_pos top
place-bound top (f ∷ fs) [] d t = absurd t
place-bound top (f ∷ fs) (v ∷ vs) d t =
    lt_of_lt_of_le (digits_lt t.0 (place-bound f.shift fs vs d.1 t.1))
    (le_trans (le_of_eq (sym (pow-add 2 f.width f.shift))) (pow_mono (omega arith)))

-- Every field reads the value that was placed in it, whatever stands above bit `top`.
pub read-placed : (top : ℕ) (fs : List Field) (vs : List ℕ) (h : ℕ) → Descending top fs → Fitting fs vs
    → map (λ f. get f (h * 2 ^ top + place fs vs)) fs ≡ vs
read-placed top [] [] h d t = refl
read-placed top [] (v ∷ vs) h d t = absurd t
read-placed top (f ∷ fs) [] h d t = absurd t
read-placed top (f ∷ fs) (v ∷ vs) h d t =
    ap₂ ◌∷◌ (get-field f h d.0 t.0 (place-bound f.shift fs vs d.1 t.1))
    (subst (λ (w : ℕ). map (λ g. get g w) fs ≡ vs) (sym (above h v (place fs vs) (omega arith)))
    (read-placed f.shift fs vs (h * 2 ^ (top - f.shift) + v) d.1 t.1))

-- The fields' own values fit them.
pub read_fits : (fs : List Field) (w : ℕ) → Fitting fs (map (λ f. get f w) fs)
read_fits [] w = tt
read_fits (f ∷ fs) w = (get-bound f w, read_fits fs w)

-- ---- words of a layout

-- Unpacking a packed word gives the values back.
pub unpack-pack : (L : Layout) (vs : List ℕ) → Descending 30 L.fields → Fitting L.fields vs → unpack L (pack L vs) ≡ vs
unpack-pack L vs d t = read-placed 30 L.fields vs L.kind d t

-- A packed word is of its layout.
pub is_of-pack : (L : Layout) (vs : List ℕ) → Descending 30 L.fields → Fitting L.fields vs → is_of L (pack L vs) ≡ true
unfolding is_of
is_of-pack L vs d t = eq-eqb _ _ (ap (λ (us : List ℕ). pack L us) (sym (unpack-pack L vs d t)))

-- Packing the values of a word of the layout gives the word back.
pub pack-unpack : (L : Layout) (w : ℕ) → is_of L w ≡ true → pack L (unpack L w) ≡ w
unfolding is_of
pack-unpack L w e = sym (eqb-true _ _ e)

-- The values of any word fit the fields.
pub unpack-fits : (L : Layout) (w : ℕ) → Fitting L.fields (unpack L w)
unpack-fits L w = read_fits L.fields w

-- The top of a packed word is the kind.
pub kind-pack : (L : Layout) (vs : List ℕ) → Descending 30 L.fields → Fitting L.fields vs → pack L vs / 2 ^ 30 ≡ L.kind
kind-pack L vs d t = high L.kind 30 (place-bound 30 L.fields vs d t)

-- A packed word has 32 bits.
pub pack-bound : (L : Layout) (vs : List ℕ) → Descending 30 L.fields → Fitting L.fields vs → L.kind < 4 → pack L vs < 2 ^ 32
pack-bound L vs d t k = digits_lt k (place-bound 30 L.fields vs d t)

-- ---- unnamed bits

-- Bit b is zero where the rest stands below it and all else from bit `top` up.
between-zero : (h : ℕ) {b top r : ℕ} → b < top → r < 2 ^ b → ZeroBit b (h * 2 ^ top + r)
between-zero h {b} {top} {r} l k =
    ap (λ (x : ℕ). (h * 2 ^ top + x) / 2 ^ b % 2) (sym (ap (λ (x : ℕ). x + r) (zero-mul (2 ^ b)) ∙ zero-add r))
    ∙ get-field (record { shift = b; width = 1 }) h (omega arith) (omega arith) k

-- An unnamed bit is zero in a number with placed values.
unnamed_zero : (top : ℕ) (fs : List Field) (vs : List ℕ) (h b : ℕ) → Descending top fs → Fitting fs vs → b < top → Unnamed fs b
    → ZeroBit b (h * 2 ^ top + place fs vs)
unnamed_zero top [] vs h b d t l u = between-zero h l (pow_pos b)
unnamed_zero top (f ∷ fs) [] h b d t l u = absurd t
unnamed_zero top (f ∷ fs) (v ∷ vs) h b d t l u =
    split (dec_le (f.shift + f.width) b) (dec_le f.shift b)
    (λ k. unnamed_zero f.shift fs vs (h * 2 ^ (top - f.shift) + v) b d.1 t.1 k (λ g m. u g (Memᴰ.tail m)))
  where
    split : Dec (f.shift + f.width ≤ b) → Dec (f.shift ≤ b)
        → (b < f.shift → ZeroBit b ((h * 2 ^ (top - f.shift) + v) * 2 ^ f.shift + place fs vs))
        → ZeroBit b (h * 2 ^ top + place (f ∷ fs) (v ∷ vs))
    split (yes p) q below = between-zero h l (place-bound b (f ∷ fs) (v ∷ vs) (p, d.1) t)
    split (no p) (yes q) below = absurd (u f (Memᴰ.head refl) (q, omega arith))
    split (no p) (no q) below = subst (ZeroBit b) (sym (above h v (place fs vs) (omega arith))) (below (omega arith))

-- Zero bits add nothing to what stands below them.
zeros : (w s n : ℕ) → ((b : ℕ) → s ≤ b → b < n + s → ZeroBit b w) → w % 2 ^ (n + s) ≡ w % 2 ^ s
zeros w s zero z = ap (λ (x : ℕ). w % 2 ^ x) (zero-add s)
zeros w s (suc n) z =
    ap (λ (x : ℕ). w % 2 ^ x) (omega arith)
    ∙ mod-pow-add w 1 (n + s)
    ∙ ap (λ (x : ℕ). x * 2 ^ (n + s) + w % 2 ^ (n + s)) (z (n + s) (omega arith) (omega arith))
    ∙ ap (λ (x : ℕ). x + w % 2 ^ (n + s)) (zero-mul (2 ^ (n + s)))
    ∙ zero-add (w % 2 ^ (n + s))
    ∙ zeros w s n (λ b p q. z b p (omega arith))

-- The same for the bits from s up to `top`.
zeros-below : (w : ℕ) {s top : ℕ} → s ≤ top → ((b : ℕ) → s ≤ b → b < top → ZeroBit b w) → w % 2 ^ top ≡ w % 2 ^ s
zeros-below w {s} {top} l z =
    ap (λ (x : ℕ). w % 2 ^ x) (sym (sub-add_cancel l)) ∙ zeros w s (top - s) (λ b p q. z b p (omega arith))

-- Fields below bit `top` end there or below.
ends-below : (top : ℕ) (fs : List Field) → Descending top fs → (g : Field) → Memᴰ g fs → g.shift + g.width ≤ top
ends-below top [] d g m = absurd (Memᴰ.not-nil m)
ends-below top (f ∷ fs) d g m =
    ⊎_elim (λ (e : g ≡ f). subst (λ (x : Field). x.shift + x.width ≤ top) (sym e) d.0)
    (λ n. let l : g.shift + g.width ≤ f.shift = ends-below f.shift fs d.1 g n in omega arith)
    (Memᴰ.cases_cons m)

-- Fields below bit b do not name it.
unnamed_above : (b : ℕ) (fs : List Field) → Descending b fs → Unnamed fs b
unnamed_above b fs d g m h = let l : g.shift + g.width ≤ b = ends-below b fs d g m in omega arith

-- A bit below a field is unnamed with it where it is unnamed without it.
unnamed_cons : (f : Field) (fs : List Field) (b : ℕ) → b < f.shift → Unnamed fs b → Unnamed (f ∷ fs) b
unnamed_cons f fs b l u g m h =
    ⊎_elim (λ (e : g ≡ f). let k : g.shift ≡ f.shift = ap (λ (x : Field). x.shift) e in omega arith) (λ n. u g n h) (Memᴰ.cases_cons m)

-- The fields' values, in their places, are all that stands below bit `top`, where the unnamed bits are zero.
place_read : (top : ℕ) (fs : List Field) (w : ℕ) → Descending top fs → ((b : ℕ) → b < top → Unnamed fs b → ZeroBit b w)
    → w % 2 ^ top ≡ place fs (map (λ f. get f w) fs)
place_read top [] w d z = zeros-below w {s = 0} {top = top} (omega arith) (λ b p q. z b q (unnamed_above b [] tt)) ∙ mod-one w
place_read top (f ∷ fs) w d z =
    zeros-below w {s = f.width + f.shift} {top = top} (omega arith) (λ b p q. z b q (unnamed_above b (f ∷ fs) (omega arith, d.1)))
    ∙ mod-pow-add w f.width f.shift
    ∙ ap (λ (x : ℕ). get f w * 2 ^ f.shift + x) (place_read f.shift fs w d.1 (λ b p u. z b (omega arith) (unnamed_cons f fs b p u)))

-- A word is of the layout exactly when its top two bits are the kind and every bit that no field names is zero.
pub is_of-meaning : (L : Layout) (w : ℕ) → Descending 30 L.fields
    → (is_of L w ≡ true) ↔ ((w / 2 ^ 30 ≡ L.kind) × ((b : ℕ) → b < 30 → Unnamed L.fields b → ZeroBit b w))
unfolding is_of
is_of-meaning L w d = (
  λ e. (
    subst (λ (x : ℕ). x / 2 ^ 30 ≡ L.kind) (pack-unpack L w e) (kind-pack L (unpack L w) d (unpack-fits L w)),
    λ b l u. subst (ZeroBit b) (pack-unpack L w e) (unnamed_zero 30 L.fields (unpack L w) L.kind b d (unpack-fits L w) l u),
  ),
  λ m. eq-eqb _ _ (sym (div-add-mod' w (2 ^ 30)) ∙ ap₂ (λ (x y : ℕ). x * 2 ^ 30 + y) m.0 (place_read 30 L.fields w d m.1)),
)

-- ---- the tests

-- The fields fill the bits below `top`.
abbrev pub Filling : ℕ → List Field → Type 0
Filling top [] = top ≡ 0
Filling top (f ∷ fs) = (f.shift + f.width ≡ top) × Filling f.shift fs

-- The values of fields that fill the bits below `top`, in their places, are all that stands there.
pub place-filling : (top : ℕ) (fs : List Field) (w : ℕ) → Filling top fs → place fs (map (λ f. get f w) fs) ≡ w % 2 ^ top
place-filling top [] w c = sym (ap (λ (x : ℕ). w % 2 ^ x) c ∙ mod-one w)
place-filling top (f ∷ fs) w c =
    ap (λ (x : ℕ). get f w * 2 ^ f.shift + x) (place-filling f.shift fs w c.1)
    ∙ sym (mod-pow-add w f.width f.shift)
    ∙ ap (λ (x : ℕ). w % 2 ^ x) (add_comm f.width f.shift ∙ c.0)

-- Two tests for equality agree where each passes when the other does.
same_test : (a b m n : ℕ) → (a ≡ b → m ≡ n) → (m ≡ n → a ≡ b) → eqb a b ≡ eqb m n
same_test a b m n to from = pick (ℕ_discrete a b)
  where
    pick : Dec (a ≡ b) → eqb a b ≡ eqb m n
    pick (yes e) = eq-eqb a b e ∙ sym (eq-eqb m n (to e))
    pick (no e) = ne_eqb a b e ∙ sym (ne_eqb m n (λ q. e (from q)))

-- Where the fields fill the bits below `top`, a word is of the layout exactly when what stands from bit `top` up is the kind alone.
pub is_of-test : (L : Layout) (top d t w : ℕ) → Filling top L.fields → d ≡ 2 ^ top → t * d ≡ L.kind * 2 ^ 30 → eqb (w / d) t ≡ is_of L w
unfolding is_of
is_of-test L top d t w c p e = same_test (w / d) t w (pack L (unpack L w)) to from
  where
    packed : t * d + w % d ≡ pack L (unpack L w)
    packed = ap₂ ◌+◌ e (ap (λ (x : ℕ). w % x) p ∙ sym (place-filling top L.fields w c))

    to : w / d ≡ t → w ≡ pack L (unpack L w)
    to q = sym (div-add-mod' w d) ∙ ap (λ (x : ℕ). x * d + w % d) q ∙ packed

    from : w ≡ pack L (unpack L w) → w / d ≡ t
    from q = ap (λ (x : ℕ). x / d) (q ∙ sym packed) ∙ digits_div t (mod-lt w (subst (λ (x : ℕ). 0 < x) (sym p) (pow_pos top)))

-- Layouts of one kind whose fields fill the same bits have the same words.
pub is_of-filling : (L M : Layout) (top w : ℕ) → L.kind ≡ M.kind → Filling top L.fields → Filling top M.fields → is_of L w ≡ is_of M w
unfolding is_of
is_of-filling L M top w k c d =
    ap (eqb w)
    (ap₂ (λ (a b : ℕ). a * 2 ^ 30 + b) k (place-filling top L.fields w c ∙ sym (place-filling top M.fields w d)))

-- Where the lowest bits are the only field, a word is of the layout exactly when what stands above them is the kind, shifted as a word of 32 bits.
pub is_of-filled : (kind width w : ℕ) → kind < 4 → width ≤ 30 → eqb (w / 2 ^ width) (kind * 2 ^ (30 - width) % 2 ^ 32) ≡ is_of (filled kind width) w
is_of-filled kind width w k l =
    is_of-test (filled kind width) width (2 ^ width) _ w (zero-add width, refl) refl
    (ap (λ (n : ℕ). n * 2 ^ width) (mod-eq_of_lt (lt_of_lt_of_le (shl_below kind 2 (30 - width) k) (pow_mono {i = 2 + (30 - width)} {j = 32} (omega arith)))) ∙ sym (shift-twice kind l))
