-- The six words of document 01, packed and read again: each law is an instance of the laws of `Fields`.
use mathlib.Core.Path.{◌≡◌, ap, ◌∙◌}
use mathlib.Core.Bool.{true}
use mathlib.Core.List.{List, [], ◌∷◌}
use Prim.Native.Nat.{ℕ, ◌+◌, ◌-◌, ◌≤◌, ◌<◌}
use native.Mathlib.Nat.{add-sub_cancel, sub-add_cancel}
use native.Mathlib.Omega.{arith}
use lib.ListN.{get_or}
use Rattle.journeys.specs.declared.Contact.{Contact}
use Rattle.journeys.specs.declared.Interval.{Interval}
use Rattle.journeys.specs.Journey.{contact, interval}
use Rattle.words.specs.Layout.{Field, Layout, get, pack, unpack, is_of, capacity}
use Rattle.words.specs.Words.{unused_layout, unused_word, departure_field, arrival_field, interval_layout, interval_word, interval_of, from_field, to_field, tick_field, contact_layout, contact_word, contact_of, animals_field, carry_field, ticks_field, opening_layout, opening_word, animals_of, ticks_of, carry_of, rows_field, count_layout, count_word, logged_field, end_layout, end_word}
use Rattle.words.proofs.Fields.{Descending, Fitting, get-bound, unpack-pack, is_of-pack, pack-unpack}

-- A number that is kept less 1 fits its field with 1 more, and is at least 1.
one-more_bound : (f : Field) (w : ℕ) → (1 ≤ get f w + 1) × (get f w + 1 ≤ capacity f)
one-more_bound f w = omega (arith, get-bound f w)

-- ---- unused

-- The unused word is unused.
pub unused_word-is : is_of unused_layout unused_word ≡ true
unused_word-is = is_of-pack unused_layout [] tt tt

-- No other word is unused.
pub unused_word-only : (w : ℕ) → is_of unused_layout w ≡ true → unused_word ≡ w
unused_word-only = pack-unpack unused_layout

-- ---- interval

-- The fields of an interval word lie below bit 30 and do not overlap.
pub interval-descends : Descending 30 interval_layout.fields
interval-descends = (omega arith, (omega arith, tt))

-- The values of an interval word's fields.
abbrev interval_values : Interval → List ℕ
interval_values i = i.departure ∷ i.arrival ∷ []

module _ (i : Interval) (d : i.departure < capacity departure_field) (a : i.arrival < capacity arrival_field) where
  -- An interval word says its interval.
  pub interval_of-word : interval_of (interval_word i) ≡ i
  interval_of-word = ap (λ (vs : List ℕ). interval (get_or vs 0 0) (get_or vs 1 0)) (unpack-pack interval_layout (interval_values i) interval-descends (d, (a, tt)))

  -- An interval word is one.
  pub interval_word-is : is_of interval_layout (interval_word i) ≡ true
  interval_word-is = is_of-pack interval_layout (interval_values i) interval-descends (d, (a, tt))

-- An interval word is the word of the interval that it says.
pub interval_word-of : (w : ℕ) → is_of interval_layout w ≡ true → interval_word (interval_of w) ≡ w
interval_word-of = pack-unpack interval_layout

-- ---- contact

-- The fields of a contact word lie below bit 30 and do not overlap.
pub contact-descends : Descending 30 contact_layout.fields
contact-descends = (omega arith, (omega arith, (omega arith, tt)))

-- The values of a contact word's fields.
abbrev contact_values : Contact → List ℕ
contact_values k = k.from ∷ k.to ∷ (k.tick - 1) ∷ []

module _ (k : Contact) (u : k.from < capacity from_field) (v : k.to < capacity to_field) (l : 1 ≤ k.tick) (m : k.tick ≤ capacity tick_field) where
  -- The values fit their fields.
  contact-fits : Fitting contact_layout.fields (contact_values k)
  contact-fits = (u, (v, (omega arith, tt)))

  -- A contact word says its contact.
  pub contact_of-word : contact_of (contact_word k) ≡ k
  contact_of-word =
      ap (λ (vs : List ℕ). contact (get_or vs 0 0) (get_or vs 1 0) (get_or vs 2 0 + 1))
      (unpack-pack contact_layout (contact_values k) contact-descends contact-fits)
      ∙ ap (λ (t : ℕ). contact k.from k.to t) (sub-add_cancel l)

  -- A contact word is one.
  pub contact_word-is : is_of contact_layout (contact_word k) ≡ true
  contact_word-is = is_of-pack contact_layout (contact_values k) contact-descends contact-fits

-- A contact word is the word of the contact that it says.
pub contact_word-of : (w : ℕ) → is_of contact_layout w ≡ true → contact_word (contact_of w) ≡ w
contact_word-of w e =
    ap (λ (t : ℕ). pack contact_layout (get from_field w ∷ get to_field w ∷ t ∷ [])) (add-sub_cancel (get tick_field w) 1)
    ∙ pack-unpack contact_layout w e

-- The animals and the tick that a word says fit their fields.
pub contact_of-bound : (w : ℕ) → ((contact_of w).from < capacity from_field) × ((contact_of w).to < capacity to_field) × (1 ≤ (contact_of w).tick) × ((contact_of w).tick ≤ capacity tick_field)
contact_of-bound w = let t = one-more_bound tick_field w in (get-bound from_field w, get-bound to_field w, t.0, t.1)

-- ---- opening

-- The fields of an opening word lie below bit 30 and do not overlap.
pub opening-descends : Descending 30 opening_layout.fields
opening-descends = (omega arith, (omega arith, (omega arith, tt)))

-- The values of an opening word's fields.
abbrev opening_values : ℕ → ℕ → ℕ → List ℕ
opening_values n τ δ = (n - 1) ∷ (δ - 1) ∷ (τ - 1) ∷ []

module _ (n τ δ : ℕ) (n₁ : 1 ≤ n) (n₂ : n ≤ capacity animals_field) (τ₁ : 1 ≤ τ) (τ₂ : τ ≤ capacity ticks_field) (δ₁ : 1 ≤ δ) (δ₂ : δ ≤ capacity carry_field) where
  -- The values fit their fields.
  opening-fits : Fitting opening_layout.fields (opening_values n τ δ)
  opening-fits = (omega arith, (omega arith, (omega arith, tt)))

  -- Unpacking gives the values back.
  opening-read : unpack opening_layout (opening_word n τ δ) ≡ opening_values n τ δ
  opening-read = unpack-pack opening_layout (opening_values n τ δ) opening-descends opening-fits

  -- An opening word says its number of animals.
  pub animals_of-word : animals_of (opening_word n τ δ) ≡ n
  animals_of-word = ap (λ (vs : List ℕ). get_or vs 0 0 + 1) opening-read ∙ sub-add_cancel n₁

  -- An opening word says its number of ticks.
  pub ticks_of-word : ticks_of (opening_word n τ δ) ≡ τ
  ticks_of-word = ap (λ (vs : List ℕ). get_or vs 2 0 + 1) opening-read ∙ sub-add_cancel τ₁

  -- An opening word says its carry time.
  pub carry_of-word : carry_of (opening_word n τ δ) ≡ δ
  carry_of-word = ap (λ (vs : List ℕ). get_or vs 1 0 + 1) opening-read ∙ sub-add_cancel δ₁

  -- An opening word is one.
  pub opening_word-is : is_of opening_layout (opening_word n τ δ) ≡ true
  opening_word-is = is_of-pack opening_layout (opening_values n τ δ) opening-descends opening-fits

-- An opening word is the word of the numbers that it says.
pub opening_word-of : (w : ℕ) → is_of opening_layout w ≡ true → opening_word (animals_of w) (ticks_of w) (carry_of w) ≡ w
opening_word-of w e =
    rw (add-sub_cancel (get animals_field w) 1, add-sub_cancel (get carry_field w) 1, add-sub_cancel (get ticks_field w) 1) (pack-unpack opening_layout w e)

-- The number of animals that a word says fits its field and is at least 1.
pub animals_of-bound : (w : ℕ) → (1 ≤ animals_of w) × (animals_of w ≤ capacity animals_field)
animals_of-bound w = one-more_bound animals_field w

-- The number of ticks that a word says fits its field and is at least 1.
pub ticks_of-bound : (w : ℕ) → (1 ≤ ticks_of w) × (ticks_of w ≤ capacity ticks_field)
ticks_of-bound w = one-more_bound ticks_field w

-- The carry time that a word says fits its field and is at least 1.
pub carry_of-bound : (w : ℕ) → (1 ≤ carry_of w) × (carry_of w ≤ capacity carry_field)
carry_of-bound w = one-more_bound carry_field w

-- ---- count, and end of log: words with one field

module _ (kind : ℕ) (f : Field) (d : Descending 30 (f ∷ [])) (v : ℕ) (l : v < capacity f) where
  -- The layout of such a word.
  abbrev single : Layout
  single = record { kind = kind; fields = f ∷ [] }

  -- The word says the value.
  single-read : get f (pack single (v ∷ [])) ≡ v
  single-read = ap (λ (vs : List ℕ). get_or vs 0 0) (unpack-pack single (v ∷ []) d (l, tt))

  -- The word is of the layout.
  single-is : is_of single (pack single (v ∷ [])) ≡ true
  single-is = is_of-pack single (v ∷ []) d (l, tt)

-- The field of a count word lies below bit 30.
pub count-descends : Descending 30 count_layout.fields
count-descends = (omega arith, tt)

-- A count word says its number of rows.
pub rows_of_word : (k : ℕ) → k < capacity rows_field → get rows_field (count_word k) ≡ k
rows_of_word = single-read 3 rows_field count-descends

-- A count word is one.
pub count_word-is : (k : ℕ) → k < capacity rows_field → is_of count_layout (count_word k) ≡ true
count_word-is = single-is 3 rows_field count-descends

-- A count word is the word of the number of rows that it says.
pub count_word-of : (w : ℕ) → is_of count_layout w ≡ true → count_word (get rows_field w) ≡ w
count_word-of = pack-unpack count_layout

-- The field of an end word lies below bit 30.
pub end-descends : Descending 30 end_layout.fields
end-descends = (omega arith, tt)

-- An end word says its number of contacts.
pub logged_of_word : (k : ℕ) → k < capacity logged_field → get logged_field (end_word k) ≡ k
logged_of_word = single-read 3 logged_field end-descends

-- An end word is one.
pub end_word-is : (k : ℕ) → k < capacity logged_field → is_of end_layout (end_word k) ≡ true
end_word-is = single-is 3 logged_field end-descends

-- An end word is the word of the number of contacts that it says.
pub end_word-of : (w : ℕ) → is_of end_layout w ≡ true → end_word (get logged_field w) ≡ w
end_word-of = pack-unpack end_layout

-- The number of contacts that a word says fits its field.
pub logged_of_bound : (w : ℕ) → get logged_field w < capacity logged_field
logged_of_bound = get-bound logged_field
