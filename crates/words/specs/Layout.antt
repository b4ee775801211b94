-- A 32-bit word as its kind, in the top two bits, and its fields; bits outside them are 0. Bits are counted from the lowest, bit 0.
use Rattle.std.specs.Prelude.{Bool, List, [], ◌∷◌, map, ℕ, ◌+◌, ◌-◌, ◌*◌, ◌/◌, ◌%◌, ◌^◌, eqb}

-- A field: `width` bits, the lowest of them bit `shift`.
pub record Field : Type 0 where
  pub shift : ℕ
  pub width : ℕ

-- The field of bits high–low.
abbrev pub bits : ℕ → ℕ → Field
bits high low = record { shift = low; width = high + 1 - low }

-- The values of a field lie below this.
abbrev pub capacity : Field → ℕ
capacity f = 2 ^ f.width

-- A word's layout: its kind, and its fields from the highest bits down.
pub record Layout : Type 0 where
  pub kind : ℕ
  pub fields : List Field

-- The value of a field of the word.
abbrev pub get : Field → ℕ → ℕ
get f w = w / 2 ^ f.shift % capacity f

-- The values, each at the place of its field; a value that is left out counts as 0.
abbrev pub place : List Field → List ℕ → ℕ
place [] vs = 0
place (f ∷ fs) [] = 0
place (f ∷ fs) (v ∷ vs) = v * 2 ^ f.shift + place fs vs

-- The word of a layout with these values in its fields.
abbrev pub pack : Layout → List ℕ → ℕ
pack L vs = L.kind * 2 ^ 30 + place L.fields vs

-- The values of all fields of the layout.
abbrev pub unpack : Layout → ℕ → List ℕ
unpack L w = map (λ f. get f w) L.fields

-- The word is of the layout: its kind is the layout's, and it has nothing outside the fields.
unfoldable pub is_of : Layout → ℕ → Bool
is_of L w = eqb w (pack L (unpack L w))

-- A layout of one field, the lowest bits of the word.
abbrev pub filled : ℕ → ℕ → Layout
filled kind width = record { kind = kind; fields = (record { shift = 0; width = width }) ∷ [] }
