-- The six words of document 01 ("Words of the table"): a layout for each, and the word of given values.
use Rattle.std.specs.Prelude.{[], ◌∷◌, ℕ, ◌+◌, ◌-◌}
use Rattle.journeys.specs.declared.Contact.{Contact}
use Rattle.journeys.specs.declared.Interval.{Interval}
use Rattle.journeys.specs.Journey.{contact, interval}
use Rattle.words.specs.Layout.{Field, bits, Layout, get, pack}

-- ---- unused: kind 0, no field

abbrev pub unused_layout : Layout
unused_layout = record { kind = 0; fields = [] }

abbrev pub unused_word : ℕ
unused_word = pack unused_layout []

-- ---- interval: kind 1, departure bits 21–11, arrival bits 10–0

abbrev pub departure_field : Field
departure_field = bits 21 11

abbrev pub arrival_field : Field
arrival_field = bits 10 0

abbrev pub interval_layout : Layout
interval_layout = record { kind = 1; fields = departure_field ∷ arrival_field ∷ [] }

abbrev pub interval_word : Interval → ℕ
interval_word i = pack interval_layout (i.departure ∷ i.arrival ∷ [])

-- The interval that the fields say.
abbrev pub interval_of : ℕ → Interval
interval_of w = interval (get departure_field w) (get arrival_field w)

-- ---- contact (logs, chains): kind 1, u bits 25–18, v bits 17–10, t−1 bits 9–0

abbrev pub from_field : Field
from_field = bits 25 18

abbrev pub to_field : Field
to_field = bits 17 10

abbrev pub tick_field : Field
tick_field = bits 9 0

abbrev pub contact_layout : Layout
contact_layout = record { kind = 1; fields = from_field ∷ to_field ∷ tick_field ∷ [] }

abbrev pub contact_word : Contact → ℕ
contact_word k = pack contact_layout (k.from ∷ k.to ∷ (k.tick - 1) ∷ [])

-- The contact that the fields say.
abbrev pub contact_of : ℕ → Contact
contact_of w = contact (get from_field w) (get to_field w) (get tick_field w + 1)

-- ---- opening: kind 2, n−1 bits 25–18, δ−1 bits 17–10, τ−1 bits 9–0

abbrev pub animals_field : Field
animals_field = bits 25 18

abbrev pub carry_field : Field
carry_field = bits 17 10

abbrev pub ticks_field : Field
ticks_field = bits 9 0

abbrev pub opening_layout : Layout
opening_layout = record { kind = 2; fields = animals_field ∷ carry_field ∷ ticks_field ∷ [] }

-- The opening word of n animals, τ ticks and carry time δ, in this order; the word packs n, δ, τ.
abbrev pub opening_word : ℕ → ℕ → ℕ → ℕ
opening_word n τ δ = pack opening_layout ((n - 1) ∷ (δ - 1) ∷ (τ - 1) ∷ [])

-- The number of animals, the number of ticks and the carry time that the fields say.
abbrev pub animals_of : ℕ → ℕ
animals_of w = get animals_field w + 1

abbrev pub ticks_of : ℕ → ℕ
ticks_of w = get ticks_field w + 1

abbrev pub carry_of : ℕ → ℕ
carry_of w = get carry_field w + 1

-- ---- count: kind 3, rows in use bits 10–0

abbrev pub rows_field : Field
rows_field = bits 10 0

abbrev pub count_layout : Layout
count_layout = record { kind = 3; fields = rows_field ∷ [] }

abbrev pub count_word : ℕ → ℕ
count_word k = pack count_layout (k ∷ [])

-- ---- end of log: kind 3, contacts in the log bits 25–0

abbrev pub logged_field : Field
logged_field = bits 25 0

abbrev pub end_layout : Layout
end_layout = record { kind = 3; fields = logged_field ∷ [] }

abbrev pub end_word : ℕ → ℕ
end_word k = pack end_layout (k ∷ [])
