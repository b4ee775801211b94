-- The limits of an opening (document 01, "Animals, ticks, carry time"), and what follows from them. Every bound in a contract and
-- the length of every local array is made of these.
use Rattle.std.specs.Prelude.{ℕ, ◌+◌, ◌-◌, ◌*◌}

-- n is 1 to 256.
abbrev pub max_animals : ℕ
max_animals = 256

-- τ is 1 to 1,024.
abbrev pub max_ticks : ℕ
max_ticks = 1024

-- δ is 1 to 256.
abbrev pub max_carry : ℕ
max_carry = 256

-- The pens of stay records are 0 to 63 (document 02, Four).
abbrev pub max_pen : ℕ
max_pen = 63

-- Arrivals run to τ+δ.
abbrev pub max_arrival : ℕ
max_arrival = max_ticks + max_carry

-- The words of a cell: its count word, and a row for each tick.
abbrev pub max_cell_words : ℕ
max_cell_words = max_ticks + 1

-- A table has n·n cells.
abbrev pub max_cells : ℕ
max_cells = max_animals * max_animals

-- No table holds more contacts than its cells have rows.
abbrev pub max_contacts : ℕ
max_contacts = max_cells * max_ticks

-- A chain never has more than n−1 contacts.
abbrev pub max_chain : ℕ
max_chain = max_animals - 1
