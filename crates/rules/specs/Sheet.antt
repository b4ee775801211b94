-- What the printing program prints (document 01, "One session, whole"). A text is a list of bytes in ASCII.
use Rattle.std.specs.Prelude.{ℕ, zero, suc, ◌+◌, ◌*◌, ◌/◌, ◌%◌, ◌^◌, Bool, cond, not, ◌&&◌, List, [], ◌∷◌, ◌++◌, length, get_or, replicate, leb, ltb, eqb, Ok, Err, Result}
use Rattle.journeys.specs.declared.Interval.{Interval}
use Rattle.journeys.specs.Cell.{Cell}
use Rattle.words.specs.Layout.{is_of}
use Rattle.words.specs.Words.{opening_layout}
use Rattle.rules.specs.declared.Refusal.{Refusal}
use Rattle.rules.specs.Answers.{number_of}
use Rattle.rules.specs.Folds.{flat}
use Rattle.rules.specs.Layout.{table_length, animals, ticks, carry, cells_of}
use Rattle.rules.specs.Logs.{held_contacts}
use Rattle.rules.specs.Reading.{read_answer, read_leaves}

-- ---- its limits: 4,096 words of four bytes, n at most 8, τ at most 64, and a text of 32,768 bytes

abbrev pub most_words : ℕ
most_words = 4096

abbrev pub most_bytes : ℕ
most_bytes = 4 * most_words

abbrev pub most_animals : ℕ
most_animals = 8

abbrev pub most_ticks : ℕ
most_ticks = 64

abbrev pub most_text : ℕ
most_text = 32768

-- The words of the largest table.
abbrev pub most_table_words : ℕ
most_table_words = table_length most_animals most_ticks

-- ---- words in files

-- The words of a file's bytes: each four of them, the highest first, make one.
unfoldable pub words_of : List ℕ → List ℕ
words_of [] = []
words_of (a ∷ []) = []
words_of (a ∷ b ∷ []) = []
words_of (a ∷ b ∷ c ∷ []) = []
words_of (a ∷ b ∷ c ∷ d ∷ l) = (a * 2 ^ 24 + b * 2 ^ 16 + c * 2 ^ 8 + d) ∷ words_of l

-- ---- numbers and lines

-- A number in decimal, with at most f + 1 digits.
unfoldable pub decimal_within : ℕ → ℕ → List ℕ
decimal_within zero k = (48 + k) ∷ []
decimal_within (suc f) k = cond (ltb k 10) ((48 + k) ∷ []) (decimal_within f (k / 10) ++ ((48 + k % 10) ∷ []))

-- A number in decimal.
abbrev pub decimal : ℕ → List ℕ
decimal k = decimal_within k k

-- Between texts a space, within an interval a dash, at the end of a line its end.
abbrev pub space : ℕ
space = 32

abbrev pub dash : ℕ
dash = 45

abbrev pub newline : List ℕ
newline = 10 ∷ []

-- An interval, behind a space.
unfoldable pub interval_text : Interval → List ℕ
interval_text i = space ∷ (decimal i.departure ++ (dash ∷ decimal i.arrival))

unfoldable pub intervals_text : Cell → List ℕ
intervals_text [] = []
intervals_text (i ∷ c) = interval_text i ++ intervals_text c

-- The line of a non-empty cell: u, v and its intervals.
unfoldable pub cell_text : ℕ → ℕ → Cell → List ℕ
cell_text u v [] = []
cell_text u v (i ∷ c) = decimal u ++ (space ∷ (decimal v ++ (intervals_text (i ∷ c) ++ newline)))

-- The first line: n, τ, δ and the number of contacts that the table holds.
unfoldable pub first_line : ℕ → ℕ → ℕ → ℕ → List ℕ
first_line n τ δ held = decimal n ++ (space ∷ (decimal τ ++ (space ∷ (decimal δ ++ (space ∷ (decimal held ++ newline))))))

-- The first line, then one for each non-empty cell.
unfoldable pub table_text : List ℕ → List ℕ
table_text T =
    first_line (animals T) (ticks T) (carry T) (length (held_contacts T))
    ++ flat (λ u. flat (λ v. cell_text u v (cells_of T u v)) (animals T)) (animals T)

-- "too large", "not whole words", "refused" and the number.
abbrev pub too_large : List ℕ
too_large = 116 ∷ 111 ∷ 111 ∷ 32 ∷ 108 ∷ 97 ∷ 114 ∷ 103 ∷ 101 ∷ newline

abbrev pub not_whole_words : List ℕ
not_whole_words = 110 ∷ 111 ∷ 116 ∷ 32 ∷ 119 ∷ 104 ∷ 111 ∷ 108 ∷ 101 ∷ 32 ∷ 119 ∷ 111 ∷ 114 ∷ 100 ∷ 115 ∷ newline

unfoldable pub refused_text : ℕ → List ℕ
refused_text number = 114 ∷ 101 ∷ 102 ∷ 117 ∷ 115 ∷ 101 ∷ 100 ∷ space ∷ (decimal number ++ newline)

-- ---- the sheet

-- An opening word first with larger limits.
unfoldable pub is_beyond : List ℕ → Bool
is_beyond L = is_of opening_layout (get_or L 0 0) && not (leb (animals L) most_animals && leb (ticks L) most_ticks)

-- What reading answered: the table, or the refusal.
abbrev pub read_text : Result ℕ Refusal → List ℕ → List ℕ
read_text (Ok k) T = table_text T
read_text (Err r) T = refused_text (number_of r)

-- What is printed for a log: it is read into a table of the length for it.
unfoldable pub log_text : List ℕ → List ℕ
log_text L =
    let T = replicate {A = ℕ} (table_length (animals L) (ticks L)) 0 in
    read_text (read_answer L T) (read_leaves L T)

-- What is printed for the bytes of standard input: one line, the first that applies, or the table.
unfoldable pub sheet_text : List ℕ → List ℕ
sheet_text B =
    cond (ltb most_bytes (length B)) too_large
    (cond (not (eqb (length B % 4) 0)) not_whole_words
    (cond (is_beyond (words_of B)) too_large
    (log_text (words_of B))))
