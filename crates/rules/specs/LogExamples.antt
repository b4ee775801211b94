-- Logs that are read and logs that are refused, as one table on the session's opening word 800C0005: n = 4, τ = 6, δ = 1, a
-- table of 113 words.
use Rattle.std.specs.Prelude.{ℕ, ◌≡◌, replicate, Ok, Err, Result}
use mathlib.Core.List.{List, [], ◌∷◌, Memᴰ}
use Rattle.rules.specs.declared.Refusal.{Refusal}
use Rattle.rules.specs.declared.Refusal.TheVariants.{NotALog, WrongLength, NotAContact, IllegalContact, WrongEnd}
use Rattle.rules.specs.Reading.{read_answer}

-- A log, the length of the table that it is read into, and its answer.
pub record LogRow : Type 0 where
  pub log : List ℕ
  pub length : ℕ
  pub answer : Result ℕ Refusal

abbrev reads : List ℕ → ℕ → Result ℕ Refusal → LogRow
reads L length a = record { log = L; length = length; answer = a }

-- What the log is answered, read into a table of zeros.
abbrev pub answered : LogRow → Result ℕ Refusal
answered r = read_answer r.log (replicate r.length 0)

abbrev pub log_rows : List LogRow
log_rows =
    -- The session's log.
    reads (0x800C0005 ∷ 0x40000400 ∷ 0x40000401 ∷ 0x40040C03 ∷ 0xC0000003 ∷ []) 113 (Ok 3)
    -- Its contacts in another order, with one repeated.
    ∷ reads (0x800C0005 ∷ 0x40040C03 ∷ 0x40000400 ∷ 0x40000401 ∷ 0x40000400 ∷ 0xC0000004 ∷ []) 113 (Ok 3)
    -- A log of no contacts.
    ∷ reads (0x800C0005 ∷ 0xC0000000 ∷ []) 113 (Ok 0)
    -- 11: no words.
    ∷ reads [] 113 (Err NotALog)
    -- 11: an opening word alone.
    ∷ reads (0x800C0005 ∷ []) 113 (Err NotALog)
    -- 11: an interval word first.
    ∷ reads (0x40000802 ∷ 0xC0000000 ∷ []) 113 (Err NotALog)
    -- 11: a contact word first.
    ∷ reads (0x40000400 ∷ 0xC0000000 ∷ []) 113 (Err NotALog)
    -- 11: an opening word with bit 26 set first.
    ∷ reads (0x840C0005 ∷ 0xC0000000 ∷ []) 113 (Err NotALog)
    -- 4: a table one word too short, and one a word too long.
    ∷ reads (0x800C0005 ∷ 0x40000400 ∷ 0xC0000001 ∷ []) 112 (Err WrongLength)
    ∷ reads (0x800C0005 ∷ 0x40000400 ∷ 0xC0000001 ∷ []) 114 (Err WrongLength)
    -- 4 comes before 12.
    ∷ reads (0x800C0005 ∷ 0x00000000 ∷ 0xC0000001 ∷ []) 112 (Err WrongLength)
    -- 12: words of the other three kinds.
    ∷ reads (0x800C0005 ∷ 0x00000000 ∷ 0xC0000001 ∷ []) 113 (Err NotAContact)
    ∷ reads (0x800C0005 ∷ 0x800C0005 ∷ 0xC0000001 ∷ []) 113 (Err NotAContact)
    ∷ reads (0x800C0005 ∷ 0xC0000001 ∷ 0xC0000001 ∷ []) 113 (Err NotAContact)
    -- 12: a contact word with bit 26 set.
    ∷ reads (0x800C0005 ∷ 0x44000400 ∷ 0xC0000001 ∷ []) 113 (Err NotAContact)
    -- 13: animal 4 as u, and as v.
    ∷ reads (0x800C0005 ∷ 0x40100400 ∷ 0xC0000001 ∷ []) 113 (Err IllegalContact)
    ∷ reads (0x800C0005 ∷ 0x40001000 ∷ 0xC0000001 ∷ []) 113 (Err IllegalContact)
    -- 13: u = v = 1.
    ∷ reads (0x800C0005 ∷ 0x40040400 ∷ 0xC0000001 ∷ []) 113 (Err IllegalContact)
    -- 13: t = 7.
    ∷ reads (0x800C0005 ∷ 0x40000406 ∷ 0xC0000001 ∷ []) 113 (Err IllegalContact)
    -- Of 12 and 13 the earlier word's counts.
    ∷ reads (0x800C0005 ∷ 0x00000000 ∷ 0x40040400 ∷ 0xC0000002 ∷ []) 113 (Err NotAContact)
    ∷ reads (0x800C0005 ∷ 0x40040400 ∷ 0x00000000 ∷ 0xC0000002 ∷ []) 113 (Err IllegalContact)
    -- 12 comes before 14.
    ∷ reads (0x800C0005 ∷ 0x00000000 ∷ 0xC0000002 ∷ []) 113 (Err NotAContact)
    -- 14: a count one too low, and one too high.
    ∷ reads (0x800C0005 ∷ 0x40000400 ∷ 0xC0000000 ∷ []) 113 (Err WrongEnd)
    ∷ reads (0x800C0005 ∷ 0x40000400 ∷ 0xC0000002 ∷ []) 113 (Err WrongEnd)
    -- 14: a contact word last.
    ∷ reads (0x800C0005 ∷ 0x40000400 ∷ 0x40000401 ∷ []) 113 (Err WrongEnd)
    -- 14: an end word with bit 26 set.
    ∷ reads (0x800C0005 ∷ 0x40000400 ∷ 0xC4000001 ∷ []) 113 (Err WrongEnd)
    ∷ []

-- Every log is answered so.
abbrev pub LogsAnswered : Type 0
LogsAnswered = (r : LogRow) → Memᴰ r log_rows → answered r ≡ r.answer
