-- The number that documents 01 and 02 give each refusal, and the number and value of each case of an answer, as the C interface replies them.
use Rattle.std.specs.Prelude.{ℕ, ◌+◌, ◌*◌, ◌^◌, Bool, true, false, Option, None, Some, Ok, Err, Result, ⊤}
use Rattle.journeys.specs.declared.Interval.{Interval}
use Rattle.rules.specs.declared.Refusal.{Refusal}
use Rattle.rules.specs.declared.Refusal.TheVariants.{AnimalsBeyondLimit, TicksBeyondLimit, CarryBeyondLimit, WrongLength, NotOpen, NotWellFormed, NoSuchAnimal, SameAnimal, TickOutOfRange, ChainBufferTooShort, NotALog, NotAContact, IllegalContact, WrongEnd, LogBufferTooShort, TallyFull, DifferentOpenings, IllegalStay, FirstAfterLast, DifferentLengths, NotHeld}
use Rattle.rules.specs.declared.Added.{Added}
use Rattle.rules.specs.declared.Added.TheVariants.{New, Known}
use Rattle.rules.specs.declared.AnimalSet.{AnimalSet}

-- The number of a refusal (document 01, "Where each check sits", and document 02).
abbrev pub number_of : Refusal → ℕ
number_of AnimalsBeyondLimit = 1
number_of TicksBeyondLimit = 2
number_of CarryBeyondLimit = 3
number_of WrongLength = 4
number_of NotOpen = 5
number_of NotWellFormed = 6
number_of NoSuchAnimal = 7
number_of SameAnimal = 8
number_of TickOutOfRange = 9
number_of ChainBufferTooShort = 10
number_of NotALog = 11
number_of NotAContact = 12
number_of IllegalContact = 13
number_of WrongEnd = 14
number_of LogBufferTooShort = 15
number_of TallyFull = 16
number_of DifferentOpenings = 17
number_of IllegalStay = 18
number_of FirstAfterLast = 19
number_of DifferentLengths = 20
number_of NotHeld = 21

-- ---- which answer each case is, and its number, as one reply: 0 is a refusal with its number, 1 and 2 are the answers of the call

-- A reply: which answer in the upper 32 bits, its number in the lower 32.
abbrev pub reply : ℕ → ℕ → ℕ
reply which number = which * 2 ^ 32 + number

-- 1 opened, or done.
abbrev pub done_reply : Result ⊤ Refusal → ℕ
done_reply (Ok a) = reply 1 0
done_reply (Err r) = reply 0 (number_of r)

-- 1 new, 2 known, each with the number of cells changed.
abbrev pub add_reply : Result Added Refusal → ℕ
add_reply (Ok (New k)) = reply 1 k
add_reply (Ok (Known k)) = reply 2 k
add_reply (Err r) = reply 0 (number_of r)

-- 1 written, with the number of words; 1 read, with the number of different contacts; 1 joined and 1 stays added, each with the number
-- of contacts new to the table; 1 answered, with the number of records.
abbrev pub number_reply : Result ℕ Refusal → ℕ
number_reply (Ok k) = reply 1 k
number_reply (Err r) = reply 0 (number_of r)

-- 1 yes, 2 no.
abbrev pub ask_reply : Result Bool Refusal → ℕ
ask_reply (Ok true) = reply 1 0
ask_reply (Ok false) = reply 2 0
ask_reply (Err r) = reply 0 (number_of r)

-- 1 found, with departure · 2¹⁶ + arrival, 2 none.
abbrev pub interval_reply : Result (Option Interval) Refusal → ℕ
interval_reply (Ok (Some e)) = reply 1 (e.departure * 2 ^ 16 + e.arrival)
interval_reply (Ok None) = reply 2 0
interval_reply (Err r) = reply 0 (number_of r)

-- 1 a set, with its count.
abbrev pub set_reply : Result AnimalSet Refusal → ℕ
set_reply (Ok s) = reply 1 s.count
set_reply (Err r) = reply 0 (number_of r)

-- 1 a chain, with the number of its contacts, 2 no journey.
abbrev pub chain_reply : Result (Option ℕ) Refusal → ℕ
chain_reply (Ok (Some k)) = reply 1 k
chain_reply (Ok None) = reply 2 0
chain_reply (Err r) = reply 0 (number_of r)

-- 1 yes, 2 no, 3 unasked; a refusal is held by its number.
abbrev pub record_reply : Option (Result Bool ℕ) → ℕ
record_reply (Some (Ok true)) = reply 1 0
record_reply (Some (Ok false)) = reply 2 0
record_reply None = reply 3 0
record_reply (Some (Err number)) = reply 0 number

-- ---- checks in their order

-- The first check that fails gives its refusal.
abbrev pub ensure : Bool → Refusal → Option Refusal → Option Refusal
ensure true r o = o
ensure false r o = Some r

-- The first value where nothing is refused, else the second.
abbrev pub unless : {A : Type 0} → Option Refusal → A → A → A
unless None a b = a
unless (Some r) a b = b

-- The refusal where there is one, else the answer.
abbrev pub answer_of : {A : Type 0} → Option Refusal → Result A Refusal → Result A Refusal
answer_of None a = a
answer_of (Some r) a = Err r

-- Done, or opened: there is no more to say.
abbrev pub done : Result ⊤ Refusal
done = Ok tt
