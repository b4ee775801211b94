-- No two refusals have the same number.
use mathlib.Core.Path.{◌≡◌, refl, sym, ap, ◌∙◌}
use mathlib.Core.List.{List, [], ◌∷◌}
use Prim.Native.Nat.{ℕ}
use lib.ListN.{get_or}
use Rattle.rules.specs.declared.Refusal.{Refusal}
use Rattle.rules.specs.declared.Refusal.TheVariants.{AnimalsBeyondLimit, TicksBeyondLimit, CarryBeyondLimit, WrongLength, NotOpen, NotWellFormed, NoSuchAnimal, SameAnimal, TickOutOfRange, ChainBufferTooShort, NotALog, NotAContact, IllegalContact, WrongEnd, LogBufferTooShort, TallyFull, DifferentOpenings, IllegalStay, FirstAfterLast, DifferentLengths, NotHeld}
use Rattle.rules.specs.Answers.{number_of}

-- The refusals in the order of their numbers; the first stands for 0 and for 1.
by_number : List Refusal
by_number =
    AnimalsBeyondLimit
    ∷ AnimalsBeyondLimit
    ∷ TicksBeyondLimit
    ∷ CarryBeyondLimit
    ∷ WrongLength
    ∷ NotOpen
    ∷ NotWellFormed
    ∷ NoSuchAnimal
    ∷ SameAnimal
    ∷ TickOutOfRange
    ∷ ChainBufferTooShort
    ∷ NotALog
    ∷ NotAContact
    ∷ IllegalContact
    ∷ WrongEnd
    ∷ LogBufferTooShort
    ∷ TallyFull
    ∷ DifferentOpenings
    ∷ IllegalStay
    ∷ FirstAfterLast
    ∷ DifferentLengths
    ∷ NotHeld
    ∷ []

-- The refusal of a number.
named : ℕ → Refusal
named k = get_or by_number k AnimalsBeyondLimit

named-number : (r : Refusal) → named (number_of r) ≡ r
unfolding named by_number
named-number AnimalsBeyondLimit = refl
named-number TicksBeyondLimit = refl
named-number CarryBeyondLimit = refl
named-number WrongLength = refl
named-number NotOpen = refl
named-number NotWellFormed = refl
named-number NoSuchAnimal = refl
named-number SameAnimal = refl
named-number TickOutOfRange = refl
named-number ChainBufferTooShort = refl
named-number NotALog = refl
named-number NotAContact = refl
named-number IllegalContact = refl
named-number WrongEnd = refl
named-number LogBufferTooShort = refl
named-number TallyFull = refl
named-number DifferentOpenings = refl
named-number IllegalStay = refl
named-number FirstAfterLast = refl
named-number DifferentLengths = refl
named-number NotHeld = refl

pub numbers_differ : (r s : Refusal) → number_of r ≡ number_of s → r ≡ s
numbers_differ r s e = sym (named-number r) ∙ ap named e ∙ named-number s
