-- Adding the contacts of a list of stay records (document 02, Four).
use Rattle.std.specs.Prelude.{ℕ, ◌+◌, ◌*◌, ◌/◌, ◌%◌, Bool, not, ◌&&◌, List, [], ◌∷◌, length, get_or, leb, ltb, eqb, Option, None, Ok, Result}
use Rattle.journeys.specs.declared.Contact.{Contact}
use Rattle.rules.specs.declared.Refusal.{Refusal}
use Rattle.rules.specs.declared.Refusal.TheVariants.{IllegalStay}
use Rattle.rules.specs.declared.Stay.{Stay}
use Rattle.rules.specs.Limits.{max_pen}
use Rattle.rules.specs.Answers.{ensure, unless, answer_of}
use Rattle.rules.specs.Folds.{flat, within, any_of}
use Rattle.rules.specs.Layout.{animals, ticks}
use Rattle.rules.specs.Checks.{ensure_table}
use Rattle.rules.specs.Orders.{in_log_order}
use Rattle.rules.specs.CallLists.{engine, run, new_adds}

-- ---- the records lent as words W, four to a record

-- Record i: animal, pen, first tick, last tick.
unfoldable pub stay_at : List ℕ → ℕ → Stay
stay_at W i = record { animal = get_or W (4 * i) 0; pen = get_or W (4 * i + 1) 0; first = get_or W (4 * i + 2) 0; last = get_or W (4 * i + 3) 0 }

-- The whole records, in list order.
unfoldable pub stays_of : List ℕ → List Stay
stays_of W = flat (λ i. stay_at W i ∷ []) (length W / 4)

-- The last record is whole.
abbrev pub is_whole : List ℕ → Bool
is_whole W = eqb (length W % 4) 0

-- ---- the checks

-- The animal is below n, the pen 0 to 63, both ticks are 1 to τ, and first is not after last.
unfoldable pub is_stay : ℕ → ℕ → Stay → Bool
is_stay n τ s = ltb s.animal n && leb s.pen max_pen && within 1 s.first τ && within 1 s.last τ && leb s.first s.last

-- 18 at the first record in list order that is no such stay.
unfoldable pub ensure_each : ℕ → ℕ → List Stay → Option Refusal → Option Refusal
ensure_each n τ [] o = o
ensure_each n τ (s ∷ l) o = ensure (is_stay n τ s) IllegalStay (ensure_each n τ l o)

-- Each record in its turn, and the last refused so too where it is incomplete.
abbrev pub ensure_stays : List ℕ → List ℕ → Option Refusal → Option Refusal
ensure_stays T W o = ensure_each (animals T) (ticks T) (stays_of W) (ensure (is_whole W) IllegalStay o)

unfoldable pub stays_refusal : List ℕ → List ℕ → Option Refusal
stays_refusal T W = ensure_table T (ensure_stays T W None)

-- ---- the contacts

-- The animal was in the pen at tick t.
abbrev pub is_there : Stay → ℕ → Bool
is_there s t = within s.first t s.last

-- Two different animals in the same pen at the shared tick t.
unfoldable pub meet : Stay → Stay → ℕ → Bool
meet r s t = not (eqb r.animal s.animal) && eqb r.pen s.pen && is_there r t && is_there s t

-- They met at that tick, both ways: of any two records, in either order, the contact leads from the animal of the one to that of the other.
unfoldable pub met : List Stay → Contact → Bool
met l k = any_of (λ r. any_of (λ s. eqb r.animal k.from && eqb s.animal k.to && meet r s k.tick) l) l

-- All such contacts among the table's animals and ticks, each once, in log order.
unfoldable pub stay_contacts : List ℕ → List ℕ → List Contact
stay_contacts T W = in_log_order (animals T) (ticks T) (met (stays_of W))

-- ---- the reply and the words left

-- How many of the contacts, added singly in log order, are new to the table.
unfoldable pub stays_answer : List ℕ → List ℕ → Result ℕ Refusal
stays_answer T W = answer_of (stays_refusal T W) (Ok (new_adds engine T (stay_contacts T W)))

-- The table's words afterwards: the contacts added in log order. The records are only read.
unfoldable pub stays_leaves : List ℕ → List ℕ → List ℕ
stays_leaves T W = unless (stays_refusal T W) (run engine T (stay_contacts T W)) T
