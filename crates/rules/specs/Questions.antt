-- Questions about windows and ticks (document 01, "Questions"). Stored intervals stand for the journeys.
use Rattle.std.specs.Prelude.{ℕ, ◌+◌, ◌*◌, ◌^◌, Bool, cond, not, ◌&&◌, ◌||◌, List, [], ◌∷◌, ◌++◌, length, take, drop, replicate, ltb, eqb, Option, None, Ok, Err, Result, ⊤}
use Rattle.journeys.specs.Cell.{has_inside, latest_departing, earliest_arriving}
use Rattle.rules.specs.declared.Refusal.{Refusal}
use Rattle.rules.specs.declared.Refusal.TheVariants.{NoSuchAnimal}
use Rattle.journeys.specs.declared.Interval.{Interval}
use Rattle.rules.specs.declared.AnimalSet.{AnimalSet}
use Rattle.rules.specs.Answers.{ensure, unless, answer_of, done}
use Rattle.rules.specs.Folds.{all_below, sum_below, count_below}
use Rattle.rules.specs.Layout.{animals, carry, cells_of}
use Rattle.rules.specs.Checks.{ensure_table}
use Rattle.rules.specs.Adding.{ensure_pair}
use Rattle.rules.specs.Windows.{widest, ensure_window, ensure_moment}

-- ---- one animal

-- One animal: 7 when its number is n or above.
abbrev pub ensure_animal : List ℕ → ℕ → Option Refusal → Option Refusal
ensure_animal T u o = ensure (ltb u (animals T)) NoSuchAnimal o

-- ---- reach

-- A stored interval of the pair fits the window.
unfoldable pub reaches : List ℕ → ℕ → ℕ → ℕ → ℕ → Bool
reaches T u v first last = has_inside (widest (carry T) first last) (cells_of T u v)

unfoldable pub reach_refusal : List ℕ → ℕ → ℕ → ℕ → ℕ → Option Refusal
reach_refusal T u v first last = ensure_table T (ensure_pair T u v (ensure_window T first last None))

unfoldable pub reach_answer : List ℕ → ℕ → ℕ → ℕ → ℕ → Result Bool Refusal
reach_answer T u v first last = answer_of (reach_refusal T u v first last) (Ok (reaches T u v first last))

-- ---- earliest arrival, latest departure

unfoldable pub moment_refusal : List ℕ → ℕ → ℕ → ℕ → Option Refusal
moment_refusal T u v t = ensure_table T (ensure_pair T u v (ensure_moment T t None))

-- The interval of the pair with the earliest arrival, of those that depart at or after first.
unfoldable pub earliest_answer : List ℕ → ℕ → ℕ → ℕ → Result (Option Interval) Refusal
earliest_answer T u v first = answer_of (moment_refusal T u v first) (Ok (earliest_arriving (cells_of T u v) first))

-- The interval of the pair with the latest departure, of those that arrive by last.
unfoldable pub latest_answer : List ℕ → ℕ → ℕ → ℕ → Result (Option Interval) Refusal
latest_answer T u v last = answer_of (moment_refusal T u v last) (Ok (latest_departing (cells_of T u v) last))

-- ---- connected

-- Each animal reaches each other one in the window.
unfoldable pub connects : List ℕ → ℕ → ℕ → Bool
connects T first last = all_below (λ u. all_below (λ v. eqb u v || reaches T u v first last) (animals T)) (animals T)

unfoldable pub connected_refusal : List ℕ → ℕ → ℕ → Option Refusal
connected_refusal T first last = ensure_table T (ensure_window T first last None)

unfoldable pub connected_answer : List ℕ → ℕ → ℕ → Result Bool Refusal
connected_answer T first last = answer_of (connected_refusal T first last) (Ok (connects T first last))

-- ---- reached from u

-- Animal i is in the set: another than u, and reached from it.
unfoldable pub is_reached : List ℕ → ℕ → ℕ → ℕ → ℕ → Bool
is_reached T u first last i = ltb i (animals T) && not (eqb u i) && reaches T u i first last

-- Word j of the set has a bit for each of the animals from 32 · j on.
unfoldable pub set_word : List ℕ → ℕ → ℕ → ℕ → ℕ → ℕ
set_word T u first last j = sum_below (λ b. cond (is_reached T u first last (j * 32 + b)) (2 ^ b) 0) 32

-- Its eight words.
unfoldable pub set_words : List ℕ → ℕ → ℕ → ℕ → List ℕ
set_words T u first last =
    set_word T u first last 0
    ∷ set_word T u first last 1
    ∷ set_word T u first last 2
    ∷ set_word T u first last 3
    ∷ set_word T u first last 4
    ∷ set_word T u first last 5
    ∷ set_word T u first last 6
    ∷ set_word T u first last 7
    ∷ []

unfoldable pub reached_refusal : List ℕ → ℕ → ℕ → ℕ → Option Refusal
reached_refusal T u first last = ensure_table T (ensure_animal T u (ensure_window T first last None))

-- Whether a set is found.
unfoldable pub reached_answer : List ℕ → ℕ → ℕ → ℕ → Result ⊤ Refusal
reached_answer T u first last = answer_of (reached_refusal T u first last) done

-- The set's words; all 0 on a refusal.
unfoldable pub reached_words : List ℕ → ℕ → ℕ → ℕ → List ℕ
reached_words T u first last = unless (reached_refusal T u first last) (set_words T u first last) (replicate 8 0)

-- Its number of animals; 0 on a refusal.
unfoldable pub reached_count : List ℕ → ℕ → ℕ → ℕ → ℕ
reached_count T u first last = unless (reached_refusal T u first last) (count_below (is_reached T u first last) (animals T)) 0

-- The set record, where one is found: its words and its number of animals.
unfoldable pub reached_set : List ℕ → ℕ → ℕ → ℕ → Result AnimalSet Refusal
reached_set T u first last =
    answer_of (reached_refusal T u first last) (Ok (record { words = reached_words T u first last; count = reached_count T u first last }))

-- What an answer with a set says: whether one is found, its words and its number of animals. A refusal gives the set of no animal.
abbrev pub is_found : Result AnimalSet Refusal → Result ⊤ Refusal
is_found (Ok s) = done
is_found (Err r) = Err r

abbrev pub words_found : Result AnimalSet Refusal → List ℕ
words_found (Ok s) = s.words
words_found (Err r) = replicate 8 0

abbrev pub count_found : Result AnimalSet Refusal → ℕ
count_found (Ok s) = s.count
count_found (Err r) = 0

-- A set's eight words at the front of others, as many as there is room for; the words behind keep theirs.
abbrev pub set_over : List ℕ → List ℕ → List ℕ
set_over ws B = take (length B) ws ++ drop 8 B

-- The words lent for the set afterwards; on a refusal all keep theirs.
unfoldable pub reached_leaves : List ℕ → ℕ → ℕ → ℕ → List ℕ → List ℕ
reached_leaves T u first last B = unless (reached_refusal T u first last) (set_over (set_words T u first last) B) B
