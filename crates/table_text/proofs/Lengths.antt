-- How long the texts are: a sheet fits its bytes.
use Rattle.std.specs.Prelude.{Option, None, Some, Ok}
use mathlib.Core.Path.{◌≡◌, refl, sym, ap, ◌∙◌}
use mathlib.Core.Bool.{Bool, true, false, cond, not, ◌&&◌}
use mathlib.Core.List.{List, [], ◌∷◌, ◌++◌, Memᴰ}
use Prim.Native.Nat.{ℕ, zero, suc, ◌+◌, ◌*◌, ◌/◌, ◌%◌, ◌^◌, ◌≤◌, ◌<◌}
use native.Mathlib.Nat.{mul-le-mul, le_refl, pow-suc}
use native.Mathlib.Omega.{arith}
use lib.ListN.{length, get_or, replicate, length-append}
use lib.Dec.{leb, ltb, eqb}
use borrow.Author.Tests.{not-false, leb-true, eqb-true}
use Rattle.journeys.specs.declared.Interval.{Interval}
use Rattle.journeys.specs.Cell.{Cell, Limits, WellFormedCell}
use Rattle.journeys.specs.Adding.{Cells}
use Rattle.journeys.proofs.Tests.{Outcome, holds, fails, lt_outcome}
use Rattle.journeys.proofs.Rows.{rows-suffice}
use Rattle.words.specs.Layout.{is_of}
use Rattle.words.specs.Words.{opening_layout}
use Rattle.rules.specs.Limits.{max_carry}
use Rattle.rules.specs.declared.Refusal.{Refusal}
use Rattle.rules.specs.declared.Refusal.TheVariants.{AnimalsBeyondLimit, TicksBeyondLimit, CarryBeyondLimit, WrongLength, NotOpen, NotWellFormed, NoSuchAnimal, SameAnimal, TickOutOfRange, ChainBufferTooShort, NotALog, NotAContact, IllegalContact, WrongEnd, LogBufferTooShort, TallyFull, DifferentOpenings, IllegalStay, FirstAfterLast, DifferentLengths, NotHeld}
use Rattle.rules.specs.Answers.{number_of, unless, answer_of}
use Rattle.rules.specs.Folds.{flat}
use Rattle.rules.specs.Layout.{table_length, animals, ticks, carry, cells_of}
use Rattle.rules.specs.Checks.{ValidTable, WellFormedBelow}
use Rattle.rules.specs.Opening.{open_refusal}
use Rattle.rules.specs.Logs.{held_contacts}
use Rattle.rules.specs.CallLists.{table_with}
use Rattle.rules.specs.Reading.{is_log, logged_contacts, different, read_refusal, read_answer, read_leaves}
use Rattle.rules.specs.Sheet.{most_bytes, most_animals, most_ticks, most_text, words_of, decimal, interval_text, intervals_text, cell_text, first_line, table_text, refused_text, too_large, not_whole_words, is_beyond, read_text, log_text, sheet_text}
use Rattle.rules.proofs.Folds.{and_left, and_right, flat-few}
use Rattle.rules.proofs.Judged.{ensure-iff, open_iff}
use Rattle.rules.proofs.Sound.{table-sizes, passes-good}
use Rattle.rules.proofs.Fresh.{fresh-animals, fresh-ticks, fresh-passes}
use Rattle.rules.proofs.Runs.{run-fresh}
use Rattle.rules.proofs.Held.{held-few}
use Rattle.table_text.proofs.Digits.{one-digit, last-digit}

-- ---- numbers

-- A number below ten to the power d + 1 has at most d + 1 digits.
pub digits : (d k : ℕ) → k < 10 ^ suc d → length (decimal k) ≤ suc d
digits zero k h = omega (arith, ap length (one-digit k h))
digits (suc d) k h = go (lt_outcome k 10) (digits d (k / 10))
  where
    go : {b : Bool} → Outcome (k < 10) (10 ≤ k) b → (k / 10 < 10 ^ suc d → length (decimal (k / 10)) ≤ suc d) → length (decimal k) ≤ suc (suc d)
    go (holds o) r = omega (arith, ap length (one-digit k o))
    go (fails o) r =
        let q : k / 10 < 10 ^ suc d = omega (arith, h, pow-suc 10 (suc d)) in
        omega (arith, r q, ap length (last-digit k o), length-append (decimal (k / 10)) ((48 + k % 10) ∷ []))

-- ---- cells

-- The bytes of the longest line: two digits, a space and an end around an interval for each tick.
abbrev most_line : ℕ
most_line = most_ticks * 7 + 4

module _ (τ δ : ℕ) (hτ : τ ≤ most_ticks) (hδ : δ ≤ max_carry) where
  -- An interval of a departure of two digits and an arrival of three has at most seven bytes.
  interval-short : (i : Interval) → Limits τ δ i → length (interval_text i) ≤ 7
  unfolding interval_text
  interval-short i l =
      let a : i.departure < 100 = omega (arith, l.in_time) in
      let b : i.arrival < 1000 = omega (arith, l.arrives) in
      omega (arith, digits 1 i.departure a, digits 2 i.arrival b, length-append (decimal i.departure) (45 ∷ decimal i.arrival))

  intervals-short : (c : Cell) → ((i : Interval) → Memᴰ i c → Limits τ δ i) → length (intervals_text c) ≤ length c * 7
  unfolding intervals_text
  intervals-short [] f = omega arith
  intervals-short (i ∷ c) f =
      omega
      (arith, interval-short i (f i (Memᴰ.head refl)), intervals-short c (λ j m. f j (Memᴰ.tail m)), length-append (interval_text i) (intervals_text c))

  -- The line of two animals below ten.
  cell-short : (u v : ℕ) (c : Cell) → u < 10 → v < 10 → WellFormedCell τ δ c → length (cell_text u v c) ≤ most_line
  unfolding cell_text
  cell-short u v [] h k w = omega arith
  cell-short u v (i ∷ c) h k w =
      omega (
        arith,
        digits 0 u h,
        digits 0 v k,
        intervals-short (i ∷ c) w.limits,
        rows-suffice τ δ (i ∷ c) w,
        length-append (decimal u) (32 ∷ (decimal v ++ (intervals_text (i ∷ c) ++ (10 ∷ [])))),
        length-append (decimal v) (intervals_text (i ∷ c) ++ (10 ∷ [])),
        length-append (intervals_text (i ∷ c)) (10 ∷ []),
      )

-- ---- tables

-- The first line has at most 18 bytes.
first_short : (n τ δ held : ℕ) → n < 10 → τ < 100 → δ < 1000 → held < 100000000 → length (first_line n τ δ held) ≤ 18
unfolding first_line
first_short n τ δ held a b c d =
    omega (
      arith,
      digits 0 n a,
      digits 1 τ b,
      digits 2 δ c,
      digits 7 held d,
      length-append (decimal n) (32 ∷ (decimal τ ++ (32 ∷ (decimal δ ++ (32 ∷ (decimal held ++ (10 ∷ []))))))),
      length-append (decimal τ) (32 ∷ (decimal δ ++ (32 ∷ (decimal held ++ (10 ∷ []))))),
      length-append (decimal δ) (32 ∷ (decimal held ++ (10 ∷ []))),
      length-append (decimal held) (10 ∷ []),
    )

-- The bytes of the longest text: a first line, and a line for each cell.
abbrev most_shown : ℕ
most_shown = 18 + most_animals * (most_animals * most_line)

-- The lines of the cells, and the text with the first line.
module _ (n τ δ : ℕ) (C : Cells) (hn : n ≤ most_animals) (hτ : τ ≤ most_ticks) (hδ : δ ≤ max_carry) (g : WellFormedBelow n τ δ C) where
  lines_short : length (flat (λ u. flat (λ v. cell_text u v (C u v)) n) n) ≤ most_animals * (most_animals * most_line)
  lines_short =
      let a = flat-few (λ u. flat (λ v. cell_text u v (C u v)) n) (n * most_line) n
      (λ u h. flat-few (λ v. cell_text u v (C u v)) most_line n (λ v k. cell-short τ δ hτ hδ u v (C u v) (omega arith) (omega arith) (g.cells u v h k))) in
      omega (arith, a, mul-le-mul hn (mul-le-mul hn (le_refl most_line)))

  text_short : (held : ℕ) → held < 100000000 → length (first_line n τ δ held ++ flat (λ u. flat (λ v. cell_text u v (C u v)) n) n) ≤ most_shown
  text_short held h =
      omega (
        arith,
        first_short n τ δ held (omega arith) (omega arith) (omega arith) h,
        lines_short,
        length-append (first_line n τ δ held) (flat (λ u. flat (λ v. cell_text u v (C u v)) n) n),
      )

-- A table within the limits.
pub table-short : (T : List ℕ) → ValidTable T → animals T ≤ most_animals → ticks T ≤ most_ticks → length (table_text T) ≤ most_shown
unfolding table_text
table-short T p a b =
    let h : length (held_contacts T) < 100000000 = omega (arith, held-few T p) in
    text_short (animals T) (ticks T) (carry T) (cells_of T) a b (table-sizes T).δ-high (passes-good T p) (length (held_contacts T)) h

-- ---- sheets

-- A refusal's number has at most two digits.
pub number_small : (r : Refusal) → number_of r < 100
number_small AnimalsBeyondLimit = omega arith
number_small TicksBeyondLimit = omega arith
number_small CarryBeyondLimit = omega arith
number_small WrongLength = omega arith
number_small NotOpen = omega arith
number_small NotWellFormed = omega arith
number_small NoSuchAnimal = omega arith
number_small SameAnimal = omega arith
number_small TickOutOfRange = omega arith
number_small ChainBufferTooShort = omega arith
number_small NotALog = omega arith
number_small NotAContact = omega arith
number_small IllegalContact = omega arith
number_small WrongEnd = omega arith
number_small LogBufferTooShort = omega arith
number_small TallyFull = omega arith
number_small DifferentOpenings = omega arith
number_small IllegalStay = omega arith
number_small FirstAfterLast = omega arith
number_small DifferentLengths = omega arith
number_small NotHeld = omega arith

pub refused-short : (r : Refusal) → length (refused_text (number_of r)) ≤ 11
unfolding refused_text
refused-short r = omega (arith, digits 1 (number_of r) (number_small r), length-append (decimal (number_of r)) (10 ∷ []))

-- The second of two tests that do not both pass, where the first does.
second-fails : (a b : Bool) → a ≡ true → (a && b) ≡ false → b ≡ false
second-fails a b h e = sym (ap (λ (x : Bool). x && b) h) ∙ e

module _ (L T : List ℕ) (r : read_refusal L T ≡ None) where
  -- A log that is read and is not beyond the limits lies within them.
  within-limits : is_beyond L ≡ false → (animals L ≤ most_animals) × (ticks L ≤ most_ticks)
  unfolding is_beyond read_refusal
  within-limits e =
      let x = leb (animals L) most_animals in
      let y = leb (ticks L) most_ticks in
      let a = and_right (leb 2 (length L)) (is_of opening_layout (get_or L 0 0)) ((ensure-iff (is_log L) NotALog _).0 r).0 in
      let b = not-false (x && y) (second-fails (is_of opening_layout (get_or L 0 0)) (not (x && y)) a e) in
      (leb-true (animals L) most_animals (and_left x y b), leb-true (ticks L) most_ticks (and_right x y b))

  -- Its table can be opened.
  read-opens : open_refusal (animals L) (ticks L) (carry L) T ≡ None
  unfolding read_refusal
  read-opens =
      (open_iff (animals L) (ticks L) (carry L) T).1 (
        table-sizes L,
        eqb-true (length T) (table_length (animals L) (ticks L)) ((ensure-iff (eqb (length T) (table_length (animals L) (ticks L))) WrongLength _).0 ((ensure-iff (is_log L) NotALog _).0 r).1).0,
      )

  -- The text of the table that it leaves.
  pub read_short : is_beyond L ≡ false → length (table_text (table_with (animals L) (ticks L) (carry L) T (logged_contacts L))) ≤ most_shown
  read_short e =
      let f = run-fresh (animals L) (ticks L) (carry L) T (logged_contacts L) read-opens in
      let h = within-limits e in
      table-short _ (fresh-passes f) (rw (fresh-animals f) h.0) (rw (fresh-ticks f) h.1)

-- The text of a log that is not beyond the limits.
pub log-short : (L : List ℕ) → is_beyond L ≡ false → length (log_text L) ≤ most_shown
unfolding log_text read_answer read_leaves
log-short L e = go (read_refusal L T) refl
  where
    T : List ℕ
    T = replicate {A = ℕ} (table_length (animals L) (ticks L)) 0

    go : (o : Option Refusal) → read_refusal L T ≡ o
        → length (read_text (answer_of o (Ok (different (logged_contacts L)))) (unless o (table_with (animals L) (ticks L) (carry L) T (logged_contacts L)) T)) ≤ most_shown
    go None r = read_short L T r e
    go (Some r) q = omega (arith, refused-short r)

-- A sheet fits its bytes.
pub sheet_fits : (B : List ℕ) → length (sheet_text B) ≤ most_text
unfolding sheet_text
sheet_fits B = go (ltb most_bytes (length B)) (not (eqb (length B % 4) 0)) (is_beyond (words_of B)) refl
  where
    go : (a b c : Bool) → is_beyond (words_of B) ≡ c → length (cond a too_large (cond b not_whole_words (cond c too_large (log_text (words_of B))))) ≤ most_text
    go true b c e = omega arith
    go false true c e = omega arith
    go false false true e = omega arith
    go false false false e = omega (arith, log-short (words_of B) e)
