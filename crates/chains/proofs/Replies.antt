-- What the question for a chain answers and leaves, from what its checks and its inner functions say.
use Rattle.std.specs.Prelude.{Option, None, Some, Ok, Err, Result, IsErrAnd, option_map}
use mathlib.Core.Path.{◌≡◌, refl, sym, ap, ◌∙◌, subst}
use mathlib.Core.Bool.{Bool, true, false}
use mathlib.Core.List.{List, ◌++◌, map, Memᴰ}
use Prim.Native.Nat.{ℕ, ◌-◌, ◌≤◌, ◌<◌}
use lib.ListN.{length, take, drop, length-map}
use lib.Seq.{length-take-le}
use Rattle.journeys.specs.declared.Contact.{Contact}
use Rattle.journeys.specs.declared.Interval.{Interval}
use Rattle.journeys.specs.Cell.{Cell, Rising, latest_departing, earliest_arriving, latest_departure, earliest_arrival}
use Rattle.journeys.proofs.First.{first_member, earliest-arriving}
use Rattle.journeys.proofs.Cover.{latest-itself}
use Rattle.journeys.proofs.Tests.{never}
use Rattle.words.specs.Words.{contact_word}
use Rattle.rules.specs.declared.Refusal.{Refusal}
use Rattle.rules.specs.Layout.{animals, ticks, carry, cell_at, cell_of, cells_of}
use Rattle.rules.specs.Windows.{fits_window}
use Rattle.rules.specs.Answers.{answer_of}
use Rattle.rules.specs.Chains.{chain_from, chain_of, chain_refusal, chain_answer, chain_words, chain_leaves}
use Rattle.rules.proofs.Asked.{room-behind}
use Rattle.cells.specs.declared.Row.{Row}
use Rattle.cells.specs.Stored.{Stored}
use Rattle.cells.specs.Rows.{first_departing, interval_found}
use Rattle.cells.proofs.Rows.{first-earliest}
use Rattle.checks.proofs.Judged.{refused_with}
use Rattle.chains.specs.declared.steps.Steps.{Steps}
use Rattle.chains.specs.Found.{IsDeparture, words_of, collected}
use Rattle.chains.proofs.Lending.{stored-departs}

-- ---- the chain of the interval kept

-- What is known with the row found: the words lent are those of cell (u, v), and it is their first row that departs at or after first.
pub record Kept (T : List ℕ) (u v first : ℕ) (xs : List ℕ) (f : Option Row) : Type 0 where
  pub stored : Stored xs
  pub lent : xs ≡ cell_at (animals T) (ticks T) T u v
  pub row_is : f ≡ first_departing (cell_of xs) first

module _ {T : List ℕ} {u v first : ℕ} {xs : List ℕ} {f : Option Row} (k : Kept T u v first xs f) (last : ℕ) where
  -- The cell is the pair's.
  the-cell : cell_of xs ≡ cells_of T u v
  unfolding cells_of
  the-cell = ap cell_of k.lent

  -- It rises.
  rises : Rising (cells_of T u v)
  rises = subst Rising the-cell k.stored.rising

  -- The row found has the earliest arriving interval.
  earliest-is : {g : Option Row} → f ≡ g → earliest_arriving (cells_of T u v) first ≡ interval_found g
  earliest-is q = sym (first-earliest (cells_of T u v) first rises) ∙ ap interval_found (ap (λ (c : Cell). first_departing c first) (sym the-cell) ∙ sym k.row_is ∙ q)

  -- No row: no chain.
  pub none-departs : f ≡ None → collected None ≡ words_of (chain_of T u v first last)
  unfolding chain_of earliest_arrival words_of collected
  none-departs q = rw (earliest-is q) refl

  module _ {row : Row} (q : f ≡ Some row) where
    abbrev kept : Interval
    kept = row.interval

    -- Its interval stands in the cell.
    member : Memᴰ kept (cells_of T u v)
    member = first_member (earliest-arriving first (cells_of T u v)) (earliest-is q)

    -- Of those that arrive by its arrival it departs latest.
    latest-is : latest_departing (cells_of T u v) kept.arrival ≡ Some kept
    latest-is = latest-itself kept (cells_of T u v) rises member

    module _ {t : Bool} {δ : ℕ} (c : δ ≡ carry T) (w : t ≡ fits_window δ kept first last) where
      -- The test is made with the table's carry time.
      tested : {s : Bool} → t ≡ s → fits_window (carry T) kept first last ≡ s
      tested h = ap (λ (i : ℕ). fits_window i kept first last) (sym c) ∙ sym w ∙ h

      -- The interval kept does not fit: no chain.
      pub none-fits : t ≡ false → collected None ≡ words_of (chain_of T u v first last)
      unfolding chain_of earliest_arrival latest_departure words_of collected
      none-fits h = rw (earliest-is q, latest-is, tested h) refl

      -- Else it is the chain from u at its departure.
      pub departs : t ≡ true → {o : Option (List ℕ)} → o ≡ words_of (chain_from T v kept.arrival (animals T - 1) u kept.departure) → o ≡ words_of (chain_of T u v first last)
      unfolding chain_of earliest_arrival latest_departure
      departs h e = rw (earliest-is q, latest-is, tested h) e

    -- The departure is a tick.
    pub departs-by : IsDeparture kept.departure
    departs-by = stored-departs k.stored kept (subst (Memᴰ kept) (sym the-cell) member)

-- ---- the answer

-- Where a call that gives a table behind its checks answers a refusal, its checks refused with it,
judged-refused : (T : List ℕ) {o : Option Refusal} {a : Result (List ℕ) Refusal} {r : Refusal} → a ≡ answer_of o (Ok T) → a ≡ Err r → o ≡ Some r
judged-refused T {o} {r = r} p q = go o (sym p ∙ q)
  where
    go : (o : Option Refusal) → answer_of o (Ok T) ≡ Err r → o ≡ Some r
    go None e = never cc
    go (Some s) e = let h : s ≡ r = cc in ap Some h

-- and where it gives one, its checks refused nothing, and the table is the one judged.
judged-passed : (T : List ℕ) {o : Option Refusal} {a : Result (List ℕ) Refusal} {t : List ℕ} → a ≡ answer_of o (Ok T) → a ≡ Ok t → (o ≡ None) × (t ≡ T)
judged-passed T {o} {t = t} p q = go o (sym p ∙ q)
  where
    go : (o : Option Refusal) → answer_of o (Ok T) ≡ Ok t → (o ≡ None) × (t ≡ T)
    go None e = let h : t ≡ T = cc in (refl, h)
    go (Some s) e = never cc

-- Words said to be none are those of no chain.
words-none : (o : Option (List Contact)) → None ≡ words_of o → o ≡ None
unfolding words_of
words-none None e = refl
words-none (Some l) e = never cc

-- A chain with these words is answered by their number, and they are written.
words-some : (B ws : List ℕ) (o : Option (List Contact)) → Some ws ≡ words_of o → (Ok (Some (length ws)) ≡ answer_of None (Ok (option_map length o))) × (ws ++ drop (length ws) B ≡ chain_words o B)
unfolding words_of
words-some B ws None e = never cc
words-some B ws (Some l) e =
    let q : ws ≡ map contact_word l = cc in
    let r : length ws ≡ length l = ap length q ∙ length-map l contact_word in
    (ap Ok (ap Some r), ap (λ (i : List ℕ). i ++ drop (length ws) B) q ∙ ap (λ (i : ℕ). map contact_word l ++ drop i B) r)

module _ (T : List ℕ) (u v first last : ℕ) (B : List ℕ) {a : Result (List ℕ) Refusal} (p : a ≡ answer_of (chain_refusal T u v first last B) (Ok T)) where
  module _ {r : Refusal} (q : a ≡ Err r) where
    -- A refused question is answered by the refusal,
    pub refused_answer : {w : Result (Option ℕ) Refusal} → IsErrAnd w (λ e. e ≡ r) → w ≡ chain_answer T u v first last B
    unfolding chain_answer
    refused_answer h = rw (judged-refused T p q) (refused_with _ h)

    -- and nothing is written.
    pub refused_leaves : B ≡ chain_leaves T u v first last B
    unfolding chain_leaves
    refused_leaves = rw (judged-refused T p q) refl

  module _ {t : List ℕ} (q : a ≡ Ok t) where
    -- The checks passed, and the table is the one judged.
    passed : (chain_refusal T u v first last B ≡ None) × (t ≡ T)
    passed = judged-passed T p q

    -- The two are animals of the table.
    pub asked_pair : (u < animals t) × (v < animals t)
    asked_pair = let e = passed in let r = (room-behind T u v first last B e.0).0 in rw e.1 (r.from_below, r.to_below)

    -- The buffer has room for the longest chain.
    pub asked_room : animals t - 1 ≤ length B
    asked_room = let e = passed in rw e.1 (room-behind T u v first last B e.0).1

    module _ {f : Option Steps} (e : collected f ≡ words_of (chain_of t u v first last)) where
      -- The chain found is that of the table judged.
      found-is : {g : Option Steps} → f ≡ g → collected g ≡ words_of (chain_of T u v first last)
      found-is n = ap collected (sym n) ∙ e ∙ ap (λ (i : List ℕ). words_of (chain_of i u v first last)) passed.1

      -- Without a chain there is no journey, and nothing is written.
      pub chain_none : f ≡ None → ((Ok None) ≡ chain_answer T u v first last B) × (B ≡ chain_leaves T u v first last B)
      unfolding chain_answer chain_leaves collected
      chain_none n =
          let h = words-none (chain_of T u v first last) (found-is n) in
          (rw (passed.0, h) refl, rw (passed.0, h) refl)

      -- A chain is answered by the number of its contacts, and its words are written to the front.
      pub chain-found : {s : Steps} → f ≡ Some s → s.count ≤ length s.words → (C : List ℕ) → C ≡ take s.count s.words ++ drop s.count B
          → (Ok (Some s.count) ≡ chain_answer T u v first last B) × (C ≡ chain_leaves T u v first last B)
      unfolding chain_answer chain_leaves collected
      chain-found {s} n l C c =
          let r = words-some B (take s.count s.words) (chain_of T u v first last) (found-is n) in
          let g : length (take s.count s.words) ≡ s.count = length-take-le s.count s.words l in
          (rw passed.0 (ap (λ (i : ℕ). Ok (Some i)) (sym g) ∙ r.0), rw passed.0 (c ∙ ap (λ (i : ℕ). take s.count s.words ++ drop i B) (sym g) ∙ r.1))
