-- When a question is not refused, and what its answer then says.
use Rattle.std.specs.Prelude.{Option, None, Some, Ok}
use mathlib.Core.Path.{◌≡◌, refl, sym, ap, ◌∙◌, subst}
use mathlib.Core.Logic.{◌↔◌}
use mathlib.Core.Bool.{Bool, true, false}
use mathlib.Core.List.{List}
use Prim.Native.Nat.{ℕ, ◌+◌, ◌-◌, ◌≤◌, ◌<◌}
use lib.ListN.{length}
use lib.Dec.{leb}
use borrow.Author.Tests.{leb-true}
use Rattle.journeys.specs.declared.Interval.{Interval}
use Rattle.journeys.specs.Journey.{Contacts}
use Rattle.journeys.proofs.Tests.{never, untrue}
use Rattle.rules.specs.declared.Refusal.{Refusal}
use Rattle.rules.specs.declared.Refusal.TheVariants.{TickOutOfRange, FirstAfterLast, ChainBufferTooShort}
use Rattle.rules.specs.Answers.{ensure, answer_of}
use Rattle.rules.specs.Folds.{within}
use Rattle.rules.specs.Layout.{animals, ticks, carry}
use Rattle.rules.specs.Checks.{ensure_table, ValidTable}
use Rattle.rules.specs.Adding.{ensure_pair}
use Rattle.rules.specs.Questions.{ensure_animal, reach_refusal, moment_refusal, connected_refusal, reached_refusal}
use Rattle.rules.specs.Fresh.{Fresh}
use Rattle.rules.specs.Chains.{chain_refusal}
use Rattle.rules.specs.Windows.{last_arrival, window_in_range, in_order, ensure_window, IsWindow, IsPair}
use Rattle.rules.proofs.Refusals.{given-iff}
use Rattle.rules.proofs.Judged.{ensure-iff, within-iff}
use Rattle.rules.proofs.Groups.{table-ahead, pair-ahead, animal-ahead}
use Rattle.rules.proofs.Windows.{window_accepted}
use Rattle.rules.proofs.Fresh.{fresh-passes, fresh-animals, fresh-ticks, fresh-carry}

-- ---- answers

-- A test is answered yes exactly when what it asks holds, and no exactly when it does not.
pub yes_iff : {P : Type 0} (b : Bool) → (b ≡ true) ↔ P → (answer_of None (Ok b) ≡ Ok true) ↔ P
yes_iff true c = (λ e. c.0 refl, λ p. refl)
yes_iff false c = (λ e. never cc, λ p. untrue (c.1 p))

pub no_iff : {P : Type 0} (b : Bool) → (b ≡ true) ↔ P → (answer_of None (Ok b) ≡ Ok false) ↔ (¬ P)
no_iff true c = (λ e. never cc, λ n. absurd (n (c.0 refl)))
no_iff false c = (λ e p. untrue (c.1 p), λ n. refl)

pub at-iff : (o : Option Interval) (e : Interval) → (answer_of None (Ok o) ≡ Ok (Some e)) ↔ (o ≡ Some e)
at-iff o e = (λ q. ((given-iff None o (Some e)).0 q).1, ap Ok)

pub nothing-iff : (o : Option Interval) → (answer_of None (Ok o) ≡ Ok None) ↔ (o ≡ None)
nothing-iff o = (λ q. ((given-iff None o None).0 q).1, ap Ok)

-- ---- checks that pass on a table that passes 5 and 6

-- The table passes 5 and 6 and has these numbers.
pub record ValidOf (n τ δ : ℕ) (T : List ℕ) : Type 0 where
  pub valid : ValidTable T
  pub animals-are : animals T ≡ n
  pub ticks-are : ticks T ≡ τ
  pub carry-is : carry T ≡ δ

-- Any such table does, with its own numbers.
pub valid-itself : (T : List ℕ) → ValidTable T → ValidOf (animals T) (ticks T) (carry T) T
valid-itself T q = record { valid = q; animals-are = refl; ticks-are = refl; carry-is = refl }

-- A fresh table does.
pub valid-fresh : {n τ δ : ℕ} {S : Contacts} {T : List ℕ} → Fresh n τ δ S T → ValidOf n τ δ T
valid-fresh f = record { valid = fresh-passes f; animals-are = fresh-animals f; ticks-are = fresh-ticks f; carry-is = fresh-carry f }

module _ {n τ δ : ℕ} {T : List ℕ} (f : ValidOf n τ δ T) where
  table-passes : (o : Option Refusal) → o ≡ None → ensure_table T o ≡ None
  table-passes o e = ((table-ahead T).behind None tt o).1 (f.valid, e)

  pair-passes : (u v : ℕ) → IsPair n u v → (o : Option Refusal) → o ≡ None → ensure_pair T u v o ≡ None
  pair-passes u v p o e = ((pair-ahead T u v).behind None tt o).1 (subst (λ m. IsPair m u v) (sym f.animals-are) p, e)

  animal-passes : (u : ℕ) → u < n → (o : Option Refusal) → o ≡ None → ensure_animal T u o ≡ None
  animal-passes u h o e = ((animal-ahead T u).behind None tt o).1 (subst (λ m. u < m) (sym f.animals-are) h, e)

  -- Ticks run to τ + δ.
  last-is : last_arrival T ≡ τ + δ
  last-is = rw (f.ticks-are, f.carry-is) refl

  in-range : (t : ℕ) → 1 ≤ t → t ≤ τ + δ → within 1 t (last_arrival T) ≡ true
  in-range t h k = (within-iff 1 t (last_arrival T)).1 (h, subst (λ m. t ≤ m) (sym last-is) k)

  window_passes : (first last : ℕ) → IsWindow τ first last → (o : Option Refusal) → o ≡ None → ensure_window T first last o ≡ None
  window_passes first last w o e = window_accepted T first last (subst (λ m. IsWindow m first last) (sym f.ticks-are) w) o ∙ e

  -- Two different animals and a window leave it to the checks behind them.
  pub asked-with : (u v first last : ℕ) → IsPair n u v → IsWindow τ first last → (o : Option Refusal) → o ≡ None → ensure_table T (ensure_pair T u v (ensure_window T first last o)) ≡ None
  asked-with u v first last p w o e = table-passes _ (pair-passes u v p _ (window_passes first last w o e))

  -- A question about two different animals and a window is answered.
  pub reach-asked : (u v first last : ℕ) → IsPair n u v → IsWindow τ first last → reach_refusal T u v first last ≡ None
  unfolding reach_refusal
  reach-asked u v first last p w = asked-with u v first last p w None refl

  pub moment_asked : (u v t : ℕ) → IsPair n u v → 1 ≤ t → t ≤ τ + δ → moment_refusal T u v t ≡ None
  unfolding moment_refusal
  moment_asked u v t p h k = table-passes _ (pair-passes u v p _ ((ensure-iff (within 1 t (last_arrival T)) TickOutOfRange None).1 (in-range t h k, refl)))

  pub connected-asked : (first last : ℕ) → IsWindow τ first last → connected_refusal T first last ≡ None
  unfolding connected_refusal
  connected-asked first last w = table-passes _ (window_passes first last w None refl)

  pub reached-asked : (u first last : ℕ) → u < n → IsWindow τ first last → reached_refusal T u first last ≡ None
  unfolding reached_refusal
  reached-asked u first last h w = table-passes _ (animal-passes u h _ (window_passes first last w None refl))

-- ---- what a call that is not refused may rely on

-- Where nothing is refused, the table passed 5 and 6, and nothing is refused behind them.
pub valid-behind : (T : List ℕ) {o : Option Refusal} → ensure_table T o ≡ None → ValidTable T × (o ≡ None)
valid-behind T {o} e = ((table-ahead T).behind None tt o).0 e

-- Two animals of a valid table.
pub record PairOf (T : List ℕ) (u v : ℕ) : Type 0 where
  pub valid : ValidTable T
  pub from_below : u < animals T
  pub to_below : v < animals T

-- Where nothing is refused, the two are animals of a valid table, and nothing is refused behind their check.
pub pair-behind : (T : List ℕ) (u v : ℕ) {o : Option Refusal} → ensure_table T (ensure_pair T u v o) ≡ None → PairOf T u v × (o ≡ None)
pair-behind T u v {o} e =
    let p = valid-behind T e in
    let q = ((pair-ahead T u v).behind None tt o).0 p.1 in
    (record { valid = p.0; from_below = q.0.from_below; to_below = q.0.to_below }, q.1)

-- A call for a chain that is not refused: the two are animals of a valid table, and the buffer has room for the longest chain.
pub room-behind : (T : List ℕ) (u v first last : ℕ) (B : List ℕ) → chain_refusal T u v first last B ≡ None → PairOf T u v × (animals T - 1 ≤ length B)
unfolding chain_refusal
room-behind T u v first last B e =
    let p = pair-behind T u v e in
    let w = (ensure-iff (window_in_range T first last) TickOutOfRange (ensure (in_order first last) FirstAfterLast room)).0 p.1 in
    let o = (ensure-iff (in_order first last) FirstAfterLast room).0 w.1 in
    (p.0, leb-true (animals T - 1) (length B) ((ensure-iff (leb (animals T - 1) (length B)) ChainBufferTooShort None).0 o.1).0)
  where
    room : Option Refusal
    room = ensure (leb (animals T - 1) (length B)) ChainBufferTooShort None
