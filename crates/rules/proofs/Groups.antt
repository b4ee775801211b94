-- Groups of checks: one refuses by itself, or leaves it to the checks behind it; and what the outcome of a call says of the checks ahead.
use Rattle.std.specs.Prelude.{Option, None, Some}
use mathlib.Core.Path.{◌≡◌, refl, sym, ap, ◌∙◌}
use mathlib.Core.Logic.{◌↔◌}
use mathlib.Core.Bool.{Bool, true, false, not, ◌&&◌}
use mathlib.Core.List.{List}
use Prim.Native.Nat.{ℕ, ◌≤◌, ◌<◌}
use native.Mathlib.Omega.{arith}
use lib.Dec.{ltb, eqb}
use Rattle.journeys.specs.declared.Contact.{Contact}
use Rattle.journeys.proofs.Tests.{never, untrue}
use Rattle.rules.specs.declared.Refusal.{Refusal}
use Rattle.rules.specs.declared.Refusal.TheVariants.{NotOpen, NotWellFormed, NoSuchAnimal, SameAnimal, TickOutOfRange, FirstAfterLast}
use Rattle.rules.specs.Answers.{number_of, ensure}
use Rattle.rules.specs.Folds.{within}
use Rattle.rules.specs.Layout.{animals, ticks}
use Rattle.rules.specs.Checks.{is_open, well_formed, ValidTable, ensure_table}
use Rattle.rules.specs.Adding.{Legal, ensure_pair, ensure_tick}
use Rattle.rules.specs.Windows.{window_in_range, in_order, ensure_window, IsPair}
use Rattle.rules.specs.Questions.{ensure_animal}
use Rattle.rules.proofs.Folds.{both_iff}
use Rattle.rules.proofs.Judged.{below-iff, differ-iff, within-iff}

-- A group of checks refuses by itself, or leaves it to those behind it.
pub record Group (f : Option Refusal → Option Refusal) : Type 0 where
  pub refuses : (r : Refusal) → f None ≡ Some r → (o : Option Refusal) → f o ≡ Some r
  pub passes : f None ≡ None → (o : Option Refusal) → f o ≡ o

-- Nothing refused is no refusal.
pub none-is_not_some : {A : Type 0} {r : Refusal} → None ≡ Some r → A
none-is_not_some e = never cc

-- A refusal is not nothing refused.
pub some-is_not_none : {A : Type 0} {r : Refusal} → Some r ≡ None → A
some-is_not_none e = none-is_not_some (sym e)

-- One check is a group.
pub one-check : (b : Bool) (q : Refusal) → Group (ensure b q)
one-check true q = record { refuses = λ r e o. none-is_not_some e; passes = λ e o. refl }
one-check false q = record { refuses = λ r e o. e; passes = λ e o. some-is_not_none e }

-- Two groups, one after the other, are a group.
pub both-groups : {f g : Option Refusal → Option Refusal} → Group f → Group g → Group (λ o. f (g o))
both-groups {f} {g} p q = record { refuses = refuses (f None) refl; passes = passes (f None) refl }
  where
    refuses : (a : Option Refusal) → f None ≡ a → (r : Refusal) → f (g None) ≡ Some r → (o : Option Refusal) → f (g o) ≡ Some r
    refuses None h r e o = p.passes h (g o) ∙ q.refuses r (sym (p.passes h (g None)) ∙ e) o
    refuses (Some s) h r e o = p.refuses s h (g o) ∙ sym (p.refuses s h (g None)) ∙ e

    passes : (a : Option Refusal) → f None ≡ a → f (g None) ≡ None → (o : Option Refusal) → f (g o) ≡ o
    passes None h e o = p.passes h (g o) ∙ q.passes (sym (p.passes h (g None)) ∙ e) o
    passes (Some s) h e o = some-is_not_none (sym (p.refuses s h (g None)) ∙ e)

pub table-group : (T : List ℕ) → Group (ensure_table T)
table-group T = both-groups (one-check (is_open T) NotOpen) (one-check (well_formed T) NotWellFormed)

pub pair-group : (T : List ℕ) (u v : ℕ) → Group (ensure_pair T u v)
pair-group T u v = both-groups (one-check (ltb u (animals T) && ltb v (animals T)) NoSuchAnimal) (one-check (not (eqb u v)) SameAnimal)

pub window_group : (T : List ℕ) (first last : ℕ) → Group (ensure_window T first last)
window_group T first last = both-groups (one-check (window_in_range T first last) TickOutOfRange) (one-check (in_order first last) FirstAfterLast)

-- On a table that passed 5 and 6, the checks are those behind them.
pub behind-valid : (T : List ℕ) → ValidTable T → (o : Option Refusal) → ensure_table T o ≡ o
behind-valid T p o = rw (p.opens, p.formed) refl

-- ---- checks ahead of others

-- Nothing is refused, or it is with a number above the limit.
abbrev pub LaterThan : ℕ → Option Refusal → Type 0
LaterThan limit None = Unit {0}
LaterThan limit (Some r) = limit < number_of r

-- The checks f, with refusals numbered up to the limit, pass exactly when P holds; what comes of them is then what comes of those behind.
pub record AheadOf (limit : ℕ) (f : Option Refusal → Option Refusal) (P : Type 0) : Type 0 where
  pub behind : (a : Option Refusal) → LaterThan limit a → (o : Option Refusal) → (f o ≡ a) ↔ (P × (o ≡ a))

-- Checks with refusals numbered up to 8.
abbrev pub Ahead : (Option Refusal → Option Refusal) → Type 0 → Type 0
Ahead f P = AheadOf 8 f P

-- A higher limit will do.
pub ahead_of_more : {low high : ℕ} {f : Option Refusal → Option Refusal} {P : Type 0} → low ≤ high → AheadOf low f P → AheadOf high f P
ahead_of_more {low} {high} h p = record { behind = λ a l o. p.behind a (later a l) o }
  where
    later : (a : Option Refusal) → LaterThan high a → LaterThan low a
    later None l = tt
    later (Some r) l = omega arith

-- One check.
pub one-ahead : {limit : ℕ} {P : Type 0} (b : Bool) (q : Refusal) → number_of q ≤ limit → (b ≡ true) ↔ P → AheadOf limit (ensure b q) P
one-ahead {limit} {P} b q low w = record { behind = go b w }
  where
    go : (t : Bool) → (t ≡ true) ↔ P → (a : Option Refusal) → LaterThan limit a → (o : Option Refusal) → (ensure t q o ≡ a) ↔ (P × (o ≡ a))
    go true m a h o = (λ e. (m.0 refl, e), λ p. p.1)
    go false m None h o = (λ e. some-is_not_none e, λ p. untrue (m.1 p.0))
    go false m (Some r) h o = (λ e. let z : q ≡ r = cc in let n = ap number_of z in absurd (omega arith), λ p. untrue (m.1 p.0))

-- Two groups, one after the other, where R says that both pass.
pub both-ahead : {limit : ℕ} {f g : Option Refusal → Option Refusal} {P Q R : Type 0} → AheadOf limit f P → AheadOf limit g Q → (P → Q → R) → (R → P × Q) → AheadOf limit (λ o. f (g o)) R
both-ahead {limit} {f} {g} {P} {Q} {R} p q make split = record { behind = λ a h o. (to a h o, of a h o) }
  where
    to : (a : Option Refusal) → LaterThan limit a → (o : Option Refusal) → f (g o) ≡ a → R × (o ≡ a)
    to a h o e =
        let x = (p.behind a h (g o)).0 e in
        let y = (q.behind a h o).0 x.1 in
        (make x.0 y.0, y.1)

    of : (a : Option Refusal) → LaterThan limit a → (o : Option Refusal) → R × (o ≡ a) → f (g o) ≡ a
    of a h o x = let s = split x.0 in (p.behind a h (g o)).1 (s.0, (q.behind a h o).1 (s.1, x.1))

-- So said, as a pair.
pub then-ahead : {limit : ℕ} {f g : Option Refusal → Option Refusal} {P Q : Type 0} → AheadOf limit f P → AheadOf limit g Q → AheadOf limit (λ o. f (g o)) (P × Q)
then-ahead p q = both-ahead p q (λ a b. (a, b)) (λ r. r)

-- 5 and 6.
pub table-ahead : (T : List ℕ) → Ahead (ensure_table T) (ValidTable T)
table-ahead T =
    both-ahead (one-ahead (is_open T) NotOpen (omega arith) (λ e. e, λ e. e)) (one-ahead (well_formed T) NotWellFormed (omega arith) (λ e. e, λ e. e))
    (λ a b. record { opens = a; formed = b }) (λ p. (p.opens, p.formed))

-- 7 and 8.
pub pair-ahead : (T : List ℕ) (u v : ℕ) → Ahead (ensure_pair T u v) (IsPair (animals T) u v)
pair-ahead T u v =
    both-ahead (one-ahead (ltb u (animals T) && ltb v (animals T)) NoSuchAnimal (omega arith) (both_iff (below-iff u (animals T)) (below-iff v (animals T))))
    (one-ahead (not (eqb u v)) SameAnimal (omega arith) (differ-iff u v))
    (λ a b. record { from_below = a.0; to_below = a.1; apart = b }) (λ p. ((p.from_below, p.to_below), p.apart))

-- 7, of one animal.
pub animal-ahead : (T : List ℕ) (u : ℕ) → Ahead (ensure_animal T u) (u < animals T)
animal-ahead T u = one-ahead (ltb u (animals T)) NoSuchAnimal (omega arith) (below-iff u (animals T))

-- 7, 8 and 9, of a contact.
pub contact-ahead : (T : List ℕ) (k : Contact) → AheadOf 9 (λ o. ensure_pair T k.from k.to (ensure_tick T k.tick o)) (Legal (animals T) (ticks T) k)
contact-ahead T k =
    both-ahead (ahead_of_more (omega arith) (pair-ahead T k.from k.to)) (one-ahead (within 1 k.tick (ticks T)) TickOutOfRange (omega arith) (within-iff 1 k.tick (ticks T)))
    (λ p t. record { from_below = p.from_below; to_below = p.to_below; apart = p.apart; from_one = t.0; to_last = t.1 })
    (λ l. (record { from_below = l.from_below; to_below = l.to_below; apart = l.apart }, (l.from_one, l.to_last)))
