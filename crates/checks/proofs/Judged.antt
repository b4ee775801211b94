-- What the verdict of one group of checks says of all checks behind it, and what the verdict of a call's checks says.
use Rattle.std.specs.Prelude.{Option, None, Some, Ok, Err, Result, IsErrAnd, ⊤}
use mathlib.Core.Path.{◌≡◌, refl, sym, ap, ◌∙◌}
use mathlib.Core.Bool.{Bool, true, false}
use mathlib.Core.List.{List}
use Prim.Native.Nat.{ℕ, ◌<◌}
use lib.ListN.{get_or}
use Rattle.journeys.proofs.Tests.{never}
use Rattle.words.specs.Words.{animals_of}
use Rattle.rules.specs.declared.Refusal.{Refusal}
use Rattle.rules.specs.Answers.{ensure, answer_of, done}
use Rattle.rules.specs.Layout.{animals}
use Rattle.rules.specs.Checks.{ValidTable, ensure_table}
use Rattle.rules.specs.Questions.{ensure_animal}
use Rattle.rules.proofs.Refusals.{refused-iff, given-iff}
use Rattle.rules.proofs.Groups.{Group, some-is_not_none, then-ahead, table-ahead, animal-ahead}
use Rattle.rules.proofs.Asked.{valid-behind}
use Rattle.checks.specs.Verdicts.{verdict_of}

-- ---- verdicts

-- The checks refused what the verdict refuses.
pub verdict_refused : {o : Option Refusal} {v : Result ⊤ Refusal} {r : Refusal} → v ≡ verdict_of o → v ≡ Err r → o ≡ Some r
unfolding verdict_of
verdict_refused {o} {v} {r} p q = go o (sym p ∙ q)
  where
    go : (o : Option Refusal) → verdict_of o ≡ Err r → o ≡ Some r
    go None e = never cc
    go (Some s) e = let h : s ≡ r = cc in ap Some h

-- Where the verdict is passed, the checks refused nothing.
pub verdict_passed : {o : Option Refusal} {v : Result ⊤ Refusal} → v ≡ verdict_of o → v ≡ done → o ≡ None
unfolding verdict_of
verdict_passed {o} {v} p q = go o (sym p ∙ q)
  where
    go : (o : Option Refusal) → verdict_of o ≡ done → o ≡ None
    go None e = refl
    go (Some s) e = never cc

-- What the exit of a `?` returns is the refusal that it met.
pub refused_with : {A : Type 0} (v : Result A Refusal) {r : Refusal} → IsErrAnd v (λ e. e ≡ r) → v ≡ Err r
refused_with (Ok x) h = absurd h
refused_with (Err e) h = ap Err h

-- At a `?` behind a group of checks: the group refused, and so do all checks,
pub group_refused : {f : Option Refusal → Option Refusal} → Group f → (o : Option Refusal) {a v : Result ⊤ Refusal} {r : Refusal} → a ≡ verdict_of (f None) → a ≡ Err r → IsErrAnd v (λ e. e ≡ r) → v ≡ verdict_of (f o)
unfolding verdict_of
group_refused g o {v = v} {r = r} p q h = refused_with v h ∙ ap verdict_of (sym (g.refuses r (verdict_refused p q) o))

-- or it passed, and the verdict is that of the checks behind it.
pub group_passed : {f : Option Refusal → Option Refusal} → Group f → (o : Option Refusal) {a w : Result ⊤ Refusal} → a ≡ verdict_of (f None) → a ≡ done → w ≡ verdict_of o → w ≡ verdict_of (f o)
group_passed g o p q e = e ∙ ap verdict_of (sym (g.passes (verdict_passed p q) o))

-- At a `?` on the verdict of all checks of a call: the call is refused,
pub refused_at : {A : Type 0} (o : Option Refusal) (x : Result A Refusal) {a : Result ⊤ Refusal} {v : Result A Refusal} {r : Refusal} → a ≡ verdict_of o → a ≡ Err r → IsErrAnd v (λ e. e ≡ r) → v ≡ answer_of o x
refused_at o x {v = v} p q h = rw (verdict_refused p q) (refused_with v h)

-- or it answers.
pub passed_at : {A : Type 0} (o : Option Refusal) (x : Result A Refusal) {a : Result ⊤ Refusal} → a ≡ verdict_of o → a ≡ done → x ≡ answer_of o x
passed_at o x p q = rw (verdict_passed p q) refl

-- ---- judges that give the table that passed

-- The checks refused what the judge refuses.
pub judge_refused : {A : Type 0} (o : Option Refusal) (y : A) {a : Result A Refusal} {r : Refusal} → a ≡ answer_of o (Ok y) → a ≡ Err r → o ≡ Some r
judge_refused o y {r = r} p q = (refused-iff o y r).0 (sym p ∙ q)

-- Where the judge gives something, the checks refused nothing,
pub judge_passed : {A : Type 0} (o : Option Refusal) (y : A) {z : A} {a : Result A Refusal} → a ≡ answer_of o (Ok y) → a ≡ Ok z → o ≡ None
judge_passed o y {z = z} p q = ((given-iff o y z).0 (sym p ∙ q)).0

-- and it is what was judged.
pub judge_gave : {A : Type 0} (o : Option Refusal) (y : A) {z : A} {a : Result A Refusal} → a ≡ answer_of o (Ok y) → a ≡ Ok z → z ≡ y
judge_gave o y {z = z} p q = sym ((given-iff o y z).0 (sym p ∙ q)).1

-- At a `?` on a judge of all checks of a call: the call is refused,
pub table_refused_at : {A B : Type 0} (o : Option Refusal) (x : Result A Refusal) (y : B) {a : Result B Refusal} {v : Result A Refusal} {r : Refusal} → a ≡ answer_of o (Ok y) → a ≡ Err r → IsErrAnd v (λ e. e ≡ r) → v ≡ answer_of o x
table_refused_at o x y {v = v} p q h = rw (judge_refused o y p q) (refused_with v h)

-- or it answers.
pub table_passed_at : {A B : Type 0} (o : Option Refusal) (x : Result A Refusal) (y : B) {z : B} {a : Result B Refusal} → a ≡ answer_of o (Ok y) → a ≡ Ok z → x ≡ answer_of o x
table_passed_at o x y p q = rw (judge_passed o y p q) refl

-- ---- what a call that is not refused may rely on

-- A table that was judged passed is valid.
pub table-valid : (T : List ℕ) {v : Result ⊤ Refusal} → v ≡ verdict_of (ensure_table T None) → v ≡ done → ValidTable T
table-valid T p q = (valid-behind T (verdict_passed p q)).0

-- Where nothing is refused, the animal is one of a valid table.
pub animal-behind : (T : List ℕ) (u : ℕ) (o : Option Refusal) → ensure_table T (ensure_animal T u o) ≡ None → ValidTable T × (u < animals T)
animal-behind T u o e = (((then-ahead (table-ahead T) (animal-ahead T u)).behind None tt o).0 e).0

-- ---- one check

-- A check by a test that comes to the same.
pub check_as : (q : Refusal) {b d : Bool} {v : Result ⊤ Refusal} → v ≡ verdict_of (ensure b q None) → b ≡ d → v ≡ verdict_of (ensure d q None)
check_as q {b} {d} p e = p ∙ ap (λ (x : Bool). verdict_of (ensure x q None)) e

-- A check that passed has its test.
pub check_passed : (q : Refusal) {b : Bool} {v : Result ⊤ Refusal} → v ≡ verdict_of (ensure b q None) → v ≡ done → b ≡ true
check_passed q {b} p e = go b (verdict_passed p e)
  where
    go : (b : Bool) → ensure b q None ≡ None → b ≡ true
    go true h = refl
    go false h = some-is_not_none h

-- The number of animals that a first word says.
pub animals-read : (T : List ℕ) {w n : ℕ} → n ≡ animals_of w → w ≡ get_or T 0 0 → n ≡ animals T
animals-read T p e = p ∙ ap animals_of e
