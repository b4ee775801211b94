-- What the refusals of opening and adding say of the numbers.
use Rattle.std.specs.Prelude.{Option, None, Some, Ok}
use mathlib.Core.Path.{◌≡◌, refl, ap}
use mathlib.Core.Logic.{◌↔◌, ◌≢◌}
use mathlib.Core.Bool.{Bool, true, false, cond, not, ◌&&◌}
use mathlib.Core.List.{List}
use Prim.Native.Nat.{ℕ, ◌≤◌, ◌<◌}
use native.Mathlib.Omega.{arith}
use lib.ListN.{length}
use lib.Dec.{ltb, leb, eqb}
use borrow.Author.Tests.{eq-eqb, ne_eqb, eqb-true, eqb-false, le-leb, leb-true, lt-ltb, ltb-true, not-true}
use Rattle.journeys.specs.declared.Contact.{Contact}
use Rattle.journeys.proofs.Tests.{never}
use Rattle.rules.specs.declared.Refusal.{Refusal}
use Rattle.rules.specs.declared.Refusal.TheVariants.{AnimalsBeyondLimit, TicksBeyondLimit, CarryBeyondLimit, WrongLength, NotOpen, NotWellFormed, NoSuchAnimal, SameAnimal, TickOutOfRange}
use Rattle.rules.specs.declared.Added.TheVariants.{New, Known}
use Rattle.rules.specs.Answers.{ensure, unless, answer_of}
use Rattle.rules.specs.Folds.{within}
use Rattle.rules.specs.Layout.{table_length, animals, ticks, cells_of}
use Rattle.rules.specs.Checks.{is_open, well_formed, ValidTable}
use Rattle.rules.specs.Limits.{max_animals, max_ticks, max_carry}
use Rattle.rules.specs.Opening.{Sizes, ensure_sizes, open_refusal, open_answer}
use Rattle.rules.specs.Adding.{Legal, cells_changed, add_refusal, added_cells, holds, add_answer}
use Rattle.rules.specs.CallLists.{Accepted}
use Rattle.rules.proofs.Refusals.{done-iff}
use Rattle.rules.proofs.Folds.{and_left, and_right, and_intro, both_iff}

-- ---- checks in their order

pub none-some : {A : Type 0} (o : Option Refusal) (r : Refusal) → o ≡ None → o ≡ Some r → A
none-some o r p q = never cc

-- Nothing is refused exactly when the first check passes and the rest refuse nothing.
pub ensure-iff : (b : Bool) (r : Refusal) (o : Option Refusal) → (ensure b r o ≡ None) ↔ ((b ≡ true) × (o ≡ None))
ensure-iff true r o = (λ e. (refl, e), λ e. e.1)
ensure-iff false r o = (λ e. none-some (Some r) r e refl, λ e. absurd (let z : ◌≡◌ {A = ℕ} 0 1 = ap (λ (b : Bool). cond b 1 0) e.0 in omega arith))

-- By cases: refused and as it was, or accepted and changed.
pub unless-cases : {A : Type 0} {a b : A} (o : Option Refusal) (P : Option Refusal → A → Type 0) → ((r : Refusal) → o ≡ Some r → P (Some r) b) → (o ≡ None → P None a) → P o (unless o a b)
unless-cases None P f g = g refl
unless-cases (Some r) P f g = f r refl

-- Tests of numbers pass exactly when what they ask holds.
pub below-iff : (a b : ℕ) → (ltb a b ≡ true) ↔ (a < b)
below-iff a b = (ltb-true a b, lt-ltb a b)

pub most-iff : (a b : ℕ) → (leb a b ≡ true) ↔ (a ≤ b)
most-iff a b = (leb-true a b, le-leb a b)

pub equal-iff : (a b : ℕ) → (eqb a b ≡ true) ↔ (a ≡ b)
equal-iff a b = (eqb-true a b, eq-eqb a b)

pub differ-iff : (a b : ℕ) → (not (eqb a b) ≡ true) ↔ (a ≢ b)
differ-iff a b = (λ e. eqb-false a b (not-true (eqb a b) e), λ d. ap not (ne_eqb a b d))

pub within-iff : (low k high : ℕ) → (within low k high ≡ true) ↔ ((low ≤ k) × (k ≤ high))
within-iff low k high = both_iff (most-iff low k) (most-iff k high)

-- ---- opening

-- The first three checks pass exactly when the three numbers lie within their limits.
pub sizes-iff : (n τ δ : ℕ) (o : Option Refusal) → (ensure_sizes n τ δ o ≡ None) ↔ (Sizes n τ δ × (o ≡ None))
sizes-iff n τ δ o = (to, of)
  where
    to : ensure_sizes n τ δ o ≡ None → Sizes n τ δ × (o ≡ None)
    to e =
        let p = (ensure-iff (within 1 n max_animals) AnimalsBeyondLimit _).0 e in
        let q = (ensure-iff (within 1 τ max_ticks) TicksBeyondLimit _).0 p.1 in
        let r = (ensure-iff (within 1 δ max_carry) CarryBeyondLimit o).0 q.1 in
        let a = (within-iff 1 n max_animals).0 p.0 in
        let b = (within-iff 1 τ max_ticks).0 q.0 in
        let c = (within-iff 1 δ max_carry).0 r.0 in
        (record { n_low = a.0; n_high = a.1; τ-low = b.0; τ-high = b.1; δ-low = c.0; δ-high = c.1 }, r.1)

    of : Sizes n τ δ × (o ≡ None) → ensure_sizes n τ δ o ≡ None
    of h =
        let z = h.0 in
        (ensure-iff (within 1 n max_animals) AnimalsBeyondLimit _).1 (
          (within-iff 1 n max_animals).1 (z.n_low, z.n_high),
          (ensure-iff (within 1 τ max_ticks) TicksBeyondLimit _).1 (
            (within-iff 1 τ max_ticks).1 (z.τ-low, z.τ-high),
            (ensure-iff (within 1 δ max_carry) CarryBeyondLimit o).1
                ((within-iff 1 δ max_carry).1 (z.δ-low, z.δ-high), h.1),
          ),
        )

-- Opening is accepted exactly when the three numbers lie within their limits and the table has the length for them.
pub open_iff : (n τ δ : ℕ) (T : List ℕ) → (open_refusal n τ δ T ≡ None) ↔ (Sizes n τ δ × (length T ≡ table_length n τ))
unfolding open_refusal
open_iff n τ δ T = (
  λ e. let h = (sizes-iff n τ δ last).0 e in (h.0, eqb-true (length T) (table_length n τ) ((ensure-iff (eqb (length T) (table_length n τ)) WrongLength None).0 h.1).0),
  λ h. (sizes-iff n τ δ last).1 (h.0, (ensure-iff (eqb (length T) (table_length n τ)) WrongLength None).1 (eq-eqb (length T) (table_length n τ) h.1, refl)),
)
  where
    last : Option Refusal
    last = ensure (eqb (length T) (table_length n τ)) WrongLength None

-- An opening answers opened exactly when nothing refuses it.
pub open_none : (n τ δ : ℕ) (words : List ℕ) → (open_answer n τ δ words ≡ Ok tt) ↔ (open_refusal n τ δ words ≡ None)
unfolding open_answer
open_none n τ δ words = done-iff (open_refusal n τ δ words)

-- ---- adding

-- An add is accepted exactly when the table passes 5 and 6 and the contact is legal.
pub add_iff : (T : List ℕ) (k : Contact) → (add_refusal T k ≡ None) ↔ (ValidTable T × Legal (animals T) (ticks T) k)
unfolding add_refusal
add_iff T k = (to, of)
  where
    u : ℕ
    u = k.from

    v : ℕ
    v = k.to

    pair : Bool
    pair = ltb u (animals T) && ltb v (animals T)

    to : add_refusal T k ≡ None → ValidTable T × Legal (animals T) (ticks T) k
    to e =
        let p = (ensure-iff (is_open T) NotOpen _).0 e in
        let q = (ensure-iff (well_formed T) NotWellFormed _).0 p.1 in
        let r = (ensure-iff pair NoSuchAnimal _).0 q.1 in
        let s = (ensure-iff (not (eqb u v)) SameAnimal _).0 r.1 in
        let t = (ensure-iff (within 1 k.tick (ticks T)) TickOutOfRange None).0 s.1 in
        let w = (within-iff 1 k.tick (ticks T)).0 t.0 in (
          record { opens = p.0; formed = q.0 },
          record {
            from_below = ltb-true u (animals T) (and_left (ltb u (animals T)) (ltb v (animals T)) r.0);
            to_below = ltb-true v (animals T) (and_right (ltb u (animals T)) (ltb v (animals T)) r.0);
            apart = eqb-false u v (not-true (eqb u v) s.0);
            from_one = w.0;
            to_last = w.1;
          },
        )

    of : ValidTable T × Legal (animals T) (ticks T) k → add_refusal T k ≡ None
    of h =
        let p = h.0 in
        let l = h.1 in
        (ensure-iff (is_open T) NotOpen _).1 (
          p.opens,
          (ensure-iff (well_formed T) NotWellFormed _).1 (
            p.formed,
            (ensure-iff pair NoSuchAnimal _).1 (
              and_intro (ltb u (animals T)) (ltb v (animals T)) (lt-ltb u (animals T) l.from_below) (lt-ltb v (animals T) l.to_below),
              (ensure-iff (not (eqb u v)) SameAnimal _).1 (
                ap not (ne_eqb u v l.apart),
                (ensure-iff (within 1 k.tick (ticks T)) TickOutOfRange None).1
                    ((within-iff 1 k.tick (ticks T)).1 (l.from_one, l.to_last), refl),
              ),
            ),
          ),
        )

-- An add is accepted exactly when nothing refuses it.
pub accepted-none : (T : List ℕ) (k : Contact) → Accepted (add_answer T k) ↔ (add_refusal T k ≡ None)
unfolding add_answer
accepted-none T k = go (add_refusal T k)
  where
    m : ℕ
    m = cells_changed (animals T) (cells_of T) (added_cells T k)

    taken : (b : Bool) → Accepted (Ok (cond b (Known m) (New m)))
    taken true = tt
    taken false = tt

    go : (o : Option Refusal) → Accepted (answer_of o (Ok (cond (holds T k) (Known m) (New m)))) ↔ (o ≡ None)
    go None = (λ a. refl, λ e. taken (holds T k))
    go (Some r) = (λ a. absurd a, λ e. none-some (Some r) r e refl)
