-- A table that passes its checks, by the numbers that were read off its first word.
use mathlib.Core.Path.{◌≡◌, ap}
use mathlib.Core.List.{List}
use Prim.Native.Nat.{ℕ, ◌+◌, ◌-◌, ◌≤◌}
use native.Mathlib.Omega.{arith}
use lib.ListN.{length, take, drop}
use Rattle.rules.specs.Limits.{max_carry}
use Rattle.rules.specs.Layout.{animals, ticks, carry}
use Rattle.rules.specs.Checks.{ValidTable}
use Rattle.rules.proofs.Sound.{table-sizes, opens-length}
use Rattle.grid.proofs.Places.{rest-lent}

-- The numbers of a table as they were read, and the words after the opening word as they are lent.
pub record Read (T : List ℕ) (n s δ : ℕ) (L : List ℕ) : Type 0 where
  pub animals-is : n ≡ animals T
  pub size_is : s ≡ ticks T + 1
  pub carry-is : δ ≡ carry T
  pub lent_is : L ≡ drop 1 T

-- They are read one after the other, and all words but the first are lent.
pub read_table : (T : List ℕ) {n τ δ : ℕ} → n ≡ animals T → τ ≡ ticks T → δ ≡ carry T → Read T n (τ + 1) δ (take (length T - 1) (drop 1 T))
read_table T a b c = record { animals-is = a; size_is = ap (λ (m : ℕ). m + 1) b; carry-is = c; lent_is = rest-lent T }

module _ (T : List ℕ) (p : ValidTable T) where
  -- It has an opening word.
  pub table-opened : 1 ≤ length T
  table-opened = omega (arith, opens-length T p.opens)

-- The carry time is within its limits.
pub read-carry : (T : List ℕ) {n s δ : ℕ} {L : List ℕ} → Read T n s δ L → δ ≤ max_carry
read-carry T r = omega (arith, r.carry-is, (table-sizes T).δ-high)
