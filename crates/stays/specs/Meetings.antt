-- The pens of each animal at a tick, one bit for each pen, and the contacts of animals that share one.
use Rattle.std.specs.Prelude.{ℕ, zero, suc, ◌^◌, ◌<◌, ◌≡◌, Bool, cond, not, ◌&&◌, List, length, get_or, eqb}
use Rattle.std.specs.Int.Bits.{bit_and, bit_or}
use Rattle.journeys.specs.declared.Contact.{Contact}
use Rattle.journeys.specs.Journey.{contact}
use Rattle.rules.specs.declared.Stay.{Stay}
use Rattle.rules.specs.Limits.{max_animals}
use Rattle.rules.specs.Folds.{flat}
use Rattle.rules.specs.Orders.{listed}
use Rattle.rules.specs.Stays.{stay_at, is_there}

-- The bit of the record's pen, where its animal was there at tick t, else 0.
unfoldable pub pen_bit : Stay → ℕ → ℕ
pen_bit s t = cond (is_there s t) (2 ^ s.pen) 0

-- The pens of animal k at tick t, as the first i records tell them.
unfoldable pub pens_by : List ℕ → ℕ → ℕ → ℕ → ℕ
pens_by W t zero k = 0
pens_by W t (suc i) k = bit_or (pens_by W t i k) (cond (eqb k (stay_at W i).animal) (pen_bit (stay_at W i) t) 0)

-- The array holds the pens of every animal at tick t, as the first i records tell them.
pub record PensBy (W : List ℕ) (t i : ℕ) (pens : List ℕ) : Type 0 where
  pub long : length pens ≡ max_animals
  pub marked : (k : ℕ) → k < max_animals → get_or pens k 0 ≡ pens_by W t i k

-- The contact is one of two different animals that share a pen.
unfoldable pub shares_pen : List ℕ → Contact → Bool
shares_pen pens k = not (eqb k.from k.to) && not (eqb (bit_and (get_or pens k.from 0) (get_or pens k.to 0)) 0)

-- The contact (u, v, t), where it is one of them.
unfoldable pub meeting : List ℕ → ℕ → ℕ → ℕ → List Contact
meeting pens t u v = listed (shares_pen pens) (contact u v t)

-- The contacts of tick t from u to those of n animals that share a pen with it.
unfoldable pub meetings_from : List ℕ → ℕ → ℕ → ℕ → List Contact
meetings_from pens n t u = flat (meeting pens t u) n

-- All contacts of tick t.
unfoldable pub meetings_at : List ℕ → ℕ → ℕ → List Contact
meetings_at pens n t = flat (meetings_from pens n t) n
