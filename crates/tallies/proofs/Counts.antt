-- What the numbers of a tally come to, with room for one more and raised.
use mathlib.Core.Path.{◌≡◌, ap₂}
use mathlib.Core.Bool.{true}
use Prim.Native.Nat.{ℕ, ◌+◌, ◌<◌}
use lib.Dec.{ltb}
use borrow.Author.Tests.{ltb-true}
use Rattle.rules.specs.declared.Tally.{Tally}
use Rattle.rules.specs.Counting.{full_tally, tally_sum, has_room}

-- A tally has room where its sum is below the sum of a full one.
pub room-test : (t : Tally) {s full : ℕ} → s ≡ tally_sum t → full ≡ full_tally → ltb s full ≡ has_room t
unfolding has_room
room-test t e f = ap₂ ltb e f

-- The four numbers of a tally with room sum to less than 4,294,967,295.
pub room-left : (t : Tally) → has_room t ≡ true → t.new + t.known + t.refused + t.removed < full_tally
unfolding has_room tally_sum
room-left t e = ltb-true (t.new + t.known + t.refused + t.removed) full_tally e

-- What follows where a tally has room.
pub ruleset room = (room-left)
