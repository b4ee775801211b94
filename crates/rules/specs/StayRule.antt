-- What document 02, Four, promises of a list of stays; above each part stands what it says. That nothing is added on a refusal is of demand 1.
use Rattle.std.specs.Prelude.{◌≡◌, ◌↔◌, ◌⊎◌, ◌≢◌, true, ℕ, ◌%◌, ◌≤◌, ◌<◌, length, None, Some, Ok, Err}
use mathlib.Core.List.{List, [], ◌∷◌, ◌++◌, Memᴰ}
use Rattle.journeys.specs.declared.Contact.{Contact}
use Rattle.journeys.specs.Journey.{contact, Contacts, In, Union, Same}
use Rattle.rules.specs.declared.Refusal.{Refusal}
use Rattle.rules.specs.declared.Refusal.TheVariants.{IllegalStay}
use Rattle.rules.specs.declared.Stay.{Stay}
use Rattle.rules.specs.Limits.{max_pen}
use Rattle.rules.specs.Layout.{animals, ticks}
use Rattle.rules.specs.Checks.{ValidTable, ensure_table}
use Rattle.rules.specs.Logs.{held_contacts}
use Rattle.rules.specs.Fresh.{Fresh}
use Rattle.rules.specs.Orders.{Sorted, Earlier, NumberOf}
use Rattle.rules.specs.CallLists.{engine, run, new_adds}
use Rattle.rules.specs.Stays.{stays_of, is_whole, stay_contacts, stays_answer, stays_leaves}

-- A stay of one of n animals in one of the pens, at ticks of 1 to τ, the first not after the last.
pub record IsStay (n τ : ℕ) (s : Stay) : Type 0 where
  pub animal_below : s.animal < n
  pub pen_within : s.pen ≤ max_pen
  pub first_within : (1 ≤ s.first) × (s.first ≤ τ)
  pub last_within : (1 ≤ s.last) × (s.last ≤ τ)
  pub in_order : s.first ≤ s.last

-- The words are whole records, each of them such a stay.
pub record AreStays (n τ : ℕ) (W : List ℕ) : Type 0 where
  pub whole : length W % 4 ≡ 0
  pub each : (s : Stay) → Memᴰ s (stays_of W) → IsStay n τ s

-- The first record of the list that is no such stay.
pub record FirstIllegal (n τ : ℕ) (l : List Stay) : Type 0 where
  pub before : List Stay
  pub illegal : Stay
  pub behind : List Stay
  pub split : l ≡ before ++ (illegal ∷ behind)
  pub stays : (s : Stay) → Memᴰ s before → IsStay n τ s
  pub no_stay : ¬ IsStay n τ illegal

-- A list of records as it is lent: four words to each.
unfoldable pub stay_words : List Stay → List ℕ
stay_words [] = []
stay_words (s ∷ l) = s.animal ∷ s.pen ∷ s.first ∷ s.last ∷ stay_words l

-- The animal was in the pen at tick t.
pub record There (s : Stay) (t : ℕ) : Type 0 where
  pub from_first : s.first ≤ t
  pub to_last : t ≤ s.last

-- Two records of the list say so: the contact leads from the animal of the one to that of the other, two different animals, in the same pen at
-- the contact's tick, which both share.
pub record Met (l : List Stay) (k : Contact) : Type 0 where
  pub one : Stay
  pub other : Stay
  pub one_listed : Memᴰ one l
  pub other_listed : Memᴰ other l
  pub from_is : one.animal ≡ k.from
  pub to_is : other.animal ≡ k.to
  pub different : one.animal ≢ other.animal
  pub same_pen : one.pen ≡ other.pen
  pub one_there : There one k.tick
  pub other_there : There other k.tick

-- The stays are added to T, and the answer is the number of the contacts in P, each counted once.
pub record StaysCount (T W : List ℕ) (P : Contacts) : Type 0 where
  pub new : ℕ
  pub answered : stays_answer T W ≡ Ok new
  pub number : NumberOf P new

pub record StayRule : Type 1 where
  -- Records lent as words are read as these records, and the words of whole records are those of the records read.
  pub read_again : (l : List Stay) → (stays_of (stay_words l) ≡ l) × (is_whole (stay_words l) ≡ true)
  pub words_again : (W : List ℕ) → is_whole W ≡ true → stay_words (stays_of W) ≡ W
  -- 5 and 6 are judged before the records, whatever these are.
  pub table_judged : (T W : List ℕ) (r : Refusal) → ensure_table T None ≡ Some r → stays_answer T W ≡ Err r
  -- 18 is given behind them, exactly when there is a first record in list order that is no stay of the table's animals and ticks, or the last
  -- record is incomplete; else the contacts are added. Stays of one animal may overlap, in one pen or in two.
  pub refused_exactly : (T W : List ℕ) → (stays_answer T W ≡ Err IllegalStay)
      ↔ (ValidTable T × (FirstIllegal (animals T) (ticks T) (stays_of W) ⊎ (length W % 4 ≢ 0)))
  pub added_exactly : (T W : List ℕ) → ((m : ℕ) × (stays_answer T W ≡ Ok m)) ↔ (ValidTable T × AreStays (animals T) (ticks T) W)
  -- A contact is among those added exactly when two records say so; they are listed each once, in log order,
  pub contacts_exactly : (T W : List ℕ) → AreStays (animals T) (ticks T) W → Same (In (stay_contacts T W)) (Met (stays_of W))
  pub in_log_order : (T W : List ℕ) → Sorted Earlier (stay_contacts T W)
  -- and lead both ways.
  pub both_ways : (l : List Stay) (u v t : ℕ) → Met l (contact u v t) → Met l (contact v u t)
  -- The outcome is that of adding these contacts singly, on any table that passes 5 and 6, in log order or in any other, repeats or not.
  pub singly : (T W : List ℕ) → ValidTable T → AreStays (animals T) (ticks T) W → (l : List Contact) → Same (In l) (Met (stays_of W))
      → (stays_answer T W ≡ Ok (new_adds engine T l)) × (stays_leaves T W ≡ run engine T l)
  -- The table then holds its own contacts and those of the stays,
  pub both_held : (T W : List ℕ) → ValidTable T → AreStays (animals T) (ticks T) W
      → (k : Contact) → Memᴰ k (held_contacts (stays_leaves T W)) ↔ (Memᴰ k (held_contacts T) ⊎ Met (stays_of W) k)
  -- and the answer counts those that were new to it.
  pub new_to_table : (T W : List ℕ) → ValidTable T → AreStays (animals T) (ticks T) W → StaysCount T W (λ k. Met (stays_of W) k × (¬ Memᴰ k (held_contacts T)))
  -- A table that is fresh over P becomes fresh over P with them, and those not in P are counted.
  pub stays_fresh : (n τ δ : ℕ) (P : Contacts) (T W : List ℕ) → Fresh n τ δ P T → AreStays n τ W → Fresh n τ δ (Union P (Met (stays_of W))) (stays_leaves T W)
  pub new_to_set : (n τ δ : ℕ) (P : Contacts) (T W : List ℕ) → Fresh n τ δ P T → AreStays n τ W → StaysCount T W (λ k. Met (stays_of W) k × (¬ P k))
  -- Neither the order of the records nor their repeats matter, on any table.
  pub any_order : (T A B : List ℕ) → is_whole A ≡ is_whole B → ((s : Stay) → Memᴰ s (stays_of A) ↔ Memᴰ s (stays_of B))
      → (stays_answer T A ≡ stays_answer T B) × (stays_leaves T A ≡ stays_leaves T B)
  -- An empty list answers 0 and leaves the table.
  pub no_stays : (T : List ℕ) → ValidTable T → (stays_answer T [] ≡ Ok 0) × (stays_leaves T [] ≡ T)
