-- Orders of contacts and of pairs, sorted lists, contacts listed in log order and their number, and lists without repeats.
use Rattle.std.specs.Prelude.{ℕ, ◌+◌, ◌<◌, ◌≡◌, ◌↔◌, ◌⊎◌, Bool, cond, length}
use mathlib.Core.List.{List, [], ◌∷◌, Memᴰ}
use Rattle.journeys.specs.declared.Contact.{Contact}
use Rattle.journeys.specs.Journey.{contact, Contacts}
use Rattle.rules.specs.Folds.{flat}

-- The element stands in the order R before the first of the list, if there is one.
abbrev pub BeforeHead : {A : Type 0} → (A → A → Type 0) → A → List A → Type 0
BeforeHead R a [] = Unit {0}
BeforeHead R a (b ∷ l) = R a b

-- Each element stands in the order R before the next.
abbrev pub Sorted : {A : Type 0} → (A → A → Type 0) → List A → Type 0
Sorted R [] = Unit {0}
Sorted R (a ∷ l) = BeforeHead R a l × Sorted R l

-- By t, then u, then v: strictly, so that a sorted list has each contact once.
abbrev pub Earlier : Contact → Contact → Type 0
Earlier k c = (k.tick < c.tick) ⊎ ((k.tick ≡ c.tick) × ((k.from < c.from) ⊎ ((k.from ≡ c.from) × (k.to < c.to))))

-- The contact, where it passes the test.
unfoldable pub listed : (Contact → Bool) → Contact → List Contact
listed p k = cond (p k) (k ∷ []) []

-- The contacts of n animals and τ ticks that pass the test, in log order: each once, by t, then u, then v.
unfoldable pub in_log_order : ℕ → ℕ → (Contact → Bool) → List Contact
in_log_order n τ p = flat (λ t. flat (λ u. flat (λ v. listed p (contact u v (t + 1))) n) n) τ

-- m is the number of the contacts in P, each counted once.
pub record NumberOf (P : Contacts) (m : ℕ) : Type 0 where
  pub contacts : List Contact
  pub once : Sorted Earlier contacts
  pub those : (k : Contact) → Memᴰ k contacts ↔ P k
  pub number : m ≡ length contacts

-- An ordered pair of animals.
pub record Pair : Type 0 where
  pub from : ℕ
  pub to : ℕ

-- By u, then v: strictly, so that a sorted list has each pair once.
abbrev pub Lower : Pair → Pair → Type 0
Lower p q = (p.from < q.from) ⊎ ((p.from ≡ q.from) × (p.to < q.to))

-- No number comes twice.
abbrev pub Distinct : List ℕ → Type 0
Distinct [] = Unit {0}
Distinct (a ∷ l) = (¬ Memᴰ a l) × Distinct l
