-- What else holds of the chain that document 01's rule names: its contacts and the window, its animals, its length, and what reach and the
-- check of a claimed chain say of it.
use Rattle.std.specs.Prelude.{ℕ, ◌+◌, ◌≤◌, ◌≡◌, ◌↔◌, List, [], ◌∷◌, map, length, Some, Ok, true}
use Rattle.journeys.specs.declared.Contact.{Contact}
use Rattle.journeys.specs.Journey.{Contacts}
use Rattle.words.specs.Words.{contact_word}
use Rattle.rules.specs.Fresh.{Fresh}
use Rattle.rules.specs.Orders.{Distinct}
use Rattle.rules.specs.Windows.{InWindow, IsWindow, IsPair}
use Rattle.rules.specs.WindowRule.{AllInWindow}
use Rattle.rules.specs.Questions.{reach_answer}
use Rattle.rules.specs.Chains.{chain_of}
use Rattle.rules.specs.Claims.{claimed_answer}
use Rattle.rules.specs.ChainRule.{NamedChain}

-- The animals that the contacts of a chain leave from.
abbrev pub leavers : List Contact → List ℕ
leavers [] = []
leavers (k ∷ l) = k.from ∷ leavers l

-- What else holds of the chain named; but for the first two parts, on a fresh table.
pub record NamedChains : Type 1 where
  -- Of any set of contacts: all contacts of the chain lie in the window, and the contacts in the window alone name the same chain.
  pub in_window : (S : Contacts) (δ u v first last : ℕ) (l : List Contact) → NamedChain S δ u v first last l → AllInWindow first last l
  pub window_alone : (S : Contacts) (δ u v first last : ℕ) (l : List Contact) → NamedChain S δ u v first last l ↔ NamedChain (InWindow S first last) δ u v first last l
  -- No animal comes twice, the goal among them, so n−1 words are always enough.
  pub no_animal_twice : (n τ δ : ℕ) (S : Contacts) (T : List ℕ) → Fresh n τ δ S T → (u v first last : ℕ) → IsPair n u v → (l : List Contact) → NamedChain S δ u v first last l → Distinct (v ∷ leavers l)
  pub enough : (n τ δ : ℕ) (S : Contacts) (T : List ℕ) → Fresh n τ δ S T → (u v first last : ℕ) → IsPair n u v → (l : List Contact) → NamedChain S δ u v first last l → length l + 1 ≤ n
  -- The chain shown, claimed, is answered yes.
  pub claimed : (n τ δ : ℕ) (S : Contacts) (T : List ℕ) → Fresh n τ δ S T → (u v first last : ℕ) → IsPair n u v → IsWindow τ first last → (l : List Contact) → NamedChain S δ u v first last l
      → claimed_answer T u v first last (map contact_word l) ≡ Ok true
  -- A chain is given exactly when reach says yes.
  pub given_when : (n τ δ : ℕ) (S : Contacts) (T : List ℕ) → Fresh n τ δ S T → (u v first last : ℕ) → IsPair n u v → IsWindow τ first last
      → (reach_answer T u v first last ≡ Ok true) ↔ ((l : List Contact) × (chain_of T u v first last ≡ Some l))
