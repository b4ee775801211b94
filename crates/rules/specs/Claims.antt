-- The check of a claimed chain (document 01, "Questions").
use Rattle.std.specs.Prelude.{ℕ, ◌+◌, ◌≡◌, ◌↔◌, Bool, false, ◌&&◌, List, [], ◌∷◌, map, leb, ltb, eqb, Ok, Result, true}
use Rattle.journeys.specs.declared.Contact.{Contact}
use Rattle.journeys.specs.Journey.{Contacts, In, contacts_of}
use Rattle.words.specs.Layout.{is_of}
use Rattle.words.specs.Words.{contact_layout, contact_of, contact_word}
use Rattle.rules.specs.declared.Refusal.{Refusal}
use Rattle.rules.specs.Answers.{answer_of}
use Rattle.rules.specs.Layout.{animals, ticks, carry}
use Rattle.rules.specs.Checks.{ValidTable}
use Rattle.rules.specs.Adding.{holds}
use Rattle.rules.specs.Logs.{held_contacts}
use Rattle.rules.specs.Questions.{reach_refusal}
use Rattle.rules.specs.Fresh.{Fresh}
use Rattle.rules.specs.Windows.{in_window, Fits, IsWindow, IsPair}

-- The word is that of a contact held by the table, which has none with an animal n or above.
unfoldable pub held_word : List ℕ → ℕ → Bool
held_word T w = is_of contact_layout w && ltb (contact_of w).from (animals T) && ltb (contact_of w).to (animals T) && holds T (contact_of w)

-- The word leaves x at or after tick a.
abbrev pub leaves_from : ℕ → ℕ → Contact → Bool
leaves_from x a k = eqb k.from x && leb a k.tick

-- The word's contact is held, lies in the window and leaves x at or after tick a. The positions are: the table, the window's first and last
-- tick, the animal x and the tick a, the word.
unfoldable pub goes_on : List ℕ → ℕ → ℕ → ℕ → ℕ → ℕ → Bool
goes_on T first last x a w = held_word T w && in_window first last (contact_of w) && leaves_from x a (contact_of w)

-- The words, of which there must be one, are held contacts in the window that form a journey from x, leaving it at or after a, to v. The
-- positions are: the table, the goal v, the window's first and last tick, the animal x and the tick a, the words.
unfoldable pub form_journey : List ℕ → ℕ → ℕ → ℕ → ℕ → ℕ → List ℕ → Bool
form_journey T v first last x a [] = false
form_journey T v first last x a (w ∷ []) = goes_on T first last x a w && eqb (contact_of w).to v
form_journey T v first last x a (w ∷ y ∷ ws) =
    goes_on T first last x a w && form_journey T v first last (contact_of w).to ((contact_of w).tick + carry T) (y ∷ ws)

-- Yes when the words form a journey of held contacts from u to v that fits the window.
unfoldable pub claimed_answer : List ℕ → ℕ → ℕ → ℕ → ℕ → List ℕ → Result Bool Refusal
claimed_answer T u v first last ws = answer_of (reach_refusal T u v first last) (Ok (form_journey T v first last u 0 ws))

-- ---- what it means

-- The words spell a journey of S from u to v that fits the window.
pub record SpellsJourney (S : Contacts) (δ u v first last : ℕ) (ws : List ℕ) : Type 0 where
  pub spelled : Fits S δ u v first last
  pub words : ws ≡ map contact_word (contacts_of spelled.journey)

-- A claimed chain is answered yes exactly when its words spell a fitting journey, else no: on a fresh table one of its set, on any table that
-- passes 5 and 6 one of the contacts that it holds.
pub record ClaimsJudged : Type 1 where
  pub yes_when : (n τ δ : ℕ) (S : Contacts) (T : List ℕ) → Fresh n τ δ S T → (u v first last : ℕ) → IsPair n u v → IsWindow τ first last → (ws : List ℕ)
      → (claimed_answer T u v first last ws ≡ Ok true) ↔ SpellsJourney S δ u v first last ws
  pub no_when : (n τ δ : ℕ) (S : Contacts) (T : List ℕ) → Fresh n τ δ S T → (u v first last : ℕ) → IsPair n u v → IsWindow τ first last → (ws : List ℕ)
      → (claimed_answer T u v first last ws ≡ Ok false) ↔ (¬ SpellsJourney S δ u v first last ws)
  pub held_yes : (T : List ℕ) → ValidTable T → (u v first last : ℕ) → IsPair (animals T) u v → IsWindow (ticks T) first last → (ws : List ℕ)
      → (claimed_answer T u v first last ws ≡ Ok true) ↔ SpellsJourney (In (held_contacts T)) (carry T) u v first last ws
  pub held_no : (T : List ℕ) → ValidTable T → (u v first last : ℕ) → IsPair (animals T) u v → IsWindow (ticks T) first last → (ws : List ℕ)
      → (claimed_answer T u v first last ws ≡ Ok false) ↔ (¬ SpellsJourney (In (held_contacts T)) (carry T) u v first last ws)
