-- Demand 3 of the tender, as one statement about two whole lists of calls, with its own words above its parts. By document 02,
-- Seven, the calls are uncounted adds and removals, and the contacts of a list are those that it leaves at its end.
use Rattle.std.specs.Prelude.{ℕ, ◌+◌, ◌≤◌, ◌<◌, ◌≡◌, ◌↔◌, ◌≢◌, length, drop, Ok}
use mathlib.Core.List.{List, ◌∷◌, ◌++◌, Memᴰ}
use Rattle.journeys.specs.declared.Contact.{Contact}
use Rattle.journeys.specs.declared.Interval.{Interval}
use Rattle.journeys.specs.Journey.{Contacts, With, Same, Minimal}
use Rattle.words.specs.Words.{opening_word}
use Rattle.rules.specs.declared.Added.TheVariants.{New, Known}
use Rattle.rules.specs.Layout.{table_length, cell_at}
use Rattle.rules.specs.Opening.{Sizes}
use Rattle.rules.specs.Adding.{Legal}
use Rattle.rules.specs.Logs.{log_words}
use Rattle.rules.specs.Fresh.{Fresh}
use Rattle.rules.specs.CallLists.{Engine, Call, removal, table_after, AcceptedOn, LegalCall, SetLeft}
use Rattle.rules.specs.Orders.{Sorted, Earlier, Pair, Lower}

-- ---- the words of the demand

-- The contact leaves the minimal intervals of the pair as they are.
abbrev pub SameMinimal : Contacts → ℕ → Contact → ℕ → ℕ → Type 0
SameMinimal S δ k x y = (i : Interval) → Minimal (With S k) δ x y i ↔ Minimal S δ x y i

-- The pair is one of different animals below n whose minimal intervals the contact changes.
pub record Changed (n δ : ℕ) (S : Contacts) (k : Contact) (p : Pair) : Type 0 where
  pub from_below : p.from < n
  pub to_below : p.to < n
  pub different : p.from ≢ p.to
  pub changes : ¬ SameMinimal S δ k p.from p.to

-- ---- the demand

module _ (E : Engine) (n τ δ : ℕ) where
  -- One legal contact more, added to the table T that is fresh over S.
  pub record OneMore (S : Contacts) (T : List ℕ) (k : Contact) : Type 0 where
    -- "changes the cells of exactly those pairs of different animals whose minimal intervals it changes"
    pub exactly : (x y : ℕ) → x < n → y < n → x ≢ y → (cell_at n τ (E.add_leaves T k) x y ≡ cell_at n τ T x y) ↔ SameMinimal S δ k x y
    pub diagonal : (x : ℕ) → x < n → cell_at n τ (E.add_leaves T k) x x ≡ cell_at n τ T x x
    -- "is answered with their number": those pairs, each once
    pub pairs : List Pair
    pub once : Sorted Lower pairs
    pub those : (p : Pair) → Memᴰ p pairs ↔ Changed n δ S k p
    -- "and with known exactly when it was among that table's legal contacts already"
    pub known : (E.add_answer T k ≡ Ok (Known (length pairs))) ↔ S k
    pub new : (E.add_answer T k ≡ Ok (New (length pairs))) ↔ (¬ S k)
    -- "and leaves what a fresh table over the larger set would hold"
    pub larger : Fresh n τ δ (With S k) (E.add_leaves T k)

  -- What is said of one list of calls, run on its own table.
  pub record OneList (words : List ℕ) (A : List Call) : Type 0 where
    -- "a call is accepted exactly when it is legal": whether a removal is, depends on what the calls before it left
    pub accepted : (P : List Call) (c : Call) (Q : List Call) → P ++ (c ∷ Q) ≡ A → AcceptedOn E (table_after E n τ δ words P) c ↔ LegalCall n τ (SetLeft n τ P) c
    -- A legal removal leaves the same words in both its tables.
    pub work : (P : List Call) (k : Contact) (W : List ℕ) (Q : List Call) → P ++ (removal k W ∷ Q) ≡ A → LegalCall n τ (SetLeft n τ P) (removal k W)
        → E.remove_work (table_after E n τ δ words P) W k ≡ E.remove_leaves (table_after E n τ δ words P) W k
    -- "each being the fresh table over its own"
    pub fresh : Fresh n τ δ (SetLeft n τ A) (table_after E n τ δ words A)
    -- "each table's log, in a buffer long enough for it, lists that table's own legal contacts once in sorted order"
    pub listed : List Contact
    pub sorted : Sorted Earlier listed
    pub own : (k : Contact) → Memᴰ k listed ↔ SetLeft n τ A k
    pub written : (B : List ℕ) → length listed + 2 ≤ length B → E.write_answer (table_after E n τ δ words A) B ≡ Ok (length listed + 2)
    pub log : (B : List ℕ) → length listed + 2 ≤ length B
        → E.write_leaves (table_after E n τ δ words A) B ≡ log_words (opening_word n τ δ) listed ++ drop (length listed + 2) B
    -- "one legal contact more, added uncounted, …"
    pub one_more : (k : Contact) → Legal n τ k → OneMore (SetLeft n τ A) (table_after E n τ δ words A) k

  -- What is said of two lists of calls.
  pub record TwoLists (wordsA wordsB : List ℕ) (A B : List Call) : Type 0 where
    pub first : OneList wordsA A
    pub second : OneList wordsB B
    -- "the two tables end equal in every word exactly when the legal contacts of A and of B form the same set": those that each list leaves
    pub equal : (table_after E n τ δ wordsA A ≡ table_after E n τ δ wordsB B) ↔ Same (SetLeft n τ A) (SetLeft n τ B)

-- "Let A and B be any two lists of uncounted contact calls, refused ones included, each list run on a table of its own,
-- freshly opened, with the same number of animals, number of ticks and carry time for both; each call takes the table
-- as the last one left it, and nobody else writes it meanwhile." Removals are among the calls, each with the words lent for its work.
pub record Demand3 (E : Engine) : Type 0 where
  -- A table can be freshly opened just when the three numbers lie within their limits and it has the length for them.
  pub opened : (n τ δ : ℕ) (words : List ℕ) → (E.open_answer n τ δ words ≡ Ok tt) ↔ (Sizes n τ δ × (length words ≡ table_length n τ))
  pub loaded : (n τ δ : ℕ) (wordsA wordsB : List ℕ) (A B : List Call) → E.open_answer n τ δ wordsA ≡ Ok tt → E.open_answer n τ δ wordsB ≡ Ok tt
      → TwoLists E n τ δ wordsA wordsB A B
