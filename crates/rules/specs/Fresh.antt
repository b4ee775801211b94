-- What a table means (document 01, "Lists of calls").
use Rattle.std.specs.Prelude.{ℕ, ◌≡◌, List}
use Rattle.journeys.specs.declared.Contact.{Contact}
use Rattle.journeys.specs.Journey.{Contacts}
use Rattle.journeys.specs.Adding.{Cells, CellsOf}
use Rattle.rules.specs.Layout.{table_words}
use Rattle.rules.specs.Opening.{Sizes}
use Rattle.rules.specs.Adding.{Legal}

-- T is fresh over S: S has legal contacts only, and T is the table, in the layout of `table_words`, whose cells list the minimal intervals of
-- S, none for an animal to itself. "Fresh" is document 01's word for what a table over S holds, however it came about; it need not be newly
-- opened.
pub record Fresh (n τ δ : ℕ) (S : Contacts) (T : List ℕ) : Type 0 where
  pub sizes : Sizes n τ δ
  pub legal : (k : Contact) → S k → Legal n τ k
  pub cells : Cells
  pub minimal : CellsOf S δ cells
  pub words : T ≡ table_words n τ δ cells
