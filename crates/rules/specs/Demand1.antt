-- Demand 1 of the tender, with its own words above its parts.
use Rattle.std.specs.Prelude.{ℕ, ◌+◌, ◌≤◌, ◌<◌, ◌≡◌, ◌↔◌, ◌≢◌, List, length, replicate, Ok, Err}
use Rattle.journeys.specs.declared.Contact.{Contact}
use Rattle.rules.specs.declared.Refusal.{Refusal}
use Rattle.rules.specs.declared.Refusal.TheVariants.{TallyFull}
use Rattle.rules.specs.declared.Tally.{Tally}
use Rattle.rules.specs.declared.Question.{Question}
use Rattle.rules.specs.Answers.{number_of}
use Rattle.rules.specs.Layout.{animals, ticks}
use Rattle.rules.specs.Checks.{ValidTable}
use Rattle.rules.specs.Opening.{open_answer, open_leaves}
use Rattle.rules.specs.Adding.{Legal, add_answer, add_leaves}
use Rattle.rules.specs.Logs.{write_answer, write_leaves}
use Rattle.rules.specs.CallLists.{Accepted}
use Rattle.rules.specs.Reading.{read_answer, read_leaves}
use Rattle.rules.specs.Joining.{join_answer, join_leaves}
use Rattle.rules.specs.Stays.{stays_answer, stays_leaves}
use Rattle.rules.specs.Questions.{reached_answer, reached_words, reached_count, reached_leaves}
use Rattle.rules.specs.Chains.{chain_answer, chain_leaves}
use Rattle.rules.specs.Removing.{remove_answer, remove_leaves, remove_work}
use Rattle.rules.specs.Counting.{full_tally, counted_answer, counted_leaves, counted_tally, counted_removal, counted_removal_leaves, counted_removal_work, counted_removal_tally}
use Rattle.rules.specs.QuestionList.{list_answer, list_leaves}

-- Demand 1. Its first sentence, "The memory lent to a call, table, list, log and buffer, is read and written only inside its ends, and every
-- call on any contents stops with an answer or a numbered refusal", is what the check of each function shows; here stands what the demand
-- says of the refusals' numbers and of the words.
pub record Demand1 : Type 0 where
  -- A "numbered refusal" is known by its number.
  pub numbers_differ : (r s : Refusal) → number_of r ≡ number_of s → r ≡ s
  -- "A refusal changes no lent word."
  pub open_refused : (n τ δ : ℕ) (T : List ℕ) (r : Refusal) → open_answer n τ δ T ≡ Err r → open_leaves n τ δ T ≡ T
  pub add_refused : (T : List ℕ) (k : Contact) (r : Refusal) → add_answer T k ≡ Err r → add_leaves T k ≡ T
  pub remove_refused : (T W : List ℕ) (k : Contact) (r : Refusal) → remove_answer T W k ≡ Err r → (remove_leaves T W k ≡ T) × (remove_work T W k ≡ W)
  pub write_refused : (T B : List ℕ) (r : Refusal) → write_answer T B ≡ Err r → write_leaves T B ≡ B
  pub read_refused : (L T : List ℕ) (r : Refusal) → read_answer L T ≡ Err r → read_leaves L T ≡ T
  pub join_refused : (F S : List ℕ) (r : Refusal) → join_answer F S ≡ Err r → join_leaves F S ≡ F
  pub stays_refused : (T W : List ℕ) (r : Refusal) → stays_answer T W ≡ Err r → stays_leaves T W ≡ T
  pub chain_refused : (T : List ℕ) (u v first last : ℕ) (B : List ℕ) (r : Refusal) → chain_answer T u v first last B ≡ Err r → chain_leaves T u v first last B ≡ B
  pub counted_refused : (t : Tally) (T : List ℕ) (k : Contact) (r : Refusal) → counted_answer t T k ≡ Err r → counted_leaves t T k ≡ T
  pub removal_refused : (t : Tally) (T W : List ℕ) (k : Contact) (r : Refusal) → counted_removal t T W k ≡ Err r
      → (counted_removal_leaves t T W k ≡ T) × (counted_removal_work t T W k ≡ W)
  pub reached_refused : (T : List ℕ) (u first last : ℕ) (B : List ℕ) (r : Refusal) → reached_answer T u first last ≡ Err r → reached_leaves T u first last B ≡ B
  pub list_refused : (T : List ℕ) (l : List Question) (r : Refusal) → list_answer T l ≡ Err r → list_leaves T l ≡ l
  -- "save that a counted add counts it unless its tally is full", and so does a counted removal
  pub counted_counts : (t : Tally) (T : List ℕ) (k : Contact) (r : Refusal) → counted_answer t T k ≡ Err r → r ≢ TallyFull
      → counted_tally t T k ≡ record { new = t.new; known = t.known; refused = t.refused + 1; removed = t.removed }
  pub counted_full : (t : Tally) (T : List ℕ) (k : Contact) → (counted_answer t T k ≡ Err TallyFull) ↔ (full_tally ≤ t.new + t.known + t.refused + t.removed)
  pub counted_full_kept : (t : Tally) (T : List ℕ) (k : Contact) → counted_answer t T k ≡ Err TallyFull → counted_tally t T k ≡ t
  pub removal_counts : (t : Tally) (T W : List ℕ) (k : Contact) (r : Refusal) → counted_removal t T W k ≡ Err r → r ≢ TallyFull
      → counted_removal_tally t T W k ≡ record { new = t.new; known = t.known; refused = t.refused + 1; removed = t.removed }
  pub removal_full : (t : Tally) (T W : List ℕ) (k : Contact) → (counted_removal t T W k ≡ Err TallyFull) ↔ (full_tally ≤ t.new + t.known + t.refused + t.removed)
  pub removal_full_kept : (t : Tally) (T W : List ℕ) (k : Contact) → counted_removal t T W k ≡ Err TallyFull → counted_removal_tally t T W k ≡ t
  -- The other questions only read; a join only reads its second table, and stays only their records. A refused question for the animals
  -- reached gives an empty set.
  pub reached_empty : (T : List ℕ) (u first last : ℕ) (r : Refusal) → reached_answer T u first last ≡ Err r
      → (reached_words T u first last ≡ replicate 8 0) × (reached_count T u first last ≡ 0)
  -- The memory lent keeps its ends.
  pub open_length : (n τ δ : ℕ) (T : List ℕ) → length (open_leaves n τ δ T) ≡ length T
  pub add_length : (T : List ℕ) (k : Contact) → length (add_leaves T k) ≡ length T
  pub remove_length : (T W : List ℕ) (k : Contact) → (length (remove_leaves T W k) ≡ length T) × (length (remove_work T W k) ≡ length W)
  pub write_length : (T B : List ℕ) → length (write_leaves T B) ≡ length B
  pub read_length : (L T : List ℕ) → length (read_leaves L T) ≡ length T
  pub join_length : (F S : List ℕ) → length (join_leaves F S) ≡ length F
  pub stays_length : (T W : List ℕ) → length (stays_leaves T W) ≡ length T
  pub counted_length : (t : Tally) (T : List ℕ) (k : Contact) → length (counted_leaves t T k) ≡ length T
  pub removal_length : (t : Tally) (T W : List ℕ) (k : Contact) → (length (counted_removal_leaves t T W k) ≡ length T) × (length (counted_removal_work t T W k) ≡ length W)
  pub list_length : (T : List ℕ) (l : List Question) → length (list_leaves T l) ≡ length l
  pub reached_length : (T : List ℕ) (u first last : ℕ) (B : List ℕ) → length (reached_leaves T u first last B) ≡ length B
  pub chain_length : (T : List ℕ) (u v first last : ℕ) (B : List ℕ) → length (chain_leaves T u v first last B) ≡ length B
  -- Opening, reading a log, and every add to a table that passes 5 and 6 and every removal from one, counted or not, every join into one and every
  -- list of stays added to one leave a table that passes them; a removal that is done leaves two.
  pub open_valid : (n τ δ : ℕ) (T : List ℕ) → open_answer n τ δ T ≡ Ok tt → ValidTable (open_leaves n τ δ T)
  pub read_valid : (L T : List ℕ) (k : ℕ) → read_answer L T ≡ Ok k → ValidTable (read_leaves L T)
  pub add_valid : (T : List ℕ) (k : Contact) → ValidTable T → ValidTable (add_leaves T k)
  pub remove_valid : (T W : List ℕ) (k : Contact) → ValidTable T → ValidTable (remove_leaves T W k)
  pub remove_both_valid : (T W : List ℕ) (k : Contact) → remove_answer T W k ≡ Ok tt → ValidTable (remove_leaves T W k) × ValidTable (remove_work T W k)
  pub join_valid : (F S : List ℕ) → ValidTable F → ValidTable (join_leaves F S)
  pub stays_valid : (T W : List ℕ) → ValidTable T → ValidTable (stays_leaves T W)
  pub counted_valid : (t : Tally) (T : List ℕ) (k : Contact) → ValidTable T → ValidTable (counted_leaves t T k)
  pub removal_valid : (t : Tally) (T W : List ℕ) (k : Contact) → ValidTable T → ValidTable (counted_removal_leaves t T W k)
  pub removal_both_valid : (t : Tally) (T W : List ℕ) (k : Contact) → counted_removal t T W k ≡ Ok tt → ValidTable (counted_removal_leaves t T W k) × ValidTable (counted_removal_work t T W k)
  -- "Once a table is opened, no legal contact is refused for want of a row": on any table that passes 5 and 6 a legal
  -- contact is accepted, by a counted add too while its tally has room.
  pub legal_accepted : (T : List ℕ) (k : Contact) → ValidTable T → Legal (animals T) (ticks T) k → Accepted (add_answer T k)
  pub legal_counted : (t : Tally) (T : List ℕ) (k : Contact) → ValidTable T → Legal (animals T) (ticks T) k → t.new + t.known + t.refused + t.removed < full_tally → Accepted (counted_answer t T k)
