-- Demand 1 holds of the rules.
use Rattle.std.specs.Prelude.{Option, None, Some, Ok, Err, Result, ⊤, option_map}
use mathlib.Core.Path.{◌≡◌, refl, sym, ap, ◌∙◌}
use mathlib.Core.Logic.{◌↔◌, ◌≢◌}
use mathlib.Core.Bool.{Bool, true, false, not, ◌&&◌}
use mathlib.Core.List.{List, [], ◌++◌, map}
use Prim.Native.Nat.{ℕ, zero, suc, ◌+◌, ◌-◌, ◌≤◌, ◌<◌}
use native.Mathlib.Omega.{arith}
use lib.ListN.{length, get_or, take, drop, length-append, length-map, length-take, length-drop, replicate}
use lib.Dec.{leb, ltb, eqb}
use borrow.Author.Tests.{leb-true}
use Rattle.journeys.specs.declared.Contact.{Contact}
use Rattle.journeys.specs.Journey.{contact}
use Rattle.journeys.proofs.Tests.{never}
use Rattle.rules.specs.declared.Refusal.{Refusal}
use Rattle.rules.specs.declared.Added.{Added}
use Rattle.rules.specs.declared.Refusal.TheVariants.{NotOpen, NotWellFormed, NoSuchAnimal, SameAnimal, TickOutOfRange, LogBufferTooShort, TallyFull, DifferentLengths, NotHeld}
use Rattle.rules.specs.declared.Tally.{Tally}
use Rattle.rules.specs.declared.Question.{Question}
use Rattle.words.specs.Words.{contact_word}
use Rattle.rules.specs.Answers.{ensure, unless, answer_of, done}
use Rattle.rules.specs.Layout.{table_words, animals, ticks, carry, cells_of}
use Rattle.rules.specs.Checks.{is_open, well_formed, ValidTable, WellFormedBelow, ensure_table}
use Rattle.rules.specs.Opening.{open_refusal, open_answer, open_leaves}
use Rattle.rules.specs.Adding.{added, Legal, ensure_pair, ensure_tick, add_refusal, added_cells, holds, add_answer, add_leaves}
use Rattle.rules.specs.Logs.{held_contacts, log_words, write_refusal, write_answer, write_leaves}
use Rattle.rules.specs.Fresh.{Fresh}
use Rattle.rules.specs.CallLists.{LegalOf, Accepted}
use Rattle.rules.specs.Removing.{remove_refusal, remove_answer}
use Rattle.rules.specs.Reading.{logged_contacts, read_refusal, different, read_answer, read_leaves}
use Rattle.rules.specs.Folds.{within}
use Rattle.rules.specs.Questions.{set_words, reached_refusal, reached_answer, reached_words, reached_count, set_over, reached_leaves}
use Rattle.rules.specs.Chains.{nowhere, there, leads_on, leads, Lowest, nobody, animal, lowest, prepend, follow, chain_from, chain_of, chain_refusal, chain_answer, chain_words, chain_leaves}
use Rattle.rules.specs.Counting.{full_tally, tally_sum, counted_answer, counted_leaves, raised, counted_tally, counted_removal, counted_removal_leaves, counted_removal_work, raised_by_removal, counted_removal_tally}
use Rattle.rules.specs.QuestionList.{asked, list_refusal, list_answer, list_leaves}
use Rattle.rules.specs.Demand1.{Demand1}
use Rattle.rules.proofs.Refusals.{refused-iff, refused-kept}
use Rattle.rules.proofs.Decode.{table-length, table-passes}
use Rattle.rules.proofs.Sound.{table-sizes, passes-good, opens-length}
use Rattle.rules.proofs.Judged.{ensure-iff, unless-cases, open_iff, add_iff, accepted-none}
use Rattle.rules.proofs.Numbers.{numbers_differ}
use Rattle.rules.proofs.Asked.{valid-behind, room-behind}
use Rattle.rules.proofs.Fresh.{add-good, empty-good, fresh-length, fresh-passes}
use Rattle.rules.proofs.Runs.{run-fresh}
use Rattle.rules.proofs.Removing.{remove_kept, remove_length, remove_valid, remove_both_valid}
use Rattle.rules.proofs.Joining.{join_kept, join_length, join_valid}
use Rattle.rules.proofs.Stays.{stays-kept, stays_length, stays_valid}
use Rattle.rules.proofs.Reading.{Readable, read-iff, read-opens, log-length}
use Rattle.rules.proofs.Counted.{counted-cases, removal-cases}
use Rattle.rules.proofs.KeptChain.{KeptChain, nothing-kept, kept, kept-chain}

-- ---- opening

open_cases : (n τ δ : ℕ) (T : List ℕ) (P : Option Refusal → List ℕ → Type 0) → ((r : Refusal) → P (Some r) T) → (open_refusal n τ δ T ≡ None → P None (table_words n τ δ (λ u v. []))) → P (open_refusal n τ δ T) (open_leaves n τ δ T)
unfolding open_leaves
open_cases n τ δ T P a b = unless-cases (open_refusal n τ δ T) P (λ r e. a r) b

open_kept : (n τ δ : ℕ) (T : List ℕ) (r : Refusal) → open_answer n τ δ T ≡ Err r → open_leaves n τ δ T ≡ T
unfolding open_answer
open_kept n τ δ T r = open_cases n τ δ T (λ o L. answer_of o done ≡ Err r → L ≡ T) (λ s e. refl) (λ p e. never cc)

open_length : (n τ δ : ℕ) (T : List ℕ) → length (open_leaves n τ δ T) ≡ length T
open_length n τ δ T =
    open_cases n τ δ T (λ o L. length L ≡ length T) (λ r. refl)
    (λ e. let h = (open_iff n τ δ T).0 e in table-length n τ δ h.0 (λ u v. []) (empty-good n τ δ) ∙ sym h.1)

open_valid : (n τ δ : ℕ) (T : List ℕ) → open_answer n τ δ T ≡ Ok tt → ValidTable (open_leaves n τ δ T)
unfolding open_answer
open_valid n τ δ T =
    open_cases n τ δ T (λ o L. answer_of o done ≡ done → ValidTable L) (λ r e. never cc)
    (λ p e. table-passes n τ δ ((open_iff n τ δ T).0 p).0 (λ u v. []) (empty-good n τ δ))

-- ---- adding

-- By cases: refused and as it was, or accepted and added.
pub add-cases : (T : List ℕ) (k : Contact) (P : Option Refusal → List ℕ → Type 0) → ((r : Refusal) → add_refusal T k ≡ Some r → P (Some r) T)
    → (add_refusal T k ≡ None → P None (table_words (animals T) (ticks T) (carry T) (added_cells T k))) → P (add_refusal T k) (add_leaves T k)
unfolding add_leaves
add-cases T k P a b = unless-cases (add_refusal T k) P a b

-- The cells that an accepted add leaves are well formed.
pub added-good : (T : List ℕ) (k : Contact) → add_refusal T k ≡ None → WellFormedBelow (animals T) (ticks T) (carry T) (added_cells T k)
unfolding added_cells
added-good T k e = let h = (add_iff T k).0 e in add-good (animals T) (ticks T) (carry T) (cells_of T) k h.1 (passes-good T h.0)

add-accepted : (T : List ℕ) (k : Contact) (r : Refusal) → add_answer T k ≡ Err r → add_refusal T k ≡ None → ⊥
unfolding add_answer
add-accepted T k r e n = (let z : Ok (added T k) ≡ Err r = rw n at e in never cc)

add_kept : (T : List ℕ) (k : Contact) (r : Refusal) → add_answer T k ≡ Err r → add_leaves T k ≡ T
add_kept T k r e = add-cases T k (λ o L. L ≡ T) (λ s p. refl) (λ p. absurd (add-accepted T k r e p))

add_length : (T : List ℕ) (k : Contact) → length (add_leaves T k) ≡ length T
add_length T k =
    add-cases T k (λ o L. length L ≡ length T) (λ r p. refl)
    (λ e. table-length (animals T) (ticks T) (carry T) (table-sizes T) (added_cells T k) (added-good T k e) ∙ sym (opens-length T ((add_iff T k).0 e).0.opens))

pub add_valid : (T : List ℕ) (k : Contact) → ValidTable T → ValidTable (add_leaves T k)
add_valid T k p =
    add-cases T k (λ o L. ValidTable L) (λ r e. p) (λ e. table-passes (animals T) (ticks T) (carry T) (table-sizes T) (added_cells T k) (added-good T k e))

-- ---- counted adding

-- A counted add that is refused leaves the table.
counted-kept : (t : Tally) (T : List ℕ) (k : Contact) (r : Refusal) → counted_answer t T k ≡ Err r → counted_leaves t T k ≡ T
counted-kept t T k r = counted-cases t T k (λ b a L s. a ≡ Err r → L ≡ T) (λ h e. refl) (λ h e. add_kept T k r e)

-- A refusal with another number than 16 is counted.
counted_counts : (t : Tally) (T : List ℕ) (k : Contact) (r : Refusal) → counted_answer t T k ≡ Err r → r ≢ TallyFull
    → counted_tally t T k ≡ record { new = t.new; known = t.known; refused = t.refused + 1; removed = t.removed }
counted_counts t T k r =
    counted-cases t T k (λ b a L s. a ≡ Err r → r ≢ TallyFull → s ≡ record { new = t.new; known = t.known; refused = t.refused + 1; removed = t.removed })
    (λ h e d. absurd (d (let q : TallyFull ≡ r = cc in sym q))) (λ h e d. ap (λ (a : Result Added Refusal). raised a t) e)

-- A check with another refusal than 16, in front of checks that do not refuse with 16, does not refuse with it.
ensure-not_full : (b : Bool) (r : Refusal) (o : Option Refusal) → r ≢ TallyFull → o ≢ Some TallyFull → ensure b r o ≢ Some TallyFull
ensure-not_full true r o h g e = g e
ensure-not_full false r o h g e = h (let q : r ≡ TallyFull = cc in q)

table-not_full : (T : List ℕ) (o : Option Refusal) → o ≢ Some TallyFull → ensure_table T o ≢ Some TallyFull
table-not_full T o h = ensure-not_full (is_open T) NotOpen _ (λ e. never cc) (ensure-not_full (well_formed T) NotWellFormed o (λ e. never cc) h)

contact-not_full : (T : List ℕ) (k : Contact) (o : Option Refusal) → o ≢ Some TallyFull → ensure_pair T k.from k.to (ensure_tick T k.tick o) ≢ Some TallyFull
contact-not_full T k o h =
    ensure-not_full (ltb k.from (animals T) && ltb k.to (animals T)) NoSuchAnimal _ (λ e. never cc)
    (ensure-not_full (not (eqb k.from k.to)) SameAnimal _ (λ e. never cc)
    (ensure-not_full (within 1 k.tick (ticks T)) TickOutOfRange o (λ e. never cc) h))

-- An uncounted add never answers 16.
add-not_full : (T : List ℕ) (k : Contact) → add_answer T k ≡ Err TallyFull → ⊥
unfolding add_answer add_refusal
add-not_full T k e = table-not_full T _ (contact-not_full T k None (λ e. never cc)) ((refused-iff (add_refusal T k) (added T k) TallyFull).0 e)

-- 16 is answered exactly when the tally is full.
counted_full : (t : Tally) (T : List ℕ) (k : Contact) → (counted_answer t T k ≡ Err TallyFull) ↔ (full_tally ≤ t.new + t.known + t.refused + t.removed)
unfolding tally_sum
counted_full t T k =
    counted-cases t T k (λ b a L s. (a ≡ Err TallyFull) ↔ (full_tally ≤ t.new + t.known + t.refused + t.removed)) (λ h. (λ e. omega arith, λ q. refl))
    (λ h. (λ e. absurd (add-not_full T k e), λ q. absurd (omega arith)))

-- A full tally stays as it was.
counted_full_kept : (t : Tally) (T : List ℕ) (k : Contact) → counted_answer t T k ≡ Err TallyFull → counted_tally t T k ≡ t
counted_full_kept t T k = counted-cases t T k (λ b a L s. a ≡ Err TallyFull → s ≡ t) (λ h e. refl) (λ h e. absurd (add-not_full T k e))

-- A counted add keeps the length of the table.
counted_length : (t : Tally) (T : List ℕ) (k : Contact) → length (counted_leaves t T k) ≡ length T
counted_length t T k = counted-cases t T k (λ b a L s. length L ≡ length T) (λ h. refl) (λ h. add_length T k)

-- A counted add keeps a table that passes 5 and 6.
counted_valid : (t : Tally) (T : List ℕ) (k : Contact) → ValidTable T → ValidTable (counted_leaves t T k)
counted_valid t T k p = counted-cases t T k (λ b a L s. ValidTable L) (λ h. p) (λ h. add_valid T k p)

-- A legal contact is accepted.
legal_accepted : (T : List ℕ) (k : Contact) → ValidTable T → Legal (animals T) (ticks T) k → Accepted (add_answer T k)
legal_accepted T k p l = (accepted-none T k).1 ((add_iff T k).1 (p, l))

-- So it is by a counted add whose tally has room.
legal_counted : (t : Tally) (T : List ℕ) (k : Contact) → ValidTable T → Legal (animals T) (ticks T) k → t.new + t.known + t.refused + t.removed < full_tally → Accepted (counted_answer t T k)
unfolding tally_sum
legal_counted t T k p l r = counted-cases t T k (λ b a L s. Accepted a) (λ h. absurd (omega arith)) (λ h. legal_accepted T k p l)

-- ---- counted removing

-- An uncounted removal never answers 16.
remove_not_full : (T W : List ℕ) (k : Contact) → remove_answer T W k ≡ Err TallyFull → ⊥
unfolding remove_answer remove_refusal
remove_not_full T W k e =
    table-not_full T _
    (ensure-not_full (eqb (length T) (length W)) DifferentLengths _ (λ q. never cc)
    (contact-not_full T k _ (ensure-not_full (holds T k) NotHeld None (λ q. never cc) (λ q. never cc))))
    ((refused-iff (remove_refusal T W k) tt TallyFull).0 e)

module _ (t : Tally) (T W : List ℕ) (k : Contact) where
  -- A counted removal that is refused leaves both tables.
  removal-kept : (r : Refusal) → counted_removal t T W k ≡ Err r → (counted_removal_leaves t T W k ≡ T) × (counted_removal_work t T W k ≡ W)
  removal-kept r = removal-cases t T W k (λ b a L M s. a ≡ Err r → (L ≡ T) × (M ≡ W)) (λ h e. (refl, refl)) (λ h e. remove_kept T W k r e)

  -- A refusal with another number than 16 is counted.
  removal_counts : (r : Refusal) → counted_removal t T W k ≡ Err r → r ≢ TallyFull
      → counted_removal_tally t T W k ≡ record { new = t.new; known = t.known; refused = t.refused + 1; removed = t.removed }
  removal_counts r =
      removal-cases t T W k (λ b a L M s. a ≡ Err r → r ≢ TallyFull → s ≡ record { new = t.new; known = t.known; refused = t.refused + 1; removed = t.removed })
      (λ h e d. absurd (d (let q : TallyFull ≡ r = cc in sym q))) (λ h e d. ap (λ (a : Result ⊤ Refusal). raised_by_removal a t) e)

  -- 16 is answered exactly when the tally is full.
  removal_full : (counted_removal t T W k ≡ Err TallyFull) ↔ (full_tally ≤ t.new + t.known + t.refused + t.removed)
  unfolding tally_sum
  removal_full =
      removal-cases t T W k (λ b a L M s. (a ≡ Err TallyFull) ↔ (full_tally ≤ t.new + t.known + t.refused + t.removed)) (λ h. (λ e. omega arith, λ q. refl))
      (λ h. (λ e. absurd (remove_not_full T W k e), λ q. absurd (omega arith)))

  -- A full tally stays as it was.
  removal_full_kept : counted_removal t T W k ≡ Err TallyFull → counted_removal_tally t T W k ≡ t
  removal_full_kept = removal-cases t T W k (λ b a L M s. a ≡ Err TallyFull → s ≡ t) (λ h e. refl) (λ h e. absurd (remove_not_full T W k e))

  -- A counted removal keeps the lengths of both tables.
  removal_length : (length (counted_removal_leaves t T W k) ≡ length T) × (length (counted_removal_work t T W k) ≡ length W)
  removal_length = removal-cases t T W k (λ b a L M s. (length L ≡ length T) × (length M ≡ length W)) (λ h. (refl, refl)) (λ h. remove_length T W k)

  -- It keeps a table that passes 5 and 6, and leaves two where it is done.
  removal_valid : ValidTable T → ValidTable (counted_removal_leaves t T W k)
  removal_valid p = removal-cases t T W k (λ b a L M s. ValidTable L) (λ h. p) (λ h. remove_valid T W k p)

  removal_both_valid : counted_removal t T W k ≡ Ok tt → ValidTable (counted_removal_leaves t T W k) × ValidTable (counted_removal_work t T W k)
  removal_both_valid = removal-cases t T W k (λ b a L M s. a ≡ Ok tt → ValidTable L × ValidTable M) (λ h e. never cc) (λ h. remove_both_valid T W k)

-- ---- a list of question records

-- A refused list stays as it was.
list-kept : (T : List ℕ) (l : List Question) (r : Refusal) → list_answer T l ≡ Err r → list_leaves T l ≡ l
unfolding list_answer list_leaves
list-kept T l r = refused-kept (list_refusal T) (length l) _

-- A list keeps its length.
list_length : (T : List ℕ) (l : List Question) → length (list_leaves T l) ≡ length l
unfolding list_leaves
list_length T l = go (list_refusal T)
  where
    go : (o : Option Refusal) → length (unless o (map (asked T) l) l) ≡ length l
    go None = length-map l (asked T)
    go (Some r) = refl

-- ---- writing a log

write_cases : (T B : List ℕ) (P : Option Refusal → List ℕ → Type 0) → ((r : Refusal) → P (Some r) B)
    → (write_refusal T B ≡ None → P None (log_words (get_or T 0 0) (held_contacts T) ++ drop (length (held_contacts T) + 2) B)) → P (write_refusal T B) (write_leaves T B)
unfolding write_leaves
write_cases T B P a b = unless-cases (write_refusal T B) P (λ r e. a r) b

write_kept : (T B : List ℕ) (r : Refusal) → write_answer T B ≡ Err r → write_leaves T B ≡ B
unfolding write_answer
write_kept T B r = write_cases T B (λ o L. answer_of o (Ok (length (held_contacts T) + 2)) ≡ Err r → L ≡ B) (λ s e. refl) (λ p e. never cc)

-- A log that is written fits its buffer.
pub write_fits : (T B : List ℕ) → write_refusal T B ≡ None → ValidTable T × (length (held_contacts T) + 2 ≤ length B)
unfolding write_refusal
write_fits T B e =
    let p = valid-behind T e in
    let r = (ensure-iff (leb (length (held_contacts T) + 2) (length B)) LogBufferTooShort None).0 p.1 in
    (p.0, leb-true (length (held_contacts T) + 2) (length B) r.0)

write_length : (T B : List ℕ) → length (write_leaves T B) ≡ length B
write_length T B =
    write_cases T B (λ o L. length L ≡ length B) (λ r. refl)
    (λ e.
    let h = (write_fits T B e).1 in
    let l = held_contacts T in
    length-append (log_words (get_or T 0 0) l) (drop (length l + 2) B) ∙ omega (arith, log-length (get_or T 0 0) l, length-drop (length l + 2) B))

-- ---- reading a log

-- By cases: refused and as it was, or read and fresh over the legal contacts of the log.
read-cases : (L T : List ℕ) (P : Option Refusal → List ℕ → Type 0) → ((r : Refusal) → P (Some r) T)
    → (Readable L T → (U : List ℕ) → Fresh (animals L) (ticks L) (carry L) (LegalOf (animals L) (ticks L) (logged_contacts L)) U → P None U) → P (read_refusal L T) (read_leaves L T)
unfolding read_leaves
read-cases L T P a b =
    unless-cases (read_refusal L T) P (λ r e. a r)
    (λ e. let h = (read-iff L T).0 e in b h _ (run-fresh (animals L) (ticks L) (carry L) T (logged_contacts L) (read-opens L T h)))

read_kept : (L T : List ℕ) (r : Refusal) → read_answer L T ≡ Err r → read_leaves L T ≡ T
unfolding read_answer
read_kept L T r =
    read-cases L T (λ o U. answer_of o (Ok (different (logged_contacts L))) ≡ Err r → U ≡ T) (λ s e. refl)
    (λ h U f e. never cc)

read_length : (L T : List ℕ) → length (read_leaves L T) ≡ length T
read_length L T = read-cases L T (λ o U. length U ≡ length T) (λ r. refl) (λ h U f. fresh-length f ∙ sym h.fits)

read_valid : (L T : List ℕ) (k : ℕ) → read_answer L T ≡ Ok k → ValidTable (read_leaves L T)
unfolding read_answer
read_valid L T k =
    read-cases L T (λ o U. answer_of o (Ok (different (logged_contacts L))) ≡ Ok k → ValidTable U)
    (λ r e. never cc) (λ h U f e. fresh-passes f)

-- ---- the animals reached

reached_empty : (T : List ℕ) (u first last : ℕ) (r : Refusal) → reached_answer T u first last ≡ Err r
    → (reached_words T u first last ≡ replicate 8 0) × (reached_count T u first last ≡ 0)
unfolding reached_answer reached_words reached_count
reached_empty T u first last r e = (refused-kept (reached_refusal T u first last) tt _ e, refused-kept (reached_refusal T u first last) tt _ e)

-- By cases: refused and as they were, or the set at the front.
reached-cases : (T : List ℕ) (u first last : ℕ) (B : List ℕ) (P : Option Refusal → List ℕ → Type 0) → ((r : Refusal) → P (Some r) B)
    → P None (set_over (set_words T u first last) B) → P (reached_refusal T u first last) (reached_leaves T u first last B)
unfolding reached_leaves
reached-cases T u first last B P a b = unless-cases (reached_refusal T u first last) P (λ r e. a r) (λ e. b)

reached-kept : (T : List ℕ) (u first last : ℕ) (B : List ℕ) (r : Refusal) → reached_answer T u first last ≡ Err r → reached_leaves T u first last B ≡ B
unfolding reached_answer
reached-kept T u first last B r = reached-cases T u first last B (λ o L. answer_of o done ≡ Err r → L ≡ B) (λ s e. refl) (λ e. never cc)

reached_length : (T : List ℕ) (u first last : ℕ) (B : List ℕ) → length (reached_leaves T u first last B) ≡ length B
unfolding set_words
reached_length T u first last B =
    reached-cases T u first last B (λ o L. length L ≡ length B) (λ r. refl)
    (length-append (take (length B) (set_words T u first last)) (drop 8 B) ∙ omega (arith, length-take (length B) (set_words T u first last), length-drop 8 B))

-- ---- the chain

abbrev size : Option (List Contact) → ℕ
size None = 0
size (Some l) = length l

-- A chain of at most so many contacts has no more.
chain-short : (T : List ℕ) (goal b most x d : ℕ) → size (chain_from T goal b most x d) ≤ most
unfolding chain_from
chain-short T goal b zero x d = omega arith
chain-short T goal b (suc most) x d = go (lowest (leads T goal b x d) (animals T)) (chain-short T goal b most)
  where
    behind : (k : Contact) (o : Option (List Contact)) → size o ≤ most → size (prepend k o) ≤ suc most
    behind k None h = omega arith
    behind k (Some l) h = omega arith

    go : (o : Lowest) → ((z e : ℕ) → size (chain_from T goal b most z e) ≤ most) → size (follow x d o (chain_from T goal b most)) ≤ suc most
    go nobody h = omega arith
    go (animal z nowhere) h = omega arith
    go (animal z there) h = omega arith
    go (animal z (leads_on e)) h = behind (contact x z d) (chain_from T goal b most z e) (h z e)

-- A chain has at most n−1 contacts.
chain-small : (T : List ℕ) (u v first last : ℕ) → size (chain_of T u v first last) ≤ animals T - 1
chain-small T u v first last = go (kept-chain T u v first last)
  where
    go : {o : Option (List Contact)} → KeptChain T u v first last o → size o ≤ animals T - 1
    go nothing-kept = omega arith
    go (kept b d f) = chain-short T v b (animals T - 1) u d

chain-kept : (T : List ℕ) (u v first last : ℕ) (B : List ℕ) (r : Refusal) → chain_answer T u v first last B ≡ Err r → chain_leaves T u v first last B ≡ B
unfolding chain_answer chain_leaves
chain-kept T u v first last B r = go (chain_refusal T u v first last B) (chain_of T u v first last)
  where
    go : (o : Option Refusal) (c : Option (List Contact)) → answer_of o (Ok (option_map length c)) ≡ Err r → unless o (chain_words c B) B ≡ B
    go None None e = refl
    go None (Some l) e = never cc
    go (Some s) c e = refl

chain_length : (T : List ℕ) (u v first last : ℕ) (B : List ℕ) → length (chain_leaves T u v first last B) ≡ length B
unfolding chain_leaves
chain_length T u v first last B = go (chain_refusal T u v first last B) (chain_of T u v first last) (λ e. (room-behind T u v first last B e).1) (chain-small T u v first last)
  where
    go : (o : Option Refusal) (c : Option (List Contact)) → (o ≡ None → animals T - 1 ≤ length B) → size c ≤ animals T - 1 → length (unless o (chain_words c B) B) ≡ length B
    go None None h k = refl
    go None (Some l) h k = length-append (map contact_word l) (drop (length l) B) ∙ omega (arith, h refl, length-map l contact_word, length-drop (length l) B)
    go (Some r) c h k = refl

pub demand1 : Demand1
demand1 =
    record {
      numbers_differ = numbers_differ;
      open_refused = open_kept;
      add_refused = add_kept;
      remove_refused = remove_kept;
      write_refused = write_kept;
      read_refused = read_kept;
      join_refused = join_kept;
      stays_refused = stays-kept;
      reached_refused = reached-kept;
      reached_empty = reached_empty;
      chain_refused = chain-kept;
      counted_refused = counted-kept;
      removal_refused = removal-kept;
      list_refused = list-kept;
      counted_counts = counted_counts;
      counted_full = counted_full;
      counted_full_kept = counted_full_kept;
      removal_counts = removal_counts;
      removal_full = removal_full;
      removal_full_kept = removal_full_kept;
      open_length = open_length;
      add_length = add_length;
      remove_length = remove_length;
      write_length = write_length;
      read_length = read_length;
      join_length = join_length;
      stays_length = stays_length;
      counted_length = counted_length;
      removal_length = removal_length;
      list_length = list_length;
      reached_length = reached_length;
      chain_length = chain_length;
      open_valid = open_valid;
      read_valid = read_valid;
      add_valid = add_valid;
      remove_valid = remove_valid;
      remove_both_valid = remove_both_valid;
      join_valid = join_valid;
      stays_valid = stays_valid;
      counted_valid = counted_valid;
      removal_valid = removal_valid;
      removal_both_valid = removal_both_valid;
      legal_accepted = legal_accepted;
      legal_counted = legal_counted;
    }
