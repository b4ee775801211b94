-- Loading: the table built over the contacts of a log is the one that opening and adding them leave.
use Rattle.std.specs.Prelude.{None}
use mathlib.Core.Path.{◌≡◌, sym, ap, ◌∙◌, subst}
use mathlib.Core.List.{List, [], map, Memᴰ}
use Prim.Native.Nat.{ℕ, ◌-◌, ◌≤◌, ◌<◌}
use native.Mathlib.Omega.{arith}
use lib.ListN.{length, get_or, take, drop, replicate}
use lib.Dec.{leb, eqb}
use borrow.Author.Tests.{eqb-true, leb-true}
use Rattle.journeys.specs.declared.Contact.{Contact}
use Rattle.journeys.specs.Journey.{In}
use Rattle.words.specs.Layout.{capacity, get, is_of}
use Rattle.words.specs.Words.{opening_layout, contact_of, end_layout, logged_field, animals_of, ticks_of, carry_of}
use Rattle.words.proofs.Fields.{get-bound}
use Rattle.rules.specs.Limits.{max_ticks}
use Rattle.rules.specs.Layout.{table_length, table_words, animals, ticks, carry}
use Rattle.rules.specs.Opening.{Sizes, no_intervals, open_refusal}
use Rattle.rules.specs.Adding.{Legal}
use Rattle.rules.specs.Fresh.{Fresh}
use Rattle.rules.specs.CallLists.{table_with}
use Rattle.rules.specs.Reading.{between, logged_contacts, is_true_end, different, read_refusal}
use Rattle.rules.proofs.Folds.{and_left, and_right, member-map}
use Rattle.rules.proofs.Judged.{open_iff}
use Rattle.rules.proofs.Decode.{table-animals, table-ticks, table-carry}
use Rattle.rules.proofs.Sound.{table-sizes}
use Rattle.rules.proofs.Fresh.{fresh-map, fresh-unique}
use Rattle.rules.proofs.Runs.{run-fresh}
use Rattle.rules.proofs.Reading.{read-iff}
use Rattle.building.specs.Stage.{MarkedTable}
use Rattle.building.proofs.MarkedTables.{opened-table}
use Rattle.log_checks.proofs.Logged.{between-lent}

-- A log that no check refuses has two words or more.
pub log-long : (L T : List ℕ) → read_refusal L T ≡ None → 2 ≤ length L
log-long L T h = leb-true 2 (length L) (and_left (leb 2 (length L)) (is_of opening_layout (get_or L 0 0)) ((read-iff L T).0 h).log)

-- What the first word says, with the three numbers as they were taken from it.
module _ (L T : List ℕ) (h : read_refusal L T ≡ None) (n τ δ : ℕ) (p : n ≡ animals L) (q : τ ≡ ticks L) (r : δ ≡ carry L) where
  pub first-sizes : Sizes n τ δ
  first-sizes = rw (p, q, r) (table-sizes L)

  pub first-length : length T ≡ table_length n τ
  first-length = rw (p, q) ((read-iff L T).0 h).fits

  pub first-words : (U : List ℕ) → U ≡ table_words n τ δ no_intervals → U ≡ table_words (animals L) (ticks L) (carry L) no_intervals
  first-words U e = rw (p, q, r) at e

module _ (L T : List ℕ) (h : read_refusal L T ≡ None) (end : ℕ) (s : end ≡ length L - 1) where
  -- The contacts of the words that are lent are those of the log.
  contacts-are : map contact_of (take (end - 1) (drop 1 L)) ≡ logged_contacts L
  unfolding logged_contacts
  contacts-are = ap (map contact_of) (between-lent L end s)

  -- They are counted.
  pub log-counted : (c : ℕ) → c ≡ different (map contact_of (take (end - 1) (drop 1 L))) → c ≡ different (logged_contacts L)
  log-counted c f = f ∙ ap different contacts-are

  -- Their number fits the field of an end word.
  pub log-few : length (take (end - 1) (drop 1 L)) < capacity logged_field
  unfolding is_true_end
  log-few =
      let r = (read-iff L T).0 h in
      let t = and_right (is_of end_layout (get_or L (length L - 1) 0)) (eqb (get logged_field (get_or L (length L - 1) 0)) (length (between L))) r.true-end in
      let c = eqb-true (get logged_field (get_or L (length L - 1) 0)) (length (between L)) t in
      omega (arith, c, get-bound logged_field (get_or L (length L - 1) 0), ap length (between-lent L end s))

  legal : (k : Contact) → Memᴰ k (logged_contacts L) → Legal (animals L) (ticks L) k
  unfolding logged_contacts
  legal k m = let a = member-map contact_of (between L) k m in subst (Legal (animals L) (ticks L)) (sym a.2) (((read-iff L T).0 h).contacts a.0 a.1).1

  module _ (U : List ℕ) (e : U ≡ table_words (animals L) (ticks L) (carry L) no_intervals) where
    -- The opened table is ready for marks.
    pub log-opened : (heads : List ℕ) → heads ≡ replicate max_ticks 0 → MarkedTable [] heads U
    log-opened heads f = opened-table (animals L) (ticks L) (carry L) (table-sizes L) heads U f e

    -- The contacts of the log are legal in it.
    pub log-legal : (w : ℕ) → Memᴰ w (take (end - 1) (drop 1 L)) → Legal (animals U) (ticks U) (contact_of w)
    log-legal w m =
        let a : animals U ≡ animals L = ap animals e ∙ table-animals (animals L) (ticks L) (carry L) (table-sizes L) no_intervals in
        let b : ticks U ≡ ticks L = ap ticks e ∙ table-ticks (animals L) (ticks L) (carry L) (table-sizes L) no_intervals in
        rw (a, b) (((read-iff L T).0 h).contacts w (subst (Memᴰ w) (between-lent L end s) m)).1

    -- Built over them, it is what opening the table and adding all leave.
    pub log-loaded : (V₁ V₂ : List ℕ) → get_or V₁ 0 0 ≡ get_or U 0 0 → Fresh (animals V₁) (ticks V₁) (carry V₁) (In (map contact_of (take (end - 1) (drop 1 L)))) V₂
        → V₂ ≡ table_with (animals L) (ticks L) (carry L) T (logged_contacts L)
    log-loaded V₁ V₂ f g = fresh-unique (fresh-map ours (λ k. (λ m. (m, legal k m), λ m. m.0))) (run-fresh (animals L) (ticks L) (carry L) T (logged_contacts L) opens)
      where
        z : Sizes (animals L) (ticks L) (carry L)
        z = table-sizes L

        opens : open_refusal (animals L) (ticks L) (carry L) T ≡ None
        opens = (open_iff (animals L) (ticks L) (carry L) T).1 (z, ((read-iff L T).0 h).fits)

        a : animals V₁ ≡ animals L
        a = ap animals_of f ∙ ap animals e ∙ table-animals (animals L) (ticks L) (carry L) z no_intervals

        b : ticks V₁ ≡ ticks L
        b = ap ticks_of f ∙ ap ticks e ∙ table-ticks (animals L) (ticks L) (carry L) z no_intervals

        c : carry V₁ ≡ carry L
        c = ap carry_of f ∙ ap carry e ∙ table-carry (animals L) (ticks L) (carry L) z no_intervals

        ours : Fresh (animals L) (ticks L) (carry L) (In (logged_contacts L)) V₂
        ours = subst (λ (ks : List Contact). Fresh (animals L) (ticks L) (carry L) (In ks) V₂) contacts-are (rw (a, b, c) at g)
