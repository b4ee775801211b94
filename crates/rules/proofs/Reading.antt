-- Reading a log: what its checks say of the words, how many different contacts a list has, and what a log is as words.
use Rattle.std.specs.Prelude.{Option, None, Some}
use mathlib.Core.Path.{◌≡◌, refl, sym, ap, ap₂, ◌∙◌, subst}
use mathlib.Core.Logic.{◌↔◌, ◌⊎◌, inl, inr, ⊎_elim, ◌≢◌}
use mathlib.Core.Bool.{Bool, true, false, cond, not, ◌&&◌, ◌||◌, false≢true, or_assoc, or_comm, or-true, or-false}
use mathlib.Core.List.Memᴰ
use mathlib.Core.List.{List, [], ◌∷◌, ◌++◌, map, Memᴰ}
use Prim.Native.Nat.{ℕ, suc, ◌+◌, ◌-◌, ◌^◌, ◌≤◌, ◌<◌}
use native.Mathlib.Omega.{arith}
use lib.ListN.{length, get_or, take, drop, length-append, length-map, length-drop}
use lib.Seq.{take_at, get_or_at, drop-cons, take_all, take-suc, get_or-drop}
use lib.Dec.{leb, ltb, eqb}
use borrow.Author.Tests.{eq-eqb, ne_eqb, eqb-true, eqb-false, le-leb, leb-true, lt-ltb, ltb-true, not-true}
use Rattle.journeys.specs.declared.Contact.{Contact}
use Rattle.journeys.proofs.Tests.{Outcome, holds, fails, eq_outcome, and_outcome}
use Rattle.words.specs.Layout.{get, is_of}
use Rattle.words.specs.Words.{opening_word, animals_of, ticks_of, carry_of, contact_layout, contact_word, contact_of, end_layout, end_word, logged_field}
use Rattle.words.proofs.Packed.{contact_of-bound, contact_of-word, contact_word-is, contact_word-of, opening_word-is, opening_word-of, logged_of_word, logged_of_bound, end_word-is, end_word-of}
use Rattle.rules.specs.Limits.{max_animals, max_ticks}
use Rattle.rules.specs.declared.Refusal.{Refusal}
use Rattle.rules.specs.declared.Refusal.TheVariants.{NotALog, WrongLength, NotAContact, IllegalContact, WrongEnd}
use Rattle.rules.specs.Answers.{ensure}
use Rattle.rules.specs.Layout.{table_length, animals, ticks, carry}
use Rattle.rules.specs.Opening.{Sizes, open_refusal}
use Rattle.rules.specs.Adding.{Legal, same_contact}
use Rattle.rules.specs.Logs.{log_words}
use Rattle.rules.specs.LogsRead.{IsLog}
use Rattle.rules.specs.Reading.{is_log, between, logged_contacts, is_true_end, is_legal, ensure_word, ensure_words, read_refusal, comes_in, different}
use Rattle.rules.proofs.Folds.{and_left, and_right, and_intro, passes-iff, map_back, member-outcome}
use Rattle.rules.proofs.Distinct.{Once, once-short}
use Rattle.rules.proofs.Decode.{animals-again, ticks-again, carry-again}
use Rattle.rules.proofs.Sound.{table-sizes}
use Rattle.rules.proofs.Judged.{none-some, ensure-iff, open_iff}

-- ---- the words of a log

-- The word is a contact word, and its contact is legal.
abbrev pub IsLegalWord : ℕ → ℕ → ℕ → Type 0
IsLegalWord n τ w = (is_of contact_layout w ≡ true) × Legal n τ (contact_of w)

-- A contact from tick 1 on passes the test exactly when it is legal.
pub is_legal-iff : (n τ : ℕ) (k : Contact) → 1 ≤ k.tick → (is_legal n τ k ≡ true) ↔ Legal n τ k
unfolding is_legal
is_legal-iff n τ k h = (to, of)
  where
    u : Bool
    u = ltb k.from n

    v : Bool
    v = ltb k.to n

    d : Bool
    d = not (eqb k.from k.to)

    t : Bool
    t = leb k.tick τ

    to : (u && v && d && t) ≡ true → Legal n τ k
    to e =
        let p = and_left (u && v && d) t e in
        let q = and_left (u && v) d p in
        record {
          from_below = ltb-true k.from n (and_left u v q);
          to_below = ltb-true k.to n (and_right u v q);
          apart = eqb-false k.from k.to (not-true (eqb k.from k.to) (and_right (u && v) d p));
          from_one = h;
          to_last = leb-true k.tick τ (and_right (u && v && d) t e);
        }

    of : Legal n τ k → (u && v && d && t) ≡ true
    of l =
        and_intro (u && v && d) t
        (and_intro (u && v) d
        (and_intro u v (lt-ltb k.from n l.from_below) (lt-ltb k.to n l.to_below))
        (ap not (ne_eqb k.from k.to l.apart)))
        (le-leb k.tick τ l.to_last)

legal-passes : (a b : Bool) (o : Option Refusal) → (ensure a NotAContact (ensure b IllegalContact o) ≡ None) ↔ ((a ≡ true) × (b ≡ true) × (o ≡ None))
legal-passes true true o = (λ e. (refl, refl, e), λ h. h.2)
legal-passes true false o = (λ e. none-some (Some IllegalContact) IllegalContact e refl, λ h. absurd (false≢true h.1))
legal-passes false b o = (λ e. none-some (Some NotAContact) NotAContact e refl, λ h. absurd (false≢true h.0))

-- A word passes its check exactly when it is a legal contact's word.
pub word-iff : (n τ w : ℕ) (o : Option Refusal) → (ensure_word n τ w o ≡ None) ↔ (IsLegalWord n τ w × (o ≡ None))
unfolding ensure_word
word-iff n τ w o = (
  λ e. let h = p.0 e in ((h.0, q.0 h.1), h.2),
  λ h. p.1 (h.0.0, q.1 h.0.1, h.1),
)
  where
    p : (ensure (is_of contact_layout w) NotAContact (ensure (is_legal n τ (contact_of w)) IllegalContact o) ≡ None) ↔ ((is_of contact_layout w ≡ true) × (is_legal n τ (contact_of w) ≡ true) × (o ≡ None))
    p = legal-passes (is_of contact_layout w) (is_legal n τ (contact_of w)) o

    q : (is_legal n τ (contact_of w) ≡ true) ↔ Legal n τ (contact_of w)
    q = is_legal-iff n τ (contact_of w) (contact_of-bound w).2

-- The words pass their checks exactly when each is a legal contact's word.
pub words-iff : (n τ : ℕ) (ws : List ℕ) (o : Option Refusal) → (ensure_words n τ ws o ≡ None) ↔ (((w : ℕ) → Memᴰ w ws → IsLegalWord n τ w) × (o ≡ None))
unfolding ensure_words
words-iff n τ [] o = (λ e. (λ w m. absurd (Memᴰ.not-nil m), e), λ h. h.1)
words-iff n τ (v ∷ ws) o =
    let p = word-iff n τ v (ensure_words n τ ws o) in
    let r = words-iff n τ ws o in (
      λ e. let a = p.0 e in let b = r.0 a.1 in (λ w m. ⊎_elim (λ q. subst (IsLegalWord n τ) (sym q) a.0) (b.0 w) (Memᴰ.cases_cons m), b.1),
      λ h. p.1 (h.0 v (Memᴰ.head refl), r.1 (λ w m. h.0 w (Memᴰ.tail m), h.1)),
    )

-- What the checks of reading say of the words.
pub record Readable (L T : List ℕ) : Type 0 where
  pub log : is_log L ≡ true
  pub fits : length T ≡ table_length (animals L) (ticks L)
  pub contacts : (w : ℕ) → Memᴰ w (between L) → IsLegalWord (animals L) (ticks L) w
  pub true-end : is_true_end (length (between L)) (get_or L (length L - 1) 0) ≡ true

-- Reading refuses nothing exactly when the checks hold.
pub read-iff : (L T : List ℕ) → (read_refusal L T ≡ None) ↔ Readable L T
unfolding read_refusal
read-iff L T = (to, of)
  where
    n : ℕ
    n = animals L

    τ : ℕ
    τ = ticks L

    last : Bool
    last = is_true_end (length (between L)) (get_or L (length L - 1) 0)

    to : read_refusal L T ≡ None → Readable L T
    to e =
        let p = (ensure-iff (is_log L) NotALog _).0 e in
        let q = (ensure-iff (eqb (length T) (table_length n τ)) WrongLength _).0 p.1 in
        let r = (words-iff n τ (between L) _).0 q.1 in
        record { log = p.0; fits = eqb-true (length T) (table_length n τ) q.0; contacts = r.0; true-end = ((ensure-iff last WrongEnd None).0 r.1).0 }

    of : Readable L T → read_refusal L T ≡ None
    of h =
        (ensure-iff (is_log L) NotALog _).1 (
          h.log,
          (ensure-iff (eqb (length T) (table_length n τ)) WrongLength _).1 (
            eq-eqb (length T) (table_length n τ) h.fits,
            (words-iff n τ (between L) _).1 (h.contacts, (ensure-iff last WrongEnd None).1 (h.true-end, refl)),
          ),
        )

-- A table that a log is read into can be opened with the log's numbers.
pub read-opens : (L T : List ℕ) → Readable L T → open_refusal (animals L) (ticks L) (carry L) T ≡ None
read-opens L T h = (open_iff (animals L) (ticks L) (carry L) T).1 (table-sizes L, h.fits)

-- ---- how many different contacts

pub same_contact-outcome : (k c : Contact) → Outcome (k ≡ c) (k ≢ c) (same_contact k c)
same_contact-outcome k c = go (and_outcome (and_outcome (eq_outcome k.from c.from) (eq_outcome k.to c.to)) (eq_outcome k.tick c.tick))
  where
    go : {b : Bool} → Outcome (((k.from ≡ c.from) × (k.to ≡ c.to)) × (k.tick ≡ c.tick)) (((k.from ≢ c.from) ⊎ (k.to ≢ c.to)) ⊎ (k.tick ≢ c.tick)) b → Outcome (k ≡ c) (k ≢ c) b
    go (holds e) = holds (λ i. record { from = e.0.0 i; to = e.0.1 i; tick = e.1 i })
    go (fails (inl (inl n))) = fails (λ e. n (ap (λ x. x.from) e))
    go (fails (inl (inr n))) = fails (λ e. n (ap (λ x. x.to) e))
    go (fails (inr n)) = fails (λ e. n (ap (λ x. x.tick) e))

-- The test `comes_in` is membership.
pub comes_in-outcome : (k : Contact) (l : List Contact) → Outcome (Memᴰ k l) (¬ Memᴰ k l) (comes_in k l)
unfolding comes_in
comes_in-outcome k [] = fails Memᴰ.not-nil
comes_in-outcome k (c ∷ l) = member-outcome (same_contact-outcome k c) (comes_in-outcome k l)

-- A contact passes the test exactly when it is in the list.
pub comes_in-iff : (k : Contact) (l : List Contact) → (comes_in k l ≡ true) ↔ Memᴰ k l
comes_in-iff k l = passes-iff (comes_in-outcome k l)

comes_in-snoc : (c : Contact) (l : List Contact) (k : Contact) → comes_in c (l ++ (k ∷ [])) ≡ (comes_in c l || same_contact c k)
unfolding comes_in
comes_in-snoc c [] k = or_comm (same_contact c k) false
comes_in-snoc c (d ∷ l) k = ap (λ (b : Bool). same_contact c d || b) (comes_in-snoc c l k) ∙ sym (or_assoc (same_contact c d) (comes_in c l) (same_contact c k))

-- A contact at the end counts where it does not come before.
pub different-snoc : (l : List Contact) (k : Contact) → different (l ++ (k ∷ [])) ≡ different l + cond (comes_in k l) 0 1
unfolding different comes_in
different-snoc [] k = omega arith
different-snoc (c ∷ l) k = rw (comes_in-snoc c l k, different-snoc l k) (go (same_contact-outcome c k) (same_contact-outcome k c))
  where
    go : {s t : Bool} → Outcome (c ≡ k) (c ≢ k) s → Outcome (k ≡ c) (k ≢ c) t
        → cond (comes_in c l || s) 0 1 + (different l + cond (comes_in k l) 0 1) ≡ cond (comes_in c l) 0 1 + different l + cond (t || comes_in k l) 0 1
    go (holds e) (holds f) = rw (or-true (comes_in c l), e) (omega arith)
    go (holds e) (fails n) = absurd (n (sym e))
    go (fails n) (holds f) = absurd (n (sym f))
    go (fails n) (fails m) = rw (or-false (comes_in c l)) (omega arith)

-- A list of d contacts, each once, that are those of l.
record EachOnce (l : List Contact) (d : ℕ) : Type 0 where
  pub listed : List Contact
  pub once : Once listed
  pub own : (k : Contact) → Memᴰ k listed ↔ Memᴰ k l
  pub number : length listed ≡ d

each-once : (l : List Contact) → EachOnce l (different l)
unfolding different
each-once [] = record { listed = []; once = tt; own = λ k. (λ m. m, λ m. m); number = refl }
each-once (c ∷ l) = go (each-once l) (comes_in-outcome c l)
  where
    go : {b : Bool} → EachOnce l (different l) → Outcome (Memᴰ c l) (¬ Memᴰ c l) b → EachOnce (c ∷ l) (cond b 0 1 + different l)
    go r (holds m) =
        record {
          listed = r.listed;
          once = r.once;
          own = λ k. (λ n. Memᴰ.tail ((r.own k).0 n), λ n. (r.own k).1 (⊎_elim (λ e. Memᴰ.cast e m) (λ o. o) (Memᴰ.cases_cons n)));
          number = omega (arith, r.number);
        }
    go r (fails d) =
        record {
          listed = c ∷ r.listed;
          once = (λ m. d ((r.own c).0 m), r.once);
          own = λ k. (
            λ n. ⊎_elim Memᴰ.head (λ o. Memᴰ.tail ((r.own k).0 o)) (Memᴰ.cases_cons n),
            λ n. ⊎_elim Memᴰ.head (λ o. Memᴰ.tail ((r.own k).1 o)) (Memᴰ.cases_cons n),
          );
          number = omega (arith, r.number);
        }

-- The number of different contacts of l is the length of any list that has each of them once.
pub different-length : (l m : List Contact) → Once m → ((k : Contact) → Memᴰ k m ↔ Memᴰ k l) → different l ≡ length m
different-length l m u f =
    let r = each-once l in
    let a = once-short r.listed m r.once (λ k n. (f k).1 ((r.own k).0 n)) in
    let b = once-short m r.listed u (λ k n. (r.own k).1 ((f k).0 n)) in
    omega (arith, r.number)

-- ---- a log as words

module _ (w e : ℕ) (ws : List ℕ) where
  -- A first and a last word around others.
  abbrev framed : List ℕ
  framed = w ∷ (ws ++ (e ∷ []))

  framed-length : length framed ≡ length ws + 2
  framed-length = omega (arith, length-append ws (e ∷ []))

  framed-between : between framed ≡ ws
  unfolding between
  framed-between = take_at ws (e ∷ []) (length framed - 2) (omega (arith, framed-length))

  framed-last : get_or framed (length framed - 1) 0 ≡ e
  framed-last =
      let q : length framed - 1 ≡ suc (length ws) = omega (arith, framed-length) in
      ap (λ (i : ℕ). get_or framed i 0) q ∙ get_or_at ws e [] 0 (length ws) refl

-- A log of l has two words more than l has contacts.
pub log-length : (w : ℕ) (l : List Contact) → length (log_words w l) ≡ length l + 2
unfolding log_words
log-length w l = framed-length w (end_word (length l)) (map contact_word l) ∙ ap (λ (i : ℕ). i + 2) (length-map l contact_word)

-- Two words or more are a first and a last word around those between.
framed-again : (L : List ℕ) → 2 ≤ length L → framed (get_or L 0 0) (get_or L (length L - 1) 0) (between L) ≡ L
unfolding between
framed-again L h = sym (drop-cons L 0 0 (omega arith) ∙ ap (λ (r : List ℕ). get_or L 0 0 ∷ r) rest)
  where
    j : ℕ
    j = length L - 2

    rest : drop 1 L ≡ take j (drop 1 L) ++ (get_or L (length L - 1) 0 ∷ [])
    rest =
        let p : length (drop 1 L) ≤ suc j = omega (arith, length-drop 1 L) in
        let q : j < length (drop 1 L) = omega (arith, length-drop 1 L) in
        let i : 1 + j ≡ length L - 1 = omega arith in
        sym (take_all (suc j) (drop 1 L) p)
        ∙ take-suc (drop 1 L) j 0 q
        ∙ ap (λ (v : ℕ). take j (drop 1 L) ++ (v ∷ [])) (get_or-drop 1 L j 0 ∙ ap (λ (x : ℕ). get_or L x 0) i)

-- What is read is a log of its contacts.
pub readable_log : (L T : List ℕ) → Readable L T → IsLog (animals L) (ticks L) (carry L) (logged_contacts L) L
unfolding logged_contacts is_true_end log_words
readable_log L T h = record { sizes = table-sizes L; legal = legal; few = few; words = sym words }
  where
    ws : List ℕ
    ws = between L

    end : ℕ
    end = get_or L (length L - 1) 0

    legal : (k : Contact) → Memᴰ k (map contact_of ws) → Legal (animals L) (ticks L) k
    legal k m = let r = Memᴰ.of_map contact_of ws m in subst (Legal (animals L) (ticks L)) r.2 (h.contacts r.0 r.1).1

    count : get logged_field end ≡ length (map contact_of ws)
    count = eqb-true (get logged_field end) (length ws) (and_right (is_of end_layout end) _ h.true-end) ∙ sym (length-map ws contact_of)

    few : length (map contact_of ws) < 2 ^ 26
    few = let b = logged_of_bound end in omega (arith, count)

    words : log_words (opening_word (animals L) (ticks L) (carry L)) (map contact_of ws) ≡ L
    words =
        ap (λ (v : ℕ). framed v (end_word (length (map contact_of ws))) (map contact_word (map contact_of ws))) (opening_word-of (get_or L 0 0) (and_right (leb 2 (length L)) _ h.log))
        ∙ ap₂ (framed (get_or L 0 0)) (ap end_word (sym count) ∙ end_word-of end (and_left (is_of end_layout end) _ h.true-end)) (map_back contact_of contact_word ws (λ w m. contact_word-of w (h.contacts w m).0))
        ∙ framed-again L (leb-true 2 (length L) (and_left (leb 2 (length L)) _ h.log))

module _ {n τ δ : ℕ} {l : List Contact} {L : List ℕ} (g : IsLog n τ δ l L) where
  -- A log's first word is its opening word.
  pub log-first : get_or L 0 0 ≡ opening_word n τ δ
  unfolding log_words
  log-first = ap (λ (M : List ℕ). get_or M 0 0) g.words

  -- A log's numbers are those of its opening.
  pub log-animals : animals L ≡ n
  log-animals = ap animals_of log-first ∙ animals-again n τ δ g.sizes

  pub log-ticks : ticks L ≡ τ
  log-ticks = ap ticks_of log-first ∙ ticks-again n τ δ g.sizes

  pub log-carry : carry L ≡ δ
  log-carry = ap carry_of log-first ∙ carry-again n τ δ g.sizes

  log-between : between L ≡ map contact_word l
  unfolding log_words
  log-between = ap between g.words ∙ framed-between (opening_word n τ δ) (end_word (length l)) (map contact_word l)

  log-last : get_or L (length L - 1) 0 ≡ end_word (length l)
  unfolding log_words
  log-last = ap (λ (M : List ℕ). get_or M (length M - 1) 0) g.words ∙ framed-last (opening_word n τ δ) (end_word (length l)) (map contact_word l)

  -- A legal contact's word says it, and is a contact word.
  word-again : (k : Contact) → Memᴰ k l → (contact_of (contact_word k) ≡ k) × (is_of contact_layout (contact_word k) ≡ true)
  word-again k m =
      let z = g.sizes in
      let h = g.legal k m in
      let a : k.from < max_animals = omega (arith, z.n_high, h.from_below) in
      let b : k.to < max_animals = omega (arith, z.n_high, h.to_below) in
      let c : k.tick ≤ max_ticks = omega (arith, z.τ-high, h.to_last) in
      (contact_of-word k a b h.from_one c, contact_word-is k a b h.from_one c)

  -- The contacts of a log are those that it was made of.
  pub log-contacts : logged_contacts L ≡ l
  unfolding logged_contacts
  log-contacts = ap (map contact_of) log-between ∙ map_back contact_word contact_of l (λ k m. (word-again k m).0)

  -- A log is read into a table of the length for it.
  pub log-readable : (T : List ℕ) → length T ≡ table_length n τ → Readable L T
  log-readable T e =
      record {
        log = and_intro (leb 2 (length L)) _ (le-leb 2 (length L) long) (rw log-first (opening_word-is n τ δ z.n_low z.n_high z.τ-low z.τ-high z.δ-low z.δ-high));
        fits = e ∙ sym (ap₂ table_length log-animals log-ticks);
        contacts = λ w m. rw (log-animals, log-ticks) (legal-word w (subst (Memᴰ w) log-between m));
        true-end = rw (log-between, log-last) true-end;
      }
    where
      z : Sizes n τ δ
      z = g.sizes

      long : 2 ≤ length L
      long = omega (arith, ap length g.words, log-length (opening_word n τ δ) l)

      legal-word : (w : ℕ) → Memᴰ w (map contact_word l) → IsLegalWord n τ w
      legal-word w m =
          let r = Memᴰ.of_map contact_word l m in
          let a = word-again r.0 r.1 in
          subst (IsLegalWord n τ) r.2 (a.1, subst (Legal n τ) (sym a.0) (g.legal r.0 r.1))

      true-end : is_true_end (length (map contact_word l)) (end_word (length l)) ≡ true
      true-end =
          unfold is_true_end in
          and_intro (is_of end_layout (end_word (length l))) _ (end_word-is (length l) g.few) (eq-eqb _ _ (logged_of_word (length l) g.few ∙ sym (length-map l contact_word)))
