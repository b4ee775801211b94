-- Fitting a window, said of a journey's contacts and of the two ends of its interval; and which ticks pass the checks.
use Rattle.std.specs.Prelude.{Option, Some}
use mathlib.Core.Path.{◌≡◌, refl, sym, ap, ◌∙◌, subst}
use mathlib.Core.Logic.{◌↔◌, ◌⊎◌, inl, inr, ⊎_elim}
use mathlib.Core.Bool.{Bool, ◌&&◌}
use mathlib.Core.List.Memᴰ
use mathlib.Core.List.{List, ◌∷◌, Memᴰ}
use Prim.Native.Nat.{ℕ, ◌+◌, ◌≤◌, ◌<◌}
use native.Mathlib.Omega.{arith}
use Rattle.journeys.specs.declared.Contact.{Contact}
use Rattle.journeys.specs.declared.Interval.{Interval}
use Rattle.journeys.specs.Journey.{contact, Contacts, JourneyTo, single, onward, Journey, contacts_of}
use Rattle.journeys.proofs.Tests.{Outcome, holds, fails, le_outcome, and_outcome}
use Rattle.journeys.proofs.Reach.{journey-carries}
use Rattle.rules.specs.declared.Refusal.{Refusal}
use Rattle.rules.specs.declared.Refusal.TheVariants.{TickOutOfRange, FirstAfterLast}
use Rattle.rules.specs.Answers.{ensure}
use Rattle.rules.specs.Folds.{within}
use Rattle.rules.specs.Layout.{ticks}
use Rattle.rules.specs.Windows.{InRange, OutOfRange, IsWindow, TickOut, TurnedRound, in_order, ensure_window, InWindow, Fits, FitsWindow, last_arrival}
use Rattle.rules.specs.WindowRule.{AllInWindow, WindowRule}

-- ---- the contacts of a journey

module _ {S : Contacts} {δ : ℕ} where
  -- Each leaves no earlier than the journey departs, and arrives no later than the journey does.
  between : {y b x a : ℕ} (j : JourneyTo S δ y b x a) (k : Contact) → Memᴰ k (contacts_of j) → (a ≤ k.tick) × (k.tick + δ ≤ b)
  between {y} (single {x} {a} s e) k m =
      ⊎_elim (λ q. let t : k.tick ≡ a = ap (λ c. c.tick) q in omega arith) (λ q. absurd (Memᴰ.not-nil q)) (Memᴰ.cases_cons m)
  between (onward {x} {a} z t s g j) k m =
      let c = journey-carries j in
      ⊎_elim (λ q. let e : k.tick ≡ a = ap (λ c. c.tick) q in omega arith) (λ q. let r = between j k q in omega arith) (Memᴰ.cases_cons m)

  -- Each is a contact of the set.
  of-journey : {y b x a : ℕ} (j : JourneyTo S δ y b x a) (k : Contact) → Memᴰ k (contacts_of j) → S k
  of-journey (single s e) k m = ⊎_elim (λ q. subst S (sym q) s) (λ q. absurd (Memᴰ.not-nil q)) (Memᴰ.cases_cons m)
  of-journey (onward z t s g j) k m = ⊎_elim (λ q. subst S (sym q) s) (λ q. of-journey j k q) (Memᴰ.cases_cons m)

  -- The first leaves when the journey departs.
  first-leaves : {y b x a : ℕ} (j : JourneyTo S δ y b x a) → (k : Contact) × Memᴰ k (contacts_of j) × (k.tick ≡ a)
  first-leaves {y} (single {x} {a} s e) = (contact x y a, Memᴰ.head refl, refl)
  first-leaves (onward {x} {a} z t s g j) = (contact x z a, Memᴰ.head refl, refl)

  -- The last arrives when the journey does.
  last-arrives : {y b x a : ℕ} (j : JourneyTo S δ y b x a) → (k : Contact) × Memᴰ k (contacts_of j) × (k.tick + δ ≡ b)
  last-arrives {y} (single {x} {a} s e) = (contact x y a, Memᴰ.head refl, e)
  last-arrives (onward {x} {a} z t s g j) = let r = last-arrives j in (r.0, Memᴰ.tail r.1, r.2)

-- All of them lie in the window exactly when the interval fits it.
pub all_contacts : (S : Contacts) (δ u v : ℕ) (i : Interval) (j : Journey S δ u v i) (first last : ℕ) → AllInWindow first last (contacts_of j) ↔ FitsWindow δ i first last
all_contacts S δ u v i j first last = (to, of)
  where
    to : AllInWindow first last (contacts_of j) → FitsWindow δ i first last
    to h =
        let p = first-leaves j in
        let q = last-arrives j in
        let a = h p.0 p.1 in
        let b = h q.0 q.1 in
        (omega (arith, p.2), omega (arith, q.2))

    of : FitsWindow δ i first last → AllInWindow first last (contacts_of j)
    of h k m = let r = between j k m in omega arith

-- ---- journeys of the contacts in the window

module _ {A B : Contacts} {δ : ℕ} (f : (k : Contact) → A k → B k) where
  -- A journey of some contacts is one of every set that has them.
  pub among : {y b x a : ℕ} → JourneyTo A δ y b x a → JourneyTo B δ y b x a
  among {y} (single {x} {a} s e) = single (f (contact x y a) s) e
  among (onward {x} {a} z t s g j) = onward z t (f (contact x z a) s) g (among j)

  -- It keeps its contacts.
  pub among-contacts : {y b x a : ℕ} (j : JourneyTo A δ y b x a) → contacts_of (among j) ≡ contacts_of j
  unfolding among
  among-contacts (single s e) = refl
  among-contacts (onward {x} {a} z t s g j) = ap (λ l. contact x z a ∷ l) (among-contacts j)

module _ {S : Contacts} {δ : ℕ} (first last : ℕ) where
  -- A journey whose interval fits is one of these contacts.
  pub into_window : {y b x a : ℕ} → JourneyTo S δ y b x a → first ≤ a → b ≤ last + δ → JourneyTo (InWindow S first last) δ y b x a
  into_window (single s e) h k = single (record { is_contact = s; from_first = h; to_last = omega arith }) e
  into_window (onward z t s g j) h k =
      let c = journey-carries j in
      onward z t (record { is_contact = s; from_first = h; to_last = omega arith }) g (into_window j (omega arith) k)

  -- It keeps its contacts.
  pub into_contacts : {y b x a : ℕ} (j : JourneyTo S δ y b x a) (h : first ≤ a) (k : b ≤ last + δ) → contacts_of (into_window j h k) ≡ contacts_of j
  unfolding into_window
  into_contacts (single s e) h k = refl
  into_contacts (onward {x} {a} z t s g j) h k = ap (λ l. contact x z a ∷ l) (into_contacts j _ k)

  -- A journey of these contacts is one of the set.
  pub of-set : {y b x a : ℕ} → JourneyTo (InWindow S first last) δ y b x a → JourneyTo S δ y b x a
  of-set = among (λ k s. s.is_contact)

  -- Its interval fits.
  pub ends-fit : {y b x a : ℕ} → JourneyTo (InWindow S first last) δ y b x a → (first ≤ a) × (b ≤ last + δ)
  ends-fit (single s e) = (s.from_first, omega (arith, s.to_last))
  ends-fit (onward z t s g j) = (s.from_first, (ends-fit j).1)

pub by_the_ends : (S : Contacts) (δ u v first last : ℕ) (i : Interval) → Journey (InWindow S first last) δ u v i ↔ (Journey S δ u v i × FitsWindow δ i first last)
by_the_ends S δ u v first last i = (λ j. (of-set first last j, ends-fit first last j), λ r. into_window first last r.0 r.1.0 r.1.1)

-- A journey fits exactly when there is one whose interval does.
pub fits_iff : {S : Contacts} {δ u v first last : ℕ} → Fits S δ u v first last ↔ ((i : Interval) × Journey S δ u v i × FitsWindow δ i first last)
fits_iff {S} {δ} {u} {v} {first} {last} = (
  λ w. (let r = (by_the_ends S δ u v first last w.taken).0 w.journey in (w.taken, r.0, r.1)),
  λ r. record { taken = r.0; journey = (by_the_ends S δ u v first last r.0).1 (r.1, r.2) },
)

-- ---- the checks

-- One check, by what its test says.
check_passes : {P Q : Type 0} {b : Bool} → (Q → P → ⊥) → Outcome P Q b → (r : Refusal) (o : Option Refusal) → P → ensure b r o ≡ o
check_passes x (holds p) r o h = refl
check_passes x (fails q) r o h = absurd (x q h)

check_refuses : {P Q : Type 0} {b : Bool} → (Q → P → ⊥) → Outcome P Q b → (r : Refusal) (o : Option Refusal) → Q → ensure b r o ≡ Some r
check_refuses x (holds p) r o h = absurd (x h p)
check_refuses x (fails q) r o h = refl

-- A tick out of its range is not in it, and so not both of two ticks of which one is out.
pub not-in_range : {end t : ℕ} → OutOfRange end t → InRange end t → ⊥
not-in_range (inl h) p = omega arith
not-in_range (inr h) p = omega arith

not-both : {τ first last : ℕ} → TickOut τ first last → InRange τ first × InRange τ last → ⊥
not-both n p = ⊎_elim (λ h. not-in_range h p.0) (λ h. not-in_range h p.1) n

pub range_outcome : (end t : ℕ) → Outcome (InRange end t) (OutOfRange end t) (within 1 t end)
range_outcome end t = and_outcome (le_outcome 1 t) (le_outcome t end)

ranges_outcome : (τ first last : ℕ) → Outcome (InRange τ first × InRange τ last) (TickOut τ first last) (within 1 first τ && within 1 last τ)
ranges_outcome τ first last = and_outcome (range_outcome τ first) (range_outcome τ last)

pub any_two : (τ first last : ℕ) → IsWindow τ first last ⊎ TickOut τ first last ⊎ TurnedRound τ first last
any_two τ first last = go (ranges_outcome τ first last) (le_outcome first last)
  where
    go : {a b : Bool} → Outcome (InRange τ first × InRange τ last) (TickOut τ first last) a → Outcome (first ≤ last) (last < first) b
        → IsWindow τ first last ⊎ TickOut τ first last ⊎ TurnedRound τ first last
    go (holds (f, l)) (holds h) = inl (record { from_one = omega arith; in_order = omega arith; to_last = omega arith })
    go (holds (f, l)) (fails h) = inr (inr (record { first_in_range = omega arith; last_in_range = omega arith; after = omega arith }))
    go (fails n) o = inr (inl n)

module _ (T : List ℕ) (first last : ℕ) where
  -- Where both ticks are in range, the order decides.
  by_order : InRange (ticks T) first × InRange (ticks T) last → (o : Option Refusal) → ensure_window T first last o ≡ ensure (in_order first last) FirstAfterLast o
  by_order p o = check_passes not-both (ranges_outcome (ticks T) first last) TickOutOfRange _ p

  pub window_accepted : IsWindow (ticks T) first last → (o : Option Refusal) → ensure_window T first last o ≡ o
  window_accepted w o =
      let a = w.from_one in
      let b = w.in_order in
      let c = w.to_last in
      by_order (omega arith, omega arith) o ∙ check_passes (λ h k. omega arith) (le_outcome first last) FirstAfterLast o b

  pub window_out : TickOut (ticks T) first last → (o : Option Refusal) → ensure_window T first last o ≡ Some TickOutOfRange
  window_out n o = check_refuses not-both (ranges_outcome (ticks T) first last) TickOutOfRange _ n

  pub window_turned : TurnedRound (ticks T) first last → (o : Option Refusal) → ensure_window T first last o ≡ Some FirstAfterLast
  window_turned t o =
      let f = t.first_in_range in
      let l = t.last_in_range in
      let a = t.after in
      by_order (omega arith, omega arith) o ∙ check_refuses (λ h k. omega arith) (le_outcome first last) FirstAfterLast o (omega arith)

pub window_rule : WindowRule
window_rule =
    record {
      any_two = any_two;
      window_accepted = window_accepted;
      window_out = window_out;
      window_turned = window_turned;
      moment_accepted = λ T t h o. check_passes not-in_range (range_outcome (last_arrival T) t) TickOutOfRange o h;
      moment_refused = λ T t h o. check_refuses not-in_range (range_outcome (last_arrival T) t) TickOutOfRange o h;
      fits_when = λ S δ u v first last. (
        λ w. (let r = fits_iff.0 w in (r.0, r.1, (all_contacts S δ u v r.0 r.1 first last).1 r.2)),
        λ r. fits_iff.1 (r.0, r.1, (all_contacts S δ u v r.0 r.1 first last).0 r.2),
      );
      all_contacts = all_contacts;
      by_the_ends = by_the_ends;
      whole_calendar = λ n τ δ S legal u v i j. (
          let h = (all_contacts S δ u v i j 1 τ).0 (λ k m. let l = legal k (of-journey j k m) in (l.from_one, l.to_last)) in
          into_window 1 τ j h.0 h.1
          );
    }
