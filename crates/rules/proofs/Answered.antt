-- The questions are answered as demand 2 asks, on any fresh table.
use Rattle.std.specs.Prelude.{Option, None, Some, Ok}
use mathlib.Core.Path.{◌≡◌, refl, sym, ap, ap₂, ◌∙◌, subst}
use mathlib.Core.Logic.{◌↔◌, ◌≢◌}
use mathlib.Core.Bool.{Bool, true, false, cond, not, ◌&&◌, ◌||◌}
use mathlib.Core.List.{List, [], ◌∷◌, Memᴰ}
use Prim.Native.Nat.{ℕ, zero, suc, ◌+◌, ◌*◌, ◌/◌, ◌%◌, ◌^◌, ◌≤◌, ◌<◌}
use native.Mathlib.Omega.{arith}
use lib.ListN.{length, get_or, replicate, length-append}
use lib.Dec.{eqb}
use Rattle.journeys.specs.declared.Interval.{Interval}
use Rattle.journeys.specs.Journey.{Contacts, Inside, Journey, Minimal}
use Rattle.journeys.proofs.Tests.{untrue, Outcome, holds, fails, outcome-iff, eq_outcome, lt_outcome}
use Rattle.journeys.proofs.Cover.{Covers, covers-find, member-covers, has_inside-outcome}
use Rattle.journeys.proofs.Theorems.{inside-stored}
use Rattle.rules.specs.Limits.{max_animals}
use Rattle.rules.specs.declared.Refusal.{Refusal}
use Rattle.rules.specs.Answers.{unless}
use Rattle.rules.specs.Folds.{flat, all_below, count_below}
use Rattle.rules.specs.Layout.{carry, cell_at, cell_of, cells_of}
use Rattle.rules.specs.Questions.{reaches, reach_answer, connects, connected_answer, is_reached, set_word, set_words, reached_refusal, reached_answer, reached_words, reached_count}
use Rattle.rules.specs.Fresh.{Fresh}
use Rattle.rules.specs.Orders.{Sorted}
use Rattle.rules.specs.Windows.{widest, IsWindow, IsPair, Fits}
use Rattle.rules.specs.StoredAnswers.{StoredFits}
use Rattle.rules.specs.Demand2.{StoredIn, AllFit, ReachedFrom, BitSet}
use Rattle.rules.proofs.Folds.{all-below, below_all, flat-member, member-flat}
use Rattle.rules.proofs.Sorted.{sorted-flat, sorted-one, member-one}
use Rattle.rules.proofs.Fresh.{fresh-animals, fresh-ticks, fresh-carry, fresh_cells}
use Rattle.rules.proofs.Windows.{fits_iff}
use Rattle.rules.proofs.Bits.{sum-bit}
use Rattle.rules.proofs.Asked.{yes_iff, no_iff, ValidOf, valid-fresh, reach-asked, connected-asked, reached-asked}

-- ---- reach on any table that passes 5 and 6

-- A pair is reached exactly when a stored interval of it fits.
pub reaches-stored : (T : List ℕ) (u v first last : ℕ) → (reaches T u v first last ≡ true) ↔ StoredFits T u v first last
unfolding reaches
reaches-stored T u v first last =
    let e = outcome-iff (λ m c. m c) (has_inside-outcome (widest (carry T) first last) (cells_of T u v)) in
    (λ h. covers-find (e.0 h), λ r. e.1 (member-covers r.1 r.2))

module _ {n τ δ : ℕ} {T : List ℕ} (g : ValidOf n τ δ T) (u v first last : ℕ) (p : IsPair n u v) (w : IsWindow τ first last) {P : Type 0} (c : (reaches T u v first last ≡ true) ↔ P) where
  pub reach-yes_iff : (reach_answer T u v first last ≡ Ok true) ↔ P
  unfolding reach_answer
  reach-yes_iff = rw (reach-asked g u v first last p w) (yes_iff (reaches T u v first last) c)

  pub reach-no_iff : (reach_answer T u v first last ≡ Ok false) ↔ (¬ P)
  unfolding reach_answer
  reach-no_iff = rw (reach-asked g u v first last p w) (no_iff (reaches T u v first last) c)

-- ---- on any fresh table

module _ {n τ δ : ℕ} {S : Contacts} {T : List ℕ} (f : Fresh n τ δ S T) where
  -- ---- stored intervals

  cell-is : (u v : ℕ) → IsPair n u v → cells_of T u v ≡ f.cells u v
  cell-is u v p = fresh_cells f u v p.from_below p.to_below

  -- The cell read by the table's numbers is that of the set.
  cell-read : (u v : ℕ) → IsPair n u v → cell_of (cell_at n τ T u v) ≡ f.cells u v
  unfolding cells_of
  cell-read u v p = rw (fresh-animals f, fresh-ticks f) at (cell-is u v p)

  pub stored : (u v : ℕ) → IsPair n u v → (i : Interval) → StoredIn n τ T u v i ↔ Minimal S δ u v i
  stored u v p i = rw (cell-read u v p) ((f.minimal.cells u v p.apart).exact i)

  -- An interval stands in the pair's cell exactly when it is minimal.
  pub stands-iff : (u v : ℕ) → IsPair n u v → (i : Interval) → Memᴰ i (cells_of T u v) ↔ Minimal S δ u v i
  stands-iff u v p i = rw (cell-is u v p) ((f.minimal.cells u v p.apart).exact i)

  -- An interval is covered exactly when a journey lies inside it.
  pub covered_iff : (u v : ℕ) → IsPair n u v → (i : Interval) → Covers i (cells_of T u v) ↔ ((j : Interval) × Journey S δ u v j × Inside j i)
  covered_iff u v p i =
      let t = inside-stored δ S f.cells f.minimal u v i.departure i.arrival p.apart in
      rw (cell-is u v p) (λ c. t.1 (covers-find c), λ h. let w = t.0 h in member-covers w.1 w.2)

  -- ---- reach

  pub reaches-iff : (u v : ℕ) → IsPair n u v → (first last : ℕ) → (reaches T u v first last ≡ true) ↔ Fits S δ u v first last
  reaches-iff u v p first last =
      let e = reaches-stored T u v first last in
      let c = rw (cell-is u v p, fresh-carry f) at e in
      let t = inside-stored δ S f.cells f.minimal u v first (last + δ) p.apart in
      (λ h. fits_iff.1 (t.1 (c.0 h)), λ h. c.1 (t.0 (fits_iff.0 h)))

  pub reach_yes : (u v first last : ℕ) → IsPair n u v → IsWindow τ first last → (reach_answer T u v first last ≡ Ok true) ↔ Fits S δ u v first last
  reach_yes u v first last p w = reach-yes_iff (valid-fresh f) u v first last p w (reaches-iff u v p first last)

  pub reach_no : (u v first last : ℕ) → IsPair n u v → IsWindow τ first last → (reach_answer T u v first last ≡ Ok false) ↔ (¬ Fits S δ u v first last)
  reach_no u v first last p w = reach-no_iff (valid-fresh f) u v first last p w (reaches-iff u v p first last)

  -- ---- connected

  module _ (first last : ℕ) where
    abbrev pair_connected : ℕ → ℕ → Bool
    pair_connected u v = eqb u v || reaches T u v first last

    pair-iff : (u v : ℕ) → u < n → v < n → (pair_connected u v ≡ true) ↔ (u ≢ v → Fits S δ u v first last)
    pair-iff u v h k = go (eq_outcome u v)
      where
        go : {b : Bool} → Outcome (u ≡ v) (u ≢ v) b → ((b || reaches T u v first last) ≡ true) ↔ (u ≢ v → Fits S δ u v first last)
        go (holds e) = (λ q d. absurd (d e), λ q. refl)
        go (fails d) = let c = reaches-iff u v (record { from_below = h; to_below = k; apart = d }) first last in (λ q m. c.0 q, λ q. c.1 (q d))

    connects-iff : (connects T first last ≡ true) ↔ AllFit S δ n first last
    unfolding connects
    connects-iff = rw (fresh-animals f) (
      λ e u v p. (pair-iff u v p.from_below p.to_below).0 (below_all (pair_connected u) n (below_all (λ u. all_below (pair_connected u) n) n e u p.from_below) v p.to_below) p.apart,
      λ g. all-below (λ u. all_below (pair_connected u) n) n (λ u h. all-below (pair_connected u) n (λ v k. (pair-iff u v h k).1 (λ d. g u v (record { from_below = h; to_below = k; apart = d })))),
    )

    module _ (w : IsWindow τ first last) where
      pub connected_yes : (connected_answer T first last ≡ Ok true) ↔ AllFit S δ n first last
      unfolding connected_answer
      connected_yes = rw (connected-asked (valid-fresh f) first last w) (yes_iff (connects T first last) connects-iff)

      pub connected_no : (connected_answer T first last ≡ Ok false) ↔ (¬ AllFit S δ n first last)
      unfolding connected_answer
      connected_no = rw (connected-asked (valid-fresh f) first last w) (no_iff (connects T first last) connects-iff)

  -- ---- reached

  module _ (u first last : ℕ) (h : u < n) where
    reached-iff : (i : ℕ) → (is_reached T u first last i ≡ true) ↔ ReachedFrom S δ n u first last i
    unfolding is_reached
    reached-iff i = rw (fresh-animals f) (go (lt_outcome i n) (eq_outcome u i))
      where
        go : {a b : Bool} → Outcome (i < n) (n ≤ i) a → Outcome (u ≡ i) (u ≢ i) b → ((a && not b && reaches T u i first last) ≡ true) ↔ ReachedFrom S δ n u first last i
        go (fails l) o = (λ q. untrue q, λ r. absurd (omega (arith, r.below)))
        go (holds l) (holds e) = (λ q. untrue q, λ r. absurd (r.other e))
        go (holds l) (fails d) =
            let c = reaches-iff u i (record { from_below = h; to_below = l; apart = d }) first last in
            (λ q. record { below = l; other = d; fits = c.0 q }, λ r. c.1 r.fits)

    -- The animals reached, in their order.
    abbrev one : ℕ → List ℕ
    one i = cond (is_reached T u first last i) (i ∷ []) []

    abbrev reached_list : List ℕ
    reached_list = flat one n

    list_length : (m : ℕ) → length (flat one m) ≡ count_below (is_reached T u first last) m
    unfolding flat count_below
    list_length zero = refl
    list_length (suc m) = length-append (flat one m) (one m) ∙ ap₂ ◌+◌ (list_length m) (single (is_reached T u first last m))
      where
        single : (b : Bool) → length {A = ℕ} (cond b (m ∷ []) []) ≡ cond b 1 0
        single true = refl
        single false = refl

    list-sorted : Sorted ◌<◌ reached_list
    list-sorted =
        sorted-flat ◌<◌ one n (λ i k. sorted-one ◌<◌ (is_reached T u first last i) i)
        (λ i j o l a b p q. let e = (member-one (is_reached T u first last i) i a p).0 in let g = (member-one (is_reached T u first last j) j b q).0 in omega arith)

    list-iff : (i : ℕ) → Memᴰ i reached_list ↔ ReachedFrom S δ n u first last i
    list-iff i = (to, of)
      where
        to : Memᴰ i reached_list → ReachedFrom S δ n u first last i
        to m =
            let r = member-flat one n m in
            let e = member-one (is_reached T u first last r.0) r.0 i r.2 in
            (reached-iff i).0 (subst (λ j. is_reached T u first last j ≡ true) (sym e.0) e.1)

        of : ReachedFrom S δ n u first last i → Memᴰ i reached_list
        of r = flat-member one n i r.below (subst (λ b. Memᴰ i (cond b (i ∷ []) [])) (sym ((reached-iff i).1 r)) (Memᴰ.head refl))

    module _ (w : IsWindow τ first last) where
      pub reached_found : reached_answer T u first last ≡ Ok tt
      unfolding reached_answer
      reached_found = rw (reached-asked (valid-fresh f) u first last h w) refl

      pub reached_count_lem : (l : List ℕ) × Sorted ◌<◌ l × ((i : ℕ) → Memᴰ i l ↔ ReachedFrom S δ n u first last i) × (reached_count T u first last ≡ length l)
      unfolding reached_count
      reached_count_lem = (reached_list, list-sorted, list-iff, rw (reached-asked (valid-fresh f) u first last h w, fresh-animals f) (sym (list_length n)))

      word_at : (j : ℕ) → j < 8 → get_or (set_words T u first last) j 0 ≡ set_word T u first last j
      unfolding set_words
      word_at zero k = refl
      word_at (suc zero) k = refl
      word_at (suc (suc zero)) k = refl
      word_at (suc (suc (suc zero))) k = refl
      word_at (suc (suc (suc (suc zero)))) k = refl
      word_at (suc (suc (suc (suc (suc zero))))) k = refl
      word_at (suc (suc (suc (suc (suc (suc zero)))))) k = refl
      word_at (suc (suc (suc (suc (suc (suc (suc zero))))))) k = refl
      word_at (suc (suc (suc (suc (suc (suc (suc (suc j)))))))) k = absurd (omega arith)

      bit_is : (i : ℕ) → i < max_animals → get_or (reached_words T u first last) (i / 32) 0 / 2 ^ (i % 32) % 2 ≡ cond (is_reached T u first last i) 1 0
      unfolding reached_words set_word
      bit_is i k =
          let j : i / 32 < 8 = omega arith in
          let b : i % 32 < 32 = omega arith in
          let e : i / 32 * 32 + i % 32 ≡ i = omega arith in
          rw (reached-asked (valid-fresh f) u first last h w)
          (ap (λ x. x / 2 ^ (i % 32) % 2) (word_at (i / 32) j)
          ∙ sum-bit (λ c. is_reached T u first last (i / 32 * 32 + c)) (i % 32) 32 b
          ∙ ap (λ m. cond (is_reached T u first last m) 1 0) e)

      pub reached_bit : (i : ℕ) → i < max_animals → BitSet (reached_words T u first last) i ↔ ReachedFrom S δ n u first last i
      reached_bit i k =
          let c = reached-iff i in
          (λ e. c.0 (one-true (is_reached T u first last i) (sym (bit_is i k) ∙ e)), λ r. bit_is i k ∙ ap (λ (b : Bool). cond b 1 0) (c.1 r))
        where
          one-true : (b : Bool) → ◌≡◌ {A = ℕ} (cond b 1 0) 1 → b ≡ true
          one-true true e = refl
          one-true false e = absurd (omega arith)

pub reached_eight : (T : List ℕ) (u first last : ℕ) → length (reached_words T u first last) ≡ 8
unfolding reached_words set_words
reached_eight T u first last = go (reached_refusal T u first last)
  where
    go : (o : Option Refusal) → length (unless o (set_words T u first last) (replicate 8 0)) ≡ 8
    go None = refl
    go (Some r) = refl
