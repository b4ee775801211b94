-- Collecting a set of animals: what one animal more does to its words and its count, and what stands there at the end.
use mathlib.Core.Path.{◌≡◌, refl, sym, ap, ap₂, ◌∙◌, subst}
use mathlib.Core.Bool.{Bool, true, false, cond, not, ◌&&◌, and-false}
use mathlib.Core.List.{List, [], ◌∷◌}
use Prim.Native.Nat.{ℕ, zero, suc, ◌+◌, ◌-◌, ◌*◌, ◌/◌, ◌%◌, ◌^◌, ◌≤◌, ◌<◌}
use native.Mathlib.Nat.{add-zero, add-suc, pow-suc, one-mul}
use native.Mathlib.Numerals.{add-one}
use native.Mathlib.Omega.{arith}
use lib.Dec.{ltb, eqb}
use lib.ListN.{length, get_or, set, replicate, length-set, get_or-replicate}
use lib.Pow.{pow_pos, pow_mono, shl_exact}
use lib.Seq.{get_or-set_same, get_or-set_other, ext_get_or}
use borrow.Author.Tests.{lt-ltb, le-ltb, eq-eqb, ne_eqb}
use Rattle.journeys.proofs.Tests.{Outcome, holds, fails, lt_outcome, eq_outcome}
use Rattle.rules.specs.Limits.{max_animals}
use Rattle.rules.specs.declared.AnimalSet.{AnimalSet}
use Rattle.rules.specs.Folds.{sum_below, count_below}
use Rattle.rules.specs.Layout.{animals}
use Rattle.rules.specs.Questions.{reaches, is_reached, set_word, set_words}
use Rattle.rules.proofs.Folds.{sum_same}
use Rattle.animal_loops.specs.Collected.{bit_below, word_below, Collected}

-- ---- sums

-- A sum of at most the powers of two below n is less than 2ⁿ.
sum-small : (f : ℕ → ℕ) (n : ℕ) → ((b : ℕ) → f b ≤ 2 ^ b) → sum_below f n < 2 ^ n
unfolding sum_below
sum-small f zero h = pow_pos 0
sum-small f (suc n) h = omega (arith, sum-small f n h, h n, pow-suc 2 n)

-- A sum whose terms from m on are 0.
sum-front : (f : ℕ → ℕ) (m k : ℕ) → ((b : ℕ) → m ≤ b → f b ≡ 0) → sum_below f (m + k) ≡ sum_below f m
unfolding sum_below
sum-front f m zero h = ap (sum_below f) (add-zero m)
sum-front f m (suc k) h = ap (sum_below f) (add-suc m k) ∙ omega (arith, sum-front f m k h, h (m + k) (omega arith))

-- A sum of powers of two below 2ᵐ.
sum_low : (f : ℕ → ℕ) (n m : ℕ) → m ≤ n → ((b : ℕ) → f b ≤ 2 ^ b) → ((b : ℕ) → m ≤ b → f b ≡ 0) → sum_below f n < 2 ^ m
sum_low f n m l h z =
    let e : m + (n - m) ≡ n = omega arith in
    subst (λ (s : ℕ). s < 2 ^ m) (sym (ap (sum_below f) (sym e) ∙ sum-front f m (n - m) z)) (sum-small f m h)

-- One term of a sum raised by d.
sum-raised : (f g : ℕ → ℕ) (n m d : ℕ) → m < n → ((b : ℕ) → b < n → (b ≡ m → ⊥) → g b ≡ f b) → g m ≡ f m + d → sum_below g n ≡ sum_below f n + d
unfolding sum_below
sum-raised f g zero m d l h e = absurd (omega arith)
sum-raised f g (suc n) m d l h e = go (lt_outcome m n) (λ o. sum-raised f g n m d o (λ b q. h b (omega arith)) e)
  where
    go : {t : Bool} → Outcome (m < n) (n ≤ m) t → (m < n → sum_below g n ≡ sum_below f n + d) → sum_below g n + g n ≡ sum_below f n + f n + d
    go (holds o) r = let q : g n ≡ f n = h n (omega arith) (λ z. omega arith) in omega (arith, r o)
    go (fails o) r =
        let z : m ≡ n = omega arith in
        let q : g n ≡ f n + d = subst (λ (i : ℕ). g i ≡ f i + d) z e in
        omega (arith, sum_same g f n (λ b x. h b (omega arith) (λ w. omega arith)))

-- ---- one bit

module _ (p : ℕ → Bool) (i j b : ℕ) where
  -- Another animal's bit is as it was.
  bit-other : (j * 32 + b ≡ i → ⊥) → bit_below p (i + 1) j b ≡ bit_below p i j b
  unfolding bit_below
  bit-other h = ap (λ (t : Bool). cond (t && p (j * 32 + b)) (2 ^ b) 0) (go (lt_outcome (j * 32 + b) i))
    where
      go : {t : Bool} → Outcome (j * 32 + b < i) (i ≤ j * 32 + b) t → ltb (j * 32 + b) (i + 1) ≡ t
      go (holds o) = lt-ltb (j * 32 + b) (i + 1) (omega arith)
      go (fails o) = le-ltb (j * 32 + b) (i + 1) (above (j * 32 + b) h o)
        where
          above : (k : ℕ) → (k ≡ i → ⊥) → i ≤ k → i + 1 ≤ k
          above k n l = place (lt_outcome i k)
            where
              place : {t : Bool} → Outcome (i < k) (k ≤ i) t → i + 1 ≤ k
              place (holds q) = omega arith
              place (fails q) = absurd (n (omega arith))

  -- The bit of an animal that does not pass stays 0.
  bit-missed : p i ≡ false → bit_below p (i + 1) j b ≡ bit_below p i j b
  unfolding bit_below
  bit-missed h = go (eq_outcome (j * 32 + b) i)
    where
      go : {t : Bool} → Outcome (j * 32 + b ≡ i) (j * 32 + b ≡ i → ⊥) t → bit_below p (i + 1) j b ≡ bit_below p i j b
      go (holds e) = let q : p (j * 32 + b) ≡ false = ap p e ∙ h in rw (q, and-false (ltb (j * 32 + b) (i + 1)), and-false (ltb (j * 32 + b) i)) refl
      go (fails e) = bit-other e

  -- The bit of an animal that passes is set.
  bit-set : j * 32 + b ≡ i → p i ≡ true → bit_below p (i + 1) j b ≡ bit_below p i j b + 2 ^ b
  unfolding bit_below
  bit-set e h =
      let q : p (j * 32 + b) ≡ true = ap p e ∙ h in
      rw (q, lt-ltb (j * 32 + b) (i + 1) (omega arith), le-ltb (j * 32 + b) i (omega arith)) (omega arith)

  -- A bit is at most its power of two.
  bit-most : bit_below p i j b ≤ 2 ^ b
  unfolding bit_below
  bit-most = go (ltb (j * 32 + b) i && p (j * 32 + b))
    where
      go : (t : Bool) → cond t (2 ^ b) 0 ≤ 2 ^ b
      go true = omega arith
      go false = omega arith

  -- A bit from i on is 0.
  bit-zero : i ≤ j * 32 + b → bit_below p i j b ≡ 0
  unfolding bit_below
  bit-zero h = rw (le-ltb (j * 32 + b) i h) refl

-- ---- one word

module _ (p : ℕ → Bool) where
  -- No animal is passed yet.
  word-start : (j : ℕ) → word_below p 0 j ≡ 0
  unfolding word_below sum_below
  word-start j = sum-front (bit_below p 0 j) 0 32 (λ b h. bit-zero p 0 j b (omega arith))

  module _ (i : ℕ) where
    -- An animal that does not pass changes no word.
    word-missed : p i ≡ false → (j : ℕ) → word_below p (i + 1) j ≡ word_below p i j
    unfolding word_below
    word-missed h j = sum_same (bit_below p (i + 1) j) (bit_below p i j) 32 (λ b o. bit-missed p i j b h)

    -- An animal changes its own word only.
    word-other : (j : ℕ) → (j ≡ i / 32 → ⊥) → word_below p (i + 1) j ≡ word_below p i j
    unfolding word_below
    word-other j h = sum_same (bit_below p (i + 1) j) (bit_below p i j) 32 (λ b o. bit-other p i j b (λ e. h (omega arith)))

    -- An animal that passes adds its bit to its word.
    word_set : p i ≡ true → word_below p (i + 1) (i / 32) ≡ word_below p i (i / 32) + 2 ^ (i % 32)
    unfolding word_below
    word_set h =
        sum-raised (bit_below p i (i / 32)) (bit_below p (i + 1) (i / 32)) 32 (i % 32) (2 ^ (i % 32)) (omega arith)
        (λ b o d. bit-other p i (i / 32) b (λ e. d (omega arith)))
        (bit-set p i (i / 32) (i % 32) (omega arith) h)

    -- Its bit is above those of its word.
    word_low : word_below p i (i / 32) < 2 ^ (i % 32)
    unfolding word_below
    word_low = sum_low (bit_below p i (i / 32)) 32 (i % 32) (omega arith) (bit-most p i (i / 32)) (λ b h. bit-zero p i (i / 32) b (omega arith))

  -- At most i animals are counted below i.
  count_most : (i : ℕ) → count_below p i ≤ i
  unfolding count_below
  count_most zero = omega arith
  count_most (suc i) = go (p i) (count_most i)
    where
      go : (t : Bool) → count_below p i ≤ i → count_below p i + cond t 1 0 ≤ suc i
      go true h = omega arith
      go false h = omega arith

-- ---- the set

-- The set of no animal.
pub collected-start : (p : ℕ → Bool) (ws : List ℕ) (c : ℕ) → ws ≡ replicate 8 0 → c ≡ 0 → Collected p 0 ws c
unfolding count_below
collected-start p ws c e f =
    record {
      long = ap length e;
      words = λ j h. ap (λ (l : List ℕ). get_or l j 0) e ∙ get_or-replicate {A = ℕ} 8 j 0 0 h ∙ sym (word-start p j);
      counted = f;
    }

module _ {p : ℕ → Bool} {i : ℕ} {ws : List ℕ} {c : ℕ} (w : Collected p i ws c) where
  -- An animal that does not pass leaves the set as it is.
  pub collected-missed : p i ≡ false → Collected p (i + 1) ws c
  unfolding count_below
  collected-missed h =
      record {
        long = w.long;
        words = λ j o. w.words j o ∙ sym (word-missed p i h j);
        counted = rw (add-one i, h) (w.counted ∙ omega arith);
      }

  -- There is room for one animal more.
  pub collected-room : i < max_animals → (i < max_animals) × (get_or ws (i / 32) 0 < 2 ^ (i % 32)) × (c < max_animals)
  collected-room h =
      (h, subst (λ (x : ℕ). x < 2 ^ (i % 32)) (sym (w.words (i / 32) (omega arith))) (word_low p i), omega (arith, w.counted, count_most p i))

  -- An animal that passes is one more.
  pub collected-new : (xs : List ℕ) (d : ℕ) → i < max_animals → p i ≡ true → xs ≡ set ws (i / 32) (get_or ws (i / 32) 0 + 2 ^ (i % 32)) → d ≡ c + 1 → Collected p (i + 1) xs d
  unfolding count_below
  collected-new xs d h t e f =
      record {
        long = ap length e ∙ length-set ws (i / 32) _ ∙ w.long;
        words = λ j o. ap (λ (l : List ℕ). get_or l j 0) e ∙ word j o (eq_outcome j (i / 32));
        counted = rw (add-one i, t) (omega (arith, w.counted));
      }
    where
      word : (j : ℕ) → j < 8 → {b : Bool} → Outcome (j ≡ i / 32) (j ≡ i / 32 → ⊥) b
          → get_or (set ws (i / 32) (get_or ws (i / 32) 0 + 2 ^ (i % 32))) j 0 ≡ word_below p (i + 1) j
      word j o (holds q) =
          ap (λ (k : ℕ). get_or (set ws (i / 32) (get_or ws (i / 32) 0 + 2 ^ (i % 32))) k 0) q
          ∙ get_or-set_same ws (i / 32) _ 0 (omega (arith, w.long))
          ∙ ap (λ (x : ℕ). x + 2 ^ (i % 32)) (w.words (i / 32) (omega arith))
          ∙ sym (word_set p i t)
          ∙ ap (word_below p (i + 1)) (sym q)
      word j o (fails q) = get_or-set_other ws (i / 32) j _ 0 q ∙ w.words j o ∙ sym (word-other p i j q)

-- ---- the animals reached

module _ (T : List ℕ) (u first last i : ℕ) (h : i < animals T) where
  -- u itself is not in the set.
  pub reached-self : u ≡ i → is_reached T u first last i ≡ false
  unfolding is_reached
  reached-self e = rw (lt-ltb i (animals T) h, eq-eqb u i e) refl

  -- Another is where it is reached.
  pub reached-other : (u ≡ i → ⊥) → {b : Bool} → b ≡ reaches T u i first last → is_reached T u first last i ≡ b
  unfolding is_reached
  reached-other n e = rw (lt-ltb i (animals T) h, ne_eqb u i n, sym e) refl

-- A set of its words and its count.
abbrev set_of : List ℕ → ℕ → AnimalSet
set_of ws c = record { words = ws; count = c }

-- A test that is asked twice.
and_again : (a b c : Bool) → (a && (a && b && c)) ≡ (a && b && c)
and_again true b c = refl
and_again false b c = refl

-- Word j of eight.
eight_at : (f : ℕ → ℕ) (j : ℕ) → j < 8 → get_or (f 0 ∷ f 1 ∷ f 2 ∷ f 3 ∷ f 4 ∷ f 5 ∷ f 6 ∷ f 7 ∷ []) j 0 ≡ f j
eight_at f zero h = refl
eight_at f (suc zero) h = refl
eight_at f (suc (suc zero)) h = refl
eight_at f (suc (suc (suc zero))) h = refl
eight_at f (suc (suc (suc (suc zero)))) h = refl
eight_at f (suc (suc (suc (suc (suc zero))))) h = refl
eight_at f (suc (suc (suc (suc (suc (suc zero)))))) h = refl
eight_at f (suc (suc (suc (suc (suc (suc (suc zero))))))) h = refl
eight_at f (suc (suc (suc (suc (suc (suc (suc (suc j)))))))) h = absurd (omega arith)

module _ (T : List ℕ) (u first last : ℕ) where
  -- A word of the animals below n is that of the set.
  word_end : (j : ℕ) → word_below (is_reached T u first last) (animals T) j ≡ set_word T u first last j
  unfolding word_below bit_below set_word is_reached
  word_end j =
      sum_same _ _ 32
      (λ b o. ap (λ (t : Bool). cond t (2 ^ b) 0) (and_again (ltb (j * 32 + b) (animals T)) (not (eqb u (j * 32 + b))) (reaches T u (j * 32 + b) first last)))

  -- All animals are passed, n of them.
  pub collected-set : {ws : List ℕ} {c n i : ℕ} → n ≡ animals T → n ≤ i → i ≤ n → Collected (is_reached T u first last) i ws c
      → set_of ws c ≡ set_of (set_words T u first last) (count_below (is_reached T u first last) (animals T))
  unfolding set_words
  collected-set {ws} {c} {n} {i} e l m w =
      let z : i ≡ animals T = (let q : i ≡ n = omega (l, m, arith) in q) ∙ e in
      let whole : ws ≡ set_words T u first last =
      ext_get_or 0 ws (set_words T u first last) w.long
      (λ j o. w.words j (omega (arith, w.long)) ∙ ap (λ (k : ℕ). word_below (is_reached T u first last) k j) z ∙ word_end j
      ∙ sym (eight_at (set_word T u first last) j (omega (arith, w.long)))) in
      ap₂ set_of whole (w.counted ∙ ap (count_below (is_reached T u first last)) z)

-- ---- the bit as it is shifted

-- One shifted by less than 32 is its power of two.
pub shifted : (b : ℕ) → b < 32 → (1 * 2 ^ b) % 2 ^ 32 ≡ 2 ^ b
shifted b h = shl_exact 1 b 32 (omega arith) (omega arith) ∙ one-mul (2 ^ b)

-- A word with its next bit has 32 bits.
pub bit-fits : (b x : ℕ) → b < 32 → x < 2 ^ b → x + (1 * 2 ^ b) % 2 ^ 32 < 2 ^ 32
bit-fits b x h l = rw (shifted b h) (omega (arith, pow-suc 2 b, pow_mono {i = suc b} {j = 32} h))
