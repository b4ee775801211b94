-- A list in which no element comes twice is no longer than any list that has all its elements.
use mathlib.Core.Path.{◌≡◌, refl, sym, ap, ◌∙◌, subst}
use mathlib.Core.Logic.{⊎_elim, ◌≢◌}
use mathlib.Core.List.Memᴰ
use mathlib.Core.List.{List, [], ◌∷◌, ◌++◌, Memᴰ}
use Prim.Native.Nat.{ℕ, suc, ◌≤◌, ◌<◌}
use native.Mathlib.Omega.{arith}
use lib.ListN.{length}
use Rattle.rules.specs.Folds.{flat}
use Rattle.rules.specs.Orders.{Distinct}
use Rattle.rules.proofs.Folds.{flat-length, flat-member}

-- No element comes twice.
abbrev pub Once : {A : Type 0} → List A → Type 0
Once [] = Unit {0}
Once (a ∷ l) = (¬ Memᴰ a l) × Once l

module _ {A : Type 0} {a : A} where
  -- The list without the member at its place.
  removed : {l : List A} → Memᴰ a l → List A
  removed (Memᴰ.head {x} {xs} e) = xs
  removed (Memᴰ.tail {x} {xs} m) = x ∷ removed m

  removed-length : {l : List A} (m : Memᴰ a l) → length l ≡ suc (length (removed m))
  unfolding removed
  removed-length (Memᴰ.head e) = refl
  removed-length (Memᴰ.tail m) = ap suc (removed-length m)

  removed-member : {l : List A} {b : A} (m : Memᴰ a l) → b ≢ a → Memᴰ b l → Memᴰ b (removed m)
  unfolding removed
  removed-member (Memᴰ.head e) d n = ⊎_elim (λ q. absurd (d (q ∙ sym e))) (λ k. k) (Memᴰ.cases_cons n)
  removed-member (Memᴰ.tail m) d n = ⊎_elim Memᴰ.head (λ k. Memᴰ.tail (removed-member m d k)) (Memᴰ.cases_cons n)

-- A list in which no element comes twice is no longer than any list that has all its elements.
pub once-short : {A : Type 0} (l m : List A) → Once l → ((a : A) → Memᴰ a l → Memᴰ a m) → length l ≤ length m
once-short [] m u f = omega arith
once-short (a ∷ l) m u f =
    let h = f a (Memᴰ.head refl) in
    let r = once-short l (removed h) u.1 (λ b k. removed-member h (λ e. u.0 (subst (λ c. Memᴰ c l) e k)) (f b (Memᴰ.tail k))) in
    omega (arith, removed-length h)

-- Two such lists with no element in common are one, joined end to end.
pub once-append : {A : Type 0} (l m : List A) → Once l → Once m → ((a : A) → Memᴰ a l → ¬ Memᴰ a m) → Once (l ++ m)
once-append [] m u v f = v
once-append (a ∷ l) m u v f = (
  λ h. ⊎_elim u.0 (f a (Memᴰ.head refl)) (Memᴰ.append_cases l h),
  once-append l m u.1 v (λ b h. f b (Memᴰ.tail h)),
)

-- Different numbers below n are at most n.
pub distinct-few : (n : ℕ) (l : List ℕ) → Distinct l → ((a : ℕ) → Memᴰ a l → a < n) → length l ≤ n
distinct-few n l u f =
    let h = once-short l (flat (λ k. k ∷ []) n) u (λ a m. flat-member (λ k. k ∷ []) n a (f a m) (Memᴰ.head refl)) in
    omega (arith, flat-length (λ (k : ℕ). k ∷ []) 1 n (λ k o. refl))
