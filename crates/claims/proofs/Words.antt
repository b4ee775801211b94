-- The test of a list of words, step by step, and what the call answers.
use Rattle.std.specs.Prelude.{Option, None, Some, Ok, Err, Result, IsErrAnd}
use mathlib.Core.Path.{◌≡◌, refl, sym, ap, ◌∙◌}
use mathlib.Core.Bool.{Bool, true, false, ◌&&◌}
use mathlib.Core.List.{List, [], ◌∷◌}
use Prim.Native.Nat.{ℕ, ◌+◌, ◌≤◌, ◌<◌}
use native.Mathlib.Numerals.{add-one}
use native.Mathlib.Omega.{arith}
use lib.Dec.{eqb}
use lib.ListN.{length, get_or, drop, drop_of_length-le}
use lib.Seq.{drop-cons}
use borrow.Author.Tests.{ne_eqb}
use Rattle.journeys.proofs.Tests.{never, untrue}
use Rattle.words.specs.Layout.{get}
use Rattle.words.specs.Words.{to_field, tick_field, contact_of}
use Rattle.rules.specs.declared.Refusal.{Refusal}
use Rattle.rules.specs.Layout.{carry}
use Rattle.rules.specs.Answers.{answer_of}
use Rattle.rules.specs.Questions.{reach_refusal}
use Rattle.rules.specs.Claims.{goes_on, form_journey, claimed_answer}
use Rattle.checks.proofs.Judged.{refused_with}
use Rattle.claims.specs.Following.{follows}

module _ (T : List ℕ) (v first last x a : ℕ) (ws : List ℕ) (i : ℕ) {r : Bool} (left : follows T v first last x a (drop i ws) ≡ r) where
  -- A word that goes on is passed.
  pub follows-turn : {b : Bool} (y t δ : ℕ) → i < length ws → b ≡ goes_on T first last x a (get_or ws i 0) → b ≡ true
      → y ≡ get to_field (get_or ws i 0) → t ≡ get tick_field (get_or ws i 0) + 1 → δ ≡ carry T
      → follows T v first last y (t + δ) (drop (i + 1) ws) ≡ r
  unfolding follows
  follows-turn y t δ h f n ey et eδ =
      let e : goes_on T first last x a (get_or ws i 0) ≡ true = sym f ∙ n in rw (add-one i, ey, et, eδ) (rw (drop-cons ws i 0 h, e) at left)

  -- Any other ends the test.
  pub follows-stop : {b : Bool} → i < length ws → b ≡ goes_on T first last x a (get_or ws i 0) → b ≡ false → false ≡ r
  unfolding follows
  follows-stop h f n = let e : goes_on T first last x a (get_or ws i 0) ≡ false = sym f ∙ n in rw (drop-cons ws i 0 h, e) at left

  -- Where no word is left, the animal is tested.
  pub follows-end : length ws ≤ i → eqb x v ≡ r
  unfolding follows
  follows-end h = rw (drop_of_length-le ws h) at left

-- A list of words that is not empty forms a journey exactly when its words lead on to v.
form_follows : (T : List ℕ) (v first last x a w : ℕ) (ws : List ℕ) → follows T v first last x a (w ∷ ws) ≡ form_journey T v first last x a (w ∷ ws)
unfolding form_journey follows
form_follows T v first last x a w [] = refl
form_follows T v first last x a w (y ∷ ws) =
    ap (λ (b : Bool). goes_on T first last x a w && b) (form_follows T v first last (contact_of w).to ((contact_of w).tick + carry T) y ws)

module _ (T : List ℕ) (v first last x a : ℕ) where
  -- No word forms no journey.
  pub forms_none : (ws : List ℕ) {b : Bool} → b ≡ eqb (length ws) 0 → b ≡ true → false ≡ form_journey T v first last x a ws
  unfolding form_journey
  forms_none [] e n = refl
  forms_none (w ∷ ws) e n = untrue (sym (ne_eqb (length (w ∷ ws)) 0 (λ h. omega arith)) ∙ sym e ∙ n)

  -- Any other list does exactly when the loop lets it through.
  pub forms_some : (ws : List ℕ) {e b : Bool} → e ≡ eqb (length ws) 0 → e ≡ false → b ≡ follows T v first last x a ws → b ≡ form_journey T v first last x a ws
  forms_some [] e n f = untrue (sym n ∙ e)
  forms_some (w ∷ ws) e n f = f ∙ form_follows T v first last x a w ws

-- ---- the answer

module _ (T : List ℕ) (u v first last : ℕ) (ws : List ℕ) {a : Result (List ℕ) Refusal} (p : a ≡ answer_of (reach_refusal T u v first last) (Ok T)) where
  -- A refused call answers the refusal,
  pub claim_refused : {w : Result Bool Refusal} {r : Refusal} → a ≡ Err r → IsErrAnd w (λ e. e ≡ r) → w ≡ claimed_answer T u v first last ws
  unfolding claimed_answer
  claim_refused {w} {r} q h = refused_with w h ∙ go (reach_refusal T u v first last) (sym p ∙ q)
    where
      go : (o : Option Refusal) → answer_of o (Ok T) ≡ Err r → Err r ≡ answer_of o (Ok (form_journey T v first last u 0 ws))
      go None e = never cc
      go (Some s) e = let h : r ≡ s = cc in ap Err h

  -- and any other whether the words form a journey on the table judged.
  pub claim_judged : {t : List ℕ} {b : Bool} → a ≡ Ok t → b ≡ form_journey t v first last u 0 ws → Ok b ≡ claimed_answer T u v first last ws
  unfolding claimed_answer
  claim_judged {t} {b} q e = go (reach_refusal T u v first last) (sym p ∙ q)
    where
      go : (o : Option Refusal) → answer_of o (Ok T) ≡ Ok t → Ok b ≡ answer_of o (Ok (form_journey T v first last u 0 ws))
      go None g = let h : t ≡ T = cc in ap Ok (e ∙ ap (λ (i : List ℕ). form_journey i v first last u 0 ws) h)
      go (Some s) g = never cc
