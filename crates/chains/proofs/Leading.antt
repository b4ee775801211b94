-- The lowest-numbered animal to which a contact leads.
use Rattle.std.specs.Prelude.{Option, None, Some}
use mathlib.Core.Path.{◌≡◌, refl, sym, ap, ◌∙◌}
use Prim.Native.Nat.{ℕ, zero, suc, ◌+◌, ◌-◌, ◌≤◌, ◌<◌}
use native.Mathlib.Numerals.{add-one}
use native.Mathlib.Omega.{arith}
use Rattle.journeys.proofs.Tests.{never}
use Rattle.rules.specs.Chains.{Lead, nowhere, Lowest, nobody, animal, or_else, lowest}
use Rattle.rules.proofs.Leads.{LowestOf, none_below, first-is, lowest-of}
use Rattle.chains.specs.declared.steps.Lead.{Lead as LeadFound}
use Rattle.chains.specs.declared.steps.Lead.TheVariants.{There, On}
use Rattle.chains.specs.Found.{lead_of, lowest_of}

module _ (g : ℕ → Lead) where
  -- No animal is passed yet.
  pub none_yet : lowest g 0 ≡ nobody
  unfolding lowest
  none_yet = refl

  -- An animal to which no contact leads is passed.
  pub none-next : (m : ℕ) → lowest g m ≡ nobody → {o : Option LeadFound} → lead_of o ≡ g m → o ≡ None → lowest g (m + 1) ≡ nobody
  unfolding lowest lead_of
  none-next m h f z = let q : g m ≡ nowhere = sym f ∙ ap lead_of z in rw (add-one m, h, q) refl

  -- The animal found stays the lowest.
  stays : (z : ℕ) (l : Lead) (m : ℕ) → lowest g m ≡ animal z l → (j : ℕ) → lowest g (j + m) ≡ animal z l
  unfolding lowest
  stays z l m h zero = let q : 0 + m ≡ m = omega arith in ap (lowest g) q ∙ h
  stays z l m h (suc j) = let q : suc j + m ≡ suc (j + m) = omega arith in ap (lowest g) q ∙ rw (stays z l m h j) refl

  -- The first animal to which a contact leads is the lowest.
  pub found_here : (m n : ℕ) → m < n → lowest g m ≡ nobody → {o : Option LeadFound} → lead_of o ≡ g m → {l : LeadFound} → o ≡ Some l → lowest_of (Some (m, l)) ≡ lowest g n
  unfolding lowest lead_of lowest_of
  found_here m n k h f {l} z =
      let p : n - suc m + suc m ≡ n = omega arith in
      let q : g m ≡ lead_of (Some l) = sym f ∙ ap lead_of z in
      sym (stays m (lead_of (Some l)) (suc m) (rw (h, q) (go l)) (n - suc m)) ∙ ap (lowest g) p
    where
      go : (l : LeadFound) → or_else nobody m (lead_of (Some l)) ≡ animal m (lead_of (Some l))
      go There = refl
      go (On e) = refl

  -- Where all are passed there is none.
  pub found_none : (m n : ℕ) → n ≤ m → m ≤ n → lowest g m ≡ nobody → lowest_of None ≡ lowest g n
  unfolding lowest_of
  found_none m n l k h = let q : m ≡ n = omega arith in sym h ∙ ap (lowest g) q

  -- The animal found is one of those.
  pub lowest-bound : (m z : ℕ) (k : LeadFound) → lowest_of (Some (z, k)) ≡ lowest g m → z < m
  unfolding lowest_of
  lowest-bound m z k = go (lowest-of g m)
    where
      go : {o : Lowest} → LowestOf g m o → animal z (lead_of (Some k)) ≡ o → z < m
      go (none_below r) q = never cc
      go (first-is {z = y} h i n r) q = let s : z ≡ y = cc in omega arith
