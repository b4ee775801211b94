-- The chain as it is collected: what is left of it, behind the words kept so far, is the whole.
use Rattle.std.specs.Prelude.{Option, None, Some}
use mathlib.Core.Path.{◌≡◌, refl, sym, ap, ◌∙◌, subst}
use mathlib.Core.List.{List, [], ◌∷◌, ◌++◌, append_assoc}
use Prim.Native.Nat.{ℕ, suc, ◌+◌, ◌-◌, ◌≤◌, ◌<◌}
use native.Mathlib.Numerals.{add-one}
use native.Mathlib.Omega.{arith}
use lib.ListN.{length, take, set, length-set}
use lib.Seq.{take-suc-set}
use Rattle.journeys.specs.declared.Contact.{Contact}
use Rattle.journeys.specs.Journey.{contact}
use Rattle.words.specs.Words.{contact_word}
use Rattle.rules.specs.Limits.{max_ticks, max_chain}
use Rattle.rules.specs.Layout.{animals}
use Rattle.rules.specs.Chains.{leads, lowest, prepend, chain_from}
use Rattle.rules.proofs.Sound.{table-sizes}
use Rattle.chains.specs.declared.steps.Lead.{Lead as LeadFound}
use Rattle.chains.specs.declared.steps.Lead.TheVariants.{There, On}
use Rattle.chains.specs.Found.{lead_of, lowest_of, LeadsInTime, words_of, collected}
use Rattle.chains.proofs.Leading.{lowest-bound}

-- The words before those of the rest, if there is a rest.
unfoldable pub prefixed : List ℕ → Option (List ℕ) → Option (List ℕ)
prefixed l None = None
prefixed l (Some m) = Some (l ++ m)

-- No words before the rest.
prefixed-nil : (o : Option (List ℕ)) → o ≡ prefixed [] o
unfolding prefixed
prefixed-nil None = refl
prefixed-nil (Some m) = refl

-- Words before words before the rest.
prefixed-twice : (l m : List ℕ) (o : Option (List ℕ)) → prefixed l (prefixed m o) ≡ prefixed (l ++ m) o
unfolding prefixed
prefixed-twice l m None = refl
prefixed-twice l m (Some k) = ap Some (sym (append_assoc l m k))

-- ---- one step

module _ (T : List ℕ) (goal b m x t : ℕ) where
  -- Where no contact leads on, there is no chain.
  step-none : lowest_of None ≡ lowest (leads T goal b x t) (animals T) → words_of (chain_from T goal b (suc m) x t) ≡ None
  unfolding chain_from words_of lowest_of
  step-none e = rw (sym e) refl

  -- A contact to the goal ends it.
  step-there : (z : ℕ) → lowest_of (Some (z, There)) ≡ lowest (leads T goal b x t) (animals T) → words_of (chain_from T goal b (suc m) x t) ≡ Some (contact_word (contact x z t) ∷ [])
  unfolding chain_from words_of lowest_of lead_of
  step-there z e = rw (sym e) refl

  -- Any other is followed by the chain from its animal.
  step-on : (z q : ℕ) → lowest_of (Some (z, On q)) ≡ lowest (leads T goal b x t) (animals T)
      → words_of (chain_from T goal b (suc m) x t) ≡ prefixed (contact_word (contact x z t) ∷ []) (words_of (chain_from T goal b m z q))
  unfolding chain_from words_of lowest_of lead_of prefixed
  step-on z q e = rw (sym e) (go (chain_from T goal b m z q))
    where
      go : (o : Option (List Contact)) → words_of (prepend (contact x z t) o) ≡ prefixed (contact_word (contact x z t) ∷ []) (words_of o)
      go None = refl
      go (Some l) = refl

-- ---- the walk

-- After k contacts the walk is at x, which it leaves at t, and the words kept are those of the contacts.
pub record Walk (T : List ℕ) (goal b u d n : ℕ) (x t k : ℕ) (ws : List ℕ) : Type 0 where
  pub below : k < n
  pub at-animal : x < animals T
  pub from_one : 1 ≤ t
  pub to_last : t ≤ max_ticks
  pub long : length ws ≡ max_chain
  pub whole : words_of (chain_from T goal b (n - 1) u d) ≡ prefixed (take k ws) (words_of (chain_from T goal b (n - 1 - k) x t))

-- It starts at u.
pub walk_start : (T : List ℕ) (goal b u d n : ℕ) (ws : List ℕ) → n ≡ animals T → u < animals T → 1 ≤ d → d ≤ max_ticks → length ws ≡ max_chain → Walk T goal b u d n u d 0 ws
walk_start T goal b u d n ws e h l k f =
    let q : n - 1 ≡ n - 1 - 0 = omega arith in
    record {
      below = omega arith;
      at-animal = h;
      from_one = l;
      to_last = k;
      long = f;
      whole = prefixed-nil (words_of (chain_from T goal b (n - 1) u d)) ∙ ap (λ (i : ℕ). prefixed [] (words_of (chain_from T goal b i u d))) q;
    }

module _ {T : List ℕ} {goal b u d n x t k : ℕ} {ws : List ℕ} (w : Walk T goal b u d n x t k ws) (e : n ≡ animals T) where
  -- The whole chain, by what a step makes of the rest.
  whole_is : (o : Option (List ℕ)) → words_of (chain_from T goal b (n - 1 - k) x t) ≡ o → words_of (chain_from T goal b (animals T - 1) u d) ≡ prefixed (take k ws) o
  whole_is o f = ap (λ (i : ℕ). words_of (chain_from T goal b (i - 1) u d)) (sym e) ∙ w.whole ∙ ap (prefixed (take k ws)) f

  -- No chain has n contacts.
  pub walk_long : n - 1 ≤ k → collected None ≡ words_of (chain_from T goal b (animals T - 1) u d)
  unfolding prefixed chain_from words_of collected
  walk_long l =
      let s : n - 1 - k ≡ 0 = omega (arith, w.below) in
      sym (whole_is None (ap (λ (i : ℕ). words_of (chain_from T goal b i x t)) s))

  -- Where there is room for one contact more, the rest has it.
  rest-is : k < n - 1 → (r : Option (List ℕ)) → words_of (chain_from T goal b (suc (n - 1 - (k + 1))) x t) ≡ r → words_of (chain_from T goal b (animals T - 1) u d) ≡ prefixed (take k ws) r
  rest-is l r g =
      let s : suc (n - 1 - (k + 1)) ≡ n - 1 - k = omega arith in
      whole_is r (ap (λ (i : ℕ). words_of (chain_from T goal b i x t)) (sym s) ∙ g)

  module _ (l : k < n - 1) {o : Option (ℕ × LeadFound)} (f : lowest_of o ≡ lowest (leads T goal b x t) (animals T)) where
    -- Nor is there one without a next animal.
    pub walk_stuck : o ≡ None → collected None ≡ words_of (chain_from T goal b (animals T - 1) u d)
    unfolding prefixed collected
    walk_stuck q = sym (rest-is l None (step-none T goal b (n - 1 - (k + 1)) x t (ap lowest_of (sym q) ∙ f)))

    module _ {z : ℕ} {y : LeadFound} (q : o ≡ Some (z, y)) where
      -- What was found.
      found-is : lowest_of (Some (z, y)) ≡ lowest (leads T goal b x t) (animals T)
      found-is = ap lowest_of (sym q) ∙ f

      -- It is an animal of the table.
      pub walk_animal : z < animals T
      walk_animal = lowest-bound (leads T goal b x t) (animals T) z y found-is

      module _ (v : ℕ) (g : v ≡ contact_word (contact x z t)) where
        -- The words kept with the new one.
        kept-is : take (k + 1) (set ws k v) ≡ take k ws ++ contact_word (contact x z t) ∷ []
        kept-is =
            let r = table-sizes T in
            ap (λ (i : ℕ). take i (set ws k v)) (add-one k)
            ∙ take-suc-set ws k v (omega (arith, w.long, r.n_high))
            ∙ ap (λ (i : ℕ). take k ws ++ i ∷ []) g

        -- The chain is whole at the goal.
        pub walk_there : y ≡ There → Some (take (k + 1) (set ws k v)) ≡ words_of (chain_from T goal b (animals T - 1) u d)
        unfolding prefixed
        walk_there c =
            ap Some kept-is
            ∙ sym (rest-is l (Some (contact_word (contact x z t) ∷ [])) (step-there T goal b (n - 1 - (k + 1)) x t z (ap (λ (i : LeadFound). lowest_of (Some (z, i))) (sym c) ∙ found-is)))

        -- Else the walk goes on from the animal.
        pub walk_on : LeadsInTime y → {r : ℕ} → y ≡ On r → Walk T goal b u d n z r (k + 1) (set ws k v)
        walk_on p {r} c =
            let h : lowest_of (Some (z, On r)) ≡ lowest (leads T goal b x t) (animals T) = ap (λ (i : LeadFound). lowest_of (Some (z, i))) (sym c) ∙ found-is in
            let a = subst LeadsInTime c p in
            record {
              below = omega arith;
              at-animal = walk_animal;
              from_one = a.0;
              to_last = a.1;
              long = length-set ws k v ∙ w.long;
              whole =
                  ap (λ (i : ℕ). words_of (chain_from T goal b (i - 1) u d)) e
                  ∙ rest-is l _ (step-on T goal b (n - 1 - (k + 1)) x t z r h)
                  ∙ prefixed-twice (take k ws) (contact_word (contact x z t) ∷ []) (words_of (chain_from T goal b (n - 1 - (k + 1)) z r))
                  ∙ ap (λ (i : List ℕ). prefixed i (words_of (chain_from T goal b (n - 1 - (k + 1)) z r))) (sym kept-is);
            }
