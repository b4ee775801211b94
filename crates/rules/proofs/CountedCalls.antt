-- What a tally means after a list of counted calls.
use Rattle.std.specs.Prelude.{Option, None, Some, Ok, Err, Result, ⊤}
use mathlib.Core.Path.{◌≡◌, refl, sym, ap, ◌∙◌, subst}
use mathlib.Core.Logic.{◌↔◌, ◌⊎◌, inl, inr, ⊎_elim}
use mathlib.Core.Bool.{Bool, true, false, cond}
use mathlib.Core.List.Memᴰ
use mathlib.Core.List.{List, [], ◌∷◌, ◌++◌, map, Memᴰ}
use Prim.Native.Nat.{ℕ, ◌+◌, ◌≤◌}
use native.Mathlib.Omega.{arith}
use lib.ListN.{length}
use Rattle.journeys.specs.declared.Contact.{Contact}
use Rattle.journeys.specs.Journey.{Contacts, With, Without}
use Rattle.journeys.proofs.Tests.{never}
use Rattle.rules.specs.declared.Refusal.{Refusal}
use Rattle.rules.specs.declared.Refusal.TheVariants.{TallyFull}
use Rattle.rules.specs.declared.Added.{Added}
use Rattle.rules.specs.declared.Added.TheVariants.{New, Known}
use Rattle.rules.specs.declared.Tally.{Tally}
use Rattle.rules.specs.Checks.{ValidTable}
use Rattle.rules.specs.Adding.{Legal, add_refusal, add_answer, add_leaves}
use Rattle.rules.specs.Logs.{held_contacts}
use Rattle.rules.specs.Removing.{remove_answer, remove_leaves}
use Rattle.rules.specs.Fresh.{Fresh}
use Rattle.rules.specs.CallLists.{new_one, Accepted}
use Rattle.rules.specs.Counting.{full_tally, tally_sum, raised, counted_answer, counted_leaves, raised_by_removal, counted_removal, counted_removal_leaves}
use Rattle.rules.specs.CountedCalls.{TallyAndTable, Step, adds, removes, leaves, after_step, run_counted, is_counted, counted, OthersKeep, AcceptedCall, zero_tally, CountedAdds, CountedRule}
use Rattle.rules.proofs.Judged.{none-some}
use Rattle.rules.proofs.Counted.{counted-cases, removal-cases}
use Rattle.rules.proofs.Fresh.{fresh-passes, fresh-accepts, add-fresh, fresh-map, fresh-unique}
use Rattle.rules.proofs.Distinct.{once-short}
use Rattle.rules.proofs.Held.{held-sorted, held-once, fresh-held}
use Rattle.rules.proofs.Removing.{done_exactly, closed, smaller, remove_kept, remove_valid}
use Rattle.rules.proofs.Runs.{add-after}
use Rattle.rules.proofs.AnyOrder.{add-count}
use Rattle.rules.proofs.Laid.{refused-leaves}
use Rattle.rules.proofs.Demand1.{add_valid}
use Rattle.rules.proofs.Demand3.{fresh-accepted}
use Rattle.rules.proofs.Determined.{contact-equal}

-- ---- the sum of a run

-- A counted add raises the sum by 1.
raised-sum : (a : Result Added Refusal) (t : Tally) → tally_sum (raised a t) ≡ tally_sum t + 1
unfolding tally_sum
raised-sum (Ok (New c)) t = omega arith
raised-sum (Ok (Known c)) t = omega arith
raised-sum (Err r) t = omega arith

-- So does a counted removal.
removal-sum : (a : Result ⊤ Refusal) (t : Tally) → tally_sum (raised_by_removal a t) ≡ tally_sum t + 1
unfolding tally_sum
removal-sum (Ok tt) t = omega arith
removal-sum (Err r) t = omega arith

-- By cases: a step that is not counted keeps the tally, any other raises its sum by 1.
step-cases : (s : TallyAndTable) (c : Step) (P : Bool → TallyAndTable → Type 0) → ((U : List ℕ) → P false (record { tally = s.tally; table = U }))
    → ((r : TallyAndTable) → tally_sum r.tally ≡ tally_sum s.tally + 1 → P true r) → P (is_counted s.tally c) (after_step s c)
step-cases s (adds k) P kept counts =
    counted-cases s.tally s.table k (λ b a L t. P b (record { tally = t; table = L })) (λ h. kept s.table) (λ h. counts _ (raised-sum (add_answer s.table k) s.tally))
step-cases s (removes k W) P kept counts =
    removal-cases s.tally s.table W k (λ b a L M t. P b (record { tally = t; table = L })) (λ h. kept s.table)
    (λ h. counts _ (removal-sum (remove_answer s.table W k) s.tally))
step-cases s (leaves U) P kept counts = kept U

-- The sum rises by the number of calls counted.
run-sum : (A : List Step) (s : TallyAndTable) → tally_sum (run_counted s A).tally ≡ tally_sum s.tally + length (counted s A)
unfolding run_counted counted
run-sum [] s = omega arith
run-sum (c ∷ A) s =
    step-cases s c (λ b r. tally_sum (run_counted r A).tally ≡ tally_sum s.tally + length (cond b (c ∷ counted r A) (counted r A))) (λ U. run-sum A _)
    (λ r h. omega (arith, run-sum A r))

-- ---- new minus removed

-- 1 where the removal is done, else 0.
abbrev done_one : Result ⊤ Refusal → ℕ
done_one (Ok tt) = 1
done_one (Err r) = 0

-- A counted add raises new by 1 where it is answered with new, and keeps removed.
raised-new : (a : Result Added Refusal) (t : Tally) → ((raised a t).new ≡ new_one a + t.new) × ((raised a t).removed ≡ t.removed)
raised-new (Ok (New c)) t = (omega arith, refl)
raised-new (Ok (Known c)) t = (omega arith, refl)
raised-new (Err r) t = (omega arith, refl)

-- A counted removal raises removed by 1 where it is done, and keeps new.
raised-removed : (a : Result ⊤ Refusal) (t : Tally) → ((raised_by_removal a t).removed ≡ done_one a + t.removed) × ((raised_by_removal a t).new ≡ t.new)
raised-removed (Ok tt) t = (omega arith, refl)
raised-removed (Err r) t = (omega arith, refl)

-- A removal that is done leaves one contact fewer, any other leaves their number.
remove_count : (T W : List ℕ) (k : Contact) → done_one (remove_answer T W k) + length (held_contacts (remove_leaves T W k)) ≡ length (held_contacts T)
remove_count T W k = go (remove_answer T W k) refl
  where
    go : (a : Result ⊤ Refusal) → remove_answer T W k ≡ a → done_one a + length (held_contacts (remove_leaves T W k)) ≡ length (held_contacts T)
    go (Ok tt) e =
        let L = remove_leaves T W k in
        let h = fresh-held (closed T W k e) in
        let m = ((done_exactly T W k).0 e).2 in
        let p = once-short (k ∷ held_contacts L) (held_contacts T) ((λ i. ((h k).0 i).1 refl), held-once L) (λ c i. ⊎_elim (λ q. Memᴰ.cast q m) (λ j. ((h c).0 j).0) (Memᴰ.cases_cons i)) in
        let q = once-short (held_contacts T) (k ∷ held_contacts L) (held-once T) (λ c i. split c i (contact-equal c k)) in
        omega arith
      where
        split : (c : Contact) → Memᴰ c (held_contacts T) → Dec (c ≡ k) → Memᴰ c (k ∷ held_contacts (remove_leaves T W k))
        split c i (yes q) = Memᴰ.head q
        split c i (no d) = Memᴰ.tail ((fresh-held (closed T W k e) c).1 (i, d))
    go (Err r) e = omega (arith, ap (λ (L : List ℕ). length (held_contacts L)) (remove_kept T W k r e).0)

-- The table passes 5 and 6, and new is removed and the number of contacts that it holds.
record Balanced (s : TallyAndTable) : Type 0 where
  pub valid : ValidTable s.table
  pub number : s.tally.new ≡ s.tally.removed + length (held_contacts s.table)

balanced_step : (c : Step) (s : TallyAndTable) → Balanced s → ((U : List ℕ) → c ≡ leaves U → ValidTable U × (length (held_contacts U) ≡ length (held_contacts s.table))) → Balanced (after_step s c)
balanced_step (adds k) s g h =
    counted-cases s.tally s.table k (λ b a L t. Balanced (record { tally = t; table = L })) (λ f. g)
    (λ f.
    let r = raised-new (add_answer s.table k) s.tally in
    record { valid = add_valid s.table k g.valid; number = omega (arith, r.0, r.1, g.number, add-count s.table g.valid k) })
balanced_step (removes k W) s g h =
    removal-cases s.tally s.table W k (λ b a L M t. Balanced (record { tally = t; table = L })) (λ f. g)
    (λ f.
    let r = raised-removed (remove_answer s.table W k) s.tally in
    record { valid = remove_valid s.table W k g.valid; number = omega (arith, r.0, r.1, g.number, remove_count s.table W k) })
balanced_step (leaves U) s g h = let k = h U refl in record { valid = k.0; number = omega (arith, g.number, k.1) }

balanced_run : (A : List Step) (s : TallyAndTable) → Balanced s → OthersKeep s A → Balanced (run_counted s A)
unfolding run_counted
balanced_run [] s g h = g
balanced_run (c ∷ A) s g h =
    balanced_run A (after_step s c) (balanced_step c s g (λ U e. let k = h [] U A (ap (λ (x : Step). x ∷ A) (sym e)) in (k.0, omega (arith, ap (λ (l : List Contact). length l) k.1)))) (λ P U Q e. h (c ∷ P) U Q (ap (λ (l : List Step). c ∷ l) e))

-- ---- counted adds only

-- What an add leaves that the tally has room for.
abbrev raised_call : TallyAndTable → Contact → TallyAndTable
raised_call s k = record { tally = raised (add_answer s.table k) s.tally; table = add_leaves s.table k }

-- All calls are counted while the sum leaves room for them.
run-all : (A : List Contact) (s : TallyAndTable) → tally_sum s.tally + length A ≤ full_tally → counted s (map adds A) ≡ map adds A
unfolding counted
run-all [] s h = refl
run-all (k ∷ A) s h =
    counted-cases s.tally s.table k
    (λ b a L t. cond b (adds k ∷ counted (record { tally = t; table = L }) (map adds A)) (counted (record { tally = t; table = L }) (map adds A)) ≡ adds k ∷ map adds A)
    (λ g. absurd (omega arith))
    (λ g. ap (λ (l : List Step). adds k ∷ l) (run-all A (raised_call s k) (omega (arith, raised-sum (add_answer s.table k) s.tally))))

-- The table is fresh over S, and new is the number of contacts that it holds.
record Standing (n τ δ : ℕ) (S : Contacts) (s : TallyAndTable) : Type 0 where
  pub fresh : Fresh n τ δ S s.table
  pub number : s.tally.new ≡ length (held_contacts s.table)

module _ {n τ δ : ℕ} {S : Contacts} {s : TallyAndTable} (g : Standing n τ δ S s) (k : Contact) where
  -- Whatever a counted call is answered, new stays the number of contacts held.
  still-number : (raised (add_answer s.table k) s.tally).new ≡ length (held_contacts (add_leaves s.table k))
  still-number = omega (arith, (raised-new (add_answer s.table k) s.tally).0, g.number, add-count s.table (fresh-passes g.fresh) k)

  -- An accepted call that is counted joins its contact to the set.
  standing-legal : Legal n τ k → Standing n τ δ (With S k) (raised_call s k)
  standing-legal l = record { fresh = add-fresh g.fresh k l; number = still-number }

  -- A refused call that is counted leaves the set.
  standing-refused : (r : Refusal) → add_refusal s.table k ≡ Some r → Standing n τ δ S (raised_call s k)
  standing-refused r e = record { fresh = subst (Fresh n τ δ S) (sym (refused-leaves s.table k r e)) g.fresh; number = still-number }

-- ---- the calls accepted

-- No call is accepted where there is none.
accepted-none : (s : TallyAndTable) (k : Contact) → ¬ AcceptedCall s [] k
accepted-none s k a = go a.earlier a.list
  where
    go : (P : List Contact) → P ++ (k ∷ a.later) ≡ [] → ⊥
    go [] e = never cc
    go (p ∷ P) e = never cc

module _ (s : TallyAndTable) (c : Contact) (A : List Contact) (k : Contact) where
  -- The first call is accepted, or one of those that follow it.
  abbrev FirstOrLater : Type 0
  FirstOrLater = ((k ≡ c) × Accepted (counted_answer s.tally s.table c)) ⊎ AcceptedCall (after_step s (adds c)) A k

  accepted-iff : AcceptedCall s (c ∷ A) k ↔ FirstOrLater
  unfolding run_counted
  accepted-iff = (λ a. to a.earlier a.later a.list a.accepted, of)
    where
      to : (P Q : List Contact) → P ++ (k ∷ Q) ≡ c ∷ A → Accepted (counted_answer (run_counted s (map adds P)).tally (run_counted s (map adds P)).table k) → FirstOrLater
      to [] Q e a = let q : k ≡ c = cc in inl (q, subst (λ j. Accepted (counted_answer s.tally s.table j)) q a)
      to (p ∷ P) Q e a =
          let q : p ≡ c = cc in
          let r : P ++ (k ∷ Q) ≡ A = cc in
          inr (record { earlier = P; later = Q; list = r; accepted = subst (λ j. Accepted (counted_answer (run_counted (after_step s (adds j)) (map adds P)).tally (run_counted (after_step s (adds j)) (map adds P)).table k)) q a })

      of : FirstOrLater → AcceptedCall s (c ∷ A) k
      of (inl (q, a)) = record { earlier = []; later = A; list = ap (λ (j : Contact). j ∷ A) q; accepted = subst (λ j. Accepted (counted_answer s.tally s.table j)) (sym q) a }
      of (inr a) = record { earlier = c ∷ a.earlier; later = a.later; list = ap (λ (l : List Contact). c ∷ l) a.list; accepted = a.accepted }

-- ---- a run

-- The contacts of S and those of the calls accepted.
abbrev Taken : Contacts → TallyAndTable → List Contact → Contacts
Taken S s A k = S k ⊎ AcceptedCall s A k

-- The same with the first call apart, whose answer is a.
abbrev TakenFirst : Contacts → Contact → Result Added Refusal → TallyAndTable → List Contact → Contacts
TakenFirst S c a s A k = S k ⊎ (((k ≡ c) × Accepted a) ⊎ AcceptedCall s A k)

-- A list of calls joins the contacts accepted to the set, and counts the new ones.
run-standing : {n τ δ : ℕ} (A : List Contact) {S : Contacts} {s : TallyAndTable} → Standing n τ δ S s → Standing n τ δ (Taken S s A) (run_counted s (map adds A))
unfolding run_counted
run-standing [] {S} {s} g = record { fresh = fresh-map g.fresh (λ k. (inl, ⊎_elim (λ h. h) (λ a. absurd (accepted-none s k a)))); number = g.number }
run-standing {n} {τ} {δ} (c ∷ A) {S} {s} g = first (λ R r w. run-standing A w)
  where
    -- Of a call that is refused there is nothing to join.
    passed_over : (a : Result Added Refusal) (r : TallyAndTable) → (¬ Accepted a) → Standing n τ δ (Taken S r A) (run_counted r (map adds A)) → Standing n τ δ (TakenFirst S c a r A) (run_counted r (map adds A))
    passed_over a r h w =
        record { fresh = fresh-map w.fresh (λ k. (⊎_elim inl (λ b. inr (inr b)), ⊎_elim inl (⊎_elim (λ b. absurd (h b.1)) inr))); number = w.number }

    -- The contact of a call that is accepted joins.
    joined : (a : Result Added Refusal) (r : TallyAndTable) → Accepted a → Standing n τ δ (Taken (With S c) r A) (run_counted r (map adds A)) → Standing n τ δ (TakenFirst S c a r A) (run_counted r (map adds A))
    joined a r h w =
        record {
          fresh = fresh-map w.fresh (λ k. (⊎_elim (⊎_elim inl (λ e. inr (inl (e, h)))) (λ b. inr (inr b)), ⊎_elim (λ b. inl (inl b)) (⊎_elim (λ b. inl (inr b.0)) inr)));
          number = w.number;
        }

    counted-one : (o : Option Refusal) → add_refusal s.table c ≡ o → ((R : Contacts) → Standing n τ δ R (raised_call s c) → Standing n τ δ (Taken R (raised_call s c) A) (run_counted (raised_call s c) (map adds A)))
        → Standing n τ δ (TakenFirst S c (add_answer s.table c) (raised_call s c) A) (run_counted (raised_call s c) (map adds A))
    counted-one None e r = let l = (fresh-accepts g.fresh c).0 e in joined (add_answer s.table c) (raised_call s c) ((fresh-accepted g.fresh c).1 l) (r (With S c) (standing-legal g c l))
    counted-one (Some q) e r =
        passed_over (add_answer s.table c) (raised_call s c)
        (λ a. none-some (add_refusal s.table c) q ((fresh-accepts g.fresh c).1 ((fresh-accepted g.fresh c).0 a)) e) (r S (standing-refused g c q e))

    first : ((R : Contacts) (r : TallyAndTable) → Standing n τ δ R r → Standing n τ δ (Taken R r A) (run_counted r (map adds A))) → Standing n τ δ (Taken S s (c ∷ A)) (run_counted (after_step s (adds c)) (map adds A))
    first rest =
        let w = counted-cases s.tally s.table c (λ b a L t. Standing n τ δ (TakenFirst S c a (record { tally = t; table = L }) A) (run_counted (record { tally = t; table = L }) (map adds A)))
        (λ h. passed_over (Err TallyFull) s (λ a. a) (rest S s g)) (λ h. counted-one (add_refusal s.table c) refl (λ R w. rest R (raised_call s c) w)) in
        record { fresh = fresh-map w.fresh (λ k. let i = accepted-iff s c A k in (⊎_elim inl (λ a. inr (i.1 a)), ⊎_elim inl (λ a. inr (i.0 a)))); number = w.number }

-- ---- what is promised

-- A table fresh over no contacts holds none.
start-standing : {n τ δ : ℕ} {T : List ℕ} → Fresh n τ δ (λ k. ⊥) T → Standing n τ δ (λ k. ⊥) (zero_tally T)
start-standing {T = T} f = record { fresh = f; number = let h = once-short (held_contacts T) [] (held-once T) (λ c m. absurd ((fresh-held f c).0 m)) in omega arith }

-- An accepted counted add leaves a fresh table fresh over the larger set.
counted-larger : (n τ δ : ℕ) (S : Contacts) (T : List ℕ) → Fresh n τ δ S T → (t : Tally) (k : Contact) → Accepted (counted_answer t T k) → Fresh n τ δ (With S k) (counted_leaves t T k)
counted-larger n τ δ S T f t k = counted-cases t T k (λ b a L u. Accepted a → Fresh n τ δ (With S k) L) (λ h a. absurd a) (λ h a. add-fresh f k ((fresh-accepted f k).0 a))

-- A counted removal that is done leaves it fresh over the smaller.
counted-smaller : (n τ δ : ℕ) (S : Contacts) (T W : List ℕ) → Fresh n τ δ S T → (t : Tally) (k : Contact) → counted_removal t T W k ≡ Ok tt → Fresh n τ δ (Without S k) (counted_removal_leaves t T W k)
counted-smaller n τ δ S T W f t k = removal-cases t T W k (λ b a L M u. a ≡ Ok tt → Fresh n τ δ (Without S k) L) (λ h e. never cc) (λ h. smaller f W k)

-- What the tally of a run of adds from zero says.
counted-adds : (n τ δ : ℕ) (T : List ℕ) → Fresh n τ δ (λ k. ⊥) T → (A : List Contact) → CountedAdds n τ δ T A
counted-adds n τ δ T f A =
    record {
      different = held_contacts (run_counted (zero_tally T) (map adds A)).table;
      once = held-sorted (run_counted (zero_tally T) (map adds A)).table;
      those = fresh-held fresh;
      new_is = standing.number;
      all_counted = λ h. run-all A (zero_tally T) (unfold tally_sum in omega arith);
      fresh = fresh;
    }
  where
    standing : Standing n τ δ (Taken (λ k. ⊥) (zero_tally T) A) (run_counted (zero_tally T) (map adds A))
    standing = run-standing A (start-standing f)

    fresh : Fresh n τ δ (AcceptedCall (zero_tally T) A) (run_counted (zero_tally T) (map adds A)).table
    fresh = fresh-map standing.fresh (λ k. (⊎_elim (λ b. absurd b) (λ h. h), inr))

pub counted_rule : CountedRule
counted_rule =
    record {
      larger = counted-larger;
      smaller = counted-smaller;
      from_zero = counted-adds;
      new_less_removed = λ n τ δ T f A h. (balanced_run A (zero_tally T) (record { valid = fresh-passes f; number = omega (arith, (start-standing f).number) }) h).number;
      sum_is = λ T A. run-sum A (zero_tally T) ∙ (unfold tally_sum in omega arith);
      repeated = λ n τ δ S T f k s. fresh-unique (fresh-map (add-after f k) (λ c. (⊎_elim (λ h. h) (λ h. subst S (sym h.0) s), inl))) f;
    }
