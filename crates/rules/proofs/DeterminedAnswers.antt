-- Any two engines with questions that meet demand 2 agree.
use Rattle.std.specs.Prelude.{Option, None, Some, Ok, Err, Result, Bool, true, false}
use mathlib.Core.Path.{◌≡◌, refl, sym, ap, ◌∙◌}
use mathlib.Core.Logic.{◌↔◌, ◌⊎◌, inl, inr}
use mathlib.Core.List.{List}
use Prim.Native.Nat.{ℕ, ◌+◌, ◌≤◌, ◌<◌}
use native.Mathlib.Omega.{arith}
use lib.ListN.{length}
use Rattle.journeys.specs.declared.Interval.{Interval}
use Rattle.journeys.specs.Journey.{Contacts}
use Rattle.journeys.proofs.Tests.{never}
use Rattle.rules.specs.declared.Refusal.{Refusal}
use Rattle.rules.specs.Answers.{answer_of}
use Rattle.rules.specs.Questions.{moment_refusal, earliest_answer, latest_answer}
use Rattle.rules.specs.Fresh.{Fresh}
use Rattle.rules.specs.Windows.{IsWindow, IsPair, Fits}
use Rattle.rules.specs.Demand2.{Questions, questions, AnsweredOn}
use Rattle.rules.specs.Determined.{AgreeOn, DeterminedAnswers}
use Rattle.rules.proofs.Judged.{none-some}
use Rattle.rules.proofs.Sorted.{sorted-unique}
use Rattle.rules.proofs.Asked.{valid-fresh, moment_asked}
use Rattle.rules.proofs.Demand2.{demand2}

-- Two answers that are yes and no on the same condition are the same.
same-ask : {P : Type 0} (x y : Result Bool Refusal) → (x ≡ Ok true) ↔ P → (x ≡ Ok false) ↔ (¬ P) → (y ≡ Ok true) ↔ P → (y ≡ Ok false) ↔ (¬ P) → x ≡ y
same-ask (Ok true) y a b c d = sym (c.1 (a.0 refl))
same-ask (Ok false) y a b c d = sym (d.1 (b.0 refl))
same-ask (Err r) y a b c d = never (let e : Err r ≡ (Ok false) = b.1 (λ p. never (let q : Err r ≡ (Ok true) = a.1 p in cc)) in cc)

-- A condition that an answer tells is decided.
told : {P : Type 0} (x : Result Bool Refusal) → (x ≡ Ok true) ↔ P → (x ≡ Ok false) ↔ (¬ P) → P ⊎ (¬ P)
told (Ok true) a b = inl (a.0 refl)
told (Ok false) a b = inr (b.0 refl)
told (Err r) a b = never (let e : Err r ≡ (Ok false) = b.1 (λ p. never (let q : Err r ≡ (Ok true) = a.1 p in cc)) in cc)

-- An interval is told, or that there is none.
abbrev Told : Result (Option Interval) Refusal → Type 0
Told x = ((e : Interval) × (x ≡ Ok (Some e))) ⊎ (x ≡ Ok None)

-- That is so where nothing is refused.
interval-told : (o : Option Refusal) (m : Option Interval) → o ≡ None → Told (answer_of o (Ok m))
interval-told None None e = inr refl
interval-told None (Some i) e = inl (i, refl)
interval-told (Some r) m e = none-some (Some r) r e refl

-- Two answers that tell the interval of the third are the same.
same-interval : {P : Interval → Type 0} {N : Type 0} (x y z : Result (Option Interval) Refusal) → Told z → ((e : Interval) → (x ≡ Ok (Some e)) ↔ P e) → (x ≡ Ok None) ↔ N
    → ((e : Interval) → (y ≡ Ok (Some e)) ↔ P e) → (y ≡ Ok None) ↔ N → ((e : Interval) → (z ≡ Ok (Some e)) ↔ P e) → (z ≡ Ok None) ↔ N → x ≡ y
same-interval x y z (inl (e, h)) a b c d p q = let w = (p e).0 h in (a e).1 w ∙ sym ((c e).1 w)
same-interval x y z (inr h) a b c d p q = let w = q.0 h in b.1 w ∙ sym (d.1 w)

module _ {Q R : Questions} {n τ δ : ℕ} {S : Contacts} {T : List ℕ} (f : Fresh n τ δ S T) (a : AnsweredOn Q n τ δ S T) (b : AnsweredOn R n τ δ S T) where
  -- The questions of document 01 on the table.
  ours : AnsweredOn questions n τ δ S T
  ours = demand2.answered n τ δ S T f

  earliest_told : (u v first : ℕ) → IsPair n u v → 1 ≤ first → first ≤ τ + δ → Told (earliest_answer T u v first)
  unfolding earliest_answer
  earliest_told u v first p h k = interval-told (moment_refusal T u v first) _ (moment_asked (valid-fresh f) u v first p h k)

  latest_told : (u v last : ℕ) → IsPair n u v → 1 ≤ last → last ≤ τ + δ → Told (latest_answer T u v last)
  unfolding latest_answer
  latest_told u v last p h k = interval-told (moment_refusal T u v last) _ (moment_asked (valid-fresh f) u v last p h k)

  same_count : (u first last : ℕ) → u < n → IsWindow τ first last → Q.reached_count T u first last ≡ R.reached_count T u first last
  same_count u first last h w =
      let c = a.reached_count u first last h w in
      let d = b.reached_count u first last h w in
      let e = sorted-unique ◌<◌ (λ i l. omega arith) (λ i j k l m. omega arith) c.0 d.0 c.1 d.1 (λ i. (λ m. (d.2 i).1 ((c.2 i).0 m), λ m. (c.2 i).1 ((d.2 i).0 m))) in
      c.3 ∙ ap length e ∙ sym d.3

  same-chain : (u v first last : ℕ) → IsPair n u v → IsWindow τ first last → (B : List ℕ) → n ≤ length B + 1
      → (Q.chain T u v first last B ≡ R.chain T u v first last B) × (Q.chain_leaves T u v first last B ≡ R.chain_leaves T u v first last B)
  same-chain u v first last p w B h = go (told (Q.reach T u v first last) (a.reach_yes u v first last p w) (a.reach_no u v first last p w))
    where
      go : Fits S δ u v first last ⊎ (¬ Fits S δ u v first last)
          → (Q.chain T u v first last B ≡ R.chain T u v first last B) × (Q.chain_leaves T u v first last B ≡ R.chain_leaves T u v first last B)
      go (inl k) =
          let l = (a.chain_named u v first last p).0 k in
          let c = a.chain_shown u v first last p w B h l.0 l.1 in
          let d = b.chain_shown u v first last p w B h l.0 l.1 in
          (c.0 ∙ sym d.0, c.1 ∙ sym d.1)
      go (inr k) =
          let c = a.chain_none u v first last p w B h k in
          let d = b.chain_none u v first last p w B h k in
          (c.0 ∙ sym d.0, c.1 ∙ sym d.1)

  pub agree_on : AgreeOn Q R n τ δ T
  agree_on =
      record {
        reach = λ u v first last p w.
            same-ask (Q.reach T u v first last) (R.reach T u v first last)
            (a.reach_yes u v first last p w) (a.reach_no u v first last p w) (b.reach_yes u v first last p w) (b.reach_no u v first last p w);
        earliest = λ u v first p h k.
            same-interval (Q.earliest T u v first) (R.earliest T u v first) (earliest_answer T u v first) (earliest_told u v first p h k)
            (a.earliest_at u v first p h k) (a.earliest_none u v first p h k) (b.earliest_at u v first p h k) (b.earliest_none u v first p h k)
            (ours.earliest_at u v first p h k) (ours.earliest_none u v first p h k);
        latest = λ u v last p h k.
            same-interval (Q.latest T u v last) (R.latest T u v last) (latest_answer T u v last) (latest_told u v last p h k)
            (a.latest_at u v last p h k) (a.latest_none u v last p h k) (b.latest_at u v last p h k) (b.latest_none u v last p h k)
            (ours.latest_at u v last p h k) (ours.latest_none u v last p h k);
        connected = λ first last w.
            same-ask (Q.connected T first last) (R.connected T first last)
            (a.connected_yes first last w) (a.connected_no first last w) (b.connected_yes first last w) (b.connected_no first last w);
        reached = λ u first last h w. a.reached_found u first last h w ∙ sym (b.reached_found u first last h w);
        reached_bits = λ u first last h w i k.
            (let c = a.reached_bit u first last h w i k in let d = b.reached_bit u first last h w i k in (λ q. d.1 (c.0 q), λ q. c.1 (d.0 q)));
        reached_count = same_count;
        chain = same-chain;
      }

pub determined_answers : DeterminedAnswers
determined_answers E F Q R dE dF =
    record {
      stored = λ n τ δ words A p q u v h i.
          (let c = dE.stored n τ δ words A p u v h i in let d = dF.stored n τ δ words A q u v h i in (λ m. d.1 (c.0 m), λ m. c.1 (d.0 m)));
      answers = λ n τ δ S T f. agree_on f (dE.answered n τ δ S T f) (dF.answered n τ δ S T f);
    }
