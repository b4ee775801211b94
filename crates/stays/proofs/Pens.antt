-- The pens of the animals at a tick: one record more, and which animals share a pen.
use mathlib.Core.Path.{◌≡◌, refl, sym, ap, ◌∙◌, subst}
use mathlib.Core.Logic.{◌↔◌, ◌⊎◌, inl, inr, ⊎_elim, ◌≢◌}
use mathlib.Core.Bool.{Bool, true, false, cond}
use mathlib.Core.List.Memᴰ
use mathlib.Core.List.{List, [], ◌∷◌, Memᴰ}
use Prim.Native.Nat.{ℕ, zero, suc, ◌+◌, ◌/◌, ◌^◌, ◌≤◌, ◌<◌}
use native.Mathlib.Omega.{arith}
use lib.ListN.{length, get_or, set, replicate, length-set, get_or-replicate}
use lib.Seq.{get_or-set_same, get_or-set_other}
use lib.Dec.{eqb}
use lib.Bits.{bit_and, bit_or, and_zero_l, or_zero_r, and_comm}
use borrow.Author.Tests.{le-leb, lt-leb, eq-eqb, ne_eqb}
use Rattle.journeys.specs.declared.Contact.{Contact}
use Rattle.journeys.proofs.Tests.{untrue, Outcome, holds, fails, lt_outcome, eq_outcome}
use Rattle.rules.specs.declared.Stay.{Stay}
use Rattle.rules.specs.Limits.{max_animals}
use Rattle.rules.specs.Stays.{stay_at, stays_of, is_there, met}
use Rattle.rules.specs.StayRule.{There, Met}
use Rattle.rules.proofs.Folds.{both_iff, tests_same, flat-member, member-flat}
use Rattle.rules.proofs.Judged.{differ-iff}
use Rattle.rules.proofs.Stays.{there-iff, met-iff}
use Rattle.stays.specs.Meetings.{pen_bit, pens_by, PensBy, shares_pen}
use Rattle.stays.proofs.Bits.{or_shares, bits-share}

-- ---- the bit of one record

module _ (s : Stay) (t : ℕ) where
  pub bit-before : t < s.first → 0 ≡ pen_bit s t
  unfolding pen_bit
  bit-before h = sym (rw (lt-leb s.first t h) refl)

  module _ (h : s.first ≤ t) where
    pub bit-after : s.last < t → 0 ≡ pen_bit s t
    unfolding pen_bit
    bit-after k = sym (rw (le-leb s.first t h, lt-leb t s.last k) refl)

    pub bit-there : t ≤ s.last → 2 ^ s.pen ≡ pen_bit s t
    unfolding pen_bit
    bit-there k = sym (rw (le-leb s.first t h, le-leb t s.last k) refl)

-- ---- the pens of an animal

module _ (W : List ℕ) (t : ℕ) where
  -- Record i has animal k, which was there at tick t.
  record Stayed (k i : ℕ) : Type 0 where
    pub animal-is : (stay_at W i).animal ≡ k
    pub there : There (stay_at W i) t

  -- One record shares a bit with c exactly when its animal is k, was there, and the pen is among c.
  one-iff : (k i c : ℕ) → (bit_and (cond (eqb k (stay_at W i).animal) (pen_bit (stay_at W i) t) 0) c ≢ 0) ↔ (Stayed k i × (bit_and (2 ^ (stay_at W i).pen) c ≢ 0))
  unfolding pen_bit
  one-iff k i c = go (eq_outcome k (stay_at W i).animal) (is_there (stay_at W i) t) refl
    where
      s : Stay
      s = stay_at W i

      go : {b : Bool} → Outcome (k ≡ s.animal) (k ≢ s.animal) b → (d : Bool) → is_there s t ≡ d
          → (bit_and (cond b (cond d (2 ^ s.pen) 0) 0) c ≢ 0) ↔ (Stayed k i × (bit_and (2 ^ s.pen) c ≢ 0))
      go (holds e) true f = (λ h. (record { animal-is = sym e; there = (there-iff s t).0 f }, h), λ h. h.1)
      go (holds e) false f = (λ h. absurd (h (and_zero_l c)), λ h. absurd (untrue (sym f ∙ (there-iff s t).1 h.0.there)))
      go (fails n) d f = (λ h. absurd (h (and_zero_l c)), λ h. absurd (n (sym h.0.animal-is)))

  -- The pens of animal k by the first m records share one with c exactly when one of these records has it.
  pens_iff : (k m c : ℕ) → (bit_and (pens_by W t m k) c ≢ 0) ↔ ((i : ℕ) × (i < m) × Stayed k i × (bit_and (2 ^ (stay_at W i).pen) c ≢ 0))
  unfolding pens_by
  pens_iff k zero c = (λ h. absurd (h (and_zero_l c)), λ h. absurd (omega (arith, h.1)))
  pens_iff k (suc m) c =
      let o = or_shares (pens_by W t m k) (cond (eqb k (stay_at W m).animal) (pen_bit (stay_at W m) t) 0) c in
      let a = pens_iff k m c in (
        λ h. ⊎_elim (λ x. let r = a.0 x in (r.0, omega (arith, r.1), r.2, r.3)) (λ x. let r = (one-iff k m c).0 x in (m, omega arith, r.0, r.1)) (o.0 h),
        λ h. o.1 (either a.1 h (lt_outcome h.0 m)),
      )
    where
      either : ((i : ℕ) × (i < m) × Stayed k i × (bit_and (2 ^ (stay_at W i).pen) c ≢ 0) → bit_and (pens_by W t m k) c ≢ 0)
          → (h : (i : ℕ) × (i < suc m) × Stayed k i × (bit_and (2 ^ (stay_at W i).pen) c ≢ 0)) → {b : Bool} → Outcome (h.0 < m) (m ≤ h.0) b
          → (bit_and (pens_by W t m k) c ≢ 0) ⊎ (bit_and (cond (eqb k (stay_at W m).animal) (pen_bit (stay_at W m) t) 0) c ≢ 0)
      either f h (holds l) = inl (f (h.0, l, h.2, h.3))
      either f h (fails l) =
          inr ((one-iff k m c).1 (subst (λ j. Stayed k j × (bit_and (2 ^ (stay_at W j).pen) c ≢ 0)) (let e : h.0 ≡ m = omega (arith, h.1) in e) (h.2, h.3)))

  -- Two animals share a pen, as the first m records tell it, exactly when two of these say so.
  share_iff : (u v m : ℕ) → (bit_and (pens_by W t m u) (pens_by W t m v) ≢ 0)
      ↔ ((i j : ℕ) × (i < m) × (j < m) × Stayed u i × Stayed v j × ((stay_at W i).pen ≡ (stay_at W j).pen))
  share_iff u v m = (
    λ h.
        let a = (pens_iff u m (pens_by W t m v)).0 h in
        let p = 2 ^ (stay_at W a.0).pen in
        let b = (pens_iff v m p).0 (λ e. a.3 (and_comm p (pens_by W t m v) ∙ e)) in
        (a.0, b.0, a.1, b.1, a.2, b.2, sym ((bits-share (stay_at W b.0).pen (stay_at W a.0).pen).0 b.3)),
    λ (i, j, h, k, a, b, e).
        let p = 2 ^ (stay_at W i).pen in
        (pens_iff u m (pens_by W t m v)).1
        (i, h, a, λ z. (pens_iff v m p).1 (j, k, b, (bits-share (stay_at W j).pen (stay_at W i).pen).1 (sym e)) (and_comm (pens_by W t m v) p ∙ z)),
  )

-- ---- the records, and the array of pens

module _ (W : List ℕ) where
  -- A record of the list stands at one of its places.
  listed_at : (s : Stay) → Memᴰ s (stays_of W) → (i : ℕ) × (i < length W / 4) × (s ≡ stay_at W i)
  unfolding stays_of
  listed_at s m = let r = member-flat (λ i. stay_at W i ∷ []) (length W / 4) m in (r.0, r.1, Memᴰ.eq_of_singleton r.2)

  pub at_listed : (i : ℕ) → i < length W / 4 → Memᴰ (stay_at W i) (stays_of W)
  unfolding stays_of
  at_listed i h = flat-member (λ i. stay_at W i ∷ []) (length W / 4) i h (Memᴰ.head refl)

  -- Two records say that the contact took place exactly when its animals differ and share a pen at its tick.
  told-iff : (k : Contact) → Met (stays_of W) k ↔ ((k.from ≢ k.to) × (bit_and (pens_by W k.tick (length W / 4) k.from) (pens_by W k.tick (length W / 4) k.to) ≢ 0))
  told-iff k = (to, of)
    where
      to : Met (stays_of W) k → (k.from ≢ k.to) × (bit_and (pens_by W k.tick (length W / 4) k.from) (pens_by W k.tick (length W / 4) k.to) ≢ 0)
      to m =
          let a = listed_at m.one m.one_listed in
          let b = listed_at m.other m.other_listed in (
            λ e. m.different (m.from_is ∙ e ∙ sym m.to_is),
            (share_iff W k.tick k.from k.to (length W / 4)).1 (
              a.0,
              b.0,
              a.1,
              b.1,
              record { animal-is = subst (λ s. s.animal ≡ k.from) a.2 m.from_is; there = subst (λ s. There s k.tick) a.2 m.one_there },
              record { animal-is = subst (λ s. s.animal ≡ k.to) b.2 m.to_is; there = subst (λ s. There s k.tick) b.2 m.other_there },
              ap (λ s. s.pen) (sym a.2) ∙ m.same_pen ∙ ap (λ s. s.pen) b.2,
            ),
          )

      of : (k.from ≢ k.to) × (bit_and (pens_by W k.tick (length W / 4) k.from) (pens_by W k.tick (length W / 4) k.to) ≢ 0) → Met (stays_of W) k
      of (d, h) =
          let r = (share_iff W k.tick k.from k.to (length W / 4)).0 h in
          record {
            one = stay_at W r.0;
            other = stay_at W r.1;
            one_listed = at_listed r.0 r.2;
            other_listed = at_listed r.1 r.3;
            from_is = r.4.animal-is;
            to_is = r.5.animal-is;
            different = λ e. d (sym r.4.animal-is ∙ e ∙ r.5.animal-is);
            same_pen = r.6;
            one_there = r.4.there;
            other_there = r.5.there;
          }

-- With the pens of the contact's tick, the test of the pens is the test of the records.
pub shares-met : (W pens : List ℕ) (k : Contact) → PensBy W k.tick (length W / 4) pens → k.from < max_animals → k.to < max_animals → shares_pen pens k ≡ met (stays_of W) k
unfolding shares_pen
shares-met W pens k f h j =
    rw (f.marked k.from h, f.marked k.to j)
    (tests_same
    (both_iff (differ-iff k.from k.to) (differ-iff (bit_and (pens_by W k.tick (length W / 4) k.from) (pens_by W k.tick (length W / 4) k.to)) 0))
    (met-iff (stays_of W) k) (let i = told-iff W k in (i.1, i.0)))

-- ---- the array, record by record

-- At first no pen is marked.
pub pens_start : (W : List ℕ) (t : ℕ) → PensBy W t 0 (replicate max_animals 0)
unfolding pens_by
pens_start W t = record { long = refl; marked = λ k h. get_or-replicate {A = ℕ} max_animals k 0 0 h }

-- The next record's bit is marked for its animal.
module _ {W : List ℕ} {t i : ℕ} {pens : List ℕ} (w : PensBy W t i pens) {s : Stay} (e : s ≡ stay_at W i) (h : s.animal < max_animals) {b : ℕ} (f : b ≡ pen_bit s t) where
  pub pens_turn : PensBy W t (i + 1) (set pens s.animal (bit_or (get_or pens s.animal 0) b))
  unfolding pens_by
  pens_turn =
      record {
        long = length-set pens s.animal (bit_or (get_or pens s.animal 0) b) ∙ w.long;
        marked = λ k l. go k l (eq_outcome k s.animal) ∙ ap (λ (m : ℕ). pens_by W t m k) (let z : suc i ≡ i + 1 = omega arith in z);
      }
    where
      bit : pen_bit (stay_at W i) t ≡ b
      bit = ap (λ (r : Stay). pen_bit r t) (sym e) ∙ sym f

      go : (k : ℕ) → k < max_animals → {x : Bool} → Outcome (k ≡ s.animal) (k ≢ s.animal) x → get_or (set pens s.animal (bit_or (get_or pens s.animal 0) b)) k 0 ≡ pens_by W t (suc i) k
      go k l (holds q) =
          ap (λ (j : ℕ). get_or (set pens s.animal (bit_or (get_or pens s.animal 0) b)) j 0) q
          ∙ get_or-set_same pens s.animal (bit_or (get_or pens s.animal 0) b) 0 (omega (arith, h, w.long))
          ∙ ap (λ (j : ℕ). bit_or (get_or pens j 0) b) (sym q)
          ∙ ap (λ (x : ℕ). bit_or x b) (w.marked k l)
          ∙ sym (rw (eq-eqb k (stay_at W i).animal (q ∙ ap (λ r. r.animal) e), bit) refl)
      go k l (fails n) =
          get_or-set_other pens s.animal k (bit_or (get_or pens s.animal 0) b) 0 n
          ∙ w.marked k l ∙ sym (or_zero_r (pens_by W t i k))
          ∙ sym (rw (ne_eqb k (stay_at W i).animal (λ q. n (q ∙ ap (λ r. r.animal) (sym e)))) refl)
