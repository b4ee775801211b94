-- On any well-formed cells contacts may be added in any order and more than once: the cells cover what the contacts reach on top of those
-- before them, and that is a matter of which contacts they are.
use mathlib.Core.Path.{◌≡◌, refl, sym, subst, ◌∙◌}
use mathlib.Core.Logic.{◌↔◌, ◌⊎◌, inl, inr, ⊎_elim, ◌≢◌}
use mathlib.Core.List.Memᴰ
use mathlib.Core.List.{List, [], ◌∷◌, Memᴰ}
use Prim.Native.Nat.{ℕ, ◌+◌, ◌≤◌}
use native.Mathlib.Omega.{arith}
use native.Mathlib.Decide.{ℕ_discrete}
use Rattle.journeys.specs.declared.Contact.{Contact}
use Rattle.journeys.specs.Journey.{contact, Contacts, In, Same, interval}
use Rattle.journeys.specs.Cell.{Cell, WellFormedCell}
use Rattle.journeys.specs.Adding.{Cells, add, add_all, WellFormed}
use Rattle.journeys.specs.Theorems.{AnyOrder}
use Rattle.journeys.proofs.Cover.{Covers, covers-find, covers-member, interval-path}
use Rattle.journeys.proofs.Reach.{Direct, stay, stored, Reach, direct, step, Forward, direct-le, reach-le}
use Rattle.journeys.proofs.Closed.{ClosedOn, closed-map, closed-unique, add_all-closed, add_all-diagonal, rising-closed}
use Rattle.journeys.proofs.Rows.{add-well_formed}

-- ---- what the cells cover

module _ {τ δ : ℕ} {T : Cells} (w : WellFormed τ δ T) where
  -- An interval of the cells takes at least the carry time.
  forward : Forward T
  forward x y i m = let l = (w.cells x y).limits i m in omega (arith, l.carried)

  -- The cells after a list of contacts cover what these reach on top of the cells before.
  added-closed : (l : List Contact) (x y : ℕ) → x ≢ y → ClosedOn T (In l) δ x y (add_all δ T l x y)
  added-closed l x y n =
      closed-map (λ k. (⊎_elim (λ b. absurd b) (λ m. m), inr))
      (add_all-closed forward l (λ k. ⊥) T (rising-closed δ T (λ p q. (w.cells p q).rising)) x y n)

  -- Two lists of the same contacts leave the same cells.
  pub same_contacts : (l m : List Contact) → Same (In l) (In m) → (x y : ℕ) → add_all δ T l x y ≡ add_all δ T m x y
  same_contacts l m e x y = go (ℕ_discrete x y)
    where
      go : Dec (x ≡ y) → add_all δ T l x y ≡ add_all δ T m x y
      go (yes q) = subst (λ z. add_all δ T l x z ≡ add_all δ T m x z) q (add_all-diagonal δ T l x ∙ sym (add_all-diagonal δ T m x))
      go (no n) = closed-unique (closed-map e (added-closed l x y n)) (added-closed m x y n)

  either_order : (k c : Contact) (x y : ℕ) → add δ (add δ T k) c x y ≡ add δ (add δ T c) k x y
  either_order k c x y = unfold add_all in same_contacts (k ∷ c ∷ []) (c ∷ k ∷ []) (λ i. (turn k c i, turn c k i)) x y
    where
      turn : (a b i : Contact) → In (a ∷ b ∷ []) i → In (b ∷ a ∷ []) i
      turn a b i (Memᴰ.head e) = Memᴰ.tail (Memᴰ.head e)
      turn a b i (Memᴰ.tail (Memᴰ.head e)) = Memᴰ.head e
      turn a b i (Memᴰ.tail (Memᴰ.tail m)) = absurd (Memᴰ.not-nil m)

  twice : (k : Contact) (x y : ℕ) → add δ (add δ T k) k x y ≡ add δ T k x y
  twice k x y = unfold add_all in same_contacts (k ∷ k ∷ []) (k ∷ []) (λ i. (λ m. ⊎_elim Memᴰ.head (λ q. q) (Memᴰ.cases_cons m), Memᴰ.tail)) x y

-- ---- a contact's own interval

-- The contacts of the list have ticks of 1 to τ.
abbrev pub Ticked : ℕ → List Contact → Type 0
Ticked τ l = (k : Contact) → In l k → (1 ≤ k.tick) × (k.tick ≤ τ)

pub add_all-well_formed : {τ δ : ℕ} (T : Cells) (l : List Contact) → WellFormed τ δ T → Ticked τ l → WellFormed τ δ (add_all δ T l)
unfolding add_all
add_all-well_formed T [] w f = w
add_all-well_formed {τ} {δ} T (k ∷ l) w f =
    let h = f k (Memᴰ.head refl) in
    add_all-well_formed (add δ T k) l (add-well_formed τ δ T k w h.0 h.1) (λ c m. f c (Memᴰ.tail m))

-- In a well-formed cell [t, t+δ] stands where it is covered: nothing shorter can.
own-stands : {τ δ t : ℕ} {c : Cell} → WellFormedCell τ δ c → Covers (interval t (t + δ)) c → Memᴰ (interval t (t + δ)) c
own-stands {t = t} w v =
    let r = covers-find v in
    let l = w.limits r.0 r.1 in
    Memᴰ.cast (interval-path (interval t _) r.0 (omega (arith, r.2, l.carried)) (omega (arith, r.2, l.carried))) r.1

module _ {τ δ : ℕ} {T : Cells} (d : 1 ≤ δ) (w : WellFormed τ δ T) where
  -- In no time one stands still.
  at_once : {x a y b : ℕ} → b ≤ a → Direct T x a y b → x ≡ y
  at_once h (stay e k) = e
  at_once {x} {a} {y} {b} h (stored n v) = let r = covers-find v in let l = (w.cells x y).limits r.0 r.1 in absurd (omega (arith, r.2, l.carried))

  -- In the carry time one goes by a stored interval or by one contact.
  one-contact : {S : Contacts} {u v t : ℕ} → u ≢ v → Reach T S δ v (t + δ) u t → Covers (interval t (t + δ)) (T u v) ⊎ S (contact u v t)
  one-contact n (direct (stay e h)) = absurd (n e)
  one-contact n (direct (stored m c)) = inl c
  one-contact {S} {u} {v} {t} n (step p q s g k r) =
      let a = direct-le (forward w) g in
      let b = reach-le (forward w) r in
      let e : s ≡ t = omega arith in
      inr (subst (λ i. S (contact u v i)) e (subst (λ i. S (contact u i s)) (last r) (subst (λ i. S (contact i q s)) (sym (at_once (omega arith) g)) k)))
    where
      last : Reach T S δ v (t + δ) q (s + δ) → q ≡ v
      last (direct h) = at_once (let a = direct-le (forward w) g in omega arith) h
      last (step i j o h c l) =
          let a = direct-le (forward w) g in
          let b = direct-le (forward w) h in
          let z = reach-le (forward w) l in
          absurd (omega arith)

  -- After a list of contacts a contact's own interval stands exactly when it stood before them or the contact is among them.
  pub stands_after : (l : List Contact) → Ticked τ l → (u v t : ℕ) → u ≢ v
      → Memᴰ (interval t (t + δ)) (add_all δ T l u v) ↔ (Memᴰ (interval t (t + δ)) (T u v) ⊎ In l (contact u v t))
  stands_after l f u v t n = (to, of)
    where
      k : ClosedOn T (In l) δ u v (add_all δ T l u v)
      k = added-closed w l u v n

      to : Memᴰ (interval t (t + δ)) (add_all δ T l u v) → Memᴰ (interval t (t + δ)) (T u v) ⊎ In l (contact u v t)
      to m = ⊎_elim (λ c. inl (own-stands (w.cells u v) c)) inr (one-contact n ((k.covers (interval t (t + δ))).0 (covers-member m)))

      of : Memᴰ (interval t (t + δ)) (T u v) ⊎ In l (contact u v t) → Memᴰ (interval t (t + δ)) (add_all δ T l u v)
      of o =
          own-stands ((add_all-well_formed T l w f).cells u v)
          ((k.covers (interval t (t + δ))).1
          (⊎_elim (λ m. direct (stored n (covers-member m))) (λ m. step u v t (stay refl (omega arith)) m (direct (stay refl (omega arith)))) o))

pub any_order : AnyOrder
any_order =
    record {
      either_order = λ τ δ T k c w. either_order w k c;
      twice = λ τ δ T k w. twice w k;
      same_contacts = λ τ δ T l m w. same_contacts w l m;
      stands_after = λ τ δ T l d w. stands_after d w l;
    }
