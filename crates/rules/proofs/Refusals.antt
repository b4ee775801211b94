-- When an answer is a refusal, and when it is given, whatever it answers.
use Rattle.std.specs.Prelude.{◌≡◌, refl, ◌↔◌, Option, None, Some, Ok, Err}
use mathlib.Core.Path.{ap}
use Rattle.journeys.proofs.Tests.{never}
use Rattle.rules.specs.declared.Refusal.{Refusal}
use Rattle.rules.specs.Answers.{unless, answer_of, done}

-- Refused with r exactly when the checks are.
pub refused-iff : {A : Type 0} (o : Option Refusal) (a : A) (r : Refusal) → (answer_of o (Ok a) ≡ Err r) ↔ (o ≡ Some r)
refused-iff None a r = (λ e. never cc, λ e. never cc)
refused-iff (Some s) a r = (λ e. let z : s ≡ r = cc in ap Some z, λ e. let z : s ≡ r = cc in ap Err z)

-- Answered exactly when nothing refuses, and with what there is to say.
pub given-iff : {A : Type 0} (o : Option Refusal) (a b : A) → (answer_of o (Ok a) ≡ Ok b) ↔ ((o ≡ None) × (a ≡ b))
given-iff None a b = (λ e. (refl, cc), λ h. ap Ok h.1)
given-iff (Some r) a b = (λ e. never cc, λ h. never (cc h.0))

-- Done exactly when nothing refuses.
pub done-iff : (o : Option Refusal) → (answer_of o done ≡ done) ↔ (o ≡ None)
done-iff o = (λ e. ((given-iff o tt tt).0 e).0, λ e. (given-iff o tt tt).1 (e, refl))

-- What only an answer changes stays as it was on a refusal.
pub refused-kept : {A B : Type 0} (o : Option Refusal) (a : A) (x : B) {r : Refusal} {y : B} → answer_of o (Ok a) ≡ Err r → unless o x y ≡ y
refused-kept None a x e = never cc
refused-kept (Some s) a x e = refl
