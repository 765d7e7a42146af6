-- What a truth of the code says of an outcome of the definition that can only be broken.
-- Assumes nothing.
use mathlib.Core.Path.{◌≡◌, refl, sym, ap, ◌∙◌}
use mathlib.Core.Bool.{Bool, true, false, true≢false}
use Rattle.rules.specs.Outcome.{Outcome, accepted, refused, broken}
use Rattle.pieces.specs.Unbroken.{Unbroken, UnbrokenWith}

-- the value that there is
pub record Right {A : Type 0} (P : A → Type 0) (m : Outcome A) : Type 0 where
  pub value : A
  pub comes : m ≡ accepted value
  pub holds : P value

pub broken_with : {A : Type 0} (P : A → Type 0) (m : Outcome A) {r : Bool} → UnbrokenWith P m r → r ≡ false → m ≡ refused broken
broken_with P (accepted a) h e = absurd (true≢false (sym h.0 ∙ e))
broken_with P (refused q) h e = ap refused h.1

pub right_with : {A : Type 0} (P : A → Type 0) (m : Outcome A) {r : Bool} → UnbrokenWith P m r → r ≡ true → Right P m
right_with P (accepted a) h e = record { value = a; comes = refl; holds = h.1 }
right_with P (refused q) h e = absurd (true≢false (sym e ∙ h.0))

pub broken_of : {A : Type 0} (m : Outcome A) {r : Bool} → Unbroken m r → r ≡ false → m ≡ refused broken
broken_of (accepted a) h e = absurd (true≢false (sym h ∙ e))
broken_of (refused q) h e = ap refused h.1

pub right_of : {A : Type 0} (m : Outcome A) {r : Bool} → Unbroken m r → r ≡ true → Right (λ a. m ≡ accepted a) m
right_of (accepted a) h e = record { value = a; comes = refl; holds = refl }
right_of (refused q) h e = absurd (true≢false (sym e ∙ h.0))
