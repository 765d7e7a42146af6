-- What follows of answers that agree: by what is made of a value, and by a step of the definition that is made.
-- Assumes nothing.
use mathlib.Core.Path.{◌≡◌, refl, sym, subst}
use Rattle.std.specs.Prelude.{Result}
use Rattle.rules.specs.Outcome.{Outcome, accepted, ◌>>=◌}
use Rattle.table.specs.declared.answer.Refusal.{Refusal}
use Rattle.table.specs.Agrees.{Agrees, both, neither}

-- what is made of the definition's last value
pub agrees_map : {A B C : Type 0} {P : A → B → Type 0} {Q : C → B → Type 0} {m : Outcome A} {r : Result B Refusal} (f : A → C)
    → ((a : A) → m ≡ accepted a → (b : B) → P a b → Q (f a) b) → Agrees P m r → Agrees Q (m >>= λ a. accepted (f a)) r
agrees_map f step (both {a} {b} h) = both (step a refl b h)
agrees_map f step (neither h) = neither h

-- the definition's first step has come to this
pub agrees_then : {A B C : Type 0} {Q : C → B → Type 0} {m : Outcome A} {a : A} {r : Result B Refusal} (next : A → Outcome C)
    → m ≡ accepted a → Agrees Q (next a) r → Agrees Q (m >>= next) r
agrees_then {A} {B} {C} {Q} {m} {a} {r} next e h = subst (λ (n : Outcome A). Agrees Q (n >>= next) r) (sym e) h
