-- What a truth says of an outcome that is accepted or broken: the code answers so for snapshots and the heads of an if and a repeat.
-- Assumes nothing.
use Rattle.std.specs.Prelude.{◌≡◌, Bool, true, false}
use Rattle.rules.specs.Outcome.{Outcome, accepted, refused, broken}

abbrev pub Unbroken : {A : Type 0} → Outcome A → Bool → Type 0
Unbroken (accepted a) r = r ≡ true
Unbroken (refused q) r = (r ≡ false) × (q ≡ broken)

-- and P of the value, where there is one
abbrev pub UnbrokenWith : {A : Type 0} → (A → Type 0) → Outcome A → Bool → Type 0
UnbrokenWith P (accepted a) r = (r ≡ true) × P a
UnbrokenWith P (refused q) r = (r ≡ false) × (q ≡ broken)
