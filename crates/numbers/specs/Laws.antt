-- Laws of signed words: what the tests of `Signed` say, and that a difference is undone by a sum.
-- Assumes nothing.
use Rattle.std.specs.Prelude.{◌≡◌, refl, Bool, true, false, ◌&&◌, ◌⊎◌, ℤ, pos, negsuc, ◌+ℤ◌, ◌-ℤ◌}
use Rattle.std.proofs.Common.{ap, ◌∙◌, inl, inr, eqb-true, eq-eqb}
use Rattle.std.proofs.lemmas.Bool.{false≢true}
use Rattle.std.proofs.Math.IntN.{+ℤ_comm, +ℤ-neg_ℤ_cancel, -ℤ-+ℤ_cancel}
use Rattle.numbers.specs.Signed.{eq_z}

-- ---- tests joined by `&&`

pub and_left : (a b : Bool) → (a && b) ≡ true → a ≡ true
and_left true b e = refl
and_left false b e = e

pub and_right : (a b : Bool) → (a && b) ≡ true → b ≡ true
and_right true b e = e
and_right false true e = refl
and_right false false e = e

pub and_both : {a b : Bool} → a ≡ true → b ≡ true → (a && b) ≡ true
and_both p q = rw (p, q)

-- a test holds or does not
pub decide : (b : Bool) → (b ≡ true) ⊎ (b ≡ false)
decide true = inl refl
decide false = inr refl

-- ---- equality of words

pub eq_z_true : (a b : ℤ) → eq_z a b ≡ true → a ≡ b
eq_z_true (pos a) (pos b) e = ap pos (eqb-true a b e)
eq_z_true (pos a) (negsuc b) e = absurd (false≢true e)
eq_z_true (negsuc a) (pos b) e = absurd (false≢true e)
eq_z_true (negsuc a) (negsuc b) e = ap negsuc (eqb-true a b e)

pub eq_z_refl : (a : ℤ) → eq_z a a ≡ true
eq_z_refl (pos a) = eq-eqb a a refl
eq_z_refl (negsuc a) = eq-eqb a a refl

-- ---- differences

-- old + (new - old) = new
pub add_back : (old new : ℤ) → old +ℤ (new -ℤ old) ≡ new
add_back old new = +ℤ_comm old (new -ℤ old) ∙ -ℤ-+ℤ_cancel new old

-- (old + change) - old = change
pub sub_back : (old change : ℤ) → (old +ℤ change) -ℤ old ≡ change
sub_back old change = ap (λ (z : ℤ). z -ℤ old) (+ℤ_comm old change) ∙ +ℤ-neg_ℤ_cancel change old
