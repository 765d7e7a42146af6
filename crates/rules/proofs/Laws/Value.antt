-- Laws of values and changes: a change is undone by a sum, zero is the only "no change", and what stands at each variable of
-- a store, a difference of stores and a snapshot.
-- Assumes nothing.
use Rattle.std.specs.Prelude.{◌≡◌, refl, zero, suc, ◌≤◌, true, ◌⊎◌, ℤ, pos, negsuc}
use Rattle.std.proofs.Common.{sym, ap, ◌∙◌, inl, inr, arith, leb-true}
use Rattle.std.proofs.lemmas.Bool.{false≢true}
use Rattle.std.specs.Int.Signed.{le_z}
use Rattle.std.proofs.Math.IntN.{+ℤ_idr, +ℤ_invr}
use Rattle.numbers.specs.Signed.{between}
use Rattle.numbers.specs.Laws.{and_right, eq_z_refl, add_back}
use Rattle.rules.specs.Value.{Ty, in_type, differ, plus, minus, lowest, highest}

-- ---- one value

-- a truth is 0 or 1
pub truth_cases : (z : ℤ) → in_type Ty.truth z ≡ true → (z ≡ pos 0) ⊎ (z ≡ pos 1)
unfolding in_type between
truth_cases (pos zero) e = inl refl
truth_cases (pos (suc zero)) e = inr refl
truth_cases (pos (suc (suc n))) e = absurd (above_one (leb-true (suc (suc n)) 1 (and_right (le_z (pos 0) (pos (suc (suc n)))) _ e)))
  where
    above_one : suc (suc n) ≤ 1 → ⊥
    above_one h = omega arith
truth_cases (negsuc n) e = absurd (false≢true e)

pub zero_in : (t : Ty) → in_type t (pos 0) ≡ true
unfolding in_type between lowest highest
zero_in Ty.number = refl
zero_in Ty.truth = refl

-- a flip and the flip back
differ_back : (a b : ℤ) → (a ≡ pos 0) ⊎ (a ≡ pos 1) → (b ≡ pos 0) ⊎ (b ≡ pos 1) → differ a (differ b a) ≡ b
unfolding differ
differ_back a b (inl p) (inl q) = rw (p, q)
differ_back a b (inl p) (inr q) = rw (p, q)
differ_back a b (inr p) (inl q) = rw (p, q)
differ_back a b (inr p) (inr q) = rw (p, q)

-- new = old + (new - old)
pub plus_minus : (t : Ty) (old new : ℤ) → in_type t old ≡ true → in_type t new ≡ true → plus t old (minus t new old) ≡ new
unfolding plus minus
plus_minus Ty.number old new ho hn = add_back old new
plus_minus Ty.truth old new ho hn = differ_back old new (truth_cases old ho) (truth_cases new hn)

pub minus_self : (t : Ty) (z : ℤ) → minus t z z ≡ pos 0
unfolding minus differ
minus_self Ty.number z = +ℤ_invr z
minus_self Ty.truth z = rw (eq_z_refl z)

plus_zero : (t : Ty) (z : ℤ) → in_type t z ≡ true → plus t z (pos 0) ≡ z
unfolding plus differ
plus_zero Ty.number z h = +ℤ_idr z
plus_zero Ty.truth z h = unflipped (truth_cases z h)
  where
    unflipped : (z ≡ pos 0) ⊎ (z ≡ pos 1) → differ z (pos 0) ≡ z
    unflipped (inl p) = rw p
    unflipped (inr p) = rw p

-- "Zero is the only no change."
pub unmoved : (t : Ty) (old new : ℤ) → in_type t old ≡ true → in_type t new ≡ true → minus t new old ≡ pos 0 → new ≡ old
unmoved t old new ho hn e = sym (plus_minus t old new ho hn) ∙ ap (plus t old) e ∙ plus_zero t old ho
