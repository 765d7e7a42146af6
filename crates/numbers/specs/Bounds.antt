-- Bounds of signed sums, differences and products, by `mag`: a word fits 64 bits when its `mag` is below 2^63, and a number of the
-- 32-bit range has a `mag` below 2^31.
-- Assumes nothing.
use Rattle.std.specs.Prelude.{ℕ, zero, suc, ◌+◌, ◌-◌, ◌*◌, ◌≤◌, Bool, true, false, cond, ltb, ℤ, pos, negsuc, neg_ℤ, ◌+ℤ◌, ◌-ℤ◌, ◌*ℤ◌}
use Rattle.std.proofs.Common.{arith, le_trans, mul-le-mul}
use Rattle.std.proofs.Math.IntN.{sub_ℕ}
use Rattle.std.specs.Int.Signed.{mag}

below : (a b : ℕ) (t : Bool) → mag (cond t (negsuc (b - suc a)) (pos (a - b))) ≤ a + b
below a b true = omega arith
below a b false = omega arith

pub mag_subℕ : (a b : ℕ) → mag (sub_ℕ a b) ≤ a + b
mag_subℕ a b = below a b (ltb a b)

pub mag_add : (x y : ℤ) → mag (x +ℤ y) ≤ suc (mag x + mag y)
mag_add (pos a) (pos b) = omega arith
mag_add (pos a) (negsuc b) = omega (arith, mag_subℕ a (suc b))
mag_add (negsuc a) (pos b) = omega (arith, mag_subℕ b (suc a))
mag_add (negsuc a) (negsuc b) = omega arith

pub mag_neg : (x : ℤ) → mag (neg_ℤ x) ≤ suc (mag x)
mag_neg (pos zero) = omega arith
mag_neg (pos (suc n)) = omega arith
mag_neg (negsuc n) = omega arith

pub mag_sub : (x y : ℤ) → mag (x -ℤ y) ≤ suc (suc (mag x + mag y))
mag_sub x y = omega (arith, mag_add x (neg_ℤ y), mag_neg y)

negated : (n : ℕ) → mag (neg_ℤ (pos n)) ≤ n
negated zero = omega arith
negated (suc n) = omega arith

pub mag_mul : (x y : ℤ) → mag (x *ℤ y) ≤ suc (mag x) * suc (mag y)
mag_mul (pos a) (pos b) = mul-le-mul (omega arith) (omega arith)
mag_mul (pos a) (negsuc b) = le_trans (negated (a * suc b)) (mul-le-mul (omega arith) (omega arith))
mag_mul (negsuc a) (pos b) = le_trans (negated (suc a * b)) (mul-le-mul (omega arith) (omega arith))
mag_mul (negsuc a) (negsuc b) = omega arith
