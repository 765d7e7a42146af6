-- Numbers of the 32-bit range in 64-bit words: a word is read back as it was written, sums, differences and products fit, and the
-- two tests at the ends of the range are the definition's.
-- Assumes nothing.
use Rattle.std.specs.Prelude.{◌≡◌, refl, ℕ, zero, suc, ◌+◌, ◌<◌, Bool, true, false, ◌&&◌, ◌⊎◌, List, set, T, leb, eqb, ℤ, pos, negsuc, nat_abs, ◌+ℤ◌, ◌-ℤ◌, ◌*ℤ◌, Some, None}
use Rattle.std.proofs.Common.{sym, ap, ap₂, ◌∙◌, subst, arith, lt_of_le_of_lt, mul-le-mul, true≢false, inl, inr, lit<, Fits, SFits, to_z, of_z, leb-true, le-leb, ltb-true, ltb-false, eq-eqb, ne_eqb}
use Rattle.std.proofs.lemmas.Bool.{false≢true, lt-leb}
use Rattle.std.specs.Int.Signed.{mag, non_neg, lt_z}
use Rattle.std.specs.Int.{w64}
use mir.Val.{bool_byte}
use Rattle.std.proofs.lemmas.Int.{to_z-of_z, to_z_pos}
use Rattle.numbers.specs.Signed.{eq_z, between}
use Rattle.numbers.specs.Laws.{and_left, and_right, and_both, decide, eq_z_true, eq_z_refl}
use Rattle.numbers.specs.Bounds.{mag_add, mag_sub, mag_mul}
use Rattle.rules.specs.Value.{Ty, in_type, lowest, highest, bit}
use Rattle.rules.specs.Tree.{Operator, gives, apply}
use Rattle.rules.specs.Run.{times}
use Rattle.run.specs.Code.{Number, computed_as}

pub mag_in : (z : ℤ) → Number z → mag z < 2_147_483_648
unfolding in_type between lowest highest
mag_in (pos n) h = omega (arith, leb-true n 2_147_483_647 (and_right true (leb n 2_147_483_647) h))
mag_in (negsuc n) h = omega (arith, leb-true n 2_147_483_647 (and_left (leb n 2_147_483_647) true h))

pub word : (z : ℤ) → mag z < 9_223_372_036_854_775_808 → SFits w64 z
word z h = record { sfits = h }

-- a number is read back as it was written
pub plain : (z : ℤ) → Number z → to_z w64 (of_z w64 z) ≡ z
plain z h = to_z-of_z w64 z (word z (omega (arith, mag_in z h)))

module _ (x y : ℤ) (hx : Number x) (hy : Number y) where
  -- an operation on two numbers, each read back
  pub both_plain : {A : Type 0} (f : ℤ → ℤ → A) → f (to_z w64 (of_z w64 x)) (to_z w64 (of_z w64 y)) ≡ f x y
  both_plain f = ap₂ f (plain x hx) (plain y hy)

  sum_fits : SFits w64 (x +ℤ y)
  sum_fits = word (x +ℤ y) (omega (arith, mag_add x y, mag_in x hx, mag_in y hy))

  difference_fits : SFits w64 (x -ℤ y)
  difference_fits = word (x -ℤ y) (omega (arith, mag_sub x y, mag_in x hx, mag_in y hy))

  product_fits : SFits w64 (x *ℤ y)
  product_fits = word (x *ℤ y) (lt_of_le_of_lt (mag_mul x y) (lt_of_le_of_lt (mul-le-mul (mag_in x hx) (mag_in y hy)) (lit< tt)))

  pub add_fits : SFits w64 (to_z w64 (of_z w64 x) +ℤ to_z w64 (of_z w64 y))
  add_fits = subst (SFits w64) (sym (both_plain (λ a b. a +ℤ b))) sum_fits

  pub sub_fits : SFits w64 (to_z w64 (of_z w64 x) -ℤ to_z w64 (of_z w64 y))
  sub_fits = subst (SFits w64) (sym (both_plain (λ a b. a -ℤ b))) difference_fits

  pub mul_fits : SFits w64 (to_z w64 (of_z w64 x) *ℤ to_z w64 (of_z w64 y))
  mul_fits = subst (SFits w64) (sym (both_plain (λ a b. a *ℤ b))) product_fits

  pub sum_back : to_z w64 (of_z w64 (to_z w64 (of_z w64 x) +ℤ to_z w64 (of_z w64 y))) ≡ x +ℤ y
  sum_back = to_z-of_z w64 _ add_fits ∙ both_plain (λ a b. a +ℤ b)

  pub difference_back : to_z w64 (of_z w64 (to_z w64 (of_z w64 x) -ℤ to_z w64 (of_z w64 y))) ≡ x -ℤ y
  difference_back = to_z-of_z w64 _ sub_fits ∙ both_plain (λ a b. a -ℤ b)

  pub product_back : to_z w64 (of_z w64 (to_z w64 (of_z w64 x) *ℤ to_z w64 (of_z w64 y))) ≡ x *ℤ y
  product_back = to_z-of_z w64 _ mul_fits ∙ both_plain (λ a b. a *ℤ b)

-- a truth is read back
pub bit_back : (b : Bool) → to_z w64 (of_z w64 (bit b)) ≡ bit b
bit_back true = refl
bit_back false = refl

-- ---- tests of two numbers

-- a truth that was made a number
pub truth_back : {r : ℤ} (b d : Bool) → r ≡ pos (bool_byte b) → b ≡ d → to_z w64 (of_z w64 r) ≡ bit d
truth_back b d e f = ap (λ (z : ℤ). to_z w64 (of_z w64 z)) (e ∙ of_byte b) ∙ bit_back b ∙ ap bit f
  where
    of_byte : (b : Bool) → pos (bool_byte b) ≡ bit b
    of_byte true = refl
    of_byte false = refl

module _ (x y : ℤ) (hx : Number x) (hy : Number y) where
  pub greater_plain : lt_z (to_z w64 (of_z w64 y)) (to_z w64 (of_z w64 x)) ≡ lt_z y x
  greater_plain = ap₂ {C = Bool} lt_z (plain y hy) (plain x hx)

  equal_as : (eq_z x y ≡ true) ⊎ (eq_z x y ≡ false) → eqb (of_z w64 x) (of_z w64 y) ≡ eq_z x y
  equal_as (inl e) = eq-eqb (of_z w64 x) (of_z w64 y) (ap (of_z w64) (eq_z_true x y e)) ∙ sym e
  equal_as (inr e) = ne_eqb (of_z w64 x) (of_z w64 y) apart ∙ sym e
    where
      apart : of_z w64 x ≡ of_z w64 y → ⊥
      apart q =
          let same : x ≡ y = sym (plain x hx) ∙ ap (to_z w64) q ∙ plain y hy in
          true≢false (sym (eq_z_refl y) ∙ ap (λ (z : ℤ). eq_z z y) (sym same) ∙ e)

  pub equal_plain : eqb (of_z w64 x) (of_z w64 y) ≡ eq_z x y
  equal_plain = equal_as (decide (eq_z x y))

-- ---- the two ends of the range

-- a word below the range or above it is none of its type, whichever type the operator gives
pub below_range : (t : Ty) (z : ℤ) → lt_z z (negsuc 2_147_483_647) ≡ true → in_type t z ≡ false
unfolding in_type between lowest highest
below_range t (pos n) h = absurd (false≢true h)
below_range Ty.number (negsuc n) h = ap (λ (b : Bool). b && true) (lt-leb n 2_147_483_647 (ltb-true 2_147_483_647 n h))
below_range Ty.truth (negsuc n) h = refl

pub above_range : (t : Ty) (z : ℤ) → lt_z (pos 2_147_483_647) z ≡ true → in_type t z ≡ false
unfolding in_type between lowest highest
above_range Ty.number (pos n) h = lt-leb n 2_147_483_647 (ltb-true 2_147_483_647 n h)
above_range Ty.truth (pos n) h =
    ap₂ {C = Bool} (λ (b d : Bool). b && d) (le-leb 0 n (omega arith)) (lt-leb n 1 (omega (arith, ltb-true 2_147_483_647 n h)))
above_range t (negsuc n) h = absurd (false≢true h)

pub in_range : (z : ℤ) → lt_z z (negsuc 2_147_483_647) ≡ false → lt_z (pos 2_147_483_647) z ≡ false → Number z
unfolding in_type between lowest highest
in_range (pos n) a b = le-leb n 2_147_483_647 (ltb-false 2_147_483_647 n b)
in_range (negsuc n) a b = and_both (le-leb n 2_147_483_647 (ltb-false 2_147_483_647 n a)) refl

bit_in : (b : Bool) → in_type Ty.truth (bit b) ≡ true
unfolding in_type between
bit_in true = refl
bit_in false = refl

-- a result inside the range is a value of the operator's type
pub result_in : (o : Operator) (x y : ℤ) → Number (apply o x y) → in_type (gives o) (apply o x y) ≡ true
unfolding gives apply
result_in Operator.add x y h = h
result_in Operator.subtract x y h = h
result_in Operator.multiply x y h = h
result_in Operator.greater x y h = bit_in (lt_z y x)
result_in Operator.equal x y h = bit_in (eq_z x y)

-- ---- what the tests say of a result

module _ (o : Operator) (x y z : ℤ) (is : z ≡ apply o x y) (fits : mag z < 9_223_372_036_854_775_808) where
  back : to_z w64 (of_z w64 z) ≡ apply o x y
  back = to_z-of_z w64 z (word z fits) ∙ is

  outside : in_type (gives o) (apply o x y) ≡ false → None ≡ computed_as o x y
  outside e = rw e

  pub outside_below : lt_z (to_z w64 (of_z w64 z)) (negsuc 2_147_483_647) ≡ true → None ≡ computed_as o x y
  outside_below h = outside (below_range (gives o) (apply o x y) (ap (λ (w : ℤ). lt_z w (negsuc 2_147_483_647)) (sym back) ∙ h))

  pub outside_above : lt_z (pos 2_147_483_647) (to_z w64 (of_z w64 z)) ≡ true → None ≡ computed_as o x y
  outside_above h = outside (above_range (gives o) (apply o x y) (ap (lt_z (pos 2_147_483_647)) (sym back) ∙ h))

  pub inside : lt_z (to_z w64 (of_z w64 z)) (negsuc 2_147_483_647) ≡ false → lt_z (pos 2_147_483_647) (to_z w64 (of_z w64 z)) ≡ false
      → Some (to_z w64 (of_z w64 z)) ≡ computed_as o x y
  inside a b =
      let h : Number (apply o x y) = in_range (apply o x y)
      (ap (λ (w : ℤ). lt_z w (negsuc 2_147_483_647)) (sym back) ∙ a) (ap (lt_z (pos 2_147_483_647)) (sym back) ∙ b) in
      rw (result_in o x y h, back)

-- two numbers put down, one behind the other
pub two_put : (out : List ℤ) {one two : List ℤ} (at : ℕ) (x y : ℤ) → Number x → Number y → one ≡ set out at (to_z w64 (of_z w64 x))
    → two ≡ set one (at + 1) (to_z w64 (of_z w64 y))
    → two ≡ set (set out at x) (at + 1) y
two_put out at x y hx hy e f =
    f ∙ ap₂ {C = List ℤ} (λ (l : List ℤ) (z : ℤ). set l (at + 1) z) (e ∙ ap (set out at) (plain x hx)) (plain y hy)

-- a word that fits is read back as it was written
pub word_back : (z : ℤ) → mag z < 9_223_372_036_854_775_808 → to_z w64 (of_z w64 z) ≡ z
word_back z h = to_z-of_z w64 z (word z h)

-- three counts put down, one behind the other
pub three_put : (out : List ℤ) {one two three : List ℤ} (at i j k : ℕ) → i < 9_223_372_036_854_775_808 → j < 9_223_372_036_854_775_808
    → k < 9_223_372_036_854_775_808
    → one ≡ set out at (to_z w64 i) → two ≡ set one (at + 1) (to_z w64 j) → three ≡ set two (at + 2) (to_z w64 k)
    → three ≡ set (set (set out at (pos i)) (at + 1) (pos j)) (at + 2) (pos k)
three_put out at i j k hi hj hk e f g =
    g ∙ ap₂ {C = List ℤ} (λ (l : List ℤ) (z : ℤ). set l (at + 2) z)
    (f ∙ ap₂ {C = List ℤ} (λ (l : List ℤ) (z : ℤ). set l (at + 1) z) (e ∙ ap (set out at) (to_z_pos w64 i hi)) (to_z_pos w64 j hj)) (to_z_pos w64 k hk)

-- ---- counts

below_one_of : (z : ℤ) → lt_z z (pos 1) ≡ true → times z ≡ 0
unfolding times
below_one_of (pos zero) h = refl
below_one_of (pos (suc n)) h = absurd (omega (arith, ltb-true (suc n) 1 h))
below_one_of (negsuc n) h = refl

pub below_one : (z : ℤ) → SFits w64 z → lt_z (to_z w64 (of_z w64 z)) (pos 1) ≡ true → times z ≡ 0
below_one z fits h = below_one_of z (ap (λ (w : ℤ). lt_z w (pos 1)) (sym (to_z-of_z w64 z fits)) ∙ h)

from_one_of : (z : ℤ) → mag z < 9_223_372_036_854_775_808 → lt_z z (pos 1) ≡ false → (T (non_neg z) × Fits w64 (nat_abs z)) × (nat_abs z ≡ times z)
unfolding times
from_one_of (pos n) fits h = ((tt, record { fits = omega arith }), refl)
from_one_of (negsuc n) fits h = absurd (true≢false h)

pub from_one : (z : ℤ) → SFits w64 z → lt_z (to_z w64 (of_z w64 z)) (pos 1) ≡ false
    → (T (non_neg (to_z w64 (of_z w64 z))) × Fits w64 (nat_abs (to_z w64 (of_z w64 z)))) × (nat_abs (to_z w64 (of_z w64 z)) ≡ times z)
from_one z fits h = subst (λ (w : ℤ). lt_z w (pos 1) ≡ false → (T (non_neg w) × Fits w64 (nat_abs w)) × (nat_abs w ≡ times z)) (sym (to_z-of_z w64 z fits))
    (from_one_of z fits.sfits) h
