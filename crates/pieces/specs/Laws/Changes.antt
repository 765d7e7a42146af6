-- Values and their changes in 64-bit words: sums and differences of near words fit, and two truths differ where their words do.
-- Assumes nothing.
use Rattle.std.specs.Prelude.{◌≡◌, refl, ℕ, true, false, not, Bool, ◌⊎◌, eqb, ℤ, ◌+ℤ◌, ◌-ℤ◌, Option, Some, None}
use Rattle.std.proofs.Common.{sym, ap₂, ◌∙◌, subst, arith, inl, inr, SFits, to_z, of_z}
use Rattle.std.proofs.Common.{eqb-true}
use Rattle.std.proofs.lemmas.Bool.{eqb-false}
use Rattle.std.proofs.Math.Path.{ap}
use mir.Val.{bool_byte}
use Rattle.std.proofs.Math.IntN.{pos}
use Rattle.std.specs.Int.{w64}
use Rattle.std.proofs.lemmas.Int.{to_z-of_z}
use Rattle.numbers.specs.Signed.{eq_z}
use Rattle.numbers.specs.Laws.{decide, eq_z_true, eq_z_refl}
use Rattle.numbers.specs.Bounds.{mag_add, mag_sub}
use Rattle.rules.specs.Value.{differ}
use Rattle.run.specs.Laws.Numbers.{word, bit_back, truth_back, word_back, mag_in, plain}
use Rattle.pieces.specs.Change.{Near}
use Rattle.run.specs.Code.{Number}
use Rattle.rules.specs.Outcome.{choose}

-- ---- a word that is stored is read back

abbrev pub kept : ℤ → ℤ
kept z = to_z w64 (of_z w64 z)

pub near_kept : (z : ℤ) → Near z → kept z ≡ z
near_kept z h = word_back z (omega arith)

pub kept_near : (z : ℤ) → Near z → Near (kept z)
kept_near z h = subst Near (sym (near_kept z h)) h

pub number_near : (z : ℤ) → Number z → Near z
number_near z h = omega (arith, mag_in z h)

pub kept_number : (z : ℤ) → Number z → Number (kept z)
kept_number z h = subst Number (sym (plain z h)) h

-- ---- a value that was chosen, or none

module _ {A : Type 0} where
  pub chosen_in : (b : Bool) (z : A) {w : A} → choose b (Some z) None ≡ Some w → (b ≡ true) × (w ≡ z)
  chosen_in true z {w} e = (refl, same e)
    where
      same : {w : A} → ◌≡◌ {A = Option A} (Some z) (Some w) → w ≡ z
      same p = cc
  chosen_in false z {w} e = absurd (apart e)
    where
      apart : {w : A} → ◌≡◌ {A = Option A} None (Some w) → ⊥
      apart p = let q : ◌≡◌ {A = ℕ} 0 1 = cc in omega arith

  pub chosen_out : (b : Bool) (z : A) → choose b (Some z) None ≡ None → b ≡ false
  chosen_out true z e = absurd (apart e)
    where
      apart : ◌≡◌ {A = Option A} (Some z) None → ⊥
      apart p = let q : ◌≡◌ {A = ℕ} 0 1 = cc in omega arith
  chosen_out false z e = refl

-- ---- two words

module _ (x y : ℤ) (fx : SFits w64 x) (fy : SFits w64 y) where
  pub both_kept : {A : Type 0} (f : ℤ → ℤ → A) → f (kept x) (kept y) ≡ f x y
  both_kept f = ap₂ f (to_z-of_z w64 x fx) (to_z-of_z w64 y fy)

  same : of_z w64 x ≡ of_z w64 y → x ≡ y
  same e = sym (to_z-of_z w64 x fx) ∙ ap (to_z w64) e ∙ to_z-of_z w64 y fy

  -- the test of the two words
  pub differ_word : {r : ℤ} → r ≡ pos (bool_byte (not (eqb (of_z w64 x) (of_z w64 y)))) → kept r ≡ differ x y
  unfolding differ
  differ_word e = truth_back _ _ e (ap not (by (decide (eqb (of_z w64 x) (of_z w64 y)))))
    where
      by : (eqb (of_z w64 x) (of_z w64 y) ≡ true) ⊎ (eqb (of_z w64 x) (of_z w64 y) ≡ false) → eqb (of_z w64 x) (of_z w64 y) ≡ eq_z x y
      by (inl e) = rw (e, same (eqb-true _ _ e), eq_z_refl y)
      by (inr e) = known (decide (eq_z x y))
        where
          known : (eq_z x y ≡ true) ⊎ (eq_z x y ≡ false) → eqb (of_z w64 x) (of_z w64 y) ≡ eq_z x y
          known (inl t) = absurd (eqb-false _ _ e (ap (of_z w64) (eq_z_true x y t)))
          known (inr t) = rw (e, t)

  -- whether two truths differ, as it is handed on
  pub differ_kept : {r : ℤ} → r ≡ differ (kept x) (kept y) → kept r ≡ differ x y
  unfolding differ
  differ_kept e = ap (λ (z : ℤ). kept z) (e ∙ both_kept differ) ∙ bit_back (not (eq_z x y))

-- ---- sums and differences of near words

near_fits : (z : ℤ) → Near z → SFits w64 z
near_fits z h = word z (omega arith)

module _ (x y : ℤ) (nx : Near x) (ny : Near y) where
  both_near : (f : ℤ → ℤ → ℤ) → f (kept x) (kept y) ≡ f x y
  both_near f = both_kept x y (near_fits x nx) (near_fits y ny) f

  pub sum_fits : SFits w64 (kept x +ℤ kept y)
  sum_fits = subst (SFits w64) (sym (both_near (λ a b. a +ℤ b))) (word (x +ℤ y) (omega (arith, mag_add x y)))

  pub difference_fits : SFits w64 (kept x -ℤ kept y)
  difference_fits = subst (SFits w64) (sym (both_near (λ a b. a -ℤ b))) (word (x -ℤ y) (omega (arith, mag_sub x y)))

  pub sum_kept : kept (kept x +ℤ kept y) ≡ x +ℤ y
  sum_kept = to_z-of_z w64 _ sum_fits ∙ both_near (λ a b. a +ℤ b)

  pub difference_kept : kept (kept x -ℤ kept y) ≡ x -ℤ y
  difference_kept = to_z-of_z w64 _ difference_fits ∙ both_near (λ a b. a -ℤ b)
