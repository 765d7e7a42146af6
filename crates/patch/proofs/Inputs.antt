-- Changes and their values: one change for each variable, that its input may take; and values with their changes.
-- Assumes nothing.
use mathlib.Core.Path.{◌≡◌, refl, sym, ap, ap₂, ◌∙◌, subst}
use Prim.Native.Nat.{ℕ, zero, suc, ◌+◌, ◌≤◌, ◌<◌}
use native.Mathlib.Omega.{arith}
use mathlib.Core.Logic.{⊎_elim}
use mathlib.Core.Bool.{Bool, true, false, true≢false, false≢true, not, ◌&&◌}
use mathlib.Core.List.{List, [], ◌∷◌}
use lib.ListN.{length, set, take}
use lib.Dec.{leb}
use lib.IntN.{ℤ, pos, negsuc, ◌+ℤ◌, ◌-ℤ◌}
use lib.Signed.{mag}
use mir.Syntax.{w64}
use mir.Val.{SFits}
use mir.ValLaws.{to_z-of_z}
use borrow.Author.Tests.{le-leb, leb-true}
use Rattle.std.proofs.Common.{add-one, zero-add, take_all}
use Rattle.numbers.specs.Lay.{lay, lay_take}
use Rattle.numbers.specs.Signed.{eq_z, between}
use Rattle.numbers.specs.Laws.{and_left, and_right, and_both, sub_back}
use Rattle.numbers.specs.Bounds.{mag_add, mag_sub}
use Rattle.rules.specs.Value.{Ty, zeros, most_variables, padded, bit, in_type, differ, plus, at, type_of, fit, plus_all}
use Rattle.rules.specs.Table.{variables, nodes_at, header_length, types_of}
use Rattle.rules.specs.Call.{is_change, legal}
use Rattle.rules.proofs.Laws.Value.{truth_cases}
use Rattle.rules.proofs.Laws.Header.{Sized}
use Rattle.rules.proofs.Laws.Call.{fit_long, fit_good, legal_long}
use Rattle.run.specs.Laws.Numbers.{mag_in, word}
use Rattle.run.specs.Laws.Fitting.{type_by, refuted, types_long, type_at}
use Rattle.run.specs.Laws.Laying.{laid_padded}
use Rattle.pieces.specs.Change.{Near, AllNear}
use Rattle.pieces.specs.Laws.Changes.{kept}
use Rattle.patch.specs.Call.{legal_change, Sums}

-- ---- values and changes are near

-- a value of a type is near
value_near : (t : Ty) (z : ℤ) → in_type t z ≡ true → Near z
value_near Ty.number z h = omega (arith, mag_in z h)
value_near Ty.truth z h = ⊎_elim (λ (e : z ≡ pos 0). small 0 e (omega arith)) (λ (e : z ≡ pos 1). small 1 e (omega arith)) (truth_cases z h)
  where
    small : (n : ℕ) → z ≡ pos n → n ≤ 1 → mag z < 2_305_843_009_213_693_952
    small n e le = let is : mag z ≡ n = ap mag e in omega arith

-- ---- one change

-- a change that one number of the range takes to another
change_near : (z c : ℤ) → in_type Ty.number z ≡ true → in_type Ty.number (z +ℤ c) ≡ true → mag c ≤ 4_294_967_296
change_near z c hz hs =
    let back : mag ((z +ℤ c) -ℤ z) ≡ mag c = ap mag (sub_back z c) in
    omega (arith, mag_sub (z +ℤ c) z, mag_in z hz, mag_in (z +ℤ c) hs, back)

-- such a change is inside the code's bounds, and what is inside them is small
mag_between : (c : ℤ) → mag c ≤ 4_294_967_296 → between (negsuc 8_589_934_591) (pos 8_589_934_592) c ≡ true
unfolding between
mag_between (pos n) h = le-leb n 8_589_934_592 (omega arith)
mag_between (negsuc n) h = and_both (le-leb n 8_589_934_591 (omega arith)) refl

between_mag : (c : ℤ) → between (negsuc 8_589_934_591) (pos 8_589_934_592) c ≡ true → mag c ≤ 8_589_934_592
unfolding between
between_mag (pos n) h = leb-true n 8_589_934_592 (and_right true (leb n 8_589_934_592) h)
between_mag (negsuc n) h = omega (arith, leb-true n 8_589_934_591 (and_left (leb n 8_589_934_591) true h))

number_legal : (z c : ℤ) → legal_change Ty.number z c ≡ in_type Ty.number (z +ℤ c)
unfolding is_change plus
number_legal z c = refl

bit_in : (b : Bool) → in_type Ty.truth (bit b) ≡ true
unfolding in_type between
bit_in true = refl
bit_in false = refl

truth_legal : (z c : ℤ) → legal_change Ty.truth z c ≡ in_type Ty.truth c
unfolding is_change plus differ
truth_legal z c = along (in_type Ty.truth c) (bit_in (not (eq_z z c)))
  where
    along : (a : Bool) {b : Bool} → b ≡ true → (a && b) ≡ a
    along true e = e
    along false e = refl

-- a change that an input may take is far inside 64 bits
change_in : (t : Ty) (z c : ℤ) → in_type t z ≡ true → legal_change t z c ≡ true → Near c
change_in Ty.number z c hz h = omega (arith, change_near z c hz (sym (number_legal z c) ∙ h))
change_in Ty.truth z c hz h = value_near Ty.truth c (sym (truth_legal z c) ∙ h)

-- ---- a number's change, as the code's words have it

module _ (z c : ℤ) (fz : SFits w64 z) (fc : SFits w64 c) (h : in_type Ty.number z ≡ true) where
  abbrev wide : Bool
  wide = between (negsuc 8_589_934_591) (pos 8_589_934_592) (kept c)

  wide_is : wide ≡ between (negsuc 8_589_934_591) (pos 8_589_934_592) c
  wide_is = ap (between (negsuc 8_589_934_591) (pos 8_589_934_592)) (to_z-of_z w64 c fc)

  both : kept z +ℤ kept c ≡ z +ℤ c
  both = ap₂ {C = ℤ} (λ (x y : ℤ). x +ℤ y) (to_z-of_z w64 z fz) (to_z-of_z w64 c fc)

  -- one that is too far
  pub change_far : wide ≡ false → false ≡ legal_change Ty.number z c
  change_far wrong = refuted (legal_change Ty.number z c) λ f.
      true≢false (sym (mag_between c (change_near z c h (sym (number_legal z c) ∙ f))) ∙ sym wide_is ∙ wrong)

  -- the sum with one that is not
  pub sum_fits : wide ≡ true → SFits w64 (kept z +ℤ kept c)
  sum_fits right =
      subst (SFits w64) (sym both) (word (z +ℤ c) (omega (arith, mag_add z c, mag_in z h, between_mag c (sym wide_is ∙ right))))

  pub change_number : wide ≡ true → in_type Ty.number (kept (kept z +ℤ kept c)) ≡ legal_change Ty.number z c
  change_number right =
      ap (in_type Ty.number) (to_z-of_z w64 (kept z +ℤ kept c) (sum_fits right) ∙ both) ∙ sym (number_legal z c)

pub change_truth : (z c : ℤ) → SFits w64 c → between (pos 0) (pos 1) (kept c) ≡ legal_change Ty.truth z c
unfolding in_type
change_truth z c fc = ap (between (pos 0) (pos 1)) (to_z-of_z w64 c fc) ∙ sym (truth_legal z c)

-- ---- one change for each variable

legal_each : (types : List Ty) (inputs changes : List ℤ) → length inputs ≡ length types → length changes ≡ length types
    → ((k : ℕ) → k < length types → legal_change (type_of types k) (at inputs k) (at changes k) ≡ true) → legal types inputs changes ≡ true
unfolding legal
legal_each [] inputs [] e f h = refl
legal_each [] inputs (c ∷ cs) e f h = absurd (omega (arith, f))
legal_each (t ∷ ts) [] changes e f h = absurd (omega (arith, e))
legal_each (t ∷ ts) (z ∷ zs) [] e f h = absurd (omega (arith, f))
legal_each (t ∷ ts) (z ∷ zs) (c ∷ cs) e f h =
    and_both (h zero (omega arith)) (legal_each ts zs cs (omega (arith, e)) (omega (arith, f)) (λ k below. h (suc k) (omega arith)))

legal_at : (types : List Ty) (inputs changes : List ℤ) → legal types inputs changes ≡ true
    → (k : ℕ) → k < length types → legal_change (type_of types k) (at inputs k) (at changes k) ≡ true
unfolding legal
legal_at [] inputs changes h k below = absurd (omega (arith, below))
legal_at (t ∷ ts) [] changes h k below = absurd (false≢true h)
legal_at (t ∷ ts) (z ∷ zs) [] h k below = absurd (false≢true h)
legal_at (t ∷ ts) (z ∷ zs) (c ∷ cs) h zero below = and_left (legal_change t z c) (legal ts zs cs) h
legal_at (t ∷ ts) (z ∷ zs) (c ∷ cs) h (suc k) below = legal_at ts zs cs (and_right (legal_change t z c) (legal ts zs cs) h) k (omega (arith, below))

-- the changes of a legal list are near
pub legal_near : (types : List Ty) (inputs changes : List ℤ) → fit types inputs ≡ true → legal types inputs changes ≡ true → AllNear changes
unfolding legal fit
legal_near [] [] [] f h v = omega arith
legal_near [] (z ∷ zs) changes f h v = absurd (false≢true f)
legal_near [] [] (c ∷ cs) f h v = absurd (false≢true h)
legal_near (t ∷ ts) [] changes f h v = absurd (false≢true h)
legal_near (t ∷ ts) (z ∷ zs) [] f h v = absurd (false≢true h)
legal_near (t ∷ ts) (z ∷ zs) (c ∷ cs) f h zero = change_in t z c (and_left (in_type t z) (fit ts zs) f) (and_left (legal_change t z c) (legal ts zs cs) h)
legal_near (t ∷ ts) (z ∷ zs) (c ∷ cs) f h (suc v) = legal_near ts zs cs (and_right (in_type t z) (fit ts zs) f)
    (and_right (legal_change t z c) (legal ts zs cs) h) v

-- the table's types are there
pub types_inside : {bytes : List ℕ} → Sized bytes → nodes_at bytes ≤ length bytes
unfolding nodes_at header_length
types_inside z = omega (arith, z.whole)

module _ {bytes : List ℕ} (z : Sized bytes) where
  pub many : length (types_of bytes) ≡ variables bytes
  many = types_long bytes (types_inside z)

  module _ (inputs : List ℤ) (fits : fit (types_of bytes) inputs ≡ true) where
    pub inputs_long : length inputs ≡ variables bytes
    inputs_long = fit_long (types_of bytes) inputs fits ∙ many

    pub input_in : (k : ℕ) → k < variables bytes → in_type (type_by bytes k) (at inputs k) ≡ true
    input_in k below = ap (λ (t : Ty). in_type t (at inputs k)) (sym (type_at bytes (types_inside z) k below)) ∙ fit_good (types_of bytes) inputs fits k

    module _ (changes : List ℤ) where
      -- another count of changes
      pub legal_none : (length changes ≡ variables bytes → ⊥) → false ≡ legal (types_of bytes) inputs changes
      legal_none other = refuted (legal (types_of bytes) inputs changes) λ e. other (legal_long (types_of bytes) inputs changes e ∙ many)

      -- a change that its input may not take
      pub legal_not : (k : ℕ) → k < variables bytes → legal_change (type_by bytes k) (at inputs k) (at changes k) ≡ false
          → false ≡ legal (types_of bytes) inputs changes
      legal_not k below wrong =
          refuted (legal (types_of bytes) inputs changes) λ e.
          true≢false (sym (legal_at (types_of bytes) inputs changes e k (omega (arith, many))) ∙ ap (λ (t : Ty). legal_change t (at inputs k) (at changes k)) (type_at bytes (types_inside z) k below) ∙ wrong)

      -- every input may take its change
      pub legal_all : length changes ≡ variables bytes → ((k : ℕ) → k < variables bytes → legal_change (type_by bytes k) (at inputs k) (at changes k) ≡ true)
          → true ≡ legal (types_of bytes) inputs changes
      legal_all each right =
          sym (legal_each (types_of bytes) inputs changes (fit_long (types_of bytes) inputs fits) (each ∙ sym many) λ k below.
          let less : k < variables bytes = omega (arith, many) in
          ap (λ (t : Ty). legal_change t (at inputs k) (at changes k)) (type_at bytes (types_inside z) k less) ∙ right k less)

-- ---- values with their changes

sums_long : (types : List Ty) (words changes : List ℤ) → length words ≡ length types → length types ≤ length changes
    → length (plus_all types words changes) ≡ length types
unfolding plus_all
sums_long [] words changes e le = refl
sums_long (t ∷ ts) [] changes e le = absurd (omega (arith, e))
sums_long (t ∷ ts) (z ∷ zs) [] e le = absurd (omega (arith, le))
sums_long (t ∷ ts) (z ∷ zs) (c ∷ cs) e le = ap suc (sums_long ts zs cs (omega (arith, e)) (omega (arith, le)))

sums_at : (types : List Ty) (words changes : List ℤ) → length words ≡ length types → length types ≤ length changes
    → (k : ℕ) → k < length types → at (plus_all types words changes) k ≡ plus (type_of types k) (at words k) (at changes k)
unfolding plus_all
sums_at [] words changes e le k below = absurd (omega (arith, below))
sums_at (t ∷ ts) [] changes e le k below = absurd (omega (arith, e))
sums_at (t ∷ ts) (z ∷ zs) [] e le k below = absurd (omega (arith, le))
sums_at (t ∷ ts) (z ∷ zs) (c ∷ cs) e le zero below = refl
sums_at (t ∷ ts) (z ∷ zs) (c ∷ cs) e le (suc k) below = sums_at ts zs cs (omega (arith, e)) (omega (arith, le)) k (omega (arith, below))

-- one for each variable
pub sums_length : {bytes : List ℕ} → Sized bytes → (words changes : List ℤ) → fit (types_of bytes) words ≡ true → variables bytes ≤ length changes
    → length (plus_all (types_of bytes) words changes) ≡ variables bytes
sums_length {bytes} z words changes fits enough = sums_long (types_of bytes) words changes (fit_long (types_of bytes) words fits) (omega (arith, many z)) ∙ many z

module _ {bytes : List ℕ} {words changes : List ℤ} (s : Sums bytes words changes) where
  few : variables bytes ≤ 32
  few = s.sized.few

  enough : length (types_of bytes) ≤ length changes
  enough = omega (arith, many s.sized, few, s.long)

  pub all_long : length (plus_all (types_of bytes) words changes) ≡ variables bytes
  all_long = sums_length s.sized words changes s.fits (omega (arith, few, s.long))

  pub near_both : (k : ℕ) → Near (at words k) × Near (at changes k)
  near_both k = (value_near (type_of (types_of bytes) k) (at words k) (fit_good (types_of bytes) words s.fits k), s.near k)

  pub sum_at : (k : ℕ) → k < variables bytes → plus (type_by bytes k) (at words k) (at changes k) ≡ at (plus_all (types_of bytes) words changes) k
  sum_at k below =
      ap (λ (t : Ty). plus t (at words k) (at changes k)) (sym (type_at bytes (types_inside s.sized) k below))
      ∙ sym (sums_at (types_of bytes) words changes (fit_long (types_of bytes) words s.fits) enough k (omega (arith, many s.sized)))

  -- one more sum laid behind those before it
  pub sum_more : {i : ℕ} {values : List ℤ} {word : ℤ} → i < variables bytes
      → values ≡ lay (zeros most_variables) 0 (take i (plus_all (types_of bytes) words changes))
      → word ≡ plus (type_by bytes i) (at words i) (at changes i)
      → set values i word ≡ lay (zeros most_variables) 0 (take (i + 1) (plus_all (types_of bytes) words changes))
  sum_more {i} below is w =
      let all = plus_all (types_of bytes) words changes in
      ap₂ {C = List ℤ} (λ (l : List ℤ) (z : ℤ). set l i z) is (w ∙ sum_at i below)
      ∙ sym (rw (zero-add i) at (lay_take (zeros most_variables) 0 all i (pos 0) (omega (arith, all_long))))
      ∙ ap (λ (n : ℕ). lay (zeros most_variables) 0 (take n all)) (sym (add-one i))

  pub sums_all : {i : ℕ} {values : List ℤ} → variables bytes ≤ i
      → values ≡ lay (zeros most_variables) 0 (take i (plus_all (types_of bytes) words changes))
      → values ≡ padded (plus_all (types_of bytes) words changes)
  unfolding most_variables
  sums_all {i} past is =
      let all = plus_all (types_of bytes) words changes in
      is ∙ ap (lay (zeros most_variables) 0) (take_all i all (omega (arith, all_long)))
      ∙ laid_padded all (omega (arith, all_long, few))
