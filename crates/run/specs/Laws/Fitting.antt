-- What fits: a value a range, as the order of words says; a call's input the table, one value for each
-- variable, each in its type; a limit the steps that a call may have.
-- Assumes nothing.
use Rattle.std.specs.Prelude.{◌≡◌, refl, ℕ, ◌+◌, ◌≤◌, ◌<◌, Bool, true, false, ◌&&◌, List, length, get_or, take, drop, ℤ, pos, negsuc, nat_abs, T, cond, leb, ltb}
use Rattle.std.proofs.Common.{sym, ◌∙◌, subst, arith, true≢false, ⊎_elim, take_all, get_or-take, le-leb, ltb-true, ltb-false, is_le, Less, Greater, Equal, Fits, SFits, to_z, of_z}
use Rattle.std.proofs.Math.Path.{ap, ap₂}
use Rattle.std.proofs.Math.ListN.{length-drop, length-map, get_or-map, get_or-eq_default}
use Rattle.std.proofs.Math.Seq.{length-take-le, get_or-drop}
use Rattle.std.specs.Int.Signed.{lt_z, le_z, non_neg}
use mir.Syntax.{w64}
use Rattle.std.proofs.lemmas.Int.{to_z-of_z}
use Rattle.std.proofs.lemmas.Bool.{lt-leb}
use Rattle.numbers.specs.Signed.{between}
use Rattle.numbers.specs.Laws.{decide}
use Rattle.rules.specs.Value.{Ty, in_type, at, type_of, fit}
use Rattle.rules.specs.Table.{u16, header_length, variables, nodes_at, type_bytes, ty_of, types_of}
use Rattle.rules.specs.Run.{most_steps}
use Rattle.rules.proofs.Laws.Value.{zero_in}
use Rattle.rules.proofs.Laws.Store.{Good}
use Rattle.rules.proofs.Laws.Call.{fit_long, fit_good, good_fit, in_limits_lem}

-- ---- the range of a type

-- whether one word is at most another, as their order says
abbrev at_most : ℤ → ℤ → Bool
at_most x y = is_le (cond (lt_z x y) Less (cond (lt_z y x) Greater Equal))

by_order : (p q r : Bool) → (p ≡ true → r ≡ true) → (q ≡ true → r ≡ false) → (p ≡ false → q ≡ false → r ≡ true)
    → is_le (cond p Less (cond q Greater Equal)) ≡ r
by_order true q r a b c = sym (a refl)
by_order false true r a b c = sym (b refl)
by_order false false r a b c = sym (c refl refl)

at_most_is : (x y : ℤ) → at_most x y ≡ le_z x y
at_most_is (pos m) (pos n) = by_order (ltb m n) (ltb n m) (leb m n) (λ e. le-leb m n (omega (arith, ltb-true m n e))) (λ e. lt-leb m n (ltb-true n m e))
    (λ e f. le-leb m n (ltb-false n m f))
at_most_is (pos m) (negsuc n) = refl
at_most_is (negsuc m) (pos n) = refl
at_most_is (negsuc m) (negsuc n) = by_order (ltb n m) (ltb m n) (leb n m) (λ e. le-leb n m (omega (arith, ltb-true n m e))) (λ e. lt-leb n m (ltb-true m n e))
    (λ e f. le-leb n m (ltb-false m n f))

-- the test of words is that of the values
pub within_words : (low high value : ℤ) → SFits w64 low → SFits w64 high → SFits w64 value
    → at_most (to_z w64 (of_z w64 low)) (to_z w64 (of_z w64 value)) && at_most (to_z w64 (of_z w64 value)) (to_z w64 (of_z w64 high)) ≡ between low high value
unfolding between
within_words low high value fl fh fv =
    ap₂ {C = Bool} (λ (l v : ℤ). at_most l v && at_most v (to_z w64 (of_z w64 high))) (to_z-of_z w64 low fl) (to_z-of_z w64 value fv)
    ∙ ap (λ (h : ℤ). at_most low value && at_most value h) (to_z-of_z w64 high fh)
    ∙ ap₂ {C = Bool} (λ (a b : Bool). a && b) (at_most_is low value) (at_most_is value high)

-- a value passed is read back
pub between_back : (low high value : ℤ) → SFits w64 value → between low high (to_z w64 (of_z w64 value)) ≡ between low high value
between_back low high value f = ap (between low high) (to_z-of_z w64 value f)

-- ---- one value for each variable

-- a test that cannot hold is false
pub refuted : (b : Bool) → (b ≡ true → ⊥) → false ≡ b
refuted true h = absurd (h refl)
refuted false h = refl

-- how many variables, as it is read
pub count_is : (bytes : List ℕ) {count : ℕ} → count ≡ u16 bytes 4 → count ≡ variables bytes
unfolding variables
count_is bytes e = e

-- the type of a variable, as its byte says
abbrev pub type_by : List ℕ → ℕ → Ty
type_by bytes k = ty_of (get_or bytes (16 + k) 0)

module _ (bytes : List ℕ) (long : nodes_at bytes ≤ length bytes) where
  pub header_long : 16 + variables bytes ≤ length bytes
  unfolding nodes_at header_length
  header_long = long

  pub types_long : length (types_of bytes) ≡ variables bytes
  unfolding types_of type_bytes header_length
  types_long =
      length-map (take (variables bytes) (drop 16 bytes)) ty_of
      ∙ length-take-le (variables bytes) (drop 16 bytes) (rw length-drop (omega (arith, header_long)))

  pub type_at : (k : ℕ) → k < variables bytes → type_of (types_of bytes) k ≡ type_by bytes k
  unfolding types_of type_bytes header_length ty_of
  type_at k below =
      get_or-map ty_of (take (variables bytes) (drop 16 bytes)) k 0
      ∙ ap ty_of (get_or-take (variables bytes) (drop 16 bytes) k 0 below ∙ get_or-drop 16 bytes k 0)

  module _ (inputs : List ℤ) where
    -- another count of values
    pub fits_none : (length inputs ≡ variables bytes → ⊥) → false ≡ fit (types_of bytes) inputs
    fits_none other = refuted (fit (types_of bytes) inputs) λ e. other (fit_long (types_of bytes) inputs e ∙ types_long)

    -- a value that is none of its type
    pub fits_not : (k : ℕ) → k < variables bytes → in_type (type_by bytes k) (at inputs k) ≡ false → false ≡ fit (types_of bytes) inputs
    fits_not k below wrong =
        refuted (fit (types_of bytes) inputs) λ e.
        true≢false (sym (fit_good (types_of bytes) inputs e k) ∙ ap (λ (t : Ty). in_type t (at inputs k)) (type_at k below) ∙ wrong)

    -- all values are of their types
    pub fits_all : length inputs ≡ variables bytes → ((k : ℕ) → k < variables bytes → in_type (type_by bytes k) (at inputs k) ≡ true)
        → true ≡ fit (types_of bytes) inputs
    fits_all many right =
        let whole : take (length (types_of bytes)) inputs ≡ inputs = take_all (length (types_of bytes)) inputs (omega (arith, types_long)) in
        sym (rw whole at (good_fit (types_of bytes) inputs good (omega (arith, types_long))))
      where
        past : (v : ℕ) → variables bytes ≤ v → in_type (type_of (types_of bytes) v) (at inputs v) ≡ true
        past v h =
            rw (
              get_or-eq_default (types_of bytes) Ty.number {n = v} (omega (arith, types_long)),
              get_or-eq_default inputs (pos 0) {n = v} (omega arith),
            ) (zero_in Ty.number)

        inside : (v : ℕ) → v < variables bytes → in_type (type_of (types_of bytes) v) (at inputs v) ≡ true
        inside v h = rw (type_at v h) (right v h)

        good : Good (types_of bytes) inputs
        good v = ⊎_elim (λ e. inside v (ltb-true v (variables bytes) e)) (λ e. past v (ltb-false v (variables bytes) e)) (decide (ltb v (variables bytes)))

-- ---- the limit

-- a limit that a call may have is a count
pub limit_cast : (limit : ℤ) → SFits w64 limit → between (pos 1) most_steps limit ≡ true
    → T (non_neg (to_z w64 (of_z w64 limit))) × Fits w64 (nat_abs (to_z w64 (of_z w64 limit)))
limit_cast limit f h =
    let back : to_z w64 (of_z w64 limit) ≡ limit = to_z-of_z w64 limit f in
    let count = in_limits_lem limit h in
    let up : T (non_neg limit) = subst (λ (z : ℤ). T (non_neg z)) (sym count.0) tt in
    let small : Fits w64 (nat_abs limit) = record { fits = omega (arith, count.2) } in
    (subst (λ (z : ℤ). T (non_neg z)) (sym back) up, subst (λ (z : ℤ). Fits w64 (nat_abs z)) (sym back) small)
