-- Words laid down one a turn: a word that is passed is read back as it was, and after i turns the buffer has the first i words.
-- Zeros to the end, and words over zeros.
-- Assumes nothing.
use Rattle.std.specs.Prelude.{◌≡◌, ℕ, zero, suc, ◌+◌, ◌-◌, ◌≤◌, ◌<◌, List, ◌++◌, length, set, take, drop, replicate, ℤ}
use Rattle.std.proofs.Math.Path.{refl}
use Rattle.std.proofs.Common.{sym, ap, ◌∙◌, zero-add, add-one, take_all, length-drop, length-take-le, drop_of_length-le, append-nil, SFits, to_z, of_z}
use native.Mathlib.Omega.{arith}
use Rattle.std.proofs.Math.Nat.{zero-sub}
use Rattle.std.proofs.Math.Numerals.{unary_clauses}
use Rattle.std.proofs.Math.ListN.{get_or}
use Rattle.std.proofs.lemmas.List.{length-replicate}
use Rattle.std.proofs.Math.IntN.{pos}
use Rattle.std.specs.Int.{w64}
use Rattle.std.proofs.lemmas.Int.{to_z-of_z}
use Rattle.numbers.specs.Lay.{lay, length_lay, lay_take, lay_inside}
use Rattle.rules.specs.Value.{zeros, padded, most_variables}

-- the buffer with the first i of the words laid from the place on
pub record Laid (out₀ : List ℤ) (at : ℕ) (ws : List ℤ) (i : ℕ) (out : List ℤ) : Type 0 where
  pub is : out ≡ lay out₀ at (take i ws)

module _ {out₀ : List ℤ} {at : ℕ} {ws : List ℤ} where
  pub laid_none : Laid out₀ at ws 0 out₀
  unfolding lay
  laid_none = record { is = refl }

  pub laid_more : {i : ℕ} (d : ℤ) {out : List ℤ} → Laid out₀ at ws i out → i < length ws → Laid out₀ at ws (i + 1) (set out (at + i) (get_or ws i d))
  laid_more {i} d laid below = record {
    is = ap (λ (l : List ℤ). set l (at + i) (get_or ws i d)) laid.is
        ∙ sym (lay_take out₀ at ws i d below) ∙ ap (λ (n : ℕ). lay out₀ at (take n ws)) (sym (add-one i));
  }

  -- the word passed to another function
  pub laid_by : {i : ℕ} (d : ℤ) {w : ℤ} {out next : List ℤ} → Laid out₀ at ws i out → i < length ws → w ≡ get_or ws i d → SFits w64 w
      → next ≡ set out (at + i) (to_z w64 (of_z w64 w)) → Laid out₀ at ws (i + 1) next
  laid_by {i} d {w} {out} laid below is fits e = record { is = e ∙ ap (set out (at + i)) (to_z-of_z w64 w fits ∙ is) ∙ (laid_more d laid below).is }

  pub laid_all : {i : ℕ} {out : List ℤ} → Laid out₀ at ws i out → length ws ≤ i → out ≡ lay out₀ at ws
  laid_all {i} laid past = laid.is ∙ ap (lay out₀ at) (take_all i ws past)

  pub laid_long : {i : ℕ} {out : List ℤ} → Laid out₀ at ws i out → length out ≡ length out₀
  laid_long {i} laid = ap length laid.is ∙ length_lay out₀ at (take i ws)

-- ---- zeros to the end

-- what `fill` leaves behind a place
pub cleared_rest : (out : List ℤ) (from : ℕ) {part : List ℤ} → from < length out
    → part ≡ replicate (length (take (length out - from) (drop from out))) (pos 0)
    → take from out ++ (part ++ drop (length out - from) (drop from out)) ≡ take from out ++ zeros (length out - from)
unfolding zeros
cleared_rest out from below is =
    let rest : length (drop from out) ≡ length out - from = length-drop from out in
    let many : length (take (length out - from) (drop from out)) ≡ length out - from = length-take-le (length out - from) (drop from out) (omega arith) in
    rw (is, many, drop_of_length-le (drop from out) {i = length out - from} (omega arith), append-nil) refl

pub cleared_none : (out : List ℤ) (from : ℕ) → length out ≤ from → out ≡ take from out ++ zeros (length out - from)
unfolding zeros
cleared_none out from past =
    let none : length out - from ≡ 0 = omega arith in
    rw (none, append-nil) (sym (take_all from out past))

-- ---- words followed by zeros

drop_zeros : (n m : ℕ) → drop n (zeros m) ≡ zeros (m - n)
unfolding zeros
drop_zeros zero m = simp unary_clauses
drop_zeros (suc n) zero = rw (zero-sub (suc n))
drop_zeros (suc n) (suc m) = simp unary_clauses (drop_zeros n m)

pub start_long : (n : ℕ) → n ≤ most_variables → length (take n (zeros most_variables)) ≡ n
unfolding zeros
start_long n few = length-take-le n (zeros most_variables) (rw length-replicate few)

-- what a copy over the start of zeros leaves
pub copied_padded : (ws : List ℤ) → length ws ≤ most_variables → ws ++ drop (length ws) (zeros most_variables) ≡ padded ws
unfolding padded
copied_padded ws few = ap (λ (l : List ℤ). ws ++ l) (drop_zeros (length ws) most_variables)

-- laid over zeros from the start, the words are padded
pub laid_padded : (ws : List ℤ) → length ws ≤ most_variables → lay (zeros most_variables) 0 ws ≡ padded ws
unfolding padded zeros
laid_padded ws few =
    lay_inside (zeros most_variables) 0 ws (rw length-replicate (omega arith))
    ∙ ap (λ (l : List ℤ). ws ++ l) (ap (λ (n : ℕ). drop n (zeros most_variables)) (zero-add (length ws)) ∙ drop_zeros (length ws) most_variables)
