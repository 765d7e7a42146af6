-- Laws of the words before a walk: the next word, the words behind some, and the words up to some place.
-- Assumes nothing.
use Rattle.std.specs.Prelude.{◌≡◌, length, ℤ, pos}
use Rattle.std.proofs.Math.Path.{refl, sym, ap, ap₂}
use Rattle.std.proofs.Common.{◌∙◌, take-append-drop, drop-cons, drop-drop}
use Prim.Native.Nat.{ℕ, zero, suc, ◌+◌, ◌-◌, ◌≤◌, ◌<◌}
use native.Mathlib.Omega.{arith}
use mathlib.Core.List.{List, [], ◌∷◌, ◌++◌}
use Rattle.std.proofs.Math.ListN.{take, drop, length-drop}
use Rattle.std.proofs.Math.Seq.{length-take-le, get_or-take, get_or-drop, take-take}
use Rattle.rules.specs.Value.{at}
use Rattle.pieces.specs.Old.{part}

module _ (old : List ℤ) where
  pub part_none : (from end : ℕ) → end ≤ from → part old from end ≡ []
  unfolding part
  part_none from end past =
      let none : end - from ≡ 0 = omega arith in
      ap (λ (n : ℕ). take n (drop from old)) none

  pub part_long : (from end : ℕ) → end ≤ length old → length (part old from end) ≡ end - from
  unfolding part
  part_long from end inside = length-take-le (end - from) (drop from old) (omega (arith, length-drop from old))

  -- the next word, and those behind it
  pub part_next : (from end : ℕ) → from < end → end ≤ length old → part old from end ≡ at old from ∷ part old (from + 1) end
  unfolding part
  part_next from end below inside =
      let more : end - from ≡ suc (end - (from + 1)) = omega arith in
      let next : suc from ≡ from + 1 = omega arith in
      ap₂ {C = List ℤ} take more (drop-cons old from (pos 0) (omega arith))
      ∙ ap (λ (n : ℕ). at old from ∷ take (end - (from + 1)) (drop n old)) next

  pub part_at_lem : (from end i : ℕ) → i < end - from → at (part old from end) i ≡ at old (from + i)
  unfolding part
  part_at_lem from end i below = get_or-take (end - from) (drop from old) i (pos 0) below ∙ get_or-drop from old i (pos 0)

  -- the first n
  pub part_take : (from end n : ℕ) → from + n ≤ end → take n (part old from end) ≡ part old from (from + n)
  unfolding part
  part_take from end n inside =
      let same : n ≡ from + n - from = omega arith in
      take-take n (end - from) (drop from old) (omega arith) ∙ ap (λ (m : ℕ). take m (drop from old)) same

  -- those behind the first n
  pub part_drop : (from end n : ℕ) → from + n ≤ end → drop n (part old from end) ≡ part old (from + n) end
  unfolding part
  part_drop from end n inside =
      let count : end - from - n ≡ end - (from + n) = omega arith in
      drop_take n (end - from) (drop from old) (omega arith)
      ∙ ap₂ {C = List ℤ} take count (drop-drop n from old)
    where
      drop_take : (n m : ℕ) (ws : List ℤ) → n ≤ m → drop n (take m ws) ≡ take (m - n) (drop n ws)
      drop_take zero m ws le =
          let all : m - 0 ≡ m = omega arith in
          ap (λ (k : ℕ). take k ws) (sym all)
      drop_take (suc n) zero ws le = absurd (none le)
        where
          none : suc n ≤ 0 → ⊥
          none p = omega arith
      drop_take (suc n) (suc m) [] le =
          let same : suc m - suc n ≡ m - n = omega arith in
          sym (nothing (suc m - suc n))
        where
          nothing : (k : ℕ) → take {A = ℤ} k [] ≡ []
          nothing zero = refl
          nothing (suc k) = refl
      drop_take (suc n) (suc m) (w ∷ ws) le =
          let less : m - n ≡ suc m - suc n = omega arith in
          drop_take n m ws (omega arith) ∙ ap (λ (k : ℕ). take k (drop n ws)) less

  -- the words up to a place between, and those behind it
  pub part_split : (from mid end : ℕ) → from ≤ mid → mid ≤ end → part old from end ≡ part old from mid ++ part old mid end
  part_split from mid end low high =
      let place : from + (mid - from) ≡ mid = omega arith in
      sym (take-append-drop (mid - from) (part old from end))
      ∙ ap₂ {C = List ℤ} (λ (xs ys : List ℤ). xs ++ ys)
      (part_take from end (mid - from) (omega arith) ∙ ap (part old from) place)
      (part_drop from end (mid - from) (omega arith) ∙ ap (λ (p : ℕ). part old p end) place)

  -- where no word is left, the place is the end
  pub part_over : (from end : ℕ) → from ≤ end → end ≤ length old → [] ≡ part old from end → from ≡ end
  part_over from end low inside none =
      let count : length (part old from end) ≡ 0 = ap length (sym none) in
      omega (arith, part_long from end inside, count)
