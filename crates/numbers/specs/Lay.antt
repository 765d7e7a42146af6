-- Words laid down in a buffer from a place on. What falls past the buffer's end is not stored, only counted: `set` past the end of a
-- list changes nothing. Words laid at places that do not overlap may be laid in any order.
-- Assumes nothing.
use Rattle.std.specs.Prelude.{◌≡◌, get_or, take, drop, set}
use Rattle.std.proofs.Math.Path.{refl, ap}
use Rattle.std.proofs.Common.{sym, ◌∙◌, add-zero, take-append-drop, drop_of_length-le, take-suc, take-suc-set, length-take-le}
use Prim.Native.Nat.{ℕ, suc, ◌+◌, ◌-◌, ◌≤◌, ◌<◌}
use native.Mathlib.Omega.{arith}
use mathlib.Core.List.{List, [], ◌∷◌, ◌++◌, append_assoc, append-nil}
use Rattle.std.proofs.Math.ListN.{length, length-set}
use Rattle.std.proofs.Math.Seq.{take_all, take-set-le, drop-set-lt}
use Rattle.std.proofs.lemmas.List.{set_comm}

module _ {A : Type 0} where
  unfoldable pub lay : List A → ℕ → List A → List A
  lay out at [] = out
  lay out at (w ∷ ws) = lay (set out at w) (suc at) ws

  pub length_lay : (out : List A) (at : ℕ) (ws : List A) → length (lay out at ws) ≡ length out
  unfolding lay
  length_lay out at [] = refl
  length_lay out at (w ∷ ws) = length_lay (set out at w) (suc at) ws ∙ length-set out at w

  -- one part after the other
  pub lay_append : (out : List A) (at : ℕ) (xs ys : List A) → lay out at (xs ++ ys) ≡ lay (lay out at xs) (at + length xs) ys
  unfolding lay
  lay_append out at [] ys = ap (λ (n : ℕ). lay out n ys) (sym (add-zero at))
  lay_append out at (x ∷ xs) ys = lay_append (set out at x) (suc at) xs ys ∙ ap (λ (n : ℕ). lay (lay (set out at x) (suc at) xs) n ys) (omega arith)

  -- a word set before the place
  pub set_lay : (out : List A) (i at : ℕ) (w : A) (ws : List A) → i < at → set (lay out at ws) i w ≡ lay (set out i w) at ws
  unfolding lay
  set_lay out i at w [] h = refl
  set_lay out i at w (x ∷ xs) h = set_lay (set out at x) i (suc at) w xs (omega arith)
      ∙ ap (λ (l : List A). lay l (suc at) xs) (set_comm out at i x w (apart at i h))
    where
      apart : (at i : ℕ) → i < at → at ≡ i → ⊥
      apart at i h e = omega arith

  -- words laid before the place
  pub lay_before : (out : List A) (i at : ℕ) (vs ws : List A) → i + length vs ≤ at → lay (lay out at ws) i vs ≡ lay (lay out i vs) at ws
  unfolding lay
  lay_before out i at [] ws h = refl
  lay_before out i at (v ∷ vs) ws h =
      ap (λ (l : List A). lay l (suc i) vs) (set_lay out i at v ws (omega arith)) ∙ lay_before (set out i v) (suc i) at vs ws (omega arith)

  -- what stands before the place stays
  pub take_lay : (out : List A) (at : ℕ) (ws : List A) (n : ℕ) → n ≤ at → take n (lay out at ws) ≡ take n out
  unfolding lay
  take_lay out at [] n h = refl
  take_lay out at (w ∷ ws) n h = take_lay (set out at w) (suc at) ws n (omega arith) ∙ take-set-le n out at w h

  -- one word more
  pub lay_next : (out : List A) (at : ℕ) (ws : List A) (w : A) → lay out at (ws ++ (w ∷ [])) ≡ set (lay out at ws) (at + length ws) w
  unfolding lay
  lay_next out at ws w = lay_append out at ws (w ∷ [])

  -- one word more of those to be laid
  pub lay_take : (out : List A) (at : ℕ) (ws : List A) (i : ℕ) (d : A) → i < length ws
      → lay out at (take (suc i) ws) ≡ set (lay out at (take i ws)) (at + i) (get_or ws i d)
  lay_take out at ws i d h =
      ap (lay out at) (take-suc ws i d h) ∙ lay_next out at (take i ws) (get_or ws i d)
      ∙ ap (λ (n : ℕ). set (lay out at (take i ws)) (at + n) (get_or ws i d)) (length-take-le i ws (omega arith))

  -- words that all fall inside: what stands before them, the words, what stands behind them
  pub lay_inside : (out : List A) (at : ℕ) (ws : List A) → at + length ws ≤ length out → lay out at ws ≡ take at out ++ (ws ++ drop (at + length ws) out)
  unfolding lay
  lay_inside out at [] h = rw (add-zero, take-append-drop)
  lay_inside out at (w ∷ ws) h =
      let behind : suc at + length ws ≡ at + suc (length ws) = omega arith in
      lay_inside (set out at w) (suc at) ws (rw length-set (omega arith))
      ∙ rw (take-suc-set out at w (omega arith), drop-set-lt (suc at + length ws) out at w (omega arith), append_assoc, behind)

  -- words that reach to the end, none where the place is past it
  pub lay_to_end : (out : List A) (at : ℕ) (ws : List A) → length ws ≡ length out - at → lay out at ws ≡ take at out ++ ws
  unfolding lay
  lay_to_end out at [] h = rw (append-nil, take_all at out (omega arith))
  lay_to_end out at (w ∷ ws) h =
      lay_inside out at (w ∷ ws) (omega arith) ∙ rw (drop_of_length-le out {i = at + suc (length ws)} (omega arith), append-nil (w ∷ ws))

  -- two words set before two parts
  pub two_before : (out : List A) (i j p q : ℕ) (x y : A) (vs ws : List A) → i < p → j < p → i < q → j < q
      → set (set (lay (lay out p vs) q ws) i x) j y ≡ lay (lay (set (set out i x) j y) p vs) q ws
  two_before out i j p q x y vs ws a b c d =
      ap (λ (l : List A). set l j y) (set_lay (lay out p vs) i q x ws c ∙ ap (λ (l : List A). lay l q ws) (set_lay out i p x vs a))
      ∙ set_lay (lay (set out i x) p vs) j q y ws d
      ∙ ap (λ (l : List A). lay l q ws) (set_lay (set out i x) j p y vs b)
