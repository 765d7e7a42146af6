-- Snapshots word by word: what all words of a list have decides for the whole, the first that has it not refuses; and the words that
-- are put into a store one a turn.
-- Assumes nothing.
use mathlib.Core.Path.{◌≡◌, refl, sym, ap, ap₂, ◌∙◌}
use Prim.Native.Nat.{ℕ, zero, suc, ◌+◌, ◌≤◌, ◌<◌}
use native.Mathlib.Omega.{arith}
use native.Mathlib.Numerals.{add-one}
use mathlib.Core.Bool.{Bool, true, false}
use mathlib.Core.Logic.{◌⊎◌, inl, inr}
use mathlib.Core.List.{List, [], ◌∷◌}
use lib.ListN.{length, get_or, set, take}
use lib.Seq.{take_all}
use lib.IntN.{ℤ, pos}
use Rattle.numbers.specs.Lay.{lay}
use Rattle.numbers.specs.Signed.{eq_z}
use Rattle.numbers.specs.Laws.{and_left, and_right, and_both, decide, eq_z_true}
use Rattle.rules.specs.Outcome.{Outcome, accepted, refused, ◌>>=◌, broken}
use Rattle.rules.specs.Value.{Ty, at, type_of, in_type, plus, minus, put, minus_all, snapshot, unchanged}
use Rattle.rules.specs.Patch.{Snapshot, read, read_in, moved, read_snapshot, moved_all}
use Rattle.pieces.specs.Old.{part, Inside}
use Rattle.pieces.specs.Laws.Old.{part_long, part_at_lem}
use Rattle.pieces.specs.Snapshot.{MovedAs, plus_each}
use Rattle.pieces.specs.Unbroken.{Unbroken}

-- ---- all changes are 0, or one is not

module _ (changes : List ℤ) where
  pub unchanged_all : (vs : List ℕ) → ((k : ℕ) → k < length vs → at changes (get_or vs k 0) ≡ pos 0) → true ≡ unchanged vs changes
  unfolding unchanged
  unchanged_all [] all = refl
  unchanged_all (v ∷ vs) all =
      let first : eq_z (at changes v) (pos 0) ≡ true = ap (λ (z : ℤ). eq_z z (pos 0)) (all 0 (omega arith)) in
      sym (and_both first (sym (unchanged_all vs (λ k below. all (suc k) (omega arith)))))

  unchanged_at : (vs : List ℕ) → unchanged vs changes ≡ true → (k : ℕ) → k < length vs → at changes (get_or vs k 0) ≡ pos 0
  unfolding unchanged
  unchanged_at [] e k below = absurd (omega arith)
  unchanged_at (v ∷ vs) e zero below = eq_z_true (at changes v) (pos 0) (and_left (eq_z (at changes v) (pos 0)) (unchanged vs changes) e)
  unchanged_at (v ∷ vs) e (suc k) below = unchanged_at vs (and_right (eq_z (at changes v) (pos 0)) (unchanged vs changes) e) k (omega arith)

  pub unchanged_not : (vs : List ℕ) (k : ℕ) → k < length vs → (at changes (get_or vs k 0) ≡ pos 0 → ⊥) → false ≡ unchanged vs changes
  unchanged_not vs k below other = by (decide (unchanged vs changes))
    where
      by : (unchanged vs changes ≡ true) ⊎ (unchanged vs changes ≡ false) → false ≡ unchanged vs changes
      by (inl e) = absurd (other (unchanged_at vs e k below))
      by (inr e) = sym e

-- ---- a snapshot that is read

module _ (types : List Ty) where
  -- a word more at the front
  fits_behind : (r : Bool) (o : Outcome Snapshot) (f : Snapshot → Snapshot) → Unbroken o r → Unbroken (o >>= λ s. accepted (f s)) r
  fits_behind r (accepted s) f h = h
  fits_behind r (refused q) f h = h

  fits_first : (v : ℕ) (vs : List ℕ) (w : ℤ) (ws : List ℤ) → in_type (type_of types v) w ≡ true → (r : Bool) → Unbroken (read_snapshot types vs ws) r
      → Unbroken (read_snapshot types (v ∷ vs) (w ∷ ws)) r
  unfolding read_snapshot read_in read
  fits_first v vs w ws e r h = rw e (fits_behind r (read_snapshot types vs ws) (λ s. record { values = w ∷ s.values; rest = s.rest }) h)

  fits_wrong : (v : ℕ) (vs : List ℕ) (w : ℤ) (ws : List ℤ) → in_type (type_of types v) w ≡ false → Unbroken (read_snapshot types (v ∷ vs) (w ∷ ws)) false
  unfolding read_snapshot read_in read
  fits_wrong v vs w ws e = rw e (refl, refl)

  fits_either : (v : ℕ) (vs : List ℕ) (w : ℤ) (ws : List ℤ) → Unbroken (read_snapshot types vs ws) false
      → Unbroken (read_snapshot types (v ∷ vs) (w ∷ ws)) false
  fits_either v vs w ws h = by (decide (in_type (type_of types v) w))
    where
      by : (in_type (type_of types v) w ≡ true) ⊎ (in_type (type_of types v) w ≡ false) → Unbroken (read_snapshot types (v ∷ vs) (w ∷ ws)) false
      by (inl e) = fits_first v vs w ws e false h
      by (inr e) = fits_wrong v vs w ws e

  -- each word is in its type
  fits_all : (vs : List ℕ) (ws : List ℤ) → length vs ≤ length ws
      → ((k : ℕ) → k < length vs → in_type (type_of types (get_or vs k 0)) (at ws k) ≡ true) → Unbroken (read_snapshot types vs ws) true
  unfolding read_snapshot
  fits_all [] ws long all = refl
  fits_all (v ∷ vs) [] long all = absurd (omega arith)
  fits_all (v ∷ vs) (w ∷ ws) long all = fits_first v vs w ws (all 0 (omega arith)) true (fits_all vs ws (omega arith) (λ k below. all (suc k) (omega arith)))

  -- too few words
  fits_short : (vs : List ℕ) (ws : List ℤ) → length ws < length vs → Unbroken (read_snapshot types vs ws) false
  unfolding read_snapshot read_in read
  fits_short [] ws short = absurd (omega arith)
  fits_short (v ∷ vs) [] short = (refl, refl)
  fits_short (v ∷ vs) (w ∷ ws) short = fits_either v vs w ws (fits_short vs ws (omega arith))

  -- a word is none of its type
  fits_not : (vs : List ℕ) (ws : List ℤ) (k : ℕ) → k < length vs → k < length ws
      → in_type (type_of types (get_or vs k 0)) (at ws k) ≡ false → Unbroken (read_snapshot types vs ws) false
  fits_not [] ws k low below wrong = absurd (omega arith)
  fits_not (v ∷ vs) [] k low below wrong = absurd (omega arith)
  fits_not (v ∷ vs) (w ∷ ws) zero low below wrong = fits_wrong v vs w ws wrong
  fits_not (v ∷ vs) (w ∷ ws) (suc k) low below wrong = fits_either v vs w ws (fits_not vs ws k (omega arith) (omega arith) wrong)

module _ (types : List Ty) (vs : List ℕ) (old : List ℤ) (from end : ℕ) (inside : Inside old from end) where
  pub stands_short : end < from + length vs → Unbroken (read_snapshot types vs (part old from end)) false
  stands_short short = fits_short types vs (part old from end) (omega (arith, part_long old from end inside.ends, inside))

  module _ (whole : from + length vs ≤ end) where
    pub stands_all : ((k : ℕ) → k < length vs → in_type (type_of types (get_or vs k 0)) (at old (from + k)) ≡ true)
        → Unbroken (read_snapshot types vs (part old from end)) true
    stands_all all =
        fits_all types vs (part old from end) (omega (arith, part_long old from end inside.ends))
        (λ k low. rw (part_at_lem old from end k (omega arith)) (all k low))

    pub stands_not : (k : ℕ) → k < length vs → in_type (type_of types (get_or vs k 0)) (at old (from + k)) ≡ false
        → Unbroken (read_snapshot types vs (part old from end)) false
    stands_not k low wrong =
        fits_not types vs (part old from end) k low (omega (arith, part_long old from end inside.ends))
        (rw (part_at_lem old from end k (omega arith)) wrong)

-- ---- a snapshot that takes its changes

module _ (types : List Ty) (changes : List ℤ) where
  -- the new value of the k-th variable
  abbrev pub new_at : List ℕ → List ℤ → ℕ → ℤ
  new_at vs ws k = plus (type_of types (get_or vs k 0)) (at ws k) (at changes (get_or vs k 0))

  -- whether it is one of its type
  abbrev pub new_fits : List ℕ → List ℤ → ℕ → Bool
  new_fits vs ws k = in_type (type_of types (get_or vs k 0)) (new_at vs ws k)

  pub each_long : (vs : List ℕ) (ws : List ℤ) → length vs ≤ length ws → length (plus_each types vs ws changes) ≡ length vs
  unfolding plus_each
  each_long [] ws long = refl
  each_long (v ∷ vs) [] long = absurd (omega arith)
  each_long (v ∷ vs) (w ∷ ws) long = ap suc (each_long vs ws (omega arith))

  pub each_at : (vs : List ℕ) (ws : List ℤ) (k : ℕ) → k < length vs → k < length ws → at (plus_each types vs ws changes) k ≡ new_at vs ws k
  unfolding plus_each
  each_at [] ws k low below = absurd (omega arith)
  each_at (v ∷ vs) [] k low below = absurd (omega arith)
  each_at (v ∷ vs) (w ∷ ws) zero low below = refl
  each_at (v ∷ vs) (w ∷ ws) (suc k) low below = each_at vs ws k (omega arith) (omega arith)

  -- each new value is in its type
  moved_all_lem : (vs : List ℕ) (ws : List ℤ) → length vs ≤ length ws
      → ((k : ℕ) → k < length vs → new_fits vs ws k ≡ true)
      → moved_all types vs ws changes ≡ accepted (plus_each types vs ws changes)
  unfolding moved_all moved plus_each
  moved_all_lem [] ws long all = refl
  moved_all_lem (v ∷ vs) [] long all = absurd (omega arith)
  moved_all_lem (v ∷ vs) (w ∷ ws) long all =
      rw (all 0 (omega arith), moved_all_lem vs ws (omega arith) (λ k below. all (suc k) (omega arith)))

  moved_wrong : (v : ℕ) (vs : List ℕ) (w : ℤ) (ws : List ℤ) → in_type (type_of types v) (plus (type_of types v) w (at changes v)) ≡ false
      → moved_all types (v ∷ vs) (w ∷ ws) changes ≡ refused broken
  unfolding moved_all moved
  moved_wrong v vs w ws e = rw e

  moved_either : (v : ℕ) (vs : List ℕ) (w : ℤ) (ws : List ℤ) → moved_all types vs ws changes ≡ refused broken
      → (in_type (type_of types v) (plus (type_of types v) w (at changes v)) ≡ true)
      ⊎ (in_type (type_of types v) (plus (type_of types v) w (at changes v)) ≡ false) → moved_all types (v ∷ vs) (w ∷ ws) changes ≡ refused broken
  unfolding moved_all moved
  moved_either v vs w ws h (inl e) = rw (e, h)
  moved_either v vs w ws h (inr e) = rw e

  -- a new value is none of its type
  moved_not : (vs : List ℕ) (ws : List ℤ) (k : ℕ) → k < length vs → k < length ws
      → new_fits vs ws k ≡ false → moved_all types vs ws changes ≡ refused broken
  moved_not [] ws k low below wrong = absurd (omega arith)
  moved_not (v ∷ vs) [] k low below wrong = absurd (omega arith)
  moved_not (v ∷ vs) (w ∷ ws) zero low below wrong = moved_wrong v vs w ws wrong
  moved_not (v ∷ vs) (w ∷ ws) (suc k) low below wrong = moved_either v vs w ws (moved_not vs ws k (omega arith) (omega arith) wrong) (decide _)

  -- as the code answers it
  module _ (vs : List ℕ) (ws : List ℤ) (long : length vs ≤ length ws) (out : List ℤ) (place : ℕ) (after : List ℤ) where
    pub moves_all : ((k : ℕ) → k < length vs → new_fits vs ws k ≡ true) → after ≡ lay out place (plus_each types vs ws changes)
        → MovedAs (moved_all types vs ws changes) true out place after
    moves_all all laid = rw (moved_all_lem vs ws long all) (refl, laid)

    pub moves_not : (k : ℕ) → k < length vs → new_fits vs ws k ≡ false
        → MovedAs (moved_all types vs ws changes) false out place after
    moves_not k low wrong = rw (moved_not vs ws k low (omega arith) wrong) (refl, refl)

-- ---- the changes against it

module _ (types : List Ty) (store : List ℤ) where
  pub minus_long : (vs : List ℕ) (ws : List ℤ) → length vs ≤ length ws → length (minus_all types vs (snapshot vs store) ws) ≡ length vs
  unfolding minus_all snapshot
  minus_long [] ws long = refl
  minus_long (v ∷ vs) [] long = absurd (omega arith)
  minus_long (v ∷ vs) (w ∷ ws) long = ap suc (minus_long vs ws (omega arith))

  pub minus_at : (vs : List ℕ) (ws : List ℤ) (k : ℕ) → k < length vs → k < length ws
      → at (minus_all types vs (snapshot vs store) ws) k ≡ minus (type_of types (get_or vs k 0)) (at store (get_or vs k 0)) (at ws k)
  unfolding minus_all snapshot
  minus_at [] ws k low below = absurd (omega arith)
  minus_at (v ∷ vs) [] k low below = absurd (omega arith)
  minus_at (v ∷ vs) (w ∷ ws) zero low below = refl
  minus_at (v ∷ vs) (w ∷ ws) (suc k) low below = minus_at vs ws k (omega arith) (omega arith)

-- ---- words put into a store, one a turn

-- the store with the first i of the words put
pub record Putting (words : List ℤ) (vs : List ℕ) (zs : List ℤ) (i : ℕ) (out : List ℤ) : Type 0 where
  pub is : out ≡ put (take i vs) (take i zs) words

put_next : (words : List ℤ) (vs : List ℕ) (zs : List ℤ) (i : ℕ) → i < length vs → i < length zs
    → put (take (suc i) vs) (take (suc i) zs) words ≡ set (put (take i vs) (take i zs) words) (get_or vs i 0) (at zs i)
unfolding put
put_next words [] zs i low below = absurd (omega arith)
put_next words (v ∷ vs) [] i low below = absurd (omega arith)
put_next words (v ∷ vs) (z ∷ zs) zero low below = refl
put_next words (v ∷ vs) (z ∷ zs) (suc i) low below = put_next (set words v z) vs zs i (omega arith) (omega arith)

module _ {words : List ℤ} {vs : List ℕ} {zs : List ℤ} where
  pub put_none : Putting words vs zs 0 words
  unfolding put
  put_none = record { is = refl }

  pub put_more : {i v : ℕ} {z : ℤ} {out : List ℤ} → Putting words vs zs i out → i < length vs → i < length zs → v ≡ get_or vs i 0 → z ≡ at zs i
      → Putting words vs zs (i + 1) (set out v z)
  put_more {i} {out = out} so low below is word = record {
    is = ap₂ {C = List ℤ} (set out) is word ∙ ap (λ (l : List ℤ). set l (get_or vs i 0) (at zs i)) so.is ∙ sym (put_next words vs zs i low below)
        ∙ ap (λ (n : ℕ). put (take n vs) (take n zs) words) (sym (add-one i));
  }

  pub put_all : {i : ℕ} {out : List ℤ} → Putting words vs zs i out → length vs ≤ i → length zs ≤ i → out ≡ put vs zs words
  put_all {i} so past over = so.is ∙ ap₂ {C = List ℤ} (λ (us : List ℕ) (ys : List ℤ). put us ys words) (take_all i vs past) (take_all i zs over)
