-- The types, one byte after the other, and the types of the variables that they are.
-- Assumes nothing.
use Rattle.std.specs.Prelude.{◌≡◌, refl, ℕ, zero, suc, ◌+◌, ◌≤◌, ◌<◌, Bool, true, false, ◌&&◌, ◌↔◌, length, get_or, take, leb}
use Rattle.std.proofs.Math.Path.{sym, ap}
use Rattle.std.proofs.Common.{◌∙◌, not-suc-le-zero, le_of_suc-le-suc, arith, get_or-take}
use mathlib.Core.List.{List, [], ◌∷◌}
use Rattle.std.proofs.Math.ListN.{drop, length-take, length-drop, get_or-map}
use Rattle.std.proofs.lemmas.List.{length-map}
use Rattle.std.proofs.Math.Seq.{get_or-drop}
use borrow.Author.Tests.{leb-true, le-leb}
use Rattle.numbers.specs.Laws.{and_left, and_right}
use Rattle.rules.specs.Outcome.{Refusal, Outcome, accepted, ◌>>=◌, need, type_wrong}
use Rattle.rules.specs.Value.{type_of}
use Rattle.rules.specs.Table.{byte, header_length, variables, type_bytes, check_types, ty_of, types_of}
use Rattle.table.specs.Told.{Tells, passes}
use Rattle.table.specs.Sorts.{ty_byte}
use Rattle.table.specs.Laws.Tests.{tells_need, same_test}

-- ---- each byte of the types is 0 or 1

-- an accepted row of tests: this one holds, and the rest is accepted
need_both : {A : Type 0} (r : Refusal) (t : Bool) (m : Outcome A) (a : A) → (need t r >>= λ u. m) ≡ accepted a → (t ≡ true) × (m ≡ accepted a)
need_both r true m a e = (refl, e)
need_both r false m a e = let z : ◌≡◌ {A = ℕ} 0 1 = cc in absurd (omega arith)

low : List ℕ → Bool
low [] = true
low (b ∷ bs) = leb b 1 && low bs

low_told : (l : List ℕ) → Tells type_wrong (check_types l) (low l)
unfolding check_types low
low_told [] = passes
low_told (b ∷ bs) = tells_need type_wrong (leb b 1) (low bs) _ (low_told bs)

low_each : (l : List ℕ) → low l ≡ true → (k : ℕ) → k < length l → get_or l k 0 ≤ 1
unfolding low
low_each [] e k h = absurd (not-suc-le-zero h)
low_each (b ∷ bs) e zero h = leb-true b 1 (and_left (leb b 1) (low bs) e)
low_each (b ∷ bs) e (suc k) h = low_each bs (and_right (leb b 1) (low bs) e) k (le_of_suc-le-suc h)

each_low : (l : List ℕ) → ((k : ℕ) → k < length l → get_or l k 0 ≤ 1) → low l ≡ true
unfolding low
each_low [] h = refl
each_low (b ∷ bs) h = rw (le-leb b 1 (h 0 (omega arith))) (each_low bs (λ k below. h (suc k) (omega arith)))

-- each byte of types that are right is 0 or 1
all_low : (l : List ℕ) → check_types l ≡ accepted tt → (i : ℕ) → i < length l → get_or l i 0 ≤ 1
unfolding check_types
all_low [] ok i h = absurd (not-suc-le-zero h)
all_low (b ∷ bs) ok zero h = leb-true b 1 (need_both type_wrong (leb b 1) (check_types bs) tt ok).0
all_low (b ∷ bs) ok (suc i) h = all_low bs (need_both type_wrong (leb b 1) (check_types bs) tt ok).1 i (le_of_suc-le-suc h)

-- the test of each is the check of the types
pub types_told : (l : List ℕ) (r : Bool) → (r ≡ true) ↔ ((k : ℕ) → k < length l → get_or l k 0 ≤ 1) → Tells type_wrong (check_types l) r
types_told l r h = rw (same_test r (low l) (λ e. each_low l (h.0 e)) (λ e. h.1 (low_each l e))) (low_told l)

-- ---- the types of a table

-- a type is its byte
byte_type : (b : ℕ) → b ≤ 1 → b ≡ ty_byte (ty_of b)
unfolding ty_of
byte_type zero h = refl
byte_type (suc b) h = omega arith

-- the types are the bytes behind the header
pub types_at : (bytes : List ℕ) (v n : ℕ) → v ≡ variables bytes → n ≡ v → take n (drop 16 bytes) ≡ type_bytes bytes
unfolding type_bytes header_length
types_at bytes v n v_is e = rw (e, v_is)

module _ (bytes : List ℕ) (v : ℕ) (v_is : v ≡ variables bytes) (long : 16 + v ≤ length bytes) where
  types_length : length (type_bytes bytes) ≡ v
  unfolding type_bytes header_length
  types_length = rw (← v_is, length-take v (drop 16 bytes), length-drop 16 bytes) (omega arith)

  type_byte : (i : ℕ) → i < v → get_or (type_bytes bytes) i 0 ≡ byte bytes (16 + i)
  unfolding type_bytes header_length
  type_byte i h = rw (← v_is) (get_or-take v (drop 16 bytes) i 0 h ∙ get_or-drop 16 bytes i 0)

  -- each type of a table is that of its byte
  pub types_are : (i : ℕ) → i < v → ty_of (byte bytes (16 + i)) ≡ type_of (types_of bytes) i
  unfolding types_of ty_of
  types_are i h = ap ty_of (sym (type_byte i h)) ∙ sym (get_or-map ty_of (type_bytes bytes) i 0)

  -- and where the types are right, it is that byte
  pub types_are_bytes : check_types (type_bytes bytes) ≡ accepted tt → (i : ℕ) → i < v → byte bytes (16 + i) ≡ ty_byte (type_of (types_of bytes) i)
  types_are_bytes ok i h =
      let small : byte bytes (16 + i) ≤ 1 = rw (type_byte i h) at (all_low (type_bytes bytes) ok i (rw types_length h)) in
      byte_type (byte bytes (16 + i)) small ∙ ap ty_byte (types_are i h)

  pub types_count : v ≡ length (types_of bytes)
  unfolding types_of
  types_count = sym (length-map (type_bytes bytes) ty_of ∙ types_length)
