-- The header of an old record: what one that passes its tests in turn names, and that one that fails a test is broken.
-- Assumes nothing.
use mathlib.Core.Path.{◌≡◌, refl, sym, ap, ap₂, ◌∙◌, subst}
use Prim.Native.Nat.{ℕ, ◌+◌, ◌-◌, ◌*◌, ◌≤◌, ◌<◌}
use native.Mathlib.Omega.{arith}
use mathlib.Core.Bool.{Bool, true, false, false≢true}
use mathlib.Core.List.{List}
use lib.ListN.{length, take, drop}
use lib.Dec.{T, leb}
use lib.IntN.{ℤ, pos, negsuc, nat_abs}
use lib.Signed.{le_z, non_neg}
use mir.Syntax.{w64}
use mir.Val.{Fits, SFits}
use mir.ValLaws.{to_z-of_z}
use borrow.Author.Tests.{le-leb, leb-true}
use Rattle.std.specs.Prelude.{Ok, Err}
use Rattle.numbers.specs.Signed.{between}
use Rattle.numbers.specs.Laws.{and_left, and_right, and_both}
use Rattle.rules.specs.Outcome.{accepted, refused, ◌>>=◌, need, broken}
use Rattle.rules.specs.Outcome as Paper
use Rattle.rules.specs.Value.{Ty, fit}
use Rattle.rules.specs.Table.{variables, types_of}
use Rattle.rules.specs.Run.{headed, most_steps}
use Rattle.rules.specs.Call.{Header, header, length_of, limit_of, steps_in, inputs_of, outputs_of}
use Rattle.rules.proofs.Laws.Outcome.{Holds, value, vacant}
use Rattle.rules.proofs.Laws.Header.{Sized}
use Rattle.table.specs.Agrees.{agrees_ok, agrees_err}
use Rattle.table.specs.declared.answer.Refusal.TheVariants.{Broken}
use Rattle.patch.specs.declared.header.Header.{Header as Code}
use Rattle.patch.specs.Call.{HeaderAs, HeaderTo}
use Rattle.patch.proofs.Inputs.{many}
use Rattle.pieces.specs.Laws.Changes.{kept}

pub between_as : {low high z low' high' z' : ℤ} → low ≡ low' → high ≡ high' → z ≡ z' → between low high z ≡ between low' high' z'
between_as {z = z} {low' = low'} {high' = high'} e f g = ap₂ {C = Bool} (λ (a b : ℤ). between a b z) e f ∙ ap (between low' high') g

-- ---- the header's tests in turn

-- what a header names
abbrev pub named : List Ty → List ℤ → Header
named types old = record {
  limit = nat_abs (limit_of old);
  inputs = inputs_of types old;
  outputs = outputs_of types old;
  root = take (nat_abs (length_of old) - (3 + 2 * length types)) (drop (3 + 2 * length types) old);
}

-- a word between two counts is a count
size_of : (z : ℤ) (a b : ℕ) → le_z (pos a) z ≡ true → le_z z (pos b) ≡ true → (z ≡ pos (nat_abs z)) × ((a ≤ nat_abs z) × (nat_abs z ≤ b))
size_of (pos n) a b e f = (refl, (leb-true a n e, leb-true n b f))
size_of (negsuc n) a b e f = absurd (false≢true e)

pub size_count : (z : ℤ) {a b : ℕ} → between (pos a) (pos b) z ≡ true → (z ≡ pos (nat_abs z)) × ((a ≤ nat_abs z) × (nat_abs z ≤ b))
unfolding between
size_count z {a} {b} e = size_of z a b (and_left (le_z (pos a) z) (le_z z (pos b)) e) (and_right (le_z (pos a) z) (le_z z (pos b)) e)

pub record Whole (types : List Ty) (old : List ℤ) (h : Header) : Type 0 where
  pub room : 3 + 2 * length types ≤ length old
  pub sized : between (pos (3 + 2 * length types)) (pos (length old)) (length_of old) ≡ true
  pub least : 3 + 2 * length types ≤ nat_abs (length_of old)
  pub inside : nat_abs (length_of old) ≤ length old
  pub limited : between (pos 1) most_steps (limit_of old) ≡ true
  pub stepped : between (pos 1) (limit_of old) (steps_in old) ≡ true
  pub inputs : fit types (inputs_of types old) ≡ true
  pub outputs : fit types (outputs_of types old) ≡ true
  pub is : h ≡ named types old

module _ (types : List Ty) (old : List ℤ) where
  -- a header is whole, or it is broken
  abbrev Verdict : Paper.Outcome Header → Type 0
  Verdict (accepted h) = Whole types old h
  Verdict (refused q) = q ≡ broken

  by_test : (b : Bool) (next : Unit {0} → Paper.Outcome Header) → (b ≡ true → Verdict (next tt))
      → Verdict (need b broken >>= next)
  by_test true next h = h refl
  by_test false next h = refl

  verdict : Verdict (header types old)
  unfolding header between
  verdict =
      by_test (leb (headed + 2 * length types) (length old)) _ λ e₁.
      by_test (le_z (pos (headed + 2 * length types)) (length_of old)) _ λ e₂.
      by_test (le_z (length_of old) (pos (length old))) _ λ e₃.
      by_test (between (pos 1) most_steps (limit_of old)) _ λ e₄.
      by_test (between (pos 1) (limit_of old) (steps_in old)) _ λ e₅.
      by_test (fit types (inputs_of types old)) _ λ e₆.
      by_test (fit types (outputs_of types old)) _ λ e₇.
      let size = size_of (length_of old) (3 + 2 * length types) (length old) e₂ e₃ in
      record {
        room = leb-true (3 + 2 * length types) (length old) e₁;
        sized = and_both e₂ e₃;
        least = size.1.0;
        inside = size.1.1;
        limited = e₄;
        stepped = e₅;
        inputs = e₆;
        outputs = e₇;
        is = refl;
      }

  pub header_whole : Holds (Whole types old) (header types old)
  header_whole = of (header types old) verdict
    where
      of : (m : Paper.Outcome Header) → Verdict m → Holds (Whole types old) m
      of (accepted h) w = value w
      of (refused q) w = vacant

  header_broken : ((h : Header) → Whole types old h → ⊥) → header types old ≡ refused broken
  header_broken none = of (header types old) verdict
    where
      of : (m : Paper.Outcome Header) → Verdict m → m ≡ refused broken
      of (accepted h) w = absurd (none h w)
      of (refused q) w = ap refused w

-- one that passes every test names this
header_named : (types : List Ty) (old : List ℤ) → 3 + 2 * length types ≤ length old
    → between (pos (3 + 2 * length types)) (pos (length old)) (length_of old) ≡ true → between (pos 1) most_steps (limit_of old) ≡ true
    → between (pos 1) (limit_of old) (steps_in old) ≡ true → fit types (inputs_of types old) ≡ true → fit types (outputs_of types old) ≡ true
    → header types old ≡ accepted (named types old)
unfolding header between
header_named types old room sized limited stepped inputs outputs =
    rw (
      le-leb (3 + 2 * length types) (length old) room,
      and_left (le_z (pos (3 + 2 * length types)) (length_of old)) (le_z (length_of old) (pos (length old))) sized,
      and_right (le_z (pos (3 + 2 * length types)) (length_of old)) (le_z (length_of old) (pos (length old))) sized,
      limited,
      stepped,
      inputs,
      outputs,
    ) refl

-- ---- as the code reads it

module _ {bytes : List ℕ} (z : Sized bytes) (old : List ℤ) where
  abbrev types : List Ty
  types = types_of bytes

  pub broken_header : ((h : Header) → Whole types old h → ⊥) → HeaderTo bytes old (Err Broken)
  broken_header none = agrees_err (header_broken types old none) refl

  pub whole_header : {r : Code} → 3 + 2 * length types ≤ length old
      → between (pos (3 + 2 * length types)) (pos (length old)) (length_of old) ≡ true → between (pos 1) most_steps (limit_of old) ≡ true
      → between (pos 1) (limit_of old) (steps_in old) ≡ true → fit types (inputs_of types old) ≡ true → fit types (outputs_of types old) ≡ true
      → HeaderAs old (named types old) r → HeaderTo bytes old (Ok r)
  whole_header room sized limited stepped inputs outputs h = agrees_ok (header_named types old room sized limited stepped inputs outputs) h

  -- the parts of the old record that the code reads, by the count that it has read
  module _ {v : ℕ} (is : v ≡ variables bytes) where
    pub inputs_are : take (3 + v - 3) (drop 3 old) ≡ inputs_of types old
    unfolding inputs_of
    inputs_are = let same : 3 + v - 3 ≡ length types = omega (arith, many z) in ap (λ (n : ℕ). take n (drop 3 old)) same

    pub outputs_are : take (3 + 2 * v - (3 + v)) (drop (3 + v) old) ≡ outputs_of types old
    unfolding outputs_of
    outputs_are =
        let same : 3 + 2 * v - (3 + v) ≡ length types = omega (arith, many z) in
        let place : 3 + v ≡ 3 + length types = omega (arith, many z) in
        ap₂ {C = List ℤ} (λ (n m : ℕ). take n (drop m old)) same place

-- such a length is a count of the code
pub size_cast : (z : ℤ) (n : ℕ) → SFits w64 z → z ≡ pos (nat_abs z) → nat_abs z ≤ n → n < 9_223_372_036_854_775_808
    → T (non_neg (kept z)) × Fits w64 (nat_abs (kept z))
size_cast z n f is le small =
    let back : kept z ≡ z = to_z-of_z w64 z f in
    let up : T (non_neg z) = subst (λ (y : ℤ). T (non_neg y)) (sym is) tt in
    let fits : Fits w64 (nat_abs z) = record { fits = omega arith } in
    (subst (λ (y : ℤ). T (non_neg y)) (sym back) up, subst (λ (y : ℤ). Fits w64 (nat_abs y)) (sym back) fits)
