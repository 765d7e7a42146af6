-- Tests in a row, as the code makes them: the first that fails ends it, and then the whole fails.
-- Assumes nothing.
use Rattle.std.specs.Prelude.{◌≡◌, refl, ℕ, ◌+◌, ◌*◌, ◌≤◌, Bool, true, false, ◌&&◌, List, [], ◌∷◌, length, leb}
use Rattle.std.proofs.Common.{arith, sym, true≢false, eq-eqb, leb-true, eqb-true}
use Rattle.std.proofs.lemmas.Bool.{false≢true}
use Rattle.std.specs.List.{starts_with}
use Rattle.std.proofs.Math.Dec.{eqb}
use Rattle.numbers.specs.Laws.{and_left, and_right}
use Rattle.rules.specs.Outcome.{Refusal, Outcome, accepted, refused, ◌>>=◌, need, header_wrong}
use Rattle.rules.specs.Value.{most_variables}
use Rattle.rules.specs.Table.{u16, header_length, most_nodes, marked, variables, nodes, nodes_at, total, check_header}
use Rattle.table.specs.Told.{Tells, passes, fails, sizes_fit, offsets_fit, header_fits, Headed}

-- ---- a row of tests

-- this test fails
pub here : (a b : Bool) → a ≡ false → false ≡ (a && b)
here true b e = absurd (true≢false e)
here false b e = refl

-- one behind it fails
pub later : (a b : Bool) → false ≡ b → false ≡ (a && b)
later true b e = e
later false b e = refl

-- this test holds
pub keep : (a b : Bool) → a ≡ true → b ≡ (a && b)
keep true b e = refl
keep false b e = absurd (false≢true e)

-- ---- what a test says

-- two tests that hold in the same cases
pub same_test : (a b : Bool) → (a ≡ true → b ≡ true) → (b ≡ true → a ≡ true) → a ≡ b
same_test true b f g = sym (f refl)
same_test false true f g = g refl
same_test false false f g = refl

-- by the answer
pub told_wrong : {A : Type 0} {r : Refusal} (m : Outcome A) {b : Bool} → Tells r m b → b ≡ false → m ≡ refused r
told_wrong m passes e = absurd (true≢false e)
told_wrong m fails e = refl

pub told_right : {r : Refusal} (m : Outcome (Unit {0})) {b : Bool} → Tells r m b → b ≡ true → m ≡ accepted tt
told_right m passes e = refl
told_right m fails e = absurd (false≢true e)

-- ---- a row of tests that refuse for one reason

pub tells_need : {A : Type 0} (r : Refusal) (a b : Bool) (next : Unit {0} → Outcome A) → Tells r (next tt) b → Tells r (need a r >>= next) (a && b)
tells_need r true b next t = t
tells_need r false b next t = fails

tells_four : {A : Type 0} (r : Refusal) (a b c d e : Bool) (next : Unit {0} → Outcome A) → Tells r (next tt) e
    → Tells r (need a r >>= λ u. need b r >>= λ u. need c r >>= λ u. need d r >>= next) ((a && (b && (c && d))) && e)
tells_four r false b c d e next t = fails
tells_four r true false c d e next t = fails
tells_four r true true false d e next t = fails
tells_four r true true true false e next t = fails
tells_four r true true true true e next t = t

tells_last : (r : Refusal) (a : Bool) → Tells r (need a r) a
tells_last r true = passes
tells_last r false = fails

-- ---- the header's tests, in the groups of the code

pub header_told : (bytes : List ℕ) → Tells header_wrong (check_header bytes) (header_fits bytes)
unfolding check_header header_fits sizes_fit offsets_fit header_length most_nodes most_variables variables nodes nodes_at total
header_told bytes =
    tells_need header_wrong (leb 16 (length bytes)) _ _ (tells_need header_wrong (marked bytes) _ _
    (tells_four header_wrong (leb 1 (variables bytes)) (leb (variables bytes) 32) (leb 1 (nodes bytes)) (leb (nodes bytes) 512) _ _
    (tells_four header_wrong (eqb (u16 bytes 8) 16) (eqb (u16 bytes 10) (nodes_at bytes)) (eqb (u16 bytes 12) (total bytes)) (eqb (u16 bytes 14) 0) _ _
    (tells_last header_wrong (eqb (length bytes) (total bytes))))))

-- ---- the mark

eqb_back : (a b : ℕ) → eqb a b ≡ eqb b a
eqb_back a b = same_test (eqb a b) (eqb b a) (λ e. eq-eqb b a (sym (eqb-true a b e))) (λ e. eq-eqb a b (sym (eqb-true b a e)))

pub mark_told : (bytes : List ℕ) → 16 ≤ length bytes → starts_with eqb bytes (0x49 ∷ 0x4d ∷ 0x50 ∷ 0x54 ∷ []) ≡ marked bytes
unfolding marked
mark_told [] h = absurd (omega arith)
mark_told (a ∷ []) h = absurd (omega arith)
mark_told (a ∷ b ∷ []) h = absurd (omega arith)
mark_told (a ∷ b ∷ c ∷ []) h = absurd (omega arith)
mark_told (a ∷ b ∷ c ∷ d ∷ rest) h = rw (eqb_back 0x49 a, eqb_back 0x4d b, eqb_back 0x50 c, eqb_back 0x54 d) (grind arith)

-- ---- what a right header tells

-- the sizes of a table whose header is right
pub headed : (bytes : List ℕ) → header_fits bytes ≡ true → Headed bytes (u16 bytes 4) (u16 bytes 6)
unfolding variables nodes sizes_fit header_fits
headed bytes all =
    let v = u16 bytes 4 in
    let n = u16 bytes 6 in
    let most : (sizes_fit v n && (offsets_fit bytes v n && eqb (length bytes) (16 + v + 8 * n))) ≡ true
    = and_right (marked bytes) _ (and_right (leb 16 (length bytes)) _ all) in
    let sizes : (leb 1 v && (leb v 32 && (leb 1 n && leb n 512))) ≡ true = and_left (sizes_fit v n) _ most in
    let few : (leb v 32 && (leb 1 n && leb n 512)) ≡ true = and_right (leb 1 v) _ sizes in
    let nodes : (leb 1 n && leb n 512) ≡ true = and_right (leb v 32) _ few in
    record {
      v_is = refl;
      n_is = refl;
      v_some = leb-true 1 v (and_left (leb 1 v) _ sizes);
      v_few = leb-true v 32 (and_left (leb v 32) _ few);
      n_some = leb-true 1 n (and_left (leb 1 n) _ nodes);
      n_few = leb-true n 512 (and_right (leb 1 n) _ nodes);
      long = eqb-true _ _ (and_right (offsets_fit bytes v n) _ (and_right (sizes_fit v n) _ most));
    }
