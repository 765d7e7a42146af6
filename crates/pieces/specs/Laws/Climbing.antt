-- Lists of variables that rise, each once, as those that an expression reads and a statement mentions: what is put by such a list is
-- read back by it.
-- Assumes nothing.
use Rattle.std.specs.Prelude.{◌≡◌, refl, List, [], ◌∷◌, length, set, ℤ, pos}
use Rattle.std.proofs.Common.{ap, ap₂, ◌∙◌, arith, leb-true, leb-false, length-set, get_or-set_same, get_or-set_other}
use Prim.Native.Nat.{ℕ, suc, ◌≤◌, zero-le, ◌<◌, compare, Ordering}
use Rattle.std.proofs.lemmas.Bool.{eqb-false}
use Rattle.std.proofs.Math.Dec.{is_le, compare_is_eq}
use Rattle.rules.specs.Value.{at, put, snapshot}
use Rattle.rules.specs.Tree.{Expression, constant, variable, operation, Statement, skip, assign, sequence, if, repeat, among, insert, union, reads, mentions}
use Rattle.rules.specs.Table.{Part, expression, statement}
use Rattle.rules.proofs.Laws.Parts.{vars_of}
use Rattle.rules.proofs.Laws.Rising.{Below, below_head, below_tail}

-- they rise, and none is below k
pub data Climbs : ℕ → List ℕ → Type 0 where
  none : {k : ℕ} → Climbs k []
  next : {k : ℕ} (v : ℕ) {vs : List ℕ} → k ≤ v → Climbs (suc v) vs → Climbs k (v ∷ vs)

-- ---- insert and union

among_climbs : (o : Ordering) {k v w : ℕ} {ws further : List ℕ} → compare v w ≡ o → k ≤ v → k ≤ w → Climbs (suc w) ws → (w < v → Climbs (suc w) further)
    → Climbs k (among o v w ws further)
among_climbs Ordering.lt {v = v} {w} e hv hw c f =
    let below : v < w = less (leb-true v w (ap is_le e)) (eqb-false v w (ap compare_is_eq e)) in
    next v hv (next w below c)
  where
    less : v ≤ w → (v ≡ w → ⊥) → v < w
    less le apart = omega arith
among_climbs Ordering.eq {w = w} e hv hw c f = next w hw c
among_climbs Ordering.gt {v = v} {w} e hv hw c f = next w hw (f (leb-false v w (ap is_le e)))

insert_climbs : (v : ℕ) {k : ℕ} {ws : List ℕ} → k ≤ v → Climbs k ws → Climbs k (insert v ws)
unfolding insert
insert_climbs v h none = next v h none
insert_climbs v h (next w g c) = among_climbs (compare v w) refl h g c (λ l. insert_climbs v l c)

union_climbs : (vs : List ℕ) {ws : List ℕ} → Climbs 0 ws → Climbs 0 (union vs ws)
unfolding union
union_climbs [] c = c
union_climbs (v ∷ vs) c = insert_climbs v (omega arith) (union_climbs vs c)

-- ---- the variables of a part

reads_climb : (e : Expression) → Climbs 0 (reads e)
unfolding reads
reads_climb (constant n z) = none
reads_climb (variable n v) = next v zero-le none
reads_climb (operation n o a b) = union_climbs (reads a) (reads_climb b)

mentions_climb : (s : Statement) → Climbs 0 (mentions s)
unfolding mentions
mentions_climb (skip n) = none
mentions_climb (assign n v e) = insert_climbs v (omega arith) (reads_climb e)
mentions_climb (sequence n s t) = union_climbs (mentions s) (mentions_climb t)
mentions_climb (if n e s t) = union_climbs (reads e) (union_climbs (mentions s) (mentions_climb t))
mentions_climb (repeat n e s) = union_climbs (reads e) (mentions_climb s)

pub vars_climb : (q : Part) → Climbs 0 (vars_of q)
vars_climb (expression t e) = reads_climb e
vars_climb (statement s) = mentions_climb s

-- ---- what is put is read back

put_other : {k : ℕ} {vs : List ℕ} → Climbs k vs → (zs words : List ℤ) (v : ℕ) → v < k → at (put vs zs words) v ≡ at words v
unfolding put
put_other none zs words v below = refl
put_other (next w h c) [] words v below = refl
put_other (next w h c) (z ∷ zs) words v below =
    put_other c zs (set words w z) v (omega arith) ∙ get_or-set_other words w v z (pos 0) (λ e. omega arith)

pub put_back : {k : ℕ} {vs : List ℕ} → Climbs k vs → (zs words : List ℤ) → Below (length words) vs → length zs ≡ length vs → snapshot vs (put vs zs words) ≡ zs
unfolding put snapshot
put_back none [] words known many = refl
put_back none (z ∷ zs) words known many = absurd (omega arith)
put_back (next w h c) [] words known many = absurd (omega arith)
put_back (next v {vs} h c) (z ∷ zs) words known many =
    let first : at (put vs zs (set words v z)) v ≡ z =
    put_other c zs (set words v z) v (omega arith) ∙ get_or-set_same words v z (pos 0) (below_head (length words) v vs known) in
    let kept : Below (length (set words v z)) vs = rw (length-set words v z) (below_tail (length words) v vs known) in
    ap₂ {C = List ℤ} (λ w ws. w ∷ ws) first (put_back c zs (set words v z) kept (cc))
