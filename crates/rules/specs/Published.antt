-- The published big-step rules: Figure 2 of document 001, rule by rule in its order, as an inductive relation on the trees.
-- What is added to the figure: an operator's result must be in range, and a derivation counts its statements (a repeat counts
-- once however often it is unrolled: the figure's premise for `repeat n` is the same statement). What document 01 has and the
-- figure has not: skip, which document 000 has; the test for equal numbers; signed numbers, and so a count below 0, which runs
-- nothing.
-- Assumes nothing.
use Rattle.std.specs.Prelude.{◌≡◌, true, ℕ, suc, ◌+◌, List, set, ℤ, pos, negsuc}
use Rattle.rules.specs.Value.{at, in_type}
use Rattle.rules.specs.Tree.{Operator, Expression, Statement, gives, apply}

-- store ⊢ expression ⇒ value
pub data Evaluates (store : List ℤ) : Expression → ℤ → Type 0 where
  constant : {n : ℕ} {z : ℤ} → Evaluates store (Expression.constant n z) z
  variable : {n v : ℕ} → Evaluates store (Expression.variable n v) (at store v)
  operation : {n : ℕ} {o : Operator} {a b : Expression} {x y : ℤ}
      → Evaluates store a x
      → Evaluates store b y
      → in_type (gives o) (apply o x y) ≡ true
      → Evaluates store (Expression.operation n o a b) (apply o x y)

-- store ⊢ statement ⇒ store', with so many statements
pub data Executes : List ℤ → Statement → List ℤ → ℕ → Type 0 where
  skip : {store : List ℤ} {n : ℕ} → Executes store (Statement.skip n) store 1
  assign : {store : List ℤ} {n v : ℕ} {e : Expression} {z : ℤ}
      → Evaluates store e z
      → Executes store (Statement.assign n v e) (set store v z) 1
  sequence : {store store' store'' : List ℤ} {n i j : ℕ} {s t : Statement}
      → Executes store s store' i
      → Executes store' t store'' j
      → Executes store (Statement.sequence n s t) store'' (suc (i + j))
  if_true : {store store' : List ℤ} {n i : ℕ} {e : Expression} {s t : Statement}
      → Evaluates store e (pos 1)
      → Executes store s store' i
      → Executes store (Statement.if n e s t) store' (suc i)
  if_false : {store store' : List ℤ} {n i : ℕ} {e : Expression} {s t : Statement}
      → Evaluates store e (pos 0)
      → Executes store t store' i
      → Executes store (Statement.if n e s t) store' (suc i)
  repeat_zero : {store : List ℤ} {n : ℕ} {e : Expression} {s : Statement}
      → Evaluates store e (pos 0)
      → Executes store (Statement.repeat n e s) store 1
  repeat_more : {store store' store'' : List ℤ} {n m k i j : ℕ} {e : Expression} {s : Statement}
      → Evaluates store e (pos (suc k))
      → Executes store (Statement.repeat n (Expression.constant m (pos k)) s) store' i
      → Executes store' s store'' j
      → Executes store (Statement.repeat n e s) store'' (i + j)
  repeat_below : {store : List ℤ} {n k : ℕ} {e : Expression} {s : Statement}
      → Evaluates store e (negsuc k)
      → Executes store (Statement.repeat n e s) store 1
