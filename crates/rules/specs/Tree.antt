-- The program as a tree: expressions and statements, each with its node number, and the variables that they mention.
-- Assumes nothing.
use Prim.Native.Nat.{ℕ, suc, max, compare, Ordering}
use mathlib.Core.List.{List, [], ◌∷◌, foldr}
use Rattle.std.specs.Prelude.{ℤ, ◌+ℤ◌, ◌-ℤ◌, ◌*ℤ◌}
use Rattle.std.specs.Int.Signed.{lt_z}
use Rattle.numbers.specs.Signed.{eq_z}
use Rattle.rules.specs.Value.{Ty, bit}

-- ---- operators, kinds 4 to 8

pub data Operator : Type 0 where
  add : Operator
  subtract : Operator
  multiply : Operator
  greater : Operator
  equal : Operator

-- the type of its result; its operands are numbers
unfoldable pub gives : Operator → Ty
gives add = Ty.number
gives subtract = Ty.number
gives multiply = Ty.number
gives greater = Ty.truth
gives equal = Ty.truth

-- the standard arithmetic interpretation
unfoldable pub apply : Operator → ℤ → ℤ → ℤ
apply add x y = x +ℤ y
apply subtract x y = x -ℤ y
apply multiply x y = x *ℤ y
apply greater x y = bit (lt_z y x)
apply equal x y = bit (eq_z x y)

-- ---- trees

-- the first number of each is its node
pub data Expression : Type 0 where
  constant : ℕ → ℤ → Expression
  variable : ℕ → ℕ → Expression
  operation : ℕ → Operator → Expression → Expression → Expression

pub data Statement : Type 0 where
  skip : ℕ → Statement
  assign : ℕ → ℕ → Expression → Statement
  sequence : ℕ → Statement → Statement → Statement
  if : ℕ → Expression → Statement → Statement → Statement
  repeat : ℕ → Expression → Statement → Statement

unfoldable pub node_of : Statement → ℕ
node_of (skip n) = n
node_of (assign n v e) = n
node_of (sequence n s t) = n
node_of (if n e s t) = n
node_of (repeat n e s) = n

-- ---- depth: how many nodes the longest path from the root has

unfoldable pub depth_of : Expression → ℕ
depth_of (constant n z) = 1
depth_of (variable n v) = 1
depth_of (operation n o a b) = suc (max (depth_of a) (depth_of b))

unfoldable pub depth : Statement → ℕ
depth (skip n) = 1
depth (assign n v e) = suc (depth_of e)
depth (sequence n s t) = suc (max (depth s) (depth t))
depth (if n e s t) = suc (max (depth_of e) (max (depth s) (depth t)))
depth (repeat n e s) = suc (max (depth_of e) (depth s))

-- ---- "A statement mentions each variable that occurs in it, read or assigned." Lists of variables rise, each once.

-- v among w ∷ ws, by how it compares with w; `further` is v among ws
abbrev pub among : Ordering → ℕ → ℕ → List ℕ → List ℕ → List ℕ
among Ordering.lt v w ws further = v ∷ w ∷ ws
among Ordering.eq v w ws further = w ∷ ws
among Ordering.gt v w ws further = w ∷ further

unfoldable pub insert : ℕ → List ℕ → List ℕ
insert v [] = v ∷ []
insert v (w ∷ ws) = among (compare v w) v w ws (insert v ws)

unfoldable pub union : List ℕ → List ℕ → List ℕ
union vs ws = foldr insert ws vs

unfoldable pub reads : Expression → List ℕ
reads (constant n z) = []
reads (variable n v) = v ∷ []
reads (operation n o a b) = union (reads a) (reads b)

unfoldable pub mentions : Statement → List ℕ
mentions (skip n) = []
mentions (assign n v e) = insert v (reads e)
mentions (sequence n s t) = union (mentions s) (mentions t)
mentions (if n e s t) = union (reads e) (union (mentions s) (mentions t))
mentions (repeat n e s) = union (reads e) (mentions s)
