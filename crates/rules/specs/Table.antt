-- "Program table": the header, the types, the nodes; the checks 1 to 5, each over the whole table before the next; and the
-- program that an accepted table is: the types of its variables and its tree.
-- Nodes are made into trees in rising order. A child is looked up among the parts made before, so "a child's number is below
-- its parent's" is that the child is there; its type and sort are those of its part.
-- Assumes nothing.
use Rattle.std.specs.Prelude.{ℕ, zero, suc, ◌+◌, ◌-◌, ◌*◌, ◌%◌, Bool, true, false, ◌&&◌, List, [], ◌∷◌, ◌++◌, map, length, get_or, take, drop, leb, ltb, eqb, ℤ, pos}
use Rattle.std.proofs.Math.Option.{Option, none, some}
use Rattle.std.proofs.Math.ListN.{get_elem?}
use Rattle.std.proofs.Math.IntN.{sub_ℕ}
use Rattle.rules.specs.Outcome.{Outcome, accepted, refused, ◌>>=◌, need, choose, header_wrong, type_wrong, node_wrong, use_wrong, too_deep}
use Rattle.rules.specs.Value.{Ty, most_variables, type_of}
use Rattle.rules.specs.Tree.{Operator, Expression, Statement, gives, depth}

-- ---- bytes, little-endian

abbrev pub byte : List ℕ → ℕ → ℕ
byte bytes i = get_or bytes i 0

unfoldable pub u16 : List ℕ → ℕ → ℕ
u16 bytes i = byte bytes i + 256 * byte bytes (suc i)

-- 32 bits as a signed number: half the range up, round, and half the range down
unfoldable pub signed : ℕ → ℤ
signed n = sub_ℕ ((n + 2_147_483_648) % 4_294_967_296) 2_147_483_648

-- ---- refusal 1: the header

unfoldable pub header_length : ℕ
header_length = 16

unfoldable pub most_nodes : ℕ
most_nodes = 512

-- the first bytes are 49 4D 50 54
unfoldable pub marked : List ℕ → Bool
marked bytes = eqb (byte bytes 0) 0x49 && eqb (byte bytes 1) 0x4d && eqb (byte bytes 2) 0x50 && eqb (byte bytes 3) 0x54

-- how many variables and nodes the header says there are
unfoldable pub variables : List ℕ → ℕ
variables bytes = u16 bytes 4

unfoldable pub nodes : List ℕ → ℕ
nodes bytes = u16 bytes 6

-- where the nodes begin and where they end, eight bytes each
unfoldable pub nodes_at : List ℕ → ℕ
nodes_at bytes = header_length + variables bytes

abbrev pub node_length : ℕ
node_length = 8

unfoldable pub total : List ℕ → ℕ
total bytes = nodes_at bytes + node_length * nodes bytes

unfoldable pub check_header : List ℕ → Outcome (Unit {0})
check_header bytes = do
  _ ← need (leb header_length (length bytes)) header_wrong
  _ ← need (marked bytes) header_wrong
  _ ← need (leb 1 (variables bytes)) header_wrong
  _ ← need (leb (variables bytes) most_variables) header_wrong
  _ ← need (leb 1 (nodes bytes)) header_wrong
  _ ← need (leb (nodes bytes) most_nodes) header_wrong
  _ ← need (eqb (u16 bytes 8) header_length) header_wrong
  _ ← need (eqb (u16 bytes 10) (nodes_at bytes)) header_wrong
  _ ← need (eqb (u16 bytes 12) (total bytes)) header_wrong
  _ ← need (eqb (u16 bytes 14) 0) header_wrong
  need (eqb (length bytes) (total bytes)) header_wrong

-- ---- refusal 2: the types

unfoldable pub type_bytes : List ℕ → List ℕ
type_bytes bytes = take (variables bytes) (drop header_length bytes)

unfoldable pub check_types : List ℕ → Outcome (Unit {0})
check_types [] = accepted tt
check_types (b ∷ bs) = do
  _ ← need (leb b 1) type_wrong
  check_types bs

-- 0 number, 1 truth
unfoldable pub ty_of : ℕ → Ty
ty_of zero = Ty.number
ty_of (suc n) = Ty.truth

unfoldable pub types_of : List ℕ → List Ty
types_of bytes = map ty_of (type_bytes bytes)

-- ---- a node's eight bytes

pub record Node : Type 0 where
  pub kind : ℕ
  pub tag : ℕ
  pub a : ℕ
  pub b : ℕ
  pub c : ℕ

unfoldable pub read_node : List ℕ → Node
read_node bytes = record { kind = byte bytes 0; tag = byte bytes 1; a = u16 bytes 2; b = u16 bytes 4; c = u16 bytes 6 }

-- a number constant's bytes 4..7
unfoldable pub constant_of : Node → ℤ
constant_of n = signed (n.b + 65536 * n.c)

unfoldable pub nodes_from : ℕ → List ℕ → List Node
nodes_from zero bytes = []
nodes_from (suc n) bytes = read_node bytes ∷ nodes_from n (drop node_length bytes)

unfoldable pub nodes_of : List ℕ → List Node
nodes_of bytes = nodes_from (nodes bytes) (drop (nodes_at bytes) bytes)

-- ---- refusal 3: kind, tag, unused bytes, children

pub data Kind : Type 0 where
  number_constant : Kind
  truth_constant : Kind
  variable : Kind
  operator : Operator → Kind
  skip : Kind
  assign : Kind
  sequence : Kind
  if : Kind
  repeat : Kind

-- the document's table: the kind with each number from 0 on
unfoldable pub kinds : List (Option Kind)
kinds =
    none
    ∷ some number_constant ∷ some truth_constant ∷ some variable
    ∷ some (operator Operator.add) ∷ some (operator Operator.subtract) ∷ some (operator Operator.multiply)
    ∷ some (operator Operator.greater) ∷ some (operator Operator.equal)
    ∷ none ∷ none ∷ none ∷ none ∷ none ∷ none ∷ none
    ∷ some skip ∷ some assign ∷ some sequence ∷ some if ∷ some repeat ∷ []

unfoldable pub kind_of : ℕ → Option Kind
kind_of k = get_or kinds k none

-- what a node is the top of
pub data Part : Type 0 where
  expression : Ty → Expression → Part
  statement : Statement → Part

unfoldable pub is_type : Ty → Ty → Bool
is_type Ty.number Ty.number = true
is_type Ty.number Ty.truth = false
is_type Ty.truth Ty.number = false
is_type Ty.truth Ty.truth = true

-- the child is an expression of this type
unfoldable pub as_expression : Ty → Option Part → Outcome Expression
as_expression t none = refused node_wrong
as_expression t (some (expression u e)) = do
  _ ← need (is_type t u) node_wrong
  accepted e
as_expression t (some (statement s)) = refused node_wrong

-- the child is a statement
unfoldable pub as_statement : Option Part → Outcome Statement
as_statement none = refused node_wrong
as_statement (some (expression t e)) = refused node_wrong
as_statement (some (statement s)) = accepted s

-- an unused byte or child field is zero
unfoldable pub unused : ℕ → Outcome (Unit {0})
unused x = need (eqb x 0) node_wrong

-- the part that a node of this kind makes of the parts before it; `self` is its number
unfoldable pub make : List Ty → List Part → ℕ → Node → Kind → Outcome Part
make types parts self n number_constant = do
  _ ← unused n.tag
  _ ← unused n.a
  accepted (expression Ty.number (Expression.constant self (constant_of n)))
make types parts self n truth_constant = do
  _ ← need (leb n.tag 1) node_wrong
  _ ← unused n.a
  _ ← unused n.b
  _ ← unused n.c
  accepted (expression Ty.truth (Expression.constant self (pos n.tag)))
make types parts self n variable = do
  _ ← need (ltb n.tag (length types)) node_wrong
  _ ← unused n.a
  _ ← unused n.b
  _ ← unused n.c
  accepted (expression (type_of types n.tag) (Expression.variable self n.tag))
make types parts self n (operator o) = do
  _ ← unused n.tag
  l ← as_expression Ty.number (get_elem? parts n.a)
  r ← as_expression Ty.number (get_elem? parts n.b)
  _ ← unused n.c
  accepted (expression (gives o) (Expression.operation self o l r))
make types parts self n skip = do
  _ ← unused n.tag
  _ ← unused n.a
  _ ← unused n.b
  _ ← unused n.c
  accepted (statement (Statement.skip self))
make types parts self n assign = do
  _ ← need (ltb n.tag (length types)) node_wrong
  e ← as_expression (type_of types n.tag) (get_elem? parts n.a)
  _ ← unused n.b
  _ ← unused n.c
  accepted (statement (Statement.assign self n.tag e))
make types parts self n sequence = do
  _ ← unused n.tag
  s ← as_statement (get_elem? parts n.a)
  t ← as_statement (get_elem? parts n.b)
  _ ← unused n.c
  accepted (statement (Statement.sequence self s t))
make types parts self n if = do
  _ ← unused n.tag
  e ← as_expression Ty.truth (get_elem? parts n.a)
  s ← as_statement (get_elem? parts n.b)
  t ← as_statement (get_elem? parts n.c)
  accepted (statement (Statement.if self e s t))
make types parts self n repeat = do
  _ ← unused n.tag
  e ← as_expression Ty.number (get_elem? parts n.a)
  s ← as_statement (get_elem? parts n.b)
  _ ← unused n.c
  accepted (statement (Statement.repeat self e s))

unfoldable pub make_kind : List Ty → List Part → ℕ → Node → Option Kind → Outcome Part
make_kind types parts self n none = refused node_wrong
make_kind types parts self n (some k) = make types parts self n k

-- the parts of all nodes, given those of the nodes before
unfoldable pub make_all : List Ty → List Part → List Node → Outcome (List Part)
make_all types parts [] = accepted parts
make_all types parts (n ∷ ns) = do
  p ← make_kind types parts (length parts) n (kind_of n.kind)
  make_all types (parts ++ p ∷ []) ns

-- "Node N-1 is the root, a statement."
unfoldable pub root_of : List Part → Outcome Statement
root_of parts = as_statement (get_elem? parts (length parts - 1))

-- ---- refusal 4: "every other node is the child of exactly one place"

-- the children that a node of this kind uses
unfoldable pub children_by : Option Kind → Node → List ℕ
children_by none n = []
children_by (some number_constant) n = []
children_by (some truth_constant) n = []
children_by (some variable) n = []
children_by (some (operator o)) n = n.a ∷ n.b ∷ []
children_by (some skip) n = []
children_by (some assign) n = n.a ∷ []
children_by (some sequence) n = n.a ∷ n.b ∷ []
children_by (some if) n = n.a ∷ n.b ∷ n.c ∷ []
children_by (some repeat) n = n.a ∷ n.b ∷ []

-- every place's child, over the whole table
unfoldable pub children : List Node → List ℕ
children [] = []
children (n ∷ ns) = children_by (kind_of n.kind) n ++ children ns

-- how many of the places have the child i
unfoldable pub uses : ℕ → List ℕ → ℕ
uses i [] = 0
uses i (p ∷ ps) = choose (eqb i p) 1 0 + uses i ps

-- each of the first n nodes is used exactly once
unfoldable pub check_uses : ℕ → List ℕ → Outcome (Unit {0})
check_uses zero places = accepted tt
check_uses (suc n) places = do
  _ ← need (eqb (uses n places) 1) use_wrong
  check_uses n places

-- ---- the whole check

unfoldable pub most_depth : ℕ
most_depth = 24

-- what an accepted table is: its variables' types and its tree
pub record Program : Type 0 where
  pub types : List Ty
  pub root : Statement

unfoldable pub check : List ℕ → Outcome Program
check bytes = do
  _ ← check_header bytes
  _ ← check_types (type_bytes bytes)
  parts ← make_all (types_of bytes) [] (nodes_of bytes)
  root ← root_of parts
  _ ← check_uses (length parts - 1) (children (nodes_of bytes))
  _ ← need (leb (depth root) most_depth) too_deep
  accepted (record { types = types_of bytes; root = root })
