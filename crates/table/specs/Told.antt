-- What the parts of the check tell: a test's answer of an outcome, and the header's tests in groups.
-- Assumes nothing.
use Rattle.std.specs.Prelude.{◌≡◌, ℕ, ◌+◌, ◌*◌, ◌≤◌, min, Bool, true, false, ◌&&◌, List, [], length, leb, eqb, Result}
use Rattle.rules.specs.Outcome.{Refusal, Outcome, accepted, refused, ◌>>=◌}
use Rattle.rules.specs.Tree.{Statement, depth}
use Rattle.rules.specs.Table.{u16, marked, variables, nodes, types_of, nodes_of, make_all, root_of}
use Rattle.table.specs.declared.answer.Refusal.{Refusal as Reason}
use Rattle.table.specs.Agrees.{Agrees}

-- the answer is whether this is accepted, and if not, it is refused for this reason
pub data Tells {A : Type 0} (reason : Refusal) : Outcome A → Bool → Type 0 where
  passes : {a : A} → Tells reason (accepted a) true
  fails : Tells reason (refused reason) false

-- "variables V (1..32), nodes N (1..512)"
unfoldable pub sizes_fit : ℕ → ℕ → Bool
sizes_fit v n = leb 1 v && (leb v 32 && (leb 1 n && leb n 512))

-- "offset of types (16), offset of nodes (16+V), total length (16+V+8N), zero"
unfoldable pub offsets_fit : List ℕ → ℕ → ℕ → Bool
offsets_fit bytes v n = eqb (u16 bytes 8) 16 && (eqb (u16 bytes 10) (16 + v) && (eqb (u16 bytes 12) (16 + v + 8 * n) && eqb (u16 bytes 14) 0))

-- the header's tests, in these groups
unfoldable pub header_fits : List ℕ → Bool
header_fits bytes =
    leb 16 (length bytes)
    && (marked bytes && (sizes_fit (u16 bytes 4) (u16 bytes 6)
    && (offsets_fit bytes (u16 bytes 4) (u16 bytes 6) && eqb (length bytes) (16 + u16 bytes 4 + 8 * u16 bytes 6))))

-- what a right header tells of the table's size
pub record Headed (bytes : List ℕ) (v n : ℕ) : Type 0 where
  pub v_is : v ≡ variables bytes
  pub n_is : n ≡ nodes bytes
  pub v_some : 1 ≤ v
  pub v_few : v ≤ 32
  pub n_some : 1 ≤ n
  pub n_few : n ≤ 512
  pub long : length bytes ≡ 16 + v + 8 * n

-- the tree that the table's nodes make: a statement, or a wrong node or root
unfoldable pub tree_of : List ℕ → Outcome Statement
tree_of bytes = make_all (types_of bytes) [] (nodes_of bytes) >>= root_of

-- the answer is the tree's depth, 25 for any above 24; refused where a node or the root is wrong
abbrev pub IsDepth : Outcome Statement → Result ℕ Reason → Type 0
IsDepth = Agrees (λ root d. d ≡ min 25 (depth root))
