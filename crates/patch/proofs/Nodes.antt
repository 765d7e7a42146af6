-- What is known of the node that a walk stands at: its number, its list of variables, and what it is made of by its kind.
-- Assumes nothing.
use mathlib.Core.Path.{◌≡◌, subst}
use Prim.Native.Nat.{ℕ, ◌+◌, ◌*◌, ◌≤◌, ◌<◌}
use native.Mathlib.Omega.{arith}
use mathlib.Core.Option.{some, Option}
use mathlib.Core.List.{List}
use lib.ListN.{length}
use Rattle.rules.specs.Value.{zeros, most_variables}
use Rattle.rules.specs.Tree.{Statement, node_of, mentions}
use Rattle.rules.specs.Table.{nodes, statement, Part}
use Rattle.rules.proofs.Laws.Parts.{node_at, part_at}
use Rattle.rules.proofs.Laws.Size.{weight, Small}
use Rattle.table.specs.declared.script.Script.{Script}
use Rattle.table.specs.Lists.{list_at}
use Rattle.table.specs.Laws.Row.{row_long}
use Rattle.run.specs.Laws.Statements.{node_inside}
use Rattle.run.specs.Laws.Tests.{types_inside}
use Rattle.run.specs.Code.{farthest}
use Rattle.run.specs.Statement.{Enterable as RunEnterable}
use Rattle.run.specs.Laws.Compound.{named}
use Rattle.pieces.specs.Snapshot.{Named}
use Rattle.patch.specs.Statement.{listed, Node}

-- two trees of one node are one
pub same_tree : {o : Option Part} {t u : Statement} → o ≡ some (statement t) → o ≡ some (statement u) → t ≡ u
same_tree e f = cc

-- a node's list is of at most 32 variables
pub narrow : {bytes lists : List ℕ} {node : ℕ} → Named bytes lists node → length (list_at lists node) ≤ 32
narrow named = omega (arith, named.row.few, row_long named.row)

module _ {script : Script} {node : ℕ} (k : Node script node) where
  pub for_tree : (P : Statement → Type 0) → P k.tree → (t : Statement) → part_at script.checked.table.now node ≡ some (statement t) → P t
  for_tree P h t e = subst P (same_tree k.here e) h

  pub node_is : node_of k.tree ≡ node
  node_is = named k

  pub list_is : listed script node ≡ mentions k.tree
  list_is = (script.listed.each node (statement k.tree) k.here).list

  pub inside : node < nodes script.checked.table.now
  inside = node_inside script.checked k.here

  pub named_of : Named script.checked.table.now script.lists.now.lists node
  named_of = record {
    row = (script.listed.each node (statement k.tree) k.here).row;
    few = script.listed.few;
    long = types_inside script.checked.table.now script.checked.accepted;
  }

  -- the same node as the run asks for it, of this kind
  abbrev pub as_run : {kind : ℕ} → (node_at script.checked.table.now node).kind ≡ kind → RunEnterable script node (zeros most_variables) 0 0 kind
  as_run kinded =
      let near : 0 + weight * 0 + 60_000_000 ≤ farthest = omega arith in
      record { inner = record { known = k; near = near }; kinded = kinded }

  -- a statement below
  pub child : (i : ℕ) (c : Statement) → part_at script.checked.table.now i ≡ some (statement c) → Small c → Node script i
  child i c here small = record { tree = c; here = here; small = small; fine = k.fine }
