-- Which kind a walked entry is: one that a skip never is.
-- Assumes nothing.
use mathlib.Core.Path.{◌≡◌, sym, ap, ◌∙◌}
use Prim.Native.Nat.{ℕ}
use mathlib.Core.Bool.{true≢false}
use mathlib.Core.List.{List}
use lib.IntN.{ℤ}
use Rattle.rules.specs.Value.{unchanged}
use Rattle.rules.specs.Tree.{Statement, mentions}
use Rattle.rules.specs.Table.{Kind}
use Rattle.rules.proofs.Laws.Parts.{node_at, statement_of}
use Rattle.table.specs.Sorts.{node_of}
use Rattle.table.specs.declared.kind.Kind.TheVariants.{Assign, Sequence, If, Repeat}
use Rattle.table.specs.declared.node.Node.{Node as Read}
use Rattle.table.specs.declared.script.Script.{Script}
use Rattle.run.specs.Laws.Statements.{kind_read, built}
use Rattle.run.specs.Laws.Compound as Run
use Rattle.patch.specs.Statement.{Inner}
use Rattle.pieces.specs.declared.entry.Reached.{Reached}

module _ {script : Script} {node : ℕ} {old : List ℤ} {end : ℕ} {s : Reached} (h : Inner script node old end s) where
  -- a skip mentions nothing, so it is never walked
  no_skip : (node_at script.checked.table.now node).kind ≡ 16 → ⊥
  unfolding mentions unchanged
  no_skip e = true≢false (sym (ap (λ (t : Statement). unchanged (mentions t) s.changes.values) (statement_of (built h.known Kind.skip e))) ∙ h.changed)

  -- no other kind of node is walked
  pub no_other_kind : (x : Read) → node_of x ≡ node_at script.checked.table.now node
      → (x.kind ≡ Assign → ⊥) → (x.kind ≡ Sequence → ⊥) → (x.kind ≡ If → ⊥) → (x.kind ≡ Repeat → ⊥) → ⊥
  no_other_kind x read = Run.no_other_kind h.known x read (λ e. no_skip (kind_read x read e))
