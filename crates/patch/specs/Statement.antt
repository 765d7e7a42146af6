-- What the contracts of statements say, by the definitions of `visit` and `walk`: of an entry, and of its parts by the node's kind.
-- Assumes nothing.
use Rattle.std.specs.Prelude.{◌≡◌, Bool, false, List, ℕ, ◌+◌, ◌≤◌, set, ℤ, Result}
use Rattle.std.proofs.Math.Option.{some}
use Rattle.rules.specs.Value.{zeros, most_variables, unchanged}
use Rattle.rules.specs.Tree.{Statement, node_of, mentions}
use Rattle.rules.specs.Table.{types_of, statement}
use Rattle.rules.specs.Patch.{Entry, paid, visit, walk}
use Rattle.rules.proofs.Laws.Parts.{node_at, part_at}
use Rattle.table.specs.Lists.{list_at}
use Rattle.table.specs.declared.answer.Refusal.{Refusal}
use Rattle.table.specs.declared.script.Script.{Script}
use Rattle.run.specs.Statement.{Known}
use Rattle.pieces.specs.Old.{part, Inside}
use Rattle.pieces.specs.Entry.{Sound, VisitAs, WalkAs}
use Rattle.pieces.specs.declared.entry.Reached.{Reached}

-- ---- what is asked of every entry

-- the variables that a node mentions
abbrev pub listed : Script → ℕ → List ℕ
listed script node = list_at script.lists.now.lists node

-- the node is a statement of the script
abbrev pub Node : Script → ℕ → Type 0
Node script node = Known script node (zeros most_variables)

pub record Visitable (script : Script) (node : ℕ) (old : List ℤ) (end : ℕ) (s : Reached) : Type 0 where
  pub known : Node script node
  pub sound : Sound old end s

abbrev pub VisitsTo : Script → ℕ → Bool → List ℤ → ℕ → Reached → Result Reached Refusal → List ℤ → List ℤ → Type 0
VisitsTo script node last old end s r out after = (t : Statement) → part_at script.checked.table.now node ≡ some (statement t)
    → VisitAs (visit t (walk (types_of script.checked.table.now) t) last s.left s.changes.values (part old s.from end)) s r old end out after

-- the entry is met and stops here, and something that it mentions has changed
pub record Payable (script : Script) (node : ℕ) (old : List ℤ) (stop : ℕ) (s : Reached) : Type 0 where
  pub known : Node script node
  pub sound : Sound old stop s
  pub opens : s.from + 3 ≤ stop
  pub changed : unchanged (mentions known.tree) s.changes.values ≡ false

abbrev pub PaysTo : Script → ℕ → List ℤ → ℕ → Reached → Result Reached Refusal → List ℤ → List ℤ → Type 0
PaysTo script node old stop s r out after = (t : Statement) → part_at script.checked.table.now node ≡ some (statement t)
    → (end : ℕ) (e : Entry) → Inside old stop end → e.parts ≡ part old (s.from + 3) stop → e.behind ≡ part old stop end
    → VisitAs (paid (node_of t) (walk (types_of script.checked.table.now) t) e s.left s.changes.values) s r old end out after

-- the walk stands behind the opening words
pub record Inner (script : Script) (node : ℕ) (old : List ℤ) (end : ℕ) (s : Reached) : Type 0 where
  pub known : Node script node
  pub sound : Sound old end s
  pub changed : unchanged (mentions known.tree) s.changes.values ≡ false

-- and the node is of this kind
pub record Enterable (script : Script) (node : ℕ) (old : List ℤ) (end : ℕ) (s : Reached) (kind : ℕ) : Type 0 where
  pub known : Node script node
  pub sound : Sound old end s
  pub kinded : (node_at script.checked.table.now node).kind ≡ kind

abbrev pub WalksTo : Script → ℕ → List ℤ → ℕ → Reached → Result Reached Refusal → List ℤ → List ℤ → Type 0
WalksTo script node old end s r out after = (t : Statement) → part_at script.checked.table.now node ≡ some (statement t)
    → WalkAs (walk (types_of script.checked.table.now) t s.left s.changes.values (part old s.from end)) s r old end out after

-- ---- assign

pub record AssignedAs (s : Reached) (v : ℕ) (change : ℤ) (end length : ℕ) (r : Reached) : Type 0 where
  pub changes : r.changes.values ≡ set s.changes.values v change
  pub left : r.left ≡ s.left
  pub walked : r.walked ≡ s.walked
  pub reused : r.reused ≡ s.reused
  pub from : r.from ≡ end
  pub at : r.at ≡ s.at + length
