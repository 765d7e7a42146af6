-- What the contracts of an if say: its head with both snapshots and the condition's record, and then the branch, kept or flipped.
-- Assumes nothing.
use Rattle.std.specs.Prelude.{◌≡◌, List, ℕ, ◌+◌, ◌*◌, length, ℤ, Result}
use Rattle.std.proofs.Math.Option.{some}
use Rattle.numbers.specs.Lay.{lay}
use Rattle.rules.specs.Outcome.{accepted, ◌>>=◌, choose}
use Rattle.rules.specs.Outcome as Paper
use Rattle.rules.specs.Value.{Ty}
use Rattle.rules.specs.Tree.{Expression, Statement, if, mentions}
use Rattle.rules.specs.Table.{types_of, statement}
use Rattle.rules.specs.Run.{holds, run}
use Rattle.rules.specs.Patch.{Fork, read_snapshot, shift, kept, flipped, visit, walk}
use Rattle.rules.proofs.Laws.Parts.{part_at}
use Rattle.table.specs.Agrees.{Agrees}
use Rattle.table.specs.declared.answer.Refusal.{Refusal}
use Rattle.table.specs.declared.script.Script.{Script}
use Rattle.pieces.specs.Old.{part}
use Rattle.pieces.specs.Entry.{WalkAs}
use Rattle.pieces.specs.declared.entry.Reached.{Reached}
use Rattle.patch.specs.Statement.{Enterable}
use Rattle.patch.specs.Head.{head_of}

unfoldable pub fork_of : List Ty → List ℕ → Expression → ℕ → List ℤ → List ℤ → Paper.Outcome Fork
fork_of types vs e left changes ws = do
  h ← head_of types Ty.truth vs changes ws
  a ← read_snapshot types vs h.snap.rest
  x ← shift e changes a.rest
  accepted
      (record {
        left = left;
        changes = changes;
        vs = vs;
        condition = h.word;
        before = h.snap.new;
        after = a.values;
        test = x;
      })

-- the new words of an if up to its branch: the condition and the snapshot after come later
abbrev pub fork_laid : List ℤ → ℕ → Fork → List ℤ
fork_laid out at f = lay (lay out (at + 1) f.before) (at + 1 + 2 * length f.vs) f.test.words

-- the change of the condition, and the length of its record
pub record ForkedAs (out : List ℤ) (at : ℕ) (after : List ℤ) (f : Fork) (p : ℤ × ℕ) : Type 0 where
  pub change : p.0 ≡ f.test.change
  pub long : p.1 ≡ length f.test.words
  pub lays : after ≡ fork_laid out at f

abbrev pub ForkAs : Paper.Outcome Fork → Result (ℤ × ℕ) Refusal → List ℤ → ℕ → List ℤ → Type 0
ForkAs m r out at after = Agrees (ForkedAs out at after) m r

abbrev pub ForksTo : Script → ℕ → List ℤ → ℕ → Reached → Result (ℤ × ℕ) Refusal → List ℤ → List ℤ → Type 0
ForksTo script node old end s r out after = (n : ℕ) (e : Expression) (a b : Statement) → part_at script.checked.table.now node ≡ some (statement (if n e a b))
    → ForkAs (fork_of (types_of script.checked.table.now) (mentions (if n e a b)) e s.left s.changes.values (part old s.from end)) r out s.at after

-- the head is read: this is the fork, and so long is the condition's record
pub record Forked (script : Script) (node length' : ℕ) (old : List ℤ) (end : ℕ) (s : Reached) : Type 0 where
  pub entered : Enterable script node old end s 19
  pub e : Expression
  pub a : Statement
  pub b : Statement
  pub here : part_at script.checked.table.now node ≡ some (statement (if node e a b))
  pub fork : Fork
  pub forks : fork_of (types_of script.checked.table.now) (mentions (if node e a b)) e s.left s.changes.values (part old s.from end) ≡ accepted fork
  pub size : length' ≡ length fork.test.words

-- the branch that the condition takes is patched
abbrev pub KeepsTo : Script → ℕ → List ℤ → ℕ → Reached → Result Reached Refusal → List ℤ → List ℤ → Type 0
KeepsTo script node old end s r out after = (n : ℕ) (e : Expression) (a b : Statement) → part_at script.checked.table.now node ≡ some (statement (if n e a b))
    → (f : Fork) → fork_of (types_of script.checked.table.now) (mentions (if n e a b)) e s.left s.changes.values (part old s.from end) ≡ accepted f
    → (out₀ : List ℤ) → out ≡ fork_laid out₀ s.at f
    → WalkAs (kept (types_of script.checked.table.now) (choose (holds f.condition) (visit a (walk (types_of script.checked.table.now) a)) (visit b (walk (types_of script.checked.table.now) b))) f) s r old end out₀ after

-- the branch that it does not take is run
abbrev pub FlipsTo : Script → ℕ → ℤ → List ℤ → ℕ → Reached → Result Reached Refusal → List ℤ → List ℤ → Type 0
FlipsTo script node change old end s r out after = (n : ℕ) (e : Expression) (a b : Statement) → part_at script.checked.table.now node ≡ some (statement (if n e a b))
    → (f : Fork) → fork_of (types_of script.checked.table.now) (mentions (if n e a b)) e s.left s.changes.values (part old s.from end) ≡ accepted f
    → change ≡ f.test.change → (out₀ : List ℤ) → out ≡ fork_laid out₀ s.at f
    → WalkAs (flipped (types_of script.checked.table.now) (choose (holds f.condition) (run b) (run a)) f) s r old end out₀ after
