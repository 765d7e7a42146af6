-- What the contracts of the head of an if and of a repeat say: the first word, and the snapshot behind it. The definition of the walk is
-- taken apart here as the code takes it apart.
-- Assumes nothing.
use Rattle.patch.specs.Statement.{listed}
use Rattle.std.specs.Prelude.{◌≡◌, Bool, List, ℕ, ◌+◌, ◌≤◌, ℤ}
use Rattle.numbers.specs.Lay.{lay}
use Rattle.rules.specs.Outcome.{accepted, ◌>>=◌}
use Rattle.rules.specs.Outcome as Paper
use Rattle.rules.specs.Value.{Ty}
use Rattle.rules.specs.Table.{types_of}
use Rattle.rules.specs.Patch.{read_in}
use Rattle.table.specs.declared.script.Script.{Script}
use Rattle.run.specs.Code.{farthest}
use Rattle.pieces.specs.Change.{AllNear}
use Rattle.pieces.specs.Old.{part, Inside}
use Rattle.pieces.specs.declared.entry.Reached.{Reached}
use Rattle.pieces.specs.Unbroken.{UnbrokenWith}
use Rattle.pieces.specs.Snapshot.{Named, Patched, patched}

-- the first word, and the snapshot before it
pub record Head : Type 0 where
  pub word : ℤ
  pub snap : Patched

unfoldable pub head_of : List Ty → Ty → List ℕ → List ℤ → List ℤ → Paper.Outcome Head
head_of types t vs changes ws = do
  w ← read_in t ws
  p ← patched types vs changes w.rest
  accepted (record { word = w.word; snap = p })

pub record Headable (script : Script) (node : ℕ) (old : List ℤ) (end : ℕ) (s : Reached) : Type 0 where
  pub named : Named script.checked.table.now script.lists.now.lists node
  pub near : AllNear s.changes.values
  pub inside : Inside old s.from end
  pub place : s.at + 1 ≤ farthest

abbrev pub HeadAs : Paper.Outcome Head → Bool → List ℤ → ℕ → List ℤ → Type 0
HeadAs m r out at out' = UnbrokenWith (λ h. out' ≡ lay out (at + 1) h.snap.new) m r

abbrev pub HeadTo : Script → ℕ → Ty → List ℤ → ℕ → Reached → Bool → List ℤ → List ℤ → Type 0
HeadTo script node t old end s r out out' = HeadAs
    (head_of (types_of script.checked.table.now) t (listed script node) s.changes.values (part old s.from end)) r out s.at out'
