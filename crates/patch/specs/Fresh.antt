-- What the contracts of fresh parts say: the store that a run left, and the changes settled against a snapshot of the old record.
-- Assumes nothing.
use Rattle.std.specs.Prelude.{◌≡◌, List, ℕ, ℤ}
use Rattle.table.specs.declared.script.Script.{Script}
use Rattle.run.specs.declared.statement.Ran.{Ran}
use Rattle.pieces.specs.Change.{AllNear}
use Rattle.pieces.specs.Snapshot.{Standing, settled_by}
use Rattle.pieces.specs.declared.entry.Reached.{Reached}

-- a store that a run left, and a snapshot of the old record to settle the changes against
pub record Freshened (script : Script) (node : ℕ) (old : List ℤ) (from : ℕ) (ran : Ran) (s : Reached) : Type 0 where
  pub standing : Standing script.checked.table.now script.lists.now.lists node old from
  pub near : AllNear ran.store.values

pub record FreshAs (script : Script) (node : ℕ) (old : List ℤ) (place end : ℕ) (ran : Ran) (s r : Reached) : Type 0 where
  pub changes : r.changes.values ≡ settled_by script.checked.table.now script.lists.now.lists node ran.store.values old place s.changes.values
  pub left : r.left ≡ ran.left
  pub walked : r.walked ≡ s.walked
  pub reused : r.reused ≡ s.reused
  pub from : r.from ≡ end
  pub at : r.at ≡ ran.at
