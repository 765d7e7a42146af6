-- `pieces::snapshot::move_snapshot` meets its contract. The loop's invariant: the first i of the new words are in their types and laid down;
-- the first that is not refuses. Assumes nothing.
use mathlib.Core.Path.{◌≡◌}
use mathlib.Core.Bool.{true}
use Prim.Native.Nat.{ℕ, ◌<◌}
use Rattle.rules.specs.Table.{types_of}
use Rattle.run.specs.Laws.Laying.{Laid}
use Rattle.table.specs.Lists.{list_at}
use Rattle.pieces.specs.Snapshot.{olds}
use Rattle.pieces.proofs.Snapshots.{new_fits}
use Rattle.pieces.proofs.Turns.{news_of}
use Rattle.pieces.proofs.snapshot.move_snapshot.Given as goal

abbrev pub invariant-loop-i : goal.invariant-loop-i
invariant-loop-i l =
    ((k : ℕ) → k < l.i → new_fits (types_of l.t) l.changes (list_at l.lists.lists l.node) (olds l.old l.from (list_at l.lists.lists l.node)) k ≡ true)
    × Laid l.initial.out l.at (news_of l.t l.lists.lists l.node l.old l.from l.changes) l.i l.out
