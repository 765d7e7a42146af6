-- `pieces::snapshot::settled` meets its contract. The loop's invariant: the first i of the settled changes are put into the changes; what a
-- turn computes is the next. Assumes nothing.
use Rattle.table.specs.Lists.{list_at}
use Rattle.pieces.proofs.Snapshots.{Putting}
use Rattle.pieces.proofs.Turns.{settled_of}
use Rattle.pieces.proofs.snapshot.settled.Given as goal

abbrev pub invariant-loop-i : goal.invariant-loop-i
invariant-loop-i l = Putting l.initial.next.values (list_at l.lists.lists l.node) (settled_of l.t l.lists.lists l.node l.old l.from l.values) l.i l.next.values
