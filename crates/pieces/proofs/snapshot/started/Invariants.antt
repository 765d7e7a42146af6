-- `pieces::snapshot::started` meets its contract. The loop's invariant: the first i of the new values are put into a store of zeros; what a
-- turn computes is the next. Assumes nothing.
use Rattle.rules.specs.Value.{zeros, most_variables}
use Rattle.table.specs.Lists.{list_at}
use Rattle.pieces.proofs.Snapshots.{Putting}
use Rattle.pieces.proofs.Turns.{news_of}
use Rattle.pieces.proofs.snapshot.started.Given as goal

abbrev pub invariant-loop-i : goal.invariant-loop-i
invariant-loop-i l = Putting (zeros most_variables) (list_at l.lists.lists l.node) (news_of l.t l.lists.lists l.node l.old l.from l.changes) l.i l.values
