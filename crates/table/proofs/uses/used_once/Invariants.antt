-- `table::uses::used_once` meets its contract. The loop's invariant is `UsesLeft`: the counts so far and the uses that are left make up all.
-- Assumes nothing.
use Rattle.table.specs.Laws.Uses.{UsesLeft}
use Rattle.table.proofs.uses.used_once.Given as goal

abbrev pub invariant-loop-i : goal.invariant-loop-i
invariant-loop-i l = UsesLeft l.table.bytes.now l.i l.counts
