-- `pieces::entry::copy` meets its contract. The loop's invariant: the first i words are laid.
-- Assumes nothing.
use Rattle.run.specs.Laws.Laying.{Laid}
use Rattle.pieces.specs.Old.{part}
use Rattle.pieces.proofs.entry.copy.Given as goal

abbrev pub invariant-loop-i : goal.invariant-loop-i
invariant-loop-i l = Laid l.initial.out l.at (part l.old l.from l.stop) l.i l.out
