-- `run::words::snapshot` meets its contract. The loop's invariant: the first i words of the snapshot are laid.
-- Assumes nothing.
use Rattle.rules.specs.Value.{snapshot}
use Rattle.run.specs.Laws.Laying.{Laid}
use Rattle.run.proofs.words.snapshot.Given as goal

abbrev pub invariant-loop-i : goal.invariant-loop-i
invariant-loop-i l = Laid l.initial.out l.at (snapshot l.variables l.values) l.i l.out
