-- `run::words::lay_slice` meets its contract. The loop's invariant: the first i words are laid.
-- Assumes nothing.
use Rattle.run.specs.Laws.Laying.{Laid}
use Rattle.run.proofs.words.lay_slice.Given as goal

abbrev pub invariant-loop-i : goal.invariant-loop-i
invariant-loop-i l = Laid l.initial.out l.at l.from l.i l.out
