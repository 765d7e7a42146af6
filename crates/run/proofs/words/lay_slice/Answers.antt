-- `run::words::lay_slice` meets its contract. The loop's invariant: the first i words are laid.
-- Assumes nothing.
use mathlib.Core.Path.{refl}
use native.Mathlib.Omega.{arith}
use lib.IntN.{pos}
use borrow.Author.Rules.{rules}
use Rattle.run.specs.Laws.Laying.{laid_none, laid_by}
use Rattle.run.proofs.words.lay_slice.Goals as goal

pub loop-i-init : goal.loop-i-init
loop-i-init c = laid_none

pub loop-i-preserved : goal.loop-i-preserved
loop-i-preserved c = laid_by (pos 0) c.loop-i.invariant (omega arith) refl (search rules) c.put.ensures
