-- `pieces::entry::copy` meets its contract: as many words as the buffer has room for are laid, one a turn; past its end nothing is.
-- Assumes nothing.
use mathlib.Core.Path.{sym}
use native.Mathlib.Omega.{arith}
use borrow.Author.Rules.{rules}
use Rattle.run.specs.Laws.Laying.{laid_none}
use Rattle.pieces.proofs.Copying.{lay_past, copied_more, copied_all}
use Rattle.pieces.proofs.entry.copy.Goals as goal

pub loop-i-init : goal.loop-i-init
loop-i-init c = laid_none

pub loop-i-preserved : goal.loop-i-preserved
loop-i-preserved c = copied_more c.requires.inside c.loop-i.invariant (omega (arith, c.min-count.ensures, c.loop-i-test.true)) (search rules)

pub returns-after-loop-i : goal.returns-after-loop-i
returns-after-loop-i c =
    copied_all c.args.out.now c.requires.inside c.min-count.ensures c.if-at-out.true c.loop-i.invariant c.loop-i-test.false c.loop-i.auto.i-end

pub returns-else-at-out : goal.returns-else-at-out
returns-else-at-out c = sym (lay_past c.args.out.now c.args.at _ c.if-at-out.false)
