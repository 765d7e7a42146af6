-- `pieces::change::plus` meets its contract: the sum of two near words fits.
-- Assumes nothing.
use Rattle.rules.specs.Value.{plus}
use Rattle.pieces.specs.Laws.Changes.{sum_kept, differ_kept}
use Rattle.pieces.proofs.change.plus.Goals as goal

pub returns-in-Number : goal.returns-in-Number
unfolding plus
returns-in-Number c = rw c.in-Number.is (sum_kept c.args.old c.args.change c.requires.0 c.requires.1)

pub returns-in-Truth : goal.returns-in-Truth
unfolding plus
returns-in-Truth c = rw c.in-Truth.is (differ_kept c.args.old c.args.change c.ranges.old c.ranges.change c.differ.ensures)
