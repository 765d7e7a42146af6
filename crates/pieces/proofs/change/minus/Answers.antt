-- `pieces::change::minus` meets its contract: the difference of two near words fits.
-- Assumes nothing.
use Rattle.rules.specs.Value.{minus}
use Rattle.pieces.specs.Laws.Changes.{difference_kept, differ_kept}
use Rattle.pieces.proofs.change.minus.Goals as goal

pub returns-in-Number : goal.returns-in-Number
unfolding minus
returns-in-Number c = rw c.in-Number.is (difference_kept c.args.new c.args.old c.requires.0 c.requires.1)

pub returns-in-Truth : goal.returns-in-Truth
unfolding minus
returns-in-Truth c = rw c.in-Truth.is (differ_kept c.args.new c.args.old c.ranges.new c.ranges.old c.differ.ensures)
