-- `pieces::change::differ` meets its contract: two values are equal where their words are.
-- Assumes nothing.
use Rattle.pieces.specs.Laws.Changes.{differ_word}
use Rattle.pieces.proofs.change.differ.Goals as goal

pub returns : goal.returns
returns c = differ_word c.args.a c.args.b c.ranges.a c.ranges.b c.from.ensures
