-- `run::input::within` meets its contract: the two tests of the range, each on words read back, are those of `between`.
-- Assumes nothing.
use mathlib.Core.Path.{◌∙◌}
use Rattle.run.specs.Laws.Fitting.{within_words}
use Rattle.run.proofs.input.within.Goals as goal

pub returns : goal.returns
returns c =
    c.contains.ensures.value
    ∙ rw (c.new.ensures.start, c.new.ensures.end, c.new.ensures.exhausted)
    (within_words c.args.low c.args.high c.args.value c.ranges.low c.ranges.high c.ranges.value)
