-- `run::input::in_type` meets its contract: each type has its range.
-- Assumes nothing.
use mathlib.Core.Path.{◌∙◌}
use Rattle.rules.specs.Value.{in_type, lowest, highest}
use Rattle.run.specs.Laws.Fitting.{between_back}
use Rattle.run.proofs.input.in_type.Goals as goal

pub returns-in-Number : goal.returns-in-Number
unfolding in_type lowest highest
returns-in-Number c = rw c.in-Number.is (c.within.ensures ∙ between_back _ _ c.args.value c.ranges.value)

pub returns-in-Truth : goal.returns-in-Truth
unfolding in_type
returns-in-Truth c = rw c.in-Truth.is (c.within-in-Truth.ensures ∙ between_back _ _ c.args.value c.ranges.value)
