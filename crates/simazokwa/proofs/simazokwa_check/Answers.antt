-- `simazokwa_check` meets its contract: the number is that of the check's outcome.
-- Assumes nothing.
use mathlib.Core.Path.{ap, ◌∙◌}
use Rattle.table.specs.Paper.{number_of}
use Rattle.rules.specs.Call.{IsCheck}
use Rattle.simazokwa.proofs.simazokwa_check.Goals as goal

pub returns : goal.returns
unfolding IsCheck
returns c = c.from-2.ensures ∙ ap number_of c.from.ensures ∙ c.check.ensures
