-- `run::call::refuse` meets its contract: the buffer is cleared from its start.
-- Assumes nothing.
use mathlib.Core.Path.{refl}
use Rattle.rules.specs.Value.{zeros, most_variables}
use Rattle.rules.specs.Patch.{no_steps}
use Rattle.rules.specs.Call.{answered}
use Rattle.run.specs.Laws.Completed.{cleared_whole}
use Rattle.run.proofs.call.refuse.Goals as goal

pub returns : goal.returns
unfolding answered zeros most_variables no_steps
returns c = (refl, cleared_whole c.args.out.now c.clear.ensures)
