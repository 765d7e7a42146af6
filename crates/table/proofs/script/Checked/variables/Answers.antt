-- `table::script::Checked::variables` meets its contract: the nodes begin behind the header and the types.
-- Assumes nothing.
use native.Mathlib.Omega.{arith}
use Rattle.table.specs.Laws.Reading.{sizes}
use Rattle.table.proofs.script.Checked.variables.Goals as goal

pub overflow_sub-result : goal.overflow_sub-result
overflow_sub-result c = omega (arith, (sizes c.args.self.now.table.now c.args.self.now.base c.args.self.now.accepted c.args.self.now.based).base_is)

pub returns : goal.returns
returns c = omega (arith, (sizes c.args.self.now.table.now c.args.self.now.base c.args.self.now.accepted c.args.self.now.based).base_is)
