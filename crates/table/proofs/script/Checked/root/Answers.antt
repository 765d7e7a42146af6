-- `table::script::Checked::root` meets its contract: the header counts the nodes, and there is one.
-- Assumes nothing.
use native.Mathlib.Omega.{arith}
use Rattle.rules.specs.Table.{nodes}
use Rattle.table.specs.Laws.Reading.{sizes}
use Rattle.table.proofs.script.Checked.root.Goals as goal

pub pair-requires : goal.pair-requires
pair-requires c = let s = c.args.self.now in
    let w = sizes s.table.now s.base s.accepted s.based in omega (arith, w.whole, w.base_is)

pub overflow_sub-result : goal.overflow_sub-result
unfolding nodes
overflow_sub-result c = let s = c.args.self.now in
    let w = sizes s.table.now s.base s.accepted s.based in omega (arith, w.some, c.pair.ensures.0)

pub returns : goal.returns
unfolding nodes
returns c = let s = c.args.self.now in
    let w = sizes s.table.now s.base s.accepted s.based in omega (arith, w.some, c.pair.ensures.0)
