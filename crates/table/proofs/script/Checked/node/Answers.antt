-- `table::script::Checked::node` meets its contract: the node's bytes are in the table, and its kind is one.
-- Assumes nothing.
use mathlib.Core.Path.{◌∙◌}
use native.Mathlib.Omega.{arith}
use Rattle.table.specs.Laws.Reading.{sizes, node_place, node_known}
use Rattle.table.proofs.script.Checked.node.Goals as goal

pub overflow_mul-n : goal.overflow_mul-n
overflow_mul-n c = let s = c.args.self.now in
    let w = sizes s.table.now s.base s.accepted s.based in omega (arith, w.small)

pub overflow_add-self : goal.overflow_add-self
overflow_add-self c = let s = c.args.self.now in
    let w = sizes s.table.now s.base s.accepted s.based in omega (arith, w.small, w.base_is, w.few)

pub read_known-requires : goal.read_known-requires
read_known-requires c =
    let s = c.args.self.now in
    let w = sizes s.table.now s.base s.accepted s.based in
    record { inside = omega (arith, w.whole); known = node_known s.table.now s.base s.accepted s.based c.args.n c.requires }

pub returns : goal.returns
returns c = let s = c.args.self.now in c.read_known.ensures ∙ node_place s.table.now s.base s.accepted s.based c.args.n
