-- `table::script::Checked::new` meets its contract: the nodes begin behind the header and the types.
-- Assumes nothing.
use mathlib.Core.Path.{refl}
use native.Mathlib.Omega.{arith}
use Rattle.table.specs.Laws.Reading.{nodes_begin, sizes}
use Rattle.table.proofs.script.Checked.new.Goals as goal

pub pair-requires : goal.pair-requires
pair-requires c = let w = sizes c.args.table.now _ c.requires refl in omega (arith, w.whole, w.base_is)

pub invariant_of-result : goal.invariant_of-result
invariant_of-result c = record { accepted = c.requires; based = nodes_begin c.args.table.now _ c.pair.ensures.0 }
