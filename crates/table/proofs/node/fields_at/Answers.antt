-- `table::node::fields_at` meets its contract: each field is read where the definition reads it.
-- Assumes nothing.
use mathlib.Core.Path.{refl}
use Rattle.table.specs.Laws.Nodes.{fields_read}
use Rattle.table.proofs.node.fields_at.Goals as goal

pub returns : goal.returns
returns c = fields_read _ _ _ refl c.from.ensures c.pair.ensures.0 c.pair-2.ensures.0 c.pair-3.ensures.0
