-- `table::node::read` meets its contract: the fields are the node's, and its kind is theirs.
-- Assumes nothing.
use mathlib.Core.Path.{refl}
use Rattle.table.specs.Laws.Nodes.{node_by_fields}
use Rattle.table.proofs.node.read.Goals as goal

pub returns : goal.returns
returns c = node_by_fields _ _ _ c.fields_at-x.ensures c.in_ok-try_from.ensures refl refl refl refl
