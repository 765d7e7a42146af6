-- `table::uses::count_node` meets its contract: three fields one after the other.
-- Assumes nothing.
use Rattle.table.specs.Laws.Uses.{counted_node}
use Rattle.table.proofs.uses.count_node.Goals as goal

pub returns : goal.returns
returns c = rw (← c.asked_of-form.ensures) (counted_node _ _ _ _ _ _ c.count_field.ensures c.count_field-2.ensures c.count_field-3.ensures)
