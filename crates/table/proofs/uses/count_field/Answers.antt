-- `table::uses::count_field` meets its contract: a child among the 512 nodes has one more, and the rest stays.
-- Assumes nothing.
use native.Mathlib.Omega.{arith}
use Rattle.table.specs.Laws.Uses.{field_counted, field_far, field_none}
use Rattle.table.proofs.uses.count_field.Goals as goal

pub returns-then-x-lt-MOST_NODES : goal.returns-then-x-lt-MOST_NODES
returns-then-x-lt-MOST_NODES c =
    field_counted _ _ _ _ c.told-counts _ c.in-Child.is c.if-x-lt-MOST_NODES.true (omega (arith, c.saturating_add.ensures))

pub returns-else-x-lt-MOST_NODES : goal.returns-else-x-lt-MOST_NODES
returns-else-x-lt-MOST_NODES c = field_far _ _ _ c.if-x-lt-MOST_NODES.false

pub returns-in-Free : goal.returns-in-Free
returns-in-Free c = field_none _ _ _ c.in-Free.is
