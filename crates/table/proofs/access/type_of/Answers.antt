-- `table::access::type_of` meets its contract: the variable's byte is in the table, and its type is that of the byte.
-- Assumes nothing.
use mathlib.Core.Path.{refl, ◌∙◌}
use native.Mathlib.Omega.{arith}
use Rattle.rules.specs.Table.{nodes_at, header_length}
use Rattle.table.specs.Laws.Types.{types_are}
use Rattle.table.proofs.access.type_of.Goals as goal

pub overflow_add-v : goal.overflow_add-v
unfolding nodes_at header_length
overflow_add-v c = omega (arith, c.requires.0, c.requires.1)

pub bounds-t-v : goal.bounds-t-v
unfolding nodes_at header_length
bounds-t-v c = omega (arith, c.requires.0, c.requires.1)

pub returns : goal.returns
unfolding nodes_at header_length
returns c = c.from.ensures ∙ types_are c.args.t.now _ refl (omega (arith, c.requires.0)) c.args.v c.requires.1
