-- `table::check::tree_depth` meets its contract. The loop's invariant is `Reached`: the rules have made `i` parts, and the code keeps the
-- sort and the height of each.
-- Assumes nothing.
use Rattle.table.specs.Laws.Reached.{Reached}
use Rattle.table.proofs.check.tree_depth.Given as goal

abbrev pub invariant-loop-i : goal.invariant-loop-i
invariant-loop-i l = Reached l.table.bytes.now l.i l.parts
