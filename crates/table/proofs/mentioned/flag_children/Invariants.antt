-- `table::mentioned::flag_children` meets its contract. The loop's invariant: the flags of the children from `i` on are set.
-- Assumes nothing.
use mathlib.Core.Path.{◌≡◌}
use lib.ListN.{drop}
use Rattle.rules.proofs.Laws.Rising.{flagged_by}
use Rattle.table.specs.Lists.{list_at}
use Rattle.table.proofs.mentioned.flag_children.Given as goal

abbrev pub invariant-loop-i : goal.invariant-loop-i
invariant-loop-i l = l.flags ≡ flagged_by (list_at l.made.lists) (drop l.i l.children) l.initial.flags
