-- `table::mentioned::flag_list` meets its contract. The loop's invariant: the flags of the variables so far are set.
-- Assumes nothing.
use mathlib.Core.Path.{◌≡◌}
use lib.ListN.{take}
use Rattle.rules.proofs.Laws.Rising.{flagged}
use Rattle.table.proofs.mentioned.flag_list.Given as goal

abbrev pub invariant-loop-v : goal.invariant-loop-v
invariant-loop-v l = l.flags ≡ flagged l.initial.flags (take l.v-index l.v-items)
