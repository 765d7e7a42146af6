-- `table::uses::used_once` meets its contract. The loop's invariant is `UsesLeft`: the counts so far and the uses that are left make up all.
-- Assumes nothing.
use mathlib.Core.Path.{refl}
use native.Mathlib.Omega.{arith}
use Rattle.table.specs.Kinds.{paper_kind}
use Rattle.table.specs.Laws.Kinds.{kind_back}
use Rattle.table.specs.Laws.Uses.{left_all, left_less_node, left_less_none, uses_told}
use Rattle.table.proofs.uses.used_once.Goals as goal
use Rattle.table.proofs.uses.used_once.Goals.{in-Ok, in_default}

pub loop-i-init : goal.loop-i-init
loop-i-init c = left_all c.args.table.now.bytes.now

pub loop-i-preserved : goal.loop-i-preserved
loop-i-preserved c =
    elim c.match-node.branch [
      | in-Ok w ↦ rw w.counts-is
          (left_less_node _ _ _ c.args.table.now.headed c.loop-i.i c.loop-i-test.true _ c.loop-i.invariant _ w.in-Ok.ensures.1
          (paper_kind w.in-Ok.x.kind) (kind_back (paper_kind w.in-Ok.x.kind)) _ w.count_node.ensures)
      | in_default w ↦ rw w.counts-is
          (left_less_none _ _ _ c.args.table.now.headed c.loop-i.i c.loop-i-test.true _ c.loop-i.invariant _ refl w.in_default.ensures.1)
    ]

pub returns : goal.returns
returns c = uses_told _ _ _ c.args.table.now.headed c.loop-i.i (omega arith) _ c.loop-i.invariant _ c.all_once.ensures
