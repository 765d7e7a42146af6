-- `table::check::tree_depth` meets its contract. The loop's invariant is `Reached`: the rules have made `i` parts, and the code keeps the
-- sort and the height of each.
-- Assumes nothing.
use mathlib.Core.Path.{refl}
use native.Mathlib.Omega.{arith}
use Rattle.std.proofs.lemmas.Result.{err_from_is_err_and}
use Rattle.table.specs.Kinds.{paper_kind}
use Rattle.table.specs.Laws.Kinds.{kind_back}
use Rattle.table.specs.Laws.Reached.{reached_none, kind_wrong, part_wrong, reached_more, root_told}
use Rattle.table.proofs.check.tree_depth.Goals as goal

pub loop-i-init : goal.loop-i-init
loop-i-init c = reached_none c.args.table.now.bytes.now

pub returns-in_err-node : goal.returns-in_err-node
returns-in_err-node c =
    let p = err_from_is_err_and c.from_residual.result c.from_residual.ensures.1 in rw (p.1, p.2)
    (kind_wrong _ _ _ c.args.table.now.headed c.loop-i.i c.loop-i-test.true _ c.loop-i.invariant _ refl c.in_err-node.ensures.1 c.in_err-node.ensures.0)

pub returns-in_err-part_of : goal.returns-in_err-part_of
returns-in_err-part_of c =
    let x = c.in_ok-node.node in
    let p = err_from_is_err_and c.from_residual-in_err-part_of.result c.from_residual-in_err-part_of.ensures.1 in rw (p.1, p.2)
    (part_wrong _ _ _ c.args.table.now.headed c.loop-i.i c.loop-i-test.true _ c.loop-i.invariant _ c.in_ok-node.ensures.1
    (paper_kind x.kind) (kind_back (paper_kind x.kind)) _ c.part_of.ensures c.in_err-part_of.was)

pub loop-i-preserved : goal.loop-i-preserved
loop-i-preserved c =
    let x = c.in_ok-node.node in
    reached_more _ _ _ c.args.table.now.headed c.loop-i.i c.loop-i-test.true _ c.loop-i.invariant _ c.in_ok-node.ensures.1
    (paper_kind x.kind) (kind_back (paper_kind x.kind)) _ c.part_of.ensures c.in_ok-part_of.was

pub returns : goal.returns
returns c = rw c.height_as.ensures (root_told _ _ _ c.args.table.now.headed c.loop-i.i (omega arith) _ c.loop-i.invariant)
