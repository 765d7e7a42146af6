-- The measures of the cycle: twice the node's number, and one more for `evaluate`: it hands the
-- node itself to `operate`, whose operands stand below it.
-- Assumes nothing.
use Prim.Native.Nat.{◌+◌}
use Rattle.run.proofs.expression.+expressions.Given as goal

abbrev pub decreases-evaluate : goal.decreases-evaluate
decreases-evaluate l = l.node + l.node + 1

abbrev pub decreases-operate : goal.decreases-operate
decreases-operate l = l.node + l.node
