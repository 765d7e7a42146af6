-- The measures of the cycle: three times the node's number, one more for `shift` and two more for `operand`, since an operator's operands
-- stand below it.
-- Assumes nothing.
use Prim.Native.Nat.{◌+◌, ◌*◌}
use Rattle.pieces.proofs.expression.+expressions.Given as goal

abbrev pub decreases-operand : goal.decreases-operand
decreases-operand l = 3 * l.node + 2

abbrev pub decreases-shift : goal.decreases-shift
decreases-shift l = 3 * l.node + 1

abbrev pub decreases-operate : goal.decreases-operate
decreases-operate l = 3 * l.node
