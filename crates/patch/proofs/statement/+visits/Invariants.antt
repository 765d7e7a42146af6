-- The measures of the cycle: eight times the node's number, and a little more by the order in which the calls for one node come: visit,
-- pay, parts, then its kind, then the branch kept or the iterations. These are measured by the body, and children stand below.
-- Assumes nothing.
use Prim.Native.Nat.{◌+◌, ◌*◌}
use Rattle.patch.specs.Loop.{Turnable}
use Rattle.patch.proofs.Iterations.{SoFar}
use Rattle.patch.proofs.statement.+visits.Given as goal

abbrev pub decreases-visit : goal.decreases-visit
decreases-visit l = 8 * l.node + 7

abbrev pub decreases-pay : goal.decreases-pay
decreases-pay l = 8 * l.node + 6

abbrev pub decreases-parts : goal.decreases-parts
decreases-parts l = 8 * l.node + 5

abbrev pub decreases-sequence : goal.decreases-sequence
decreases-sequence l = 8 * l.node + 4

abbrev pub decreases-branch : goal.decreases-branch
decreases-branch l = 8 * l.node + 4

abbrev pub decreases-looped : goal.decreases-looped
decreases-looped l = 8 * l.node + 4

abbrev pub decreases-kept : goal.decreases-kept
decreases-kept l = 8 * l.node + 3

abbrev pub decreases-iterate : goal.decreases-iterate
decreases-iterate l = 8 * l.node + 3

abbrev pub decreases-turns : goal.decreases-turns
decreases-turns l = 8 * l.body + 9

abbrev pub decreases-turn : goal.decreases-turn
decreases-turn l = 8 * l.body + 8

-- `turns` in the cycle. The loop's invariant: so many iterations have come to this.

abbrev pub invariant-turns-loop : goal.invariant-turns-loop
invariant-turns-loop l = (h : Turnable l.script l.node l.body l.old l.end l.initial.so_far) → SoFar h l.count l.initial.out l.counter l.so_far l.out
