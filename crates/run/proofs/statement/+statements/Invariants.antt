-- The measures of the cycle: four times the node's number, and a little more by the order in which the calls for one node come: statement,
-- parts, then its kind, then the branch taken. Iterations are measured by the body, and children stand below.
-- Assumes nothing.
use Prim.Native.Nat.{◌+◌, ◌*◌}
use Rattle.run.specs.Statement.{Repeatable}
use Rattle.run.specs.Laws.Iterations.{Iterated}
use Rattle.run.proofs.statement.+statements.Given as goal

abbrev pub decreases-branch : goal.decreases-branch
decreases-branch l = 4 * l.node + 1

abbrev pub decreases-looped : goal.decreases-looped
decreases-looped l = 4 * l.node + 1

abbrev pub decreases-parts : goal.decreases-parts
decreases-parts l = 4 * l.node + 2

abbrev pub decreases-repeat : goal.decreases-repeat
decreases-repeat l = 4 * l.body + 4

abbrev pub decreases-sequence : goal.decreases-sequence
decreases-sequence l = 4 * l.node + 1

abbrev pub decreases-statement : goal.decreases-statement
decreases-statement l = 4 * l.node + 3

abbrev pub decreases-take : goal.decreases-take
decreases-take l = 4 * l.node

-- `repeat` in the cycle. The loop's invariant: so many iterations are run and laid down.

abbrev pub invariant-repeat-loop : goal.invariant-repeat-loop
invariant-repeat-loop l = (h : Repeatable l.script l.node l.body l.initial.so_far.store.values l.left l.at) → Iterated h l.count l.initial.out l.counter l.so_far l.out
