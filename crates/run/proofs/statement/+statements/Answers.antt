-- The proof of the cycle of calls round `statement`: each answer is a law of `Compound`, `Sequences`, `Branches`, `Taken`, `Iterations` or
-- `Loops`, at what the calls before it gave.
-- Assumes nothing.
use Prim.Native.Nat.{ℕ}
use mathlib.Core.Path.{refl}
use native.Mathlib.Omega.{arith}
use Rattle.run.specs.Laws.Statements.{node_inside, kind_read, refusal_up}
use Rattle.run.specs.Laws.Branches.{branch_listed, test_evaluable, test_refused, branch_takeable, branch_answer}
use Rattle.run.specs.Laws.Loops.{loop_listed, count_evaluable, count_refused, body_below, loop_repeatable, loop_answer}
use Rattle.run.specs.Laws.Compound.{skip_answer, no_other_kind, dry, entry_refused, parts_place, parts_left, entry_openable, entry_answer}
use Rattle.run.specs.Laws.Iterations.{iterated_none, iterated_all, again_runnable, again_refused, again_listed, again_done}
use Rattle.run.specs.Laws.Sequences.{first_below, first_runnable, first_refused, GotFirst, got_first, second_below, second_runnable, sequence_answer}
use Rattle.run.specs.Laws.Taken.{take_below, take_runnable, take_listed, take_refused, take_answer}
use Rattle.run.proofs.statement.+statements.Goals as goal
use Rattle.run.proofs.statement.+statements.Goals.{sequence-In_ok-first}

-- `branch` in the cycle: the snapshot before, the condition behind the room for the snapshot after, and then the branch taken.

pub branch-node-top-requires : goal.branch-node-top-requires
branch-node-top-requires t c = node_inside c.args.script.now.checked c.requires.inner.known.here

pub branch-snapshot-after-requires : goal.branch-snapshot-after-requires
branch-snapshot-after-requires t c = branch_listed c.requires

pub branch-evaluate-requires : goal.branch-evaluate-requires
branch-evaluate-requires t c = test_evaluable c.requires c.snapshot-after.ensures.behind c.node-top.result c.node-top.ensures

pub branch-returns-in_err-condition : goal.branch-returns-in_err-condition
branch-returns-in_err-condition t c =
    rw (refusal_up c.from_residual.ensures.1)
    (test_refused c.requires c.snapshot-after.ensures.behind c.node-top.result c.node-top.ensures c.evaluate.ensures c.in_err-condition.was _ _)

pub branch-take-requires : goal.branch-take-requires
branch-take-requires t c = (
  omega (arith, c.decreases),
  branch_takeable c.requires c.snapshot-after.ensures.behind c.node-top.result c.node-top.ensures c.evaluate.ensures c.in_ok-condition.was,
)

pub branch-returns : goal.branch-returns
branch-returns t c =
    branch_answer c.requires c.snapshot-after.ensures.behind c.node-top.result c.node-top.ensures c.evaluate.ensures c.in_ok-condition.was (omega arith) _ _
    c.snapshot-after.ensures.laid c.put.ensures _ _ c.take.ensures

-- `looped` in the cycle: the snapshot before, the count behind it, and then the iterations.

pub looped-node-top-requires : goal.looped-node-top-requires
looped-node-top-requires t c = node_inside c.args.script.now.checked c.requires.inner.known.here

pub looped-snapshot-behind-requires : goal.looped-snapshot-behind-requires
looped-snapshot-behind-requires t c = loop_listed c.requires

pub looped-evaluate-requires : goal.looped-evaluate-requires
looped-evaluate-requires t c = count_evaluable c.requires c.snapshot-behind.ensures.behind c.node-top.result c.node-top.ensures

pub looped-returns-in_err-count : goal.looped-returns-in_err-count
looped-returns-in_err-count t c =
    rw (refusal_up c.from_residual.ensures.1)
    (count_refused c.requires c.snapshot-behind.ensures.behind c.node-top.result c.node-top.ensures c.evaluate.ensures c.in_err-count.was _ _)

pub looped-repeat-requires : goal.looped-repeat-requires
looped-repeat-requires t c = (
  omega (arith, c.decreases, body_below c.requires c.snapshot-behind.ensures.behind c.node-top.result c.node-top.ensures),
  loop_repeatable c.requires c.snapshot-behind.ensures.behind c.node-top.result c.node-top.ensures c.evaluate.ensures c.in_ok-count.was,
)

pub looped-returns : goal.looped-returns
looped-returns t c =
    loop_answer c.requires c.snapshot-behind.ensures.behind c.node-top.result c.node-top.ensures c.evaluate.ensures c.in_ok-count.was (omega arith) _ _
    c.snapshot-behind.ensures.laid c.put.ensures c.times.ensures _ _ c.repeat.ensures

-- `parts` in the cycle: the kind that was read says who is called.

pub parts-node-requires : goal.parts-node-requires
parts-node-requires t c = node_inside c.args.script.now.checked c.requires.known.here

pub parts-returns-in-Skip : goal.parts-returns-in-Skip
parts-returns-in-Skip t c = skip_answer c.requires (kind_read c.node.result c.node.ensures c.in-Skip.is) _ refl refl refl _

pub parts-unreachable-requires : goal.parts-unreachable-requires
parts-unreachable-requires t c =
    no_other_kind c.requires.known c.node.result c.node.ensures c.in_default.not-Skip c.in_default.not-Assign c.in_default.not-Sequence c.in_default.not-If
    c.in_default.not-Repeat

-- `repeat` in the cycle. The loop's invariant: so many iterations are run and laid down.

pub repeat-loop-init : goal.repeat-loop-init
repeat-loop-init t c h = iterated_none h _ _ _ refl refl refl

pub repeat-statement-requires : goal.repeat-statement-requires
repeat-statement-requires t c = (omega (arith, c.decreases), again_runnable c.requires (c.loop.invariant c.requires))

pub repeat-returns-in_err-so_far : goal.repeat-returns-in_err-so_far
repeat-returns-in_err-so_far t c =
    rw (refusal_up c.from_residual.ensures.1)
    (again_refused c.requires (c.loop.invariant c.requires) c.loop-test.true c.statement.ensures c.in_err-so_far.was _)

pub repeat-snapshot-requires : goal.repeat-snapshot-requires
repeat-snapshot-requires t c = again_listed c.requires (c.loop.invariant c.requires) c.loop-test.true c.statement.ensures c.in_ok-so_far.was

pub repeat-loop-preserved : goal.repeat-loop-preserved
repeat-loop-preserved t c h =
    again_done h (c.loop.invariant h) c.loop-test.true c.statement.ensures c.in_ok-so_far.was _ _ refl refl c.snapshot.ensures.behind c.snapshot.ensures.laid

pub repeat-returns : goal.repeat-returns
repeat-returns t c = iterated_all c.requires (c.loop.invariant c.requires) (omega arith) (omega arith)

-- `sequence` in the cycle: the first statement, and the second from where the first ended.

sequence_first : (t : ℕ) (c : sequence-In_ok-first t) → GotFirst c.requires c.in_ok-first.first c.args.out.now c.statement.new.out
sequence_first t c = got_first c.requires c.node-top.result c.node-top.ensures c.statement.ensures c.in_ok-first.was

pub sequence-node-top-requires : goal.sequence-node-top-requires
sequence-node-top-requires t c = node_inside c.args.script.now.checked c.requires.inner.known.here

pub sequence-statement-requires : goal.sequence-statement-requires
sequence-statement-requires t c = (
  omega (arith, c.decreases, first_below c.requires c.node-top.result c.node-top.ensures),
  first_runnable c.requires c.node-top.result c.node-top.ensures,
)

pub sequence-returns-in_err-first : goal.sequence-returns-in_err-first
sequence-returns-in_err-first t c =
    rw (refusal_up c.from_residual.ensures.1)
    (first_refused c.requires c.node-top.result c.node-top.ensures c.statement.ensures c.in_err-first.was _)

pub sequence-statement-requires-2 : goal.sequence-statement-requires-2
sequence-statement-requires-2 t c =
    let first = sequence_first t (goal.at.sequence-statement-requires-2 t c).In_ok-first in (
      omega (arith, c.decreases, second_below c.requires c.node-top.result c.node-top.ensures first),
      second_runnable c.requires c.node-top.result c.node-top.ensures first,
    )

pub sequence-returns : goal.sequence-returns
sequence-returns t c =
    sequence_answer c.requires c.node-top.result c.node-top.ensures (sequence_first t (goal.at.sequence-returns t c).In_ok-first) _ _ c.statement-2.ensures

-- `statement` in the cycle: a step, the parts, and then the opening words round what the parts laid down.

pub statement-returns-then-left-eq0 : goal.statement-returns-then-left-eq0
statement-returns-then-left-eq0 t c = dry c.requires c.if-left-eq0.true _ _

pub statement-returns-in_err-ran : goal.statement-returns-in_err-ran
statement-returns-in_err-ran t c =
    rw (refusal_up c.from_residual.ensures.1) (entry_refused c.requires c.if-left-eq0.false c.parts.ensures c.in_err-ran.was _)

pub statement-overflow_sub-ran : goal.statement-overflow_sub-ran
statement-overflow_sub-ran t c = omega (arith, parts_place c.requires c.if-left-eq0.false c.parts.ensures c.in_ok-ran.was)

pub statement-overflow_sub-left-2 : goal.statement-overflow_sub-left-2
statement-overflow_sub-left-2 t c = omega (arith, parts_left c.requires c.if-left-eq0.false c.parts.ensures c.in_ok-ran.was)

pub statement-open-requires : goal.statement-open-requires
statement-open-requires t c = entry_openable c.requires c.if-left-eq0.false c.parts.ensures c.in_ok-ran.was

pub statement-returns : goal.statement-returns
statement-returns t c = entry_answer c.requires c.if-left-eq0.false c.parts.ensures c.in_ok-ran.was _ c.«open».ensures

-- `take` in the cycle: the branch that the condition takes, and the snapshot after it.

pub take-node-top-requires : goal.take-node-top-requires
take-node-top-requires t c = node_inside c.args.script.now.checked c.requires.known.here

pub take-statement-requires : goal.take-statement-requires
take-statement-requires t c = (
  omega (arith, c.decreases, take_below c.requires c.args.condition c.ranges.condition c.node-top.result c.node-top.ensures c.taken-branch.ensures),
  take_runnable c.requires c.args.condition c.ranges.condition c.node-top.result c.node-top.ensures c.taken-branch.ensures,
)

pub take-returns-in_err-ran : goal.take-returns-in_err-ran
take-returns-in_err-ran t c =
    rw (refusal_up c.from_residual.ensures.1)
    (take_refused c.requires c.args.condition c.ranges.condition c.node-top.result c.node-top.ensures c.taken-branch.ensures c.statement.ensures _ c.in_err-ran.was)

pub take-snapshot-requires : goal.take-snapshot-requires
take-snapshot-requires t c = take_listed c.requires c.args.condition

pub take-returns : goal.take-returns
take-returns t c =
    take_answer c.requires c.args.condition c.ranges.condition c.node-top.result c.node-top.ensures c.taken-branch.ensures c.statement.ensures _ c.in_ok-ran.was
    c.snapshot.ensures.laid
