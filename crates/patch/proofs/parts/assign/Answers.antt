-- `patch::parts::assign` meets its contract: the expression's change is the variable's, where its record is all of the entry.
-- Assumes nothing.
use native.Mathlib.Omega.{arith}
use Rattle.run.specs.Laws.Statements.{refusal_up}
use Rattle.patch.proofs.Nodes.{inside}
use Rattle.patch.proofs.Assigns.{variable_low, value_asked, assign_refused, value_inside, assign_broken, assign_answer}
use Rattle.patch.proofs.parts.assign.Goals as goal

pub node-top-requires : goal.node-top-requires
node-top-requires c = inside c.requires.known

pub shift-requires : goal.shift-requires
shift-requires c = value_asked c.requires c.node-top.result c.node-top.ensures

pub returns-in_err-change : goal.returns-in_err-change
returns-in_err-change c =
    rw (refusal_up c.from_residual.ensures.1) (assign_refused c.requires c.node-top.result c.node-top.ensures c.shift.ensures c.in_err-change.was)

pub overflow_add-reached : goal.overflow_add-reached
overflow_add-reached c = omega (arith, value_inside c.requires c.node-top.result c.node-top.ensures c.shift.ensures c.in_ok-change.was)

pub returns-then-reached-length : goal.returns-then-reached-length
returns-then-reached-length c =
    assign_broken c.requires c.node-top.result c.node-top.ensures c.shift.ensures c.in_ok-change.was c.if-reached-length.true

pub assigned-requires : goal.assigned-requires
assigned-requires c =
    let h = c.requires.sound in (
      variable_low c.requires c.node-top.result c.node-top.ensures,
      omega (arith, value_inside c.requires c.node-top.result c.node-top.ensures c.shift.ensures c.in_ok-change.was, h.place, h.inside.ends),
    )

pub returns : goal.returns
returns c =
    assign_answer c.requires c.node-top.result c.node-top.ensures c.shift.ensures c.in_ok-change.was c.if-reached-length.false c.assigned.ensures
