-- `run::statement::assign` meets its contract: the expression's answer goes into the variable, or its refusal is handed up.
-- Assumes nothing.
use mathlib.Core.Path.{refl}
use native.Mathlib.Omega.{arith}
use Rattle.run.specs.Laws.Statements.{node_inside, refusal_up, assign_evaluable, assign_tag, assign_answer, assign_refused}
use Rattle.run.proofs.statement.assign.Goals as goal

pub node-top-requires : goal.node-top-requires
node-top-requires c = node_inside c.args.script.now.checked c.requires.inner.known.here

pub evaluate-requires : goal.evaluate-requires
evaluate-requires c = assign_evaluable c.requires c.node-top.result c.node-top.ensures

pub returns-in_err-value : goal.returns-in_err-value
returns-in_err-value c =
    rw (refusal_up c.from_residual.ensures.1)
    (assign_refused c.requires c.node-top.result c.node-top.ensures _ _ c.evaluate.ensures c.in_err-value.was _ _)

pub offset_bounds-next-top : goal.offset_bounds-next-top
offset_bounds-next-top c = omega (arith, assign_tag c.requires c.node-top.result c.node-top.ensures)

pub bounds-next-top : goal.bounds-next-top
bounds-next-top c = assign_tag c.requires c.node-top.result c.node-top.ensures

pub returns : goal.returns
returns c =
    assign_answer c.requires c.node-top.result c.node-top.ensures _ _ c.evaluate.ensures c.in_ok-value.was (omega arith) _ refl refl refl
