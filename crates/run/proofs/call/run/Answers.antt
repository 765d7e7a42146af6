-- `run::call::run` meets its contract: the answer is the run's, or says why it is refused.
-- Assumes nothing.
use mathlib.Core.Path.{◌∙◌}
use Rattle.run.specs.Laws.Calls.{call_answer, call_refused}
use Rattle.run.proofs.call.run.Goals as goal

pub returns-in-Ok : goal.returns-in-Ok
returns-in-Ok c = call_answer c.args.t.now c.args.inputs.now c.ranges.limit _ c.attempt.ensures c.in-Ok.is c.attempt.auto.out

pub returns-in-Err : goal.returns-in-Err
returns-in-Err c =
    call_refused c.args.t.now c.args.inputs.now c.ranges.limit _ c.attempt.ensures c.in-Err.is _ _
    (rw (← c.attempt.auto.out) c.refuse.ensures) (c.refuse.auto.out ∙ c.attempt.auto.out)
