-- `patch::call::attempt` meets its contract: a refused test is the call's refusal, and a patch that starts answers for the call.
-- Assumes nothing.
use Rattle.run.specs.Laws.Statements.{refusal_up}
use Rattle.patch.proofs.Testing.{tests_refused, startable}
use Rattle.patch.proofs.call.attempt.Goals as goal

pub returns-in_err-head : goal.returns-in_err-head
returns-in_err-head c = rw (refusal_up c.from_residual.ensures.1) (tests_refused c.args.t.now _ _ c.tested.ensures c.in_err-head.was _ _)

pub start-requires : goal.start-requires
start-requires c = startable c.args.t.now c.args.old.now c.args.changes.now c.tested.ensures c.in_ok-head.was
