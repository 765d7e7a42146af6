-- `run::call::attempt` meets its contract: a refused test is the run's refusal, and a limit that has passed the tests is a count.
-- Assumes nothing.
use mathlib.Core.Path.{subst}
use lib.IntN.{ℤ}
use lib.ListN.{length}
use mir.Syntax.{w64}
use mir.ValLaws.{to_z-of_z}
use Rattle.run.specs.Call.{Tested, RunAnswers}
use Rattle.run.specs.Laws.Statements.{refusal_up}
use Rattle.run.specs.Laws.Calls.{tests_refused, limit_is, startable}
use Rattle.run.proofs.call.attempt.Goals as goal
use Rattle.run.proofs.call.attempt.Goals.{After-tested}

-- the limit was handed on as a word
told : (c : After-tested) → Tested c.args.t.now c.args.inputs.now c.args.limit c.tested.result
told c = subst (λ (z : ℤ). Tested c.args.t.now c.args.inputs.now z c.tested.result) (to_z-of_z w64 c.args.limit c.ranges.limit) c.tested.ensures

pub returns-in_err-most : goal.returns-in_err-most
returns-in_err-most c =
    rw (refusal_up c.from_residual.ensures.1)
    (tests_refused c.args.t.now c.args.inputs.now c.args.limit (told (goal.at.returns-in_err-most c).After-tested) c.in_err-most.was _ _)

pub start-requires : goal.start-requires
start-requires c = startable c.args.t.now c.args.inputs.now c.args.limit (told (goal.at.start-requires c).After-tested) c.in_ok-most.was

pub returns : goal.returns
returns c =
    subst (λ (z : ℤ). RunAnswers c.args.t.now c.args.inputs.now z (length c.args.out.now) c.start.result c.start.new.out)
    (limit_is c.args.t.now c.args.inputs.now c.args.limit (told (goal.at.returns c).After-tested) c.in_ok-most.was) c.start.ensures
