-- `run::call::tested` meets its contract: each test in turn is a test of the definition.
-- Assumes nothing.
use Rattle.std.specs.Prelude.{ℕ, Option, ok_or}
use mathlib.Core.Path.{ap, ◌∙◌}
use mir.Syntax.{w64}
use mir.ValLaws.{to_z-of_z}
use Rattle.table.specs.Accepted.{AcceptedTable}
use Rattle.table.specs.declared.answer.Refusal.{Refusal}
use Rattle.run.specs.Call.{limited}
use Rattle.run.specs.Laws.Statements.{refusal_up}
use Rattle.run.specs.Laws.Tests.{check_refused, check_accepted, types_inside, store_refused, limit_decides}
use Rattle.run.proofs.call.tested.Goals as goal
use Rattle.run.proofs.call.tested.Goals.{In_ok-check}

table_passes : (c : In_ok-check) → AcceptedTable c.args.t.now
table_passes c = check_accepted c.args.t.now c.in_ok-check.was c.check.ensures

pub returns-in_err-check : goal.returns-in_err-check
returns-in_err-check c =
    rw (refusal_up c.from_residual.ensures.1) (check_refused c.args.t.now c.args.inputs.now c.args.limit c.in_err-check.was c.check.ensures)

pub fits-requires : goal.fits-requires
fits-requires c = types_inside _ (table_passes (goal.at.fits-requires c).In_ok-check)

pub returns-then-not-fits : goal.returns-then-not-fits
returns-then-not-fits c =
    store_refused c.args.t.now c.args.inputs.now c.args.limit (table_passes (goal.at.returns-then-not-fits c).In_ok-check) (rw c.if-not-fits.true at c.fits.ensures)

pub returns : goal.returns
returns c =
    limit_decides c.args.t.now c.args.inputs.now c.args.limit (table_passes (goal.at.returns c).In_ok-check) (rw c.if-not-fits.false at c.fits.ensures)
    (c.ok_or.ensures.value ∙ ap (λ (o : Option ℕ). ok_or o Refusal.Limit) (c.read_limit.ensures ∙ ap limited (to_z-of_z w64 c.args.limit c.ranges.limit)))
