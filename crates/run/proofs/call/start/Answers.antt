-- `run::call::start` meets its contract: the root's run goes on from the inputs; its answer and the room decide.
-- Assumes nothing.
use mathlib.Core.Path.{sym, subst}
use Rattle.rules.specs.Value.{most_variables}
use Rattle.run.specs.Call.{Startable}
use Rattle.run.specs.Laws.Statements.{refusal_up}
use Rattle.run.specs.Laws.Calls.{table_of, few, root_runnable, root_refused, room_refused, root_completable, root_answer}
use Rattle.run.proofs.call.start.Goals as goal
use Rattle.run.proofs.call.start.Goals.{After-new-script}

-- the script is the table's
started : (c : After-new-script) → Startable c.new-script.result.checked.table.now c.args.inputs.now c.args.limit
started c = subst (λ bytes. Startable bytes c.args.inputs.now c.args.limit) (sym c.new-script.ensures.table) c.requires

pub fill-requires : goal.fill-requires
fill-requires c = table_of c.requires

pub new-script-requires-clause-accepted : goal.new-script-requires-clause-accepted
new-script-requires-clause-accepted c = table_of c.requires

pub padded-requires : goal.padded-requires
unfolding most_variables
padded-requires c = few c.new-script.result (started (goal.at.padded-requires c).After-new-script)

pub statement-requires : goal.statement-requires
statement-requires c = root_runnable c.new-script.result (started (goal.at.statement-requires c).After-new-script) c.root.result c.root.ensures c.padded.ensures

pub returns-in_err-ran : goal.returns-in_err-ran
returns-in_err-ran c =
    rw (refusal_up c.from_residual.ensures.1, ← c.new-script.ensures.table)
    (root_refused c.new-script.result (started (goal.at.returns-in_err-ran c).After-new-script) c.root.result c.root.ensures c.padded.ensures c.statement.ensures c.in_err-ran.was _ _)

pub returns-then-out-ran : goal.returns-then-out-ran
returns-then-out-ran c =
    rw (← c.new-script.ensures.table)
    (room_refused c.new-script.result (started (goal.at.returns-then-out-ran c).After-new-script) c.root.result c.root.ensures c.padded.ensures c.statement.ensures c.in_ok-ran.was
    c.statement.auto.out c.if-out-ran.true _)

pub complete-requires : goal.complete-requires
complete-requires c =
    root_completable c.new-script.result (started (goal.at.complete-requires c).After-new-script) c.root.result c.root.ensures c.padded.ensures c.statement.ensures c.in_ok-ran.was
    c.statement.auto.out c.if-out-ran.false

pub returns : goal.returns
returns c =
    rw (← c.new-script.ensures.table)
    (root_answer c.new-script.result (started (goal.at.returns c).After-new-script) c.root.result c.root.ensures c.padded.ensures c.statement.ensures c.in_ok-ran.was c.statement.auto.out
    c.if-out-ran.false _ _ c.complete.ensures)
