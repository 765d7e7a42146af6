-- `patch::call::start` meets its contract: the root's visit decides, and what it has come to is finished.
-- Assumes nothing.
use mathlib.Core.Path.{subst}
use Prim.Native.Nat.{ℕ}
use Rattle.run.specs.Laws.Statements.{refusal_up}
use Rattle.patch.specs.Call.{PatchAnswers, Rooted}
use Rattle.patch.proofs.Rooting.{given_few, root_refused, root_finishable}
use Rattle.patch.proofs.call.start.Goals as goal
use Rattle.patch.proofs.call.start.Goals.{After-padded-whole}

-- the visit starts from the changes as they are handed in
abbrev begun : (c : After-padded-whole) → Rooted c.args.t.now c.args.old.now c.args.head c.padded-whole.result
begun c = record { given = c.args.changes.now; start = c.requires; whole = c.padded-whole.ensures }

pub padded-whole-requires : goal.padded-whole-requires
padded-whole-requires c = given_few c.requires

pub returns-in_err-reached : goal.returns-in_err-reached
returns-in_err-reached c =
    rw (refusal_up c.from_residual.ensures.1)
    (root_refused c.requires c.padded-whole.ensures (c.rooted.ensures (begun (goal.at.returns-in_err-reached c).After-padded-whole)) c.in_err-reached.was _ _)

pub finish-requires : goal.finish-requires
finish-requires c =
    root_finishable c.requires c.padded-whole.ensures (c.rooted.ensures (begun (goal.at.finish-requires c).After-padded-whole)) c.in_ok-reached.was

pub returns : goal.returns
returns c =
    subst (λ (n : ℕ). PatchAnswers c.args.t.now c.args.old.now c.args.changes.now n c.finish.result c.finish.new.out) c.rooted.auto.out
    (c.finish.ensures (root_finishable c.requires c.padded-whole.ensures (c.rooted.ensures (begun (goal.at.returns c).After-padded-whole)) c.in_ok-reached.was))
