-- `patch::parts::grown` meets its contract: the store that starts the run is the last new snapshot, and what the run leaves is the
-- definition's. Assumes nothing.
use Rattle.run.specs.Laws.Statements.{refusal_up}
use Rattle.patch.proofs.Growing.{grown_repeatable, grown_refused, grown_settles, grown_answer}
use Rattle.patch.proofs.parts.grown.Goals as goal

pub repeat-requires : goal.repeat-requires
repeat-requires c = grown_repeatable c.requires.0 c.started-store.ensures

pub returns-in_err-ran : goal.returns-in_err-ran
returns-in_err-ran c =
    rw (refusal_up c.from_residual.ensures.1) (grown_refused c.requires.0 c.started-store.ensures c.args.more c.requires.1 c.repeat.ensures c.in_err-ran.was)

pub freshened-requires : goal.freshened-requires
freshened-requires c = grown_settles c.requires.0 c.started-store.ensures c.args.more c.requires.1 c.repeat.ensures c.in_ok-ran.was

pub returns : goal.returns
returns c = grown_answer c.requires.0 c.started-store.ensures c.args.more c.requires.1 c.repeat.ensures c.in_ok-ran.was c.freshened.ensures
