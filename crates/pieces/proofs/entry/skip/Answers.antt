-- `pieces::entry::skip` meets its contract: what the skip rule leaves, by whether the entry's steps are left.
-- Assumes nothing.
use Rattle.pieces.specs.Laws.Skipping.{skip_stopped, skip_came}
use Rattle.pieces.proofs.entry.skip.Goals as goal

pub returns-then-reached-met : goal.returns-then-reached-met
returns-then-reached-met c = skip_stopped c.if-reached-met.true

pub returns : goal.returns
returns c =
    λ end e inside same words behind.
    skip_came c.args.old.now c.args.met.stop end c.args.met.steps c.args.reached c.requires inside c.if-reached-met.false
    e c.args.out.now same words behind c.copy.ensures
