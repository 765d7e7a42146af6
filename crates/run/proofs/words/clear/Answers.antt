-- `run::words::clear` meets its contract: what is behind the place is filled with zeros, where there is anything.
-- Assumes nothing.
use Rattle.run.specs.Laws.Laying.{cleared_rest, cleared_none}
use Rattle.run.proofs.words.clear.Goals as goal

pub returns-then-from-out : goal.returns-then-from-out
returns-then-from-out c = cleared_rest c.args.out.now c.args.from c.if-from-out.true (c.fill.ensures.after (λ y e. e))

pub returns-else-from-out : goal.returns-else-from-out
returns-else-from-out c = cleared_none c.args.out.now c.args.from c.if-from-out.false
