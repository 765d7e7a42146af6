-- `run::statement::times` meets its contract: a count below 1 makes none, and any other is itself.
-- Assumes nothing.
use mathlib.Core.Path.{sym}
use Rattle.run.specs.Laws.Numbers.{below_one, from_one}
use Rattle.run.proofs.statement.times.Goals as goal

pub returns-then-count-lt1 : goal.returns-then-count-lt1
returns-then-count-lt1 c = sym (below_one c.args.count c.ranges.count c.if-count-lt1.true)

pub returns : goal.returns
returns c = (from_one c.args.count c.ranges.count c.if-count-lt1.false).1
