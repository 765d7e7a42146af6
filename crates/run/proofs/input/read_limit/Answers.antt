-- `run::input::read_limit` meets its contract: the bounds are those of the definition, and such a limit is not negative.
-- Assumes nothing.
use mathlib.Core.Path.{◌≡◌, sym, ◌∙◌}
use lib.IntN.{pos}
use mir.Syntax.{w64}
use mir.ValLaws.{to_z-of_z}
use Rattle.numbers.specs.Signed.{between}
use Rattle.rules.specs.Run.{most_steps}
use Rattle.run.specs.Laws.Fitting.{between_back, limit_cast}
use Rattle.run.proofs.input.read_limit.Goals as goal
use Rattle.run.proofs.input.read_limit.Goals.{After-within}

limit_told : (c : After-within) → c.within.result ≡ between (pos 1) most_steps c.args.limit
unfolding most_steps
limit_told c = c.within.ensures ∙ between_back _ _ c.args.limit c.ranges.limit

pub overflow_cast-result : goal.overflow_cast-result
overflow_cast-result c =
    limit_cast c.args.limit c.ranges.limit (sym (limit_told (goal.at.overflow_cast-result c).After-within) ∙ c.if-within.true)

pub returns-then-within : goal.returns-then-within
returns-then-within c =
    rw (← limit_told (goal.at.returns-then-within c).After-within, c.if-within.true, to_z-of_z w64 c.args.limit c.ranges.limit)

pub returns : goal.returns
returns c = rw (← limit_told (goal.at.returns c).After-within, c.if-within.false)
