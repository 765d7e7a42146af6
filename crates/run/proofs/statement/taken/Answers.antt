-- `run::statement::taken` meets its contract: by the two sides of the test.
-- Assumes nothing.
use mathlib.Core.Path.{sym, ap, ◌∙◌}
use mir.Syntax.{w64}
use mir.Val.{to_z, of_z}
use mir.ValLaws.{to_z-of_z}
use Rattle.run.specs.Laws.Taken.{holds_zero, holds_other}
use Rattle.run.proofs.statement.taken.Goals as goal

pub returns-then-condition-eq0 : goal.returns-then-condition-eq0
returns-then-condition-eq0 c = holds_zero _ _ (sym (to_z-of_z w64 _ c.ranges.condition) ∙ ap (to_z w64) c.if-condition-eq0.true)

pub returns : goal.returns
returns c = holds_other _ _ _ (λ e. c.if-condition-eq0.false (ap (of_z w64) e))
