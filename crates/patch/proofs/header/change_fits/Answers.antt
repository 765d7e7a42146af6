-- `patch::header::change_fits` meets its contract: a number's change that is not far is added; a truth's change is a truth.
-- Assumes nothing.
use mathlib.Core.Path.{sym, ◌∙◌}
use Rattle.patch.proofs.Inputs.{change_far, sum_fits, change_number, change_truth}
use Rattle.patch.proofs.header.change_fits.Goals as goal

pub overflow_add-input : goal.overflow_add-input
overflow_add-input c =
    sum_fits c.args.input c.args.change c.ranges.input c.ranges.change (rw c.in-Number.is at c.requires) (sym c.within.ensures ∙ c.if-within.true)

pub returns-then-within : goal.returns-then-within
returns-then-within c =
    rw c.in-Number.is
    (c.in_type.ensures ∙ change_number c.args.input c.args.change c.ranges.input c.ranges.change (rw c.in-Number.is at c.requires)
    (sym c.within.ensures ∙ c.if-within.true))

pub returns-else-within : goal.returns-else-within
returns-else-within c =
    rw c.in-Number.is
    (c.if-within.false ∙ change_far c.args.input c.args.change c.ranges.input c.ranges.change (rw c.in-Number.is at c.requires)
    (sym c.within.ensures ∙ c.if-within.false))

pub returns-in-Truth : goal.returns-in-Truth
returns-in-Truth c = rw c.in-Truth.is (c.within-in-Truth.ensures ∙ change_truth c.args.input c.args.change c.ranges.change)
