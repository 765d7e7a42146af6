-- `run::input::fits` meets its contract. The loop's invariant: each value before i is one of its type; the first that is not decides.
-- Assumes nothing.
use mathlib.Core.Path.{◌≡◌, sym, ap, ◌∙◌}
use native.Mathlib.Omega.{arith}
use mir.Syntax.{w64}
use mir.ValLaws.{to_z-of_z}
use borrow.Author.Rules.{rules}
use Rattle.rules.specs.Value.{in_type}
use Rattle.rules.specs.Table.{variables}
use Rattle.table.specs.Kinds.{paper_type}
use Rattle.run.specs.Laws.Fitting.{count_is, header_long, fits_none, fits_not, fits_all}
use Rattle.run.proofs.input.fits.Goals as goal
use Rattle.run.proofs.input.fits.Goals.{After-pair-count}

-- the count that was read is the header's
count : (c : After-pair-count) → c.pair-count.result ≡ variables c.args.t.now
count c = count_is c.args.t.now c.pair-count.ensures.0

pub pair-count-requires : goal.pair-count-requires
pair-count-requires c = omega (arith, header_long c.args.t.now c.requires)

pub returns-then-inputs-count : goal.returns-then-inputs-count
returns-then-inputs-count c =
    fits_none c.args.t.now c.requires c.args.inputs.now (λ e. c.if-inputs-count.true (e ∙ sym (count (goal.at.returns-then-inputs-count c).After-pair-count)))

pub bounds-t-i : goal.bounds-t-i
bounds-t-i c = omega (arith, count (goal.at.bounds-t-i c).After-pair-count, header_long c.args.t.now c.requires)

pub returns-then-not-in_type : goal.returns-then-not-in_type
returns-then-not-in_type c =
    fits_not c.args.t.now c.requires c.args.inputs.now c.loop-i.i (omega (arith, count (goal.at.returns-then-not-in_type c).After-pair-count))
    (rw (← c.from.ensures) (ap (in_type (paper_type c.from.result)) (sym (to_z-of_z w64 _ (search rules))) ∙ sym c.in_type.ensures ∙ c.if-not-in_type.true))

pub returns : goal.returns
returns c =
    let all = count (goal.at.returns c).After-pair-count in
    fits_all c.args.t.now c.requires c.args.inputs.now (c.if-inputs-count.false ∙ all) (λ k below. c.loop-i.invariant k (omega arith))
