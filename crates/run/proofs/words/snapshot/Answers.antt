-- `run::words::snapshot` meets its contract. The loop's invariant: the first i words of the snapshot are laid; the variable that a
-- turn reads is the list's, so the word that it lays is the snapshot's next. Assumes nothing.
use mathlib.Core.Path.{ap, ◌∙◌}
use native.Mathlib.Omega.{arith}
use borrow.Author.Rules.{rules}
use Rattle.rules.specs.Value.{at}
use Rattle.rules.proofs.Laws.Store.{length_snapshot}
use Rattle.run.specs.Laws.Laying.{laid_none, laid_by, laid_all}
use Rattle.run.specs.Laws.Listing.{listed_in_row, variable_known, snapshot_at}
use Rattle.run.proofs.words.snapshot.Goals as goal

pub of-variables-requires : goal.of-variables-requires
of-variables-requires c = listed_in_row c.requires

pub loop-i-init : goal.loop-i-init
loop-i-init c = laid_none

pub bounds-values-from : goal.bounds-values-from
bounds-values-from c =
    omega (arith, c.from.ensures, variable_known c.requires c.of-variables.ensures c.loop-i.i c.loop-i-test.true)

pub loop-i-preserved : goal.loop-i-preserved
loop-i-preserved c =
    let vs = c.of-variables.result.now in
    let values = c.args.values.now in
    laid_by (at values 0) c.loop-i.invariant (omega (arith, length_snapshot vs values)) (ap (at values) c.from.ensures ∙ snapshot_at vs values c.loop-i.i)
    (search rules) c.put.ensures

pub returns-clause-laid : goal.returns-clause-laid
returns-clause-laid c =
    rw (← c.of-variables.ensures)
    (laid_all c.loop-i.invariant (omega (arith, length_snapshot c.of-variables.result.now c.args.values.now)))
