-- `patch::header::sums` meets its contract: each word is the sum of one word and its change.
-- Assumes nothing.
use mathlib.Core.Path.{◌≡◌, refl, ap, ap₂, ◌∙◌}
use Prim.Native.Nat.{◌<◌}
use native.Mathlib.Omega.{arith}
use lib.IntN.{ℤ}
use mir.Syntax.{w64}
use mir.ValLaws.{to_z-of_z}
use borrow.Author.Rules.{rules}
use Rattle.numbers.specs.Lay.{lay}
use Rattle.rules.specs.Value.{Ty, zeros, most_variables, at, plus}
use Rattle.rules.specs.Table.{variables}
use Rattle.run.specs.Laws.Fitting.{type_by, header_long}
use Rattle.patch.proofs.Inputs.{types_inside, inputs_long, near_both, sum_more, sums_all}
use Rattle.pieces.specs.Laws.Changes.{kept, kept_near}
use Rattle.patch.proofs.header.sums.Goals as goal
use Rattle.patch.proofs.header.sums.Goals.{After-from}

pub loop-i-init : goal.loop-i-init
unfolding zeros most_variables lay
loop-i-init c = refl

pub bounds-t-i : goal.bounds-t-i
bounds-t-i c = omega (arith, inputs_long c.requires.sized c.args.words.now c.requires.fits, header_long c.args.t.now (types_inside c.requires.sized), c.loop-i-test.true)

below : (c : After-from) → (c.loop-i.i < variables c.args.t.now) × (c.loop-i.i < 32)
below c =
    let long = inputs_long c.requires.sized c.args.words.now c.requires.fits in
    (omega (arith, long, c.loop-i-test.true), omega (arith, long, c.loop-i-test.true, c.requires.sized.few))

pub bounds-changes-i : goal.bounds-changes-i
bounds-changes-i c = (below (goal.at.bounds-changes-i c).After-from).1

pub plus-requires : goal.plus-requires
plus-requires c =
    let both = near_both c.requires c.loop-i.i in
    (kept_near (at c.args.words.now c.loop-i.i) both.0, kept_near (at c.args.changes.now c.loop-i.i) both.1)

pub bounds-values-i : goal.bounds-values-i
bounds-values-i c = (below (goal.at.bounds-values-i c).After-from).1

pub loop-i-preserved : goal.loop-i-preserved
loop-i-preserved c =
    let word : kept c.plus.result ≡ plus (type_by c.args.t.now c.loop-i.i) (at c.args.words.now c.loop-i.i) (at c.args.changes.now c.loop-i.i)
    = to_z-of_z w64 _ (search rules) ∙ c.plus.ensures ∙ ap (λ (t : Ty). plus t (kept (at c.args.words.now c.loop-i.i)) (kept (at c.args.changes.now c.loop-i.i))) c.from.ensures
    ∙ ap₂ {C = ℤ} (plus (type_by c.args.t.now c.loop-i.i)) (to_z-of_z w64 _ (search rules)) (to_z-of_z w64 _ (search rules)) in
    sum_more c.requires (below (goal.at.loop-i-preserved c).After-from).0 c.loop-i.invariant word

pub returns : goal.returns
returns c = sums_all c.requires (omega (arith, inputs_long c.requires.sized c.args.words.now c.requires.fits, c.loop-i-test.false)) c.loop-i.invariant
