-- `patch::header::legal` meets its contract: the first input that may not take its change decides.
-- Assumes nothing.
use mathlib.Core.Path.{◌≡◌, sym, ap, ap₂, ◌∙◌}
use mathlib.Core.Bool.{Bool}
use Prim.Native.Nat.{◌<◌}
use native.Mathlib.Omega.{arith}
use mir.Syntax.{w64}
use mir.ValLaws.{to_z-of_z}
use borrow.Author.Rules.{rules}
use Rattle.rules.specs.Value.{Ty, at}
use Rattle.rules.specs.Table.{variables}
use Rattle.run.specs.Laws.Fitting.{type_by, header_long}
use Rattle.pieces.specs.Laws.Changes.{kept}
use Rattle.patch.proofs.Inputs.{types_inside, inputs_long, input_in, legal_none, legal_not, legal_all}
use Rattle.patch.specs.Call.{legal_change}
use Rattle.patch.proofs.header.legal.Goals as goal
use Rattle.patch.proofs.header.legal.Goals.{After-from, After-change_fits}

pub returns-then-changes-inputs : goal.returns-then-changes-inputs
returns-then-changes-inputs c =
    legal_none c.requires.0 c.args.inputs.now c.requires.1 c.args.changes.now
    (λ e. c.if-changes-inputs.true (e ∙ sym (inputs_long c.requires.0 c.args.inputs.now c.requires.1)))

pub bounds-t-i : goal.bounds-t-i
bounds-t-i c = omega (arith, inputs_long c.requires.0 c.args.inputs.now c.requires.1, header_long c.args.t.now (types_inside c.requires.0), c.loop-i-test.true)

below : (c : After-from) → c.loop-i.i < variables c.args.t.now
below c = omega (arith, inputs_long c.requires.0 c.args.inputs.now c.requires.1, c.loop-i-test.true)

pub change_fits-requires : goal.change_fits-requires
change_fits-requires c =
    let word : kept (at c.args.inputs.now c.loop-i.i) ≡ at c.args.inputs.now c.loop-i.i = to_z-of_z w64 _ (search rules) in
    rw (c.from.ensures, word)
    (input_in c.requires.0 c.args.inputs.now c.requires.1 c.loop-i.i (below (goal.at.change_fits-requires c).After-from))

answer : (c : After-change_fits) → legal_change (type_by c.args.t.now c.loop-i.i) (at c.args.inputs.now c.loop-i.i) (at c.args.changes.now c.loop-i.i) ≡ c.change_fits.result
answer c = sym (c.change_fits.ensures ∙ ap (λ (t : Ty). legal_change t (kept (at c.args.inputs.now c.loop-i.i)) (kept (at c.args.changes.now c.loop-i.i))) c.from.ensures
    ∙ ap₂ {C = Bool} (legal_change (type_by c.args.t.now c.loop-i.i)) (to_z-of_z w64 _ (search rules)) (to_z-of_z w64 _ (search rules)))

pub returns-then-not-change_fits : goal.returns-then-not-change_fits
returns-then-not-change_fits c =
    legal_not c.requires.0 c.args.inputs.now c.requires.1 c.args.changes.now c.loop-i.i (below (goal.at.returns-then-not-change_fits c).After-from)
    (answer (goal.at.returns-then-not-change_fits c).After-change_fits ∙ c.if-not-change_fits.true)

pub returns : goal.returns
returns c =
    let long = inputs_long c.requires.0 c.args.inputs.now c.requires.1 in
    legal_all c.requires.0 c.args.inputs.now c.requires.1 c.args.changes.now (c.if-changes-inputs.false ∙ long)
    (λ k less. c.loop-i.invariant k (omega (arith, long, c.loop-i-test.false)))
