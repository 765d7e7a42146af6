-- `pieces::expression::recall` meets its contract: each test that fails is one that reading the two words fails at, and `compute` decides.
-- Assumes nothing.
use mathlib.Core.Path.{◌≡◌, sym, ◌∙◌}
use Prim.Native.Nat.{◌+◌}
use mir.Syntax.{w64}
use mir.ValLaws.{to_z-of_z}
use borrow.Author.Rules.{rules}
use Rattle.rules.specs.Value.{at}
use Rattle.table.specs.Kinds.{paper_operator}
use Rattle.pieces.specs.Laws.Changes.{kept}
use Rattle.pieces.proofs.Recalling.{recalls_short, recalls_left, recalls_right, recalls_none, recalls_are}
use Rattle.pieces.proofs.expression.recall.Goals as goal
use Rattle.pieces.proofs.expression.recall.Goals.{After-in_type}

-- the two words, as they are read
left_is : (c : After-in_type) → kept (at c.args.old.now c.args.from) ≡ at c.args.old.now c.args.from
left_is c = to_z-of_z w64 _ (search rules)

right_is : (c : After-in_type) → kept (at c.args.old.now (c.args.from + 1)) ≡ at c.args.old.now (c.args.from + 1)
right_is c = to_z-of_z w64 _ (search rules)

pub returns-then-end-from : goal.returns-then-end-from
returns-then-end-from c = recalls_short (paper_operator c.args.operator) c.requires c.if-end-from.true

pub returns-then-not-in_type : goal.returns-then-not-in_type
returns-then-not-in_type c =
    let w = (goal.at.returns-then-not-in_type c).After-in_type in
    recalls_left (paper_operator c.args.operator) c.requires c.if-end-from.false (left_is w) (right_is w) (sym c.in_type.ensures ∙ c.if-not-in_type.true)

pub returns-then-not-in_type-2 : goal.returns-then-not-in_type-2
returns-then-not-in_type-2 c =
    let w = (goal.at.returns-then-not-in_type-2 c).After-in_type in
    recalls_right (paper_operator c.args.operator) c.requires c.if-end-from.false (left_is w) (right_is w)
    (sym c.in_type.ensures ∙ c.if-not-in_type.false) (sym c.in_type-2.ensures ∙ c.if-not-in_type-2.true)

pub returns-in_default : goal.returns-in_default
returns-in_default c =
    let w = (goal.at.returns-in_default c).After-in_type in
    recalls_none (paper_operator c.args.operator) c.requires c.if-end-from.false (left_is w) (right_is w)
    (sym c.in_type.ensures ∙ c.if-not-in_type.false) (sym c.in_type-2.ensures ∙ c.if-not-in_type-2.false) c.compute.ensures c.in_default.is

pub returns : goal.returns
returns c =
    let w = (goal.at.returns c).After-in_type in
    recalls_are (paper_operator c.args.operator) c.requires c.if-end-from.false (left_is w) (right_is w)
    (sym c.in_type.ensures ∙ c.if-not-in_type.false) (sym c.in_type-2.ensures ∙ c.if-not-in_type-2.false) c.compute.ensures c.in-Some.is
