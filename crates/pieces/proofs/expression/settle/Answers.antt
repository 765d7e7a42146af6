-- `pieces::expression::settle` meets its contract: what `compute` gives is a value of the operator's type, so it is near.
-- Assumes nothing.
use mathlib.Core.Path.{◌∙◌}
use Rattle.table.specs.Kinds.{paper_operator}
use Rattle.run.specs.Code.{computed_as}
use Rattle.run.specs.Laws.Numbers.{both_plain}
use Rattle.pieces.proofs.Recalling.{computed_near}
use Rattle.pieces.specs.Laws.Changes.{kept_near}
use Rattle.pieces.proofs.expression.settle.Goals as goal

pub minus-requires : goal.minus-requires
minus-requires c =
    let o = paper_operator c.args.operator in
    let result_is = c.compute.ensures ∙ both_plain c.args.x c.args.y c.requires.0 c.requires.1.0 (computed_as o) in
    (kept_near c.in-Some.new (computed_near o c.args.x c.args.y result_is c.in-Some.is), kept_near c.args.was c.requires.1.1.0)
