-- `run::number::compute` meets its contract: the two tests at the ends of the range decide whether the result is a value of its type.
-- Assumes nothing.
use Rattle.std.proofs.Common.{◌≡◌, ◌∙◌}
use Rattle.rules.specs.Tree.{apply}
use Rattle.table.specs.Kinds.{paper_operator}
use Rattle.run.specs.Laws.Numbers.{both_plain, outside_below, outside_above, inside}
use Rattle.run.proofs.number.compute.Goals as goal
use Rattle.run.proofs.number.compute.Goals.{After-apply-z}

-- the operator's result
result_is : (c : After-apply-z) → c.apply-z.result ≡ apply (paper_operator c.args.operator) c.args.x c.args.y
result_is c = c.apply-z.ensures ∙ both_plain c.args.x c.args.y c.requires.0 c.requires.1 (apply (paper_operator c.args.operator))

pub returns-then-z-ltminus2147483648 : goal.returns-then-z-ltminus2147483648
returns-then-z-ltminus2147483648 c =
    outside_below (paper_operator c.args.operator) c.args.x c.args.y c.apply-z.result (result_is (goal.at.returns-then-z-ltminus2147483648 c).After-apply-z)
    c.apply-z.type_inv c.if-z-ltminus2147483648.true

pub returns-then-z-gt2147483647 : goal.returns-then-z-gt2147483647
returns-then-z-gt2147483647 c =
    outside_above (paper_operator c.args.operator) c.args.x c.args.y c.apply-z.result (result_is (goal.at.returns-then-z-gt2147483647 c).After-apply-z)
    c.apply-z.type_inv c.if-z-gt2147483647.true

pub returns : goal.returns
returns c =
    inside (paper_operator c.args.operator) c.args.x c.args.y c.apply-z.result (result_is (goal.at.returns c).After-apply-z)
    c.apply-z.type_inv c.if-z-ltminus2147483648.false c.if-z-gt2147483647.false
