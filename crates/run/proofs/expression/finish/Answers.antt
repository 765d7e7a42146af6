-- `run::expression::finish` meets its contract: the two operands are put down, and `compute` decides.
-- Assumes nothing.
use Rattle.std.proofs.Common.{◌≡◌, ◌∙◌}
use native.Mathlib.Omega.{arith}
use Prim.Native.Nat.{◌+◌}
use lib.ListN.{set}
use Rattle.table.specs.Kinds.{paper_operator}
use Rattle.run.specs.Code.{computed_as}
use Rattle.run.specs.Laws.Numbers.{both_plain, two_put}
use Rattle.run.specs.Laws.Operators.{finished_outside, finished_inside}
use Rattle.run.proofs.expression.finish.Goals as goal
use Rattle.run.proofs.expression.finish.Goals.{After-put-2, After-compute}

operands_laid : (c : After-put-2) → c.put-2.new.out ≡ set (set c.args.out.now c.args.at c.args.x) (c.args.at + 1) c.args.y
operands_laid c = two_put c.args.out.now c.args.at c.args.x c.args.y c.requires.0 c.requires.1.0 c.put.ensures c.put-2.ensures

result_is : (c : After-compute) → c.compute.result ≡ computed_as (paper_operator c.args.operator) c.args.x c.args.y
result_is c = c.compute.ensures ∙ both_plain c.args.x c.args.y c.requires.0 c.requires.1.0 (computed_as (paper_operator c.args.operator))

pub returns-in_default : goal.returns-in_default
returns-in_default c = record {
  lays = operands_laid (goal.at.returns-in_default c).After-put-2;
  ends = finished_outside (paper_operator c.args.operator) c.args.x c.args.y c.args.end (result_is (goal.at.returns-in_default c).After-compute) c.in_default.is;
}

pub returns : goal.returns
returns c = record {
  lays = operands_laid (goal.at.returns c).After-put-2;
  ends = finished_inside (paper_operator c.args.operator) c.args.x c.args.y c.args.end (result_is (goal.at.returns c).After-compute) c.in-Some.z c.in-Some.is
      (omega arith);
}
