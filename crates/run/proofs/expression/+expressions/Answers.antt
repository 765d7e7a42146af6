-- The proof of the cycle of calls {evaluate, operate}: each answer is a law of `Expressions` or `Operators`, at what the calls before it gave.
-- Assumes nothing.
use Prim.Native.Nat.{ℕ}
use native.Mathlib.Omega.{arith}
use lib.IntN.{pos}
use Rattle.run.specs.Laws.Numbers.{word}
use Rattle.run.specs.Laws.Statements.{node_inside, kind_read}
use Rattle.run.specs.Laws.Expressions.{no_other_kind, constant_answer, truth_small, truth_answer, variable_below, variable_answer}
use Rattle.run.specs.Laws.Operators.{left_below, left_evaluable, left_refused, GotLeft, got_left, right_below, right_evaluable, right_refused, got_right, finishable, operator_answer}
use Rattle.run.proofs.expression.+expressions.Goals as goal
use Rattle.run.proofs.expression.+expressions.Goals.{operate-In-Ok}

-- `evaluate` in the cycle: a leaf is answered at once, and an operator is handed to `operate`.

pub evaluate-node-top-requires : goal.evaluate-node-top-requires
evaluate-node-top-requires t c = node_inside c.args.checked.now c.requires.here

pub evaluate-constant-requires : goal.evaluate-constant-requires
evaluate-constant-requires t c = node_inside c.args.checked.now c.requires.here

pub evaluate-returns-in-NumberConstant : goal.evaluate-returns-in-NumberConstant
evaluate-returns-in-NumberConstant t c =
    constant_answer c.requires (kind_read c.node-top.result c.node-top.ensures c.in-NumberConstant.is) c.constant.ensures c.constant.type_inv c.args.out.now

pub evaluate-overflow_cast-result : goal.evaluate-overflow_cast-result
evaluate-overflow_cast-result t c =
    let small = truth_small c.requires c.node-top.result c.node-top.ensures (kind_read c.node-top.result c.node-top.ensures c.in-TruthConstant.is) in
    word (pos c.node-top.result.tag) (omega (arith, small))

pub evaluate-returns-in-TruthConstant : goal.evaluate-returns-in-TruthConstant
evaluate-returns-in-TruthConstant t c =
    truth_answer c.requires c.node-top.result c.node-top.ensures (kind_read c.node-top.result c.node-top.ensures c.in-TruthConstant.is) c.args.out.now

pub evaluate-offset_bounds-values-top : goal.evaluate-offset_bounds-values-top
evaluate-offset_bounds-values-top t c =
    omega (arith, variable_below c.requires c.node-top.result c.node-top.ensures (kind_read c.node-top.result c.node-top.ensures c.in-Variable.is))

pub evaluate-bounds-values-top : goal.evaluate-bounds-values-top
evaluate-bounds-values-top t c =
    variable_below c.requires c.node-top.result c.node-top.ensures (kind_read c.node-top.result c.node-top.ensures c.in-Variable.is)

pub evaluate-returns-in-Variable : goal.evaluate-returns-in-Variable
evaluate-returns-in-Variable t c =
    variable_answer c.requires c.node-top.result c.node-top.ensures (kind_read c.node-top.result c.node-top.ensures c.in-Variable.is) c.args.out.now

pub evaluate-unreachable-requires : goal.evaluate-unreachable-requires
evaluate-unreachable-requires t c =
    no_other_kind c.requires c.node-top.result c.node-top.ensures c.in_default.not-NumberConstant c.in_default.not-TruthConstant c.in_default.not-Variable
    c.in_default.not-Operator

-- `operate` in the cycle: the left operand's value and place, then the right one's, then the last step; a refusal is handed up.

operate_left : (t : ℕ) (c : operate-In-Ok t) → GotLeft c.requires (c.in-Ok.x, c.in-Ok.behind) c.args.out.now c.evaluate-left.new.out
operate_left t c = got_left c.requires c.node-top.result c.node-top.ensures c.evaluate-left.ensures c.in-Ok.is

pub operate-node-top-requires : goal.operate-node-top-requires
operate-node-top-requires t c = node_inside c.args.checked.now c.requires.evaluable.here

pub operate-evaluate-left-requires : goal.operate-evaluate-left-requires
operate-evaluate-left-requires t c = (
  omega (arith, c.decreases, left_below c.requires c.node-top.result c.node-top.ensures),
  left_evaluable c.requires c.node-top.result c.node-top.ensures,
)

pub operate-returns-in_default : goal.operate-returns-in_default
operate-returns-in_default t c =
    rw c.in_default.is (left_refused c.requires c.node-top.result c.node-top.ensures c.evaluate-left.ensures c.in_default.is _ _)

pub operate-evaluate-right-requires : goal.operate-evaluate-right-requires
operate-evaluate-right-requires t c =
    let left = operate_left t (goal.at.operate-evaluate-right-requires t c).In-Ok in (
      omega (arith, c.decreases, right_below c.requires c.node-top.result c.node-top.ensures left),
      right_evaluable c.requires c.node-top.result c.node-top.ensures left,
    )

pub operate-returns-in_default-right : goal.operate-returns-in_default-right
operate-returns-in_default-right t c =
    rw c.in_default-right.is
    (right_refused c.requires c.node-top.result c.node-top.ensures (operate_left t (goal.at.operate-returns-in_default-right t c).In-Ok) c.evaluate-right.ensures
    c.in_default-right.is _ _)

pub operate-finish-requires : goal.operate-finish-requires
operate-finish-requires t c =
    let left = operate_left t (goal.at.operate-finish-requires t c).In-Ok in
    finishable c.requires c.node-top.result c.node-top.ensures left
    (got_right c.requires c.node-top.result c.node-top.ensures left c.evaluate-right.ensures c.in-Ok-right.is)

pub operate-returns : goal.operate-returns
operate-returns t c =
    let left = operate_left t (goal.at.operate-returns t c).In-Ok in
    operator_answer c.requires c.node-top.result c.node-top.ensures left
    (got_right c.requires c.node-top.result c.node-top.ensures left c.evaluate-right.ensures c.in-Ok-right.is) _ _ c.finish.ensures
