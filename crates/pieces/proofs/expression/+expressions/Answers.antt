-- The proof of the cycle of calls {shift, operate, operand}: each answer is a law of `Shifts` or `Operators`, at what the calls before it
-- gave.
-- Assumes nothing.
use mathlib.Core.Path.{◌≡◌, ap, ◌∙◌}
use Prim.Native.Nat.{ℕ, ◌<◌}
use native.Mathlib.Omega.{arith}
use Rattle.rules.specs.Value.{at}
use Rattle.rules.specs.Table.{Node}
use Rattle.table.specs.Kinds.{paper_operator}
use Rattle.run.specs.Laws.Statements.{node_inside, kind_read, refusal_up}
use Rattle.pieces.specs.Laws.Changes.{kept_near, kept_number, near_kept}
use Rattle.pieces.specs.Laws.Shifts.{Change, change_got, operand_refused, movable, operand_broken, operand_moved, variable_below, variable_shift, constant_shift}
use Rattle.pieces.proofs.Operators.{memory, enough, Left, Right, left_below, left_shiftable, left_refused, left_got, left_number, right_below, right_shiftable, right_refused, right_got, right_number, operator_answer, broken_answer}
use Rattle.pieces.proofs.expression.+expressions.Goals as goal
use Rattle.pieces.proofs.expression.+expressions.Goals.{operand-In-Ok, operate-In-Ok, operate-In-Ok-right, shift-In-Variable}

-- `operand` in the cycle: the change of its expression, added to its old value.

operand_change : (t : ℕ) (c : operand-In-Ok t) → Change c.requires.0 c.in-Ok.change c.in-Ok.length c.args.out.now c.shift-shifted.new.out
operand_change t c = change_got c.requires.0 c.shift-shifted.ensures c.in-Ok.is

pub operand-returns-in_default : goal.operand-returns-in_default
operand-returns-in_default t c = rw c.in_default.is (operand_refused c.requires.0 c.shift-shifted.ensures c.args.was c.in_default.is)

pub operand-moved-requires : goal.operand-moved-requires
operand-moved-requires t c = movable c.requires.0 (operand_change t (goal.at.operand-moved-requires t c).In-Ok) c.args.was c.requires.1

pub operand-returns-in_default-moved : goal.operand-returns-in_default-moved
operand-returns-in_default-moved t c =
    operand_broken c.requires.0 (operand_change t (goal.at.operand-returns-in_default-moved t c).In-Ok) c.args.was c.requires.1 c.moved.ensures c.in_default-moved.is

pub operand-returns : goal.operand-returns
operand-returns t c =
    operand_moved c.requires.0 (operand_change t (goal.at.operand-returns t c).In-Ok) c.args.was c.requires.1 c.moved.ensures c.in-Some.is

-- `operate` in the cycle: the left operand's new value, then the right one's, then the result; a refusal is handed up.

operate_left : (t : ℕ) (c : operate-In-Ok t) → Left c.requires c.in-Ok.x c.in-Ok.m c.args.out.now c.operand-left.new.out
operate_left t c = left_got c.requires c.node-top.result c.node-top.ensures c.operand-left.ensures c.in-Ok.is

operate_right : (t : ℕ) (c : operate-In-Ok-right t) → Right c.requires c.in-Ok.m c.in-Ok-right.y c.in-Ok-right.n c.operand-left.new.out c.operand-right.new.out
operate_right t c =
    right_got c.requires c.node-top.result c.node-top.ensures (operate_left t (goal.at.operate-In-Ok-right t c).In-Ok) c.operand-right.ensures c.in-Ok-right.is

pub operate-node-top-requires : goal.operate-node-top-requires
operate-node-top-requires t c = node_inside c.args.checked.now c.requires.shiftable.here

pub operate-operand-left-requires : goal.operate-operand-left-requires
operate-operand-left-requires t c = (
  omega (arith, c.decreases, left_below c.requires c.node-top.result c.node-top.ensures),
  (left_shiftable c.requires c.node-top.result c.node-top.ensures, kept_number _ (memory c.requires).left),
)

pub operate-returns-in_default : goal.operate-returns-in_default
operate-returns-in_default t c =
    rw c.in_default.is (left_refused c.requires c.node-top.result c.node-top.ensures c.operand-left.ensures _ c.in_default.is)

pub operate-overflow_add-from-3 : goal.operate-overflow_add-from-3
operate-overflow_add-from-3 t c = omega (arith, (operate_left t (goal.at.operate-overflow_add-from-3 t c).In-Ok).room)

pub operate-overflow_add-at-3 : goal.operate-overflow_add-at-3
operate-overflow_add-at-3 t c = omega (arith, (operate_left t (goal.at.operate-overflow_add-at-3 t c).In-Ok).size, enough c.requires)

pub operate-operand-right-requires : goal.operate-operand-right-requires
operate-operand-right-requires t c =
    let left = operate_left t (goal.at.operate-operand-right-requires t c).In-Ok in (
      omega (arith, c.decreases, right_below c.requires c.node-top.result c.node-top.ensures),
      (right_shiftable c.requires c.node-top.result c.node-top.ensures left, kept_number _ (memory c.requires).right),
    )

pub operate-returns-in_default-right : goal.operate-returns-in_default-right
operate-returns-in_default-right t c =
    let left = operate_left t (goal.at.operate-returns-in_default-right t c).In-Ok in
    rw c.in_default-right.is (right_refused c.requires c.node-top.result c.node-top.ensures left c.operand-right.ensures _ c.in_default-right.is)

pub operate-overflow_add-m : goal.operate-overflow_add-m
operate-overflow_add-m t c = omega (arith, (operate_left t (goal.at.operate-overflow_add-m t c).In-Ok).size, enough c.requires)

pub operate-overflow_add-m-2 : goal.operate-overflow_add-m-2
operate-overflow_add-m-2 t c =
    let w = (goal.at.operate-overflow_add-m-2 t c).In-Ok-right in
    omega (arith, (operate_left t (goal.at.operate-overflow_add-m-2 t c).In-Ok).size, (operate_right t w).size, enough c.requires)

pub operate-settle-requires : goal.operate-settle-requires
operate-settle-requires t c =
    let left = operate_left t (goal.at.operate-settle-requires t c).In-Ok in
    let right = operate_right t (goal.at.operate-settle-requires t c).In-Ok-right in (
      kept_number _ (left_number c.requires left right),
      (kept_number _ (right_number c.requires left right), (kept_near c.args.before.result (memory c.requires).near, omega (arith, enough c.requires))),
    )

pub operate-returns : goal.operate-returns
operate-returns t c =
    operator_answer c.requires (operate_left t (goal.at.operate-returns t c).In-Ok) (operate_right t (goal.at.operate-returns t c).In-Ok-right) c.settle.ensures

-- `shift` in the cycle: a leaf is answered at once; an operator's old operands are recalled and it is handed to `operate`.

tag_below : (t : ℕ) (c : shift-In-Variable t) → c.node-top.result.tag < 32
tag_below t c =
    let same : c.node-top.result.tag ≡ _ = ap (λ (n : Node). n.tag) c.node-top.ensures in
    omega (arith, same, variable_below c.requires (kind_read c.node-top.result c.node-top.ensures c.in-Variable.is))

pub shift-node-top-requires : goal.shift-node-top-requires
shift-node-top-requires t c = node_inside c.args.checked.now c.requires.here

pub shift-offset_bounds-changes-top : goal.shift-offset_bounds-changes-top
shift-offset_bounds-changes-top t c = omega (arith, tag_below t c)

pub shift-bounds-changes-top : goal.shift-bounds-changes-top
shift-bounds-changes-top t c = tag_below t c

pub shift-returns-in-Variable : goal.shift-returns-in-Variable
shift-returns-in-Variable t c =
    let tag = ap (λ (n : Node). at c.args.changes.now n.tag) c.node-top.ensures in
    variable_shift c.requires c.args.out.now (near_kept _ (c.requires.near c.node-top.result.tag) ∙ tag)
    (kind_read c.node-top.result c.node-top.ensures c.in-Variable.is)

pub shift-returns-in_err-before-in-Operator : goal.shift-returns-in_err-before-in-Operator
shift-returns-in_err-before-in-Operator t c =
    rw (refusal_up c.from_residual.ensures.1)
    (broken_answer c.requires (paper_operator c.in-Operator.operator) (kind_read c.node-top.result c.node-top.ensures c.in-Operator.is) c.recall.ensures
    c.in_err-before-in-Operator.was _ _)

pub shift-returns-in_default : goal.shift-returns-in_default
shift-returns-in_default t c =
    constant_shift c.requires c.args.out.now c.node-top.result c.node-top.ensures c.in_default.not-Variable c.in_default.not-Operator
