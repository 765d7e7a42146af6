-- `run::number::apply` meets its contract: the result of two numbers of the 32-bit range fits a word of 64 bits.
-- Assumes nothing.
use Rattle.rules.specs.Tree.{apply}
use Rattle.run.specs.Laws.Numbers.{add_fits, sub_fits, mul_fits, sum_back, difference_back, product_back, truth_back, greater_plain, equal_plain}
use Rattle.run.proofs.number.apply.Goals as goal

pub overflow_add-result : goal.overflow_add-result
overflow_add-result c = add_fits c.args.x c.args.y c.requires.0 c.requires.1

pub overflow_sub-result : goal.overflow_sub-result
overflow_sub-result c = sub_fits c.args.x c.args.y c.requires.0 c.requires.1

pub overflow_mul-result : goal.overflow_mul-result
overflow_mul-result c = mul_fits c.args.x c.args.y c.requires.0 c.requires.1

pub returns-in-Add : goal.returns-in-Add
unfolding apply
returns-in-Add c = rw c.in-Add.is (sum_back c.args.x c.args.y c.requires.0 c.requires.1)

pub returns-in-Subtract : goal.returns-in-Subtract
unfolding apply
returns-in-Subtract c = rw c.in-Subtract.is (difference_back c.args.x c.args.y c.requires.0 c.requires.1)

pub returns-in-Multiply : goal.returns-in-Multiply
unfolding apply
returns-in-Multiply c = rw c.in-Multiply.is (product_back c.args.x c.args.y c.requires.0 c.requires.1)

pub returns-in-Greater : goal.returns-in-Greater
unfolding apply
returns-in-Greater c = rw c.in-Greater.is (truth_back _ _ c.from.ensures (greater_plain c.args.x c.args.y c.requires.0 c.requires.1))

pub returns-in-Equal : goal.returns-in-Equal
unfolding apply
returns-in-Equal c = rw c.in-Equal.is (truth_back _ _ c.from-in-Equal.ensures (equal_plain c.args.x c.args.y c.requires.0 c.requires.1))
