-- What the contracts of the run say of its answers, by the definitions of the rules.
-- Assumes nothing.
use Rattle.std.specs.Prelude.{◌≡◌, true, List, ℕ, ◌+◌, ◌*◌, ◌≤◌, length, set, ℤ, Option, Some, None, Result, Ok, Err}
use Rattle.std.proofs.Math.Option.{some}
use Rattle.numbers.specs.Lay.{lay}
use Rattle.rules.specs.Outcome.{Outcome, choose, out_of_range}
use Rattle.rules.specs.Value.{Ty, in_type}
use Rattle.rules.specs.Tree.{Operator, Expression, gives, apply}
use Rattle.rules.specs.Table.{operator, types_of, expression}
use Rattle.rules.specs.Run.{Valued, evaluate}
use Rattle.rules.proofs.Laws.Parts.{number_of_kind, node_at, part_at}
use Rattle.rules.proofs.Laws.Size.{operations}
use Rattle.rules.proofs.Laws.Store.{Good}
use Rattle.table.specs.Agrees.{Agrees}
use Rattle.table.specs.Kinds.{paper_operator}
use Rattle.table.specs.Paper.{refusal_for}
use Rattle.table.specs.declared.answer.Refusal.{Refusal}
use Rattle.table.specs.declared.kind.Operator.{Operator as Code}
use Rattle.table.specs.declared.script.Checked.{Checked}

-- ---- numbers

-- a number of the 32-bit range
abbrev pub Number : ℤ → Type 0
Number z = in_type Ty.number z ≡ true

-- what the operator gives, where it is a value of its type
abbrev pub computed_as : Operator → ℤ → ℤ → Option ℤ
computed_as o x y = choose (in_type (gives o) (apply o x y)) (Some (apply o x y)) None

-- ---- places: every place that a run comes to is far below this

abbrev pub farthest : ℕ
farthest = 4_611_686_018_427_387_904

-- ---- expressions

-- an operator's operands laid down, and its result; the record ends at `end`
abbrev pub finished_as : Operator → ℤ → ℤ → ℕ → Result (ℤ × ℕ) Refusal
finished_as o x y end = choose (in_type (gives o) (apply o x y)) (Ok (apply o x y, end)) (Err (refusal_for out_of_range))

pub record Finishes (o : Operator) (x y : ℤ) (out : List ℤ) (at end : ℕ) (r : Result (ℤ × ℕ) Refusal) (after : List ℤ) : Type 0 where
  pub lays : after ≡ set (set out at x) (at + 1) y
  pub ends : r ≡ finished_as o x y end

-- a value, with its words laid down from a place on and the place behind them
pub record ValuedAs (out : List ℤ) (at : ℕ) (after : List ℤ) (v : Valued) (p : ℤ × ℕ) : Type 0 where
  pub value : p.0 ≡ v.value
  pub ends : p.1 ≡ at + length v.words
  pub lays : after ≡ lay out at v.words

abbrev pub EvaluatedAs : Outcome Valued → Result (ℤ × ℕ) Refusal → List ℤ → ℕ → List ℤ → Type 0
EvaluatedAs m r out at after = Agrees (ValuedAs out at after) m r

-- the node is an expression of the checked, the store is good, and its record ends before the farthest place
pub record Evaluable (s : Checked) (node : ℕ) (values : List ℤ) (at : ℕ) : Type 0 where
  pub type : Ty
  pub tree : Expression
  pub here : part_at s.table.now node ≡ some (expression type tree)
  pub good : Good (types_of s.table.now) values
  pub near : at + 2 * operations tree ≤ farthest

-- the answer for the node's expression
abbrev pub EvaluatesTo : Checked → ℕ → List ℤ → Result (ℤ × ℕ) Refusal → List ℤ → ℕ → List ℤ → Type 0
EvaluatesTo s node values r out at after = (t : Ty) (e : Expression) → part_at s.table.now node ≡ some (expression t e) → EvaluatedAs
    (evaluate e values) r out at after

-- and the node is this operator
pub record Operates (s : Checked) (node : ℕ) (o : Code) (values : List ℤ) (at : ℕ) : Type 0 where
  pub evaluable : Evaluable s node values at
  pub kinded : (node_at s.table.now node).kind ≡ number_of_kind (operator (paper_operator o))
