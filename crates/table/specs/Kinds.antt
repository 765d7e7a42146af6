-- The paper's kinds, operators and types, of the code's.
-- Assumes nothing.
use Rattle.std.specs.Prelude.{◌≡◌, ℕ, Result, MatchResult}
use Rattle.std.proofs.Math.Option.{none, some}
use Rattle.rules.specs.Value.{Ty}
use Rattle.rules.specs.Tree as Tree
use Rattle.rules.specs.Table as Table
use Rattle.rules.proofs.Laws.Parts.{number_of_kind}
use Rattle.table.specs.declared.answer.Refusal.{Refusal}
use Rattle.table.specs.declared.answer.Refusal.TheVariants.{Node}
use Rattle.table.specs.declared.kind.«Type».{«Type» as Code}
use Rattle.table.specs.declared.kind.«Type».TheVariants.{Number, Truth}
use Rattle.table.specs.declared.kind.Operator.{Operator}
use Rattle.table.specs.declared.kind.Operator.TheVariants.{Add, Subtract, Multiply, Greater, Equal}
use Rattle.table.specs.declared.kind.Kind.{Kind}
use Rattle.table.specs.declared.kind.Kind.TheVariants.{NumberConstant, TruthConstant, Variable, Operator as AnOperator, Skip, Assign, Sequence, If, Repeat}

abbrev pub paper_type : Code → Ty
paper_type Number = Ty.number
paper_type Truth = Ty.truth

abbrev pub paper_operator : Operator → Tree.Operator
paper_operator Add = Tree.Operator.add
paper_operator Subtract = Tree.Operator.subtract
paper_operator Multiply = Tree.Operator.multiply
paper_operator Greater = Tree.Operator.greater
paper_operator Equal = Tree.Operator.equal

abbrev pub paper_kind : Kind → Table.Kind
paper_kind NumberConstant = Table.number_constant
paper_kind TruthConstant = Table.truth_constant
paper_kind Variable = Table.variable
paper_kind (AnOperator o) = Table.operator (paper_operator o)
paper_kind Skip = Table.skip
paper_kind Assign = Table.assign
paper_kind Sequence = Table.sequence
paper_kind If = Table.if
paper_kind Repeat = Table.repeat

-- the paper's number of a kind
abbrev pub kind_number_of : Kind → ℕ
kind_number_of kind = number_of_kind (paper_kind kind)

-- the result is the kind with this number, or there is none and the node is refused
abbrev pub Decodes : ℕ → Result Kind Refusal → Type 0
Decodes n r = MatchResult r (λ kind. Table.kind_of n ≡ some (paper_kind kind)) (λ reason. (reason ≡ Node) × (Table.kind_of n ≡ none))

-- the type that a byte names
abbrev pub TypeDecodes : ℕ → Code → Type 0
TypeDecodes byte r = paper_type r ≡ Table.ty_of byte
