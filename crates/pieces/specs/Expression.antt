-- What the contracts of expressions say, by the definition of `shift`, which is taken apart here as the code takes it apart: the old
-- operands and the old result first, then each operand, then the new result.
-- Assumes nothing.
use Rattle.std.specs.Prelude.{◌≡◌, List, ◌∷◌, ◌++◌, ℕ, ◌+◌, ◌*◌, ◌≤◌, length, set, ℤ, Result, Ok, Err}
use Rattle.std.proofs.Math.Option.{some}
use Rattle.numbers.specs.Lay.{lay}
use Rattle.rules.specs.Outcome.{Outcome, accepted, ◌>>=◌, choose, out_of_range, broken}
use Rattle.rules.specs.Value.{Ty, in_type, minus}
use Rattle.rules.specs.Tree.{Operator, Expression, gives, apply}
use Rattle.rules.specs.Table.{operator, expression}
use Rattle.rules.specs.Run.{compute}
use Rattle.rules.specs.Patch as Rules
use Rattle.rules.specs.Patch.{read_in, moved, shift}
use Rattle.rules.proofs.Laws.Parts.{number_of_kind, node_at, part_at}
use Rattle.rules.proofs.Laws.Size.{operations}
use Rattle.table.specs.Agrees.{Agrees}
use Rattle.table.specs.Kinds.{paper_operator}
use Rattle.table.specs.Paper.{refusal_for}
use Rattle.table.specs.declared.answer.Refusal.{Refusal}
use Rattle.table.specs.declared.kind.Operator.{Operator as Code}
use Rattle.table.specs.declared.script.Checked.{Checked}
use Rattle.run.specs.Code.{farthest}
use Rattle.pieces.specs.Change.{AllNear}
use Rattle.pieces.specs.Old.{part, Inside}
use Rattle.pieces.specs.declared.expression.Recalled.{Recalled}

-- ---- the old operands and the old result

pub record Recall : Type 0 where
  pub left : ℤ
  pub right : ℤ
  pub result : ℤ
  pub rest : List ℤ

unfoldable pub recall : Operator → List ℤ → Outcome Recall
recall o ws = do
  l ← read_in Ty.number ws
  r ← read_in Ty.number l.rest
  z ← compute broken o l.word r.word
  accepted (record { left = l.word; right = r.word; result = z; rest = r.rest })

pub record RecalledAs (k : Recall) (r : Recalled) : Type 0 where
  pub left : r.left ≡ k.left
  pub right : r.right ≡ k.right
  pub result : r.result ≡ k.result

abbrev pub Recalls : Operator → List ℤ → ℕ → ℕ → Result Recalled Refusal → Type 0
Recalls o old from end r = Agrees RecalledAs (recall o (part old from end)) r

-- ---- an operand's new value

-- the old operand with the change of its expression, which takes the place of the change
unfoldable pub operand_of : Expression → ℤ → List ℤ → List ℤ → Outcome Rules.Shifted
operand_of e was changes ws = do
  x ← shift e changes ws
  z ← moved Ty.number was x.change
  accepted (record { change = z; words = x.words; rest = x.rest })

-- ---- the new result

-- the change of the result, behind both operands
unfoldable pub settle_of : Operator → ℤ → Rules.Shifted → Rules.Shifted → Outcome Rules.Shifted
settle_of o was x y = do
  new ← compute out_of_range o x.change y.change
  accepted (record { change = minus (gives o) new was; words = x.change ∷ y.change ∷ (x.words ++ y.words); rest = y.rest })

abbrev pub settled_as : Operator → ℤ → ℤ → ℤ → ℕ → Result (ℤ × ℕ) Refusal
settled_as o x y was length =
    choose (in_type (gives o) (apply o x y)) (Ok (minus (gives o) (apply o x y) was, length)) (Err (refusal_for out_of_range))

pub record Settles (o : Operator) (x y was : ℤ) (out : List ℤ) (at length : ℕ) (r : Result (ℤ × ℕ) Refusal) (after : List ℤ) : Type 0 where
  pub lays : after ≡ set (set out at x) (at + 1) y
  pub ends : r ≡ settled_as o x y was length

-- ---- answers, and what is asked

-- a change, with its words laid down from a place on, and how many they are
pub record ChangedAs (out : List ℤ) (at : ℕ) (after : List ℤ) (x : Rules.Shifted) (p : ℤ × ℕ) : Type 0 where
  pub change : p.0 ≡ x.change
  pub long : p.1 ≡ length x.words
  pub lays : after ≡ lay out at x.words

abbrev pub ShiftedAs : Outcome Rules.Shifted → Result (ℤ × ℕ) Refusal → List ℤ → ℕ → List ℤ → Type 0
ShiftedAs m r out at after = Agrees (ChangedAs out at after) m r

-- the node is an expression of the checked, the changes are near, and the new record ends before the farthest place
pub record Shiftable (checked : Checked) (node : ℕ) (changes old : List ℤ) (from end at : ℕ) : Type 0 where
  pub type : Ty
  pub tree : Expression
  pub here : part_at checked.table.now node ≡ some (expression type tree)
  pub near : AllNear changes
  pub inside : Inside old from end
  pub place : at + 2 * operations tree ≤ farthest

-- and the node is this operator, whose old operands and old result are these
pub record Operates (checked : Checked) (node : ℕ) (o : Code) (before : Recalled) (changes old : List ℤ) (from end at : ℕ) : Type 0 where
  pub shiftable : Shiftable checked node changes old from end at
  pub kinded : (node_at checked.table.now node).kind ≡ number_of_kind (operator (paper_operator o))
  pub recalled : Recalls (paper_operator o) old from end (Ok before)

-- the answer for the node's expression
abbrev pub ShiftsTo : Checked → ℕ → List ℤ → List ℤ → ℕ → ℕ → Result (ℤ × ℕ) Refusal → List ℤ → ℕ → List ℤ → Type 0
ShiftsTo checked node changes old from end r out at after = (t : Ty) (e : Expression) → part_at checked.table.now node ≡ some (expression t e)
    → ShiftedAs (shift e changes (part old from end)) r out at after

-- the answer for the node's expression as an operand
abbrev pub OperandTo : Checked → ℕ → ℤ → List ℤ → List ℤ → ℕ → ℕ → Result (ℤ × ℕ) Refusal → List ℤ → ℕ → List ℤ → Type 0
OperandTo checked node was changes old from end r out at after = (t : Ty) (e : Expression) → part_at checked.table.now node ≡ some (expression t e)
    → ShiftedAs (operand_of e was changes (part old from end)) r out at after
