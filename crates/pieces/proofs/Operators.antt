-- Operators in code: the answer from both operands' answers, at an operator's node with its old operands and its old result.
-- Assumes nothing.
use mathlib.Core.Path.{◌≡◌, refl, sym, ap, ◌∙◌, subst, subst₂}
use mathlib.Core.Bool.{Bool, true, false}
use mathlib.Core.Option.{some}
use mathlib.Core.List.{List, ◌∷◌, ◌++◌}
use Prim.Native.Nat.{ℕ, suc, ◌+◌, ◌*◌, ◌≤◌, ◌<◌}
use native.Mathlib.Omega.{arith}
use lib.ListN.{length, length-append}
use lib.IntN.{ℤ}
use Rattle.std.specs.Prelude.{Result, Ok, Err}
use Rattle.numbers.specs.Lay.{lay}
use Rattle.rules.specs.Outcome.{accepted, ◌>>=◌, need, choose, out_of_range}
use Rattle.rules.specs.Value.{Ty, in_type, minus}
use Rattle.rules.specs.Tree.{Operator, Expression, gives, apply}
use Rattle.rules.specs.Table.{operator, expression, Node}
use Rattle.rules.specs.Run.{compute}
use Rattle.rules.specs.Patch as Rules
use Rattle.rules.specs.Patch.{shift}
use Rattle.rules.proofs.Laws.Outcome.{holds_at}
use Rattle.rules.proofs.Laws.Parts.{number_of_kind, node_at, part_at}
use Rattle.rules.proofs.Laws.Size.{operations}
use Rattle.table.specs.Agrees.{both, neither, handed_up}
use Rattle.table.specs.Kinds.{paper_operator}
use Rattle.table.specs.Paper.{refusal_for}
use Rattle.table.specs.Sorts.{node_of}
use Rattle.table.specs.declared.answer.Refusal.{Refusal}
use Rattle.table.specs.declared.kind.Operator.{Operator as Code}
use Rattle.table.specs.declared.node.Node.{Node as Read}
use Rattle.table.specs.declared.script.Checked.{Checked}
use Rattle.run.specs.Code.{Number, farthest}
use Rattle.run.specs.Laws.Numbers.{plain}
use Rattle.run.specs.Laws.Expressions.{for_each}
use Rattle.run.specs.Laws.Operators.{whole_record, Operands, operands_of}
use Rattle.pieces.specs.Old.{part}
use Rattle.pieces.specs.Expression.{Recalls, operand_of, settle_of, settled_as, Settles, Operates, ShiftedAs, Shiftable, ShiftsTo, OperandTo}
use Rattle.pieces.specs.Laws.Expression.{operand_sized, operand_number, shift_operation}
use Rattle.pieces.specs.Laws.Shifts.{Got, got}
use Rattle.pieces.specs.Laws.Changes.{near_kept, kept}
use Rattle.pieces.specs.declared.expression.Recalled.{Recalled as Answer}
use Rattle.pieces.proofs.Recalling.{Remembered, remembered}

-- ---- an operator's answer

-- the new result decides
decided : (t : Ty) (b : Bool) (z was : ℤ) (n : ℕ) (words rest out : List ℤ) (at : ℕ) (after : List ℤ) {r : Result (ℤ × ℕ) Refusal}
    → r ≡ choose b (Ok (minus t z was, n)) (Err (refusal_for out_of_range)) → n ≡ length words → after ≡ lay out at words
    → ShiftedAs (need b out_of_range >>= (λ u. accepted z) >>= λ new. accepted (record { change = minus t new was; words = words; rest = rest })) r out at after
decided t true z was n words rest out at after e f g = rw e (both (record { change = refl; long = f; lays = g }))
decided t false z was n words rest out at after e f g = rw e (neither refl)

settled : (o : Operator) (was : ℤ) (u v : Rules.Shifted) (n : ℕ) (out : List ℤ) (at : ℕ) (after : List ℤ) {r : Result (ℤ × ℕ) Refusal}
    → r ≡ settled_as o u.change v.change was n
    → n ≡ 2 + length u.words + length v.words → after ≡ lay out at (u.change ∷ v.change ∷ (u.words ++ v.words))
    → ShiftedAs (settle_of o was u v) r out at after
unfolding settle_of compute
settled o was u v n out at after e f g =
    let long : n ≡ length (u.change ∷ v.change ∷ (u.words ++ v.words)) = omega (arith, f, length-append u.words v.words) in
    decided (gives o) (in_type (gives o) (apply o u.change v.change)) (apply o u.change v.change) was n _ _ out at after e long g

-- old operands that are refused are the answer
pub broken_answer : {checked : Checked} {node : ℕ} {changes old : List ℤ} {from end at : ℕ} (h : Shiftable checked node changes old from end at) (o : Operator)
    → (node_at checked.table.now node).kind ≡ number_of_kind (operator o) → {r : Result Answer Refusal} {q : Refusal} → Recalls o old from end r → r ≡ Err q
    → (out after : List ℤ) → ShiftsTo checked node changes old from end (Err q) out at after
broken_answer {checked} {node} {changes} {old} {from} {end} {at} h o kinded {r} {q} recalls e out after =
    let p = operands_of checked h.here kinded in
    let whole = shift_operation node o p.l p.r changes (part old from end) in
    for_each checked.table.now node (λ d. ShiftedAs (shift d changes (part old from end)) (Err q) out at after) h.here
    (rw (p.is, whole) (handed_up _ recalls e))

module _ {checked : Checked} {node : ℕ} {code : Code} {before : Answer} {changes old : List ℤ} {from end at : ℕ}
    (h : Operates checked node code before changes old from end at) where
  open h.shiftable use {type, tree, here, near, inside, place}

  abbrev o : Operator
  o = paper_operator code

  pub operands : Operands checked.table.now node o tree
  operands = operands_of checked here h.kinded

  open operands use {l, r, is, left, right}

  pub memory : Remembered o old from end before
  memory = remembered o old from end inside before h.recalled

  pub enough : at + 2 * suc (operations l + operations r) ≤ farthest
  unfolding operations
  enough = subst (λ (e : Expression). at + 2 * operations e ≤ farthest) is place

  -- what holds of the operator's shift holds of each expression's at the node
  for_tree : (r' : Result (ℤ × ℕ) Refusal) (out after : List ℤ)
      → ShiftedAs (operand_of l before.left changes (part old (from + 2) end) >>= λ u. operand_of r before.right changes u.rest >>= λ v. settle_of o before.result u v) r' out at after
      → ShiftsTo checked node changes old from end r' out at after
  for_tree r' out after k =
      let whole = shift_operation node o l r changes (part old from end) in
      for_each checked.table.now node (λ e. ShiftedAs (shift e changes (part old from end)) r' out at after) here
      (rw (is, whole, memory.comes) k)

  -- an operand that was answered, with what was laid down behind the operator's own two words
  abbrev pub Left : ℤ → ℕ → List ℤ → List ℤ → Type 0
  Left a m out one = Got l (operand_of l before.left changes (part old (from + 2) end)) old (from + 2) end a m out (at + 2) one

  abbrev pub Right : ℕ → ℤ → ℕ → List ℤ → List ℤ → Type 0
  Right m b n one two = Got r (operand_of r before.right changes (part old (from + 2 + m) end)) old (from + 2 + m) end b n one (at + 2 + m) two

  module _ (top : Read) (read : node_of top ≡ node_at checked.table.now node) where
    -- ---- the left operand, at the node that was read for it

    first : top.a ≡ (node_at checked.table.now node).a
    first = ap (λ (n : Node). n.a) read

    pub left_below : top.a < node
    left_below = subst (λ (c : ℕ). c < node) (sym first) left.0

    left_here : part_at checked.table.now top.a ≡ some (expression Ty.number l)
    left_here = ap (part_at checked.table.now) first ∙ left.1

    pub left_shiftable : Shiftable checked top.a changes old (from + 2) end (at + 2)
    left_shiftable =
        let place' : at + 2 + 2 * operations l ≤ farthest = omega (arith, enough) in
        record {
          type = Ty.number;
          tree = l;
          here = left_here;
          near = near;
          inside = record { ordered = memory.room; ends = inside.ends };
          place = place';
        }

    module _ {answer : Result (ℤ × ℕ) Refusal} {out one : List ℤ}
        (told : OperandTo checked top.a (kept before.left) changes old (from + 2) end answer out (at + 2) one) where
      left_answer : ShiftedAs (operand_of l before.left changes (part old (from + 2) end)) answer out (at + 2) one
      left_answer = subst (λ (z : ℤ). ShiftedAs (operand_of l z changes (part old (from + 2) end)) answer out (at + 2) one) (plain before.left memory.left)
          (told Ty.number l left_here)

      pub left_refused : {q : Refusal} (after : List ℤ) → answer ≡ Err q → ShiftsTo checked node changes old from end (Err q) out at after
      left_refused {q} after e = for_tree (Err q) out after (handed_up _ left_answer e)

      pub left_got : {a : ℤ} {m : ℕ} → answer ≡ Ok (a, m) → Left a m out one
      left_got {a} {m} e = got l old (from + 2) end left_shiftable.inside a m out (at + 2) one (operand_of l before.left changes (part old (from + 2) end))
          (operand_sized l before.left changes (part old (from + 2) end)) left_answer e

    -- ---- the right operand

    second : top.b ≡ (node_at checked.table.now node).b
    second = ap (λ (n : Node). n.b) read

    pub right_below : top.b < node
    right_below = subst (λ (c : ℕ). c < node) (sym second) right.0

    right_here : part_at checked.table.now top.b ≡ some (expression Ty.number r)
    right_here = ap (part_at checked.table.now) second ∙ right.1

    module _ {a : ℤ} {m : ℕ} {out one : List ℤ} (got₁ : Left a m out one) where
      pub right_shiftable : Shiftable checked top.b changes old (from + 2 + m) end (at + 2 + m)
      right_shiftable =
          let place' : at + 2 + m + 2 * operations r ≤ farthest = omega (arith, enough, got₁.size) in
          record {
            type = Ty.number;
            tree = r;
            here = right_here;
            near = near;
            inside = record { ordered = got₁.room; ends = inside.ends };
            place = place';
          }

      module _ {answer : Result (ℤ × ℕ) Refusal} {two : List ℤ}
          (told : OperandTo checked top.b (kept before.right) changes old (from + 2 + m) end answer one (at + 2 + m) two) where
        right_answer : ShiftedAs (operand_of r before.right changes (part old (from + 2 + m) end)) answer one (at + 2 + m) two
        right_answer = subst (λ (z : ℤ). ShiftedAs (operand_of r z changes (part old (from + 2 + m) end)) answer one (at + 2 + m) two) (plain before.right memory.right)
            (told Ty.number r right_here)

        pub right_refused : {q : Refusal} (after : List ℤ) → answer ≡ Err q → ShiftsTo checked node changes old from end (Err q) out at after
        right_refused {q} after e = for_tree (Err q) out after (rw got₁.comes (handed_up _ right_answer e))

        pub right_got : {b : ℤ} {n : ℕ} → answer ≡ Ok (b, n) → Right m b n one two
        right_got {b} {n} e = got r old (from + 2 + m) end right_shiftable.inside b n one (at + 2 + m) two
            (operand_of r before.right changes (part old (from + 2 + m) end))
            (operand_sized r before.right changes (part old (from + 2 + m) end)) right_answer e

  -- ---- the result

  module _ {a : ℤ} {m : ℕ} {out one : List ℤ} (got₁ : Left a m out one) {b : ℤ} {n : ℕ} {two : List ℤ} (got₂ : Right m b n one two) where
    pub left_number : Number a
    left_number = holds_at got₁.comes (operand_number l before.left changes (part old (from + 2) end))

    pub right_number : Number b
    right_number = holds_at got₂.comes (operand_number r before.right changes (part old (from + 2 + m) end))

    pub operator_answer : {answer : Result (ℤ × ℕ) Refusal} {after : List ℤ} → Settles o (kept a) (kept b) (kept before.result) two at (2 + m + n) answer after
        → ShiftsTo checked node changes old from end answer out at after
    operator_answer {answer} {after} s =
        let f : Settles o a b before.result two at (2 + m + n) answer after
        = subst (λ (z : ℤ). Settles o a b z two at (2 + m + n) answer after) (near_kept before.result memory.near)
        (subst₂ (λ (u v : ℤ). Settles o u v (kept before.result) two at (2 + m + n) answer after) (plain a left_number) (plain b right_number) s) in
        let laid : after ≡ lay out at (a ∷ b ∷ (got₁.words ++ got₂.words))
        = whole_record out one two after at (at + 2 + m) a b got₁.words got₂.words got₁.lays (ap (λ (i : ℕ). at + 2 + i) got₁.long)
        got₂.lays f.lays in
        let long : 2 + m + n ≡ 2 + length got₁.words + length got₂.words = omega (arith, got₁.long, got₂.long) in
        for_tree answer out after (rw (got₁.comes, got₂.comes) (settled o before.result _ _ (2 + m + n) out at after f.ends long laid))
