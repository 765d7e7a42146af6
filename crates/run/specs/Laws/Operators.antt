-- Operators in code: the left operand goes on from the place behind the two operands, the right one from where the left one ended, and the
-- last step lays the two before them.
-- Assumes nothing.
use Rattle.std.specs.Prelude.{◌≡◌, refl, ℕ, suc, ◌+◌, ◌*◌, ◌≤◌, ◌<◌, Bool, true, false, ℤ, Option, Some, None, Result, Ok, Err}
use Rattle.std.proofs.Common.{sym, ap, ◌∙◌, arith, add-one, to_z, of_z}
use Rattle.std.proofs.Math.Path.{ap₂, subst, subst₂}
use Rattle.std.proofs.Math.Option.{some}
use mathlib.Core.List.{List, ◌∷◌, ◌++◌}
use Rattle.std.proofs.Math.ListN.{length, set, length-append}
use Rattle.std.specs.Int.Signed.{mag}
use Rattle.std.specs.Int.{w64}
use Rattle.std.proofs.lemmas.Int.{to_z-of_z}
use Rattle.numbers.specs.Lay.{lay, lay_append, two_before}
use Rattle.rules.specs.Outcome.{accepted, ◌>>=◌, need, choose, out_of_range}
use Rattle.rules.specs.Value.{Ty, in_type}
use Rattle.rules.specs.Tree.{Operator, Expression, gives, apply}
use Rattle.rules.specs.Table.{Node, operator, types_of, expression}
use Rattle.rules.specs.Run.{compute, evaluate}
use Rattle.rules.proofs.Laws.Outcome.{Holds, holds_of}
use Rattle.rules.proofs.Laws.Parts.{number_of_kind, node_at, part_at, stands_as, child_at, part_typed}
use Rattle.rules.proofs.Laws.Size.{operations, record_size}
use Rattle.rules.proofs.Laws.Typed.{value_typed}
use Rattle.table.specs.Agrees.{both, neither, Accepts, accepts, handed_up}
use Rattle.table.specs.Kinds.{paper_operator}
use Rattle.table.specs.Paper.{refusal_for}
use Rattle.table.specs.Sorts.{node_of}
use Rattle.table.specs.declared.answer.Refusal.{Refusal}
use Rattle.table.specs.declared.kind.Operator.{Operator as Code}
use Rattle.table.specs.declared.node.Node.{Node as Read}
use Rattle.table.specs.declared.script.Checked.{Checked}
use Rattle.run.specs.Code.{Number, farthest, computed_as, finished_as, Finishes, ValuedAs, EvaluatedAs, Evaluable, EvaluatesTo, Operates}
use Rattle.run.specs.Laws.Numbers.{plain, word}
use Rattle.run.specs.Laws.Expressions.{for_each}

-- ---- an operator's last step

outside_by : (b : Bool) (z : ℤ) (end : ℕ) → choose b (Some z) None ≡ None
    → ◌≡◌ {A = Result (ℤ × ℕ) Refusal} (Err (refusal_for out_of_range)) (choose b (Ok (z, end)) (Err (refusal_for out_of_range)))
outside_by true z end e = absurd (apart e)
  where
    apart : ◌≡◌ {A = Option ℤ} (Some z) None → ⊥
    apart p = let q : ◌≡◌ {A = ℕ} 0 1 = cc in omega arith
outside_by false z end e = refl

inside_by : (b : Bool) (z w : ℤ) (end : ℕ) → choose b (Some z) None ≡ Some w
    → ◌≡◌ {A = Result (ℤ × ℕ) Refusal} (Ok (w, end)) (choose b (Ok (z, end)) (Err (refusal_for out_of_range)))
inside_by true z w end e = ap {B = Result (ℤ × ℕ) Refusal} (λ (v : ℤ). Ok (v, end)) (same e)
  where
    same : ◌≡◌ {A = Option ℤ} (Some z) (Some w) → w ≡ z
    same p = cc
inside_by false z w end e = absurd (apart e)
  where
    apart : ◌≡◌ {A = Option ℤ} None (Some w) → ⊥
    apart p = let q : ◌≡◌ {A = ℕ} 0 1 = cc in omega arith

module _ (o : Operator) (x y : ℤ) (end : ℕ) {r : Option ℤ} (is : r ≡ computed_as o x y) where
  pub finished_outside : r ≡ None → Err (refusal_for out_of_range) ≡ finished_as o x y end
  finished_outside e = outside_by (in_type (gives o) (apply o x y)) (apply o x y) end (sym is ∙ e)

  pub finished_inside : (z : ℤ) → r ≡ Some z → mag z < 9_223_372_036_854_775_808 → Ok (to_z w64 (of_z w64 z), end) ≡ finished_as o x y end
  finished_inside z e fits =
      ap {B = Result (ℤ × ℕ) Refusal} (λ (v : ℤ). Ok (v, end)) (to_z-of_z w64 z (word z fits))
      ∙ inside_by (in_type (gives o) (apply o x y)) (apply o x y) z end (sym is ∙ e)

-- ---- operators

-- an operator's node: its operands and where they stand
pub record Operands (bytes : List ℕ) (node : ℕ) (o : Operator) (tree : Expression) : Type 0 where
  pub l : Expression
  pub r : Expression
  pub is : tree ≡ Expression.operation node o l r
  pub left : ((node_at bytes node).a < node) × (part_at bytes (node_at bytes node).a ≡ some (expression Ty.number l))
  pub right : ((node_at bytes node).b < node) × (part_at bytes (node_at bytes node).b ≡ some (expression Ty.number r))

tree_is : {u t : Ty} {d e : Expression} → expression u d ≡ expression t e → d ≡ e
tree_is p = cc

pub operands_of : (checked : Checked) {node : ℕ} {o : Operator} {type : Ty} {tree : Expression} → part_at checked.table.now node ≡ some (expression type tree)
    → (node_at checked.table.now node).kind ≡ number_of_kind (operator o) → Operands checked.table.now node o tree
operands_of checked {node} {o} {type} {tree} here kinded =
    let bytes = checked.table.now in
    let b = stands_as bytes checked.accepted.0 checked.accepted.1 node (expression type tree) (operator o) here kinded in
    record {
      l = b.0;
      r = b.1;
      is = tree_is b.2;
      left = child_at bytes checked.accepted.0 checked.accepted.1 node (node_at bytes node).a (expression Ty.number b.0) b.3;
      right = child_at bytes checked.accepted.0 checked.accepted.1 node (node_at bytes node).b (expression Ty.number b.1) b.4;
    }

-- ---- an operator's answer

-- the operands' records and then the operands themselves are the operator's record
pub whole_record : (out one two after : List ℤ) (at behind : ℕ) (x y : ℤ) (vs ws : List ℤ)
    → one ≡ lay out (at + 2) vs → behind ≡ at + 2 + length vs → two ≡ lay one behind ws → after ≡ set (set two at x) (at + 1) y
    → after ≡ lay out at (x ∷ y ∷ (vs ++ ws))
unfolding lay
whole_record out one two after at behind x y vs ws e f g h =
    let two_more : at + 2 ≡ suc (suc at) = omega arith in
    h
    ∙ ap (λ (l : List ℤ). set (set l at x) (at + 1) y) (g ∙ ap₂ {C = List ℤ} (λ (l : List ℤ) (n : ℕ). lay l n ws) e f)
    ∙ two_before out at (at + 1) (at + 2) (at + 2 + length vs) x y vs ws (omega arith) (omega arith) (omega arith) (omega arith)
    ∙ sym (lay_append (set (set out at x) (at + 1) y) (at + 2) vs ws)
    ∙ ap₂ {C = List ℤ} (λ (i j : ℕ). lay (set (set out at x) i y) j (vs ++ ws)) (add-one at) two_more

decided : (b : Bool) (z : ℤ) (end : ℕ) (words out : List ℤ) (at : ℕ) (after : List ℤ) {r : Result (ℤ × ℕ) Refusal}
    → r ≡ choose b (Ok (z, end)) (Err (refusal_for out_of_range)) → end ≡ at + length words → after ≡ lay out at words
    → EvaluatedAs ((need b out_of_range >>= λ u. accepted z) >>= λ v. accepted (record { value = v; words = words })) r out at after
decided true z end words out at after e f g = rw e (both (record { value = refl; ends = f; lays = g }))
decided false z end words out at after e f g = rw e (neither refl)

module _ {checked : Checked} {node : ℕ} {code : Code} {values : List ℤ} {at : ℕ} (h : Operates checked node code values at) where
  open h.evaluable use {type, tree, here, good, near}

  abbrev bytes : List ℕ
  bytes = checked.table.now

  abbrev o : Operator
  o = paper_operator code

  pub operands : Operands bytes node o tree
  operands = operands_of checked here h.kinded

  open operands use {l, r, is, left, right}

  enough : at + 2 * suc (operations l + operations r) ≤ farthest
  unfolding operations
  enough = subst (λ (e : Expression). at + 2 * operations e ≤ farthest) is near

  operand : {i : ℕ} {e : Expression} {from : ℕ} → part_at bytes i ≡ some (expression Ty.number e) → from + 2 * operations e ≤ farthest
      → Evaluable checked i values from
  operand {e} stands far = record { type = Ty.number; tree = e; here = stands; good = good; near = far }

  -- an operand's value is a number
  number_of : {i : ℕ} {e : Expression} → (i < node) × (part_at bytes i ≡ some (expression Ty.number e))
      → {p : ℤ × ℕ} {from : ℕ} {before after : List ℤ} → Accepts (ValuedAs before from after) (evaluate e values) p → Number p.0
  number_of {i} {e} stands g = subst Number (sym g.holds.value) (holds_of (subst (Holds (λ v. in_type Ty.number v.value ≡ true)) g.comes
      (value_typed (types_of bytes) values good Ty.number e (part_typed bytes checked.accepted.0 checked.accepted.1 i (expression Ty.number e) stands.1))))

  -- what holds of the operator's tree holds of each expression of the node
  for_tree : (P : Expression → Type 0) → P (Expression.operation node o l r) → (t : Ty) (e : Expression) → part_at bytes node ≡ some (expression t e) → P e
  for_tree P k = for_each bytes node P here (subst P (sym is) k)

  -- the left operand's value
  abbrev pub GotLeft : ℤ × ℕ → List ℤ → List ℤ → Type 0
  GotLeft p out one = Accepts (ValuedAs out (at + 2) one) (evaluate l values) p

  -- the operands, at the node that was read
  module _ (x : Read) (read : node_of x ≡ node_at bytes node) where
    left_is : x.a ≡ (node_at bytes node).a
    left_is = ap (λ (n : Node). n.a) read

    pub left_below : x.a < node
    left_below = subst (λ (i : ℕ). i < node) (sym left_is) left.0

    left_here : part_at bytes x.a ≡ some (expression Ty.number l)
    left_here = ap (part_at bytes) left_is ∙ left.1

    pub left_evaluable : Evaluable checked x.a values (at + 2)
    left_evaluable =
        let near' : at + 2 + 2 * operations l ≤ farthest = omega (arith, enough) in
        operand left_here near'

    module _ {r₁ : Result (ℤ × ℕ) Refusal} {out one : List ℤ} (answer : EvaluatesTo checked x.a values r₁ out (at + 2) one) where
      pub left_refused : {q : Refusal} → r₁ ≡ Err q → (out' after : List ℤ) → EvaluatesTo checked node values (Err q) out' at after
      unfolding evaluate
      left_refused {q} e out' after =
          for_tree (λ e. EvaluatedAs (evaluate e values) (Err q) out' at after) (handed_up _ (answer Ty.number l left_here) e)

      pub got_left : {p : ℤ × ℕ} → r₁ ≡ Ok p → GotLeft p out one
      got_left e = accepts (answer Ty.number l left_here) e

    module _ {p : ℤ × ℕ} {out one : List ℤ} (got₁ : GotLeft p out one) where
      left_long : length got₁.value.words ≡ 2 * operations l
      left_long = holds_of (subst (Holds (λ v. length v.words ≡ 2 * operations l)) got₁.comes (record_size l values))

      -- the right operand's value
      abbrev pub GotRight : ℤ × ℕ → List ℤ → Type 0
      GotRight q two = Accepts (ValuedAs one p.1 two) (evaluate r values) q

      right_is : x.b ≡ (node_at bytes node).b
      right_is = ap (λ (n : Node). n.b) read

      pub right_below : x.b < node
      right_below = subst (λ (i : ℕ). i < node) (sym right_is) right.0

      right_here : part_at bytes x.b ≡ some (expression Ty.number r)
      right_here = ap (part_at bytes) right_is ∙ right.1

      pub right_evaluable : Evaluable checked x.b values p.1
      right_evaluable =
          let near' : p.1 + 2 * operations r ≤ farthest = omega (arith, enough, got₁.holds.ends, left_long) in
          operand right_here near'

      module _ {r₂ : Result (ℤ × ℕ) Refusal} {two : List ℤ} (answer : EvaluatesTo checked x.b values r₂ one p.1 two) where
        pub right_refused : {q : Refusal} → r₂ ≡ Err q → (out' after : List ℤ) → EvaluatesTo checked node values (Err q) out' at after
        unfolding evaluate
        right_refused {q} e out' after = for_tree (λ e. EvaluatedAs (evaluate e values) (Err q) out' at after)
            (rw got₁.comes (handed_up _ (answer Ty.number r right_here) e))

        pub got_right : {q : ℤ × ℕ} → r₂ ≡ Ok q → GotRight q two
        got_right e = accepts (answer Ty.number r right_here) e

      module _ {q : ℤ × ℕ} {two : List ℤ} (got₂ : GotRight q two) where
        left_number : Number p.0
        left_number = number_of left got₁

        right_number : Number q.0
        right_number = number_of right got₂

        -- the last step is handed the operands as words
        pub finishable : Number (to_z w64 (of_z w64 p.0)) × (Number (to_z w64 (of_z w64 q.0)) × (at + 2 ≤ farthest))
        finishable =
            let near' : at + 2 ≤ farthest = omega (arith, enough) in
            (subst Number (sym (plain p.0 left_number)) left_number, (subst Number (sym (plain q.0 right_number)) right_number, near'))

        pub operator_answer : (answer : Result (ℤ × ℕ) Refusal) (after : List ℤ)
            → Finishes o (to_z w64 (of_z w64 p.0)) (to_z w64 (of_z w64 q.0)) two at q.1 answer after → EvaluatesTo checked node values answer out at after
        unfolding evaluate compute
        operator_answer answer after finishes =
            let f : Finishes o p.0 q.0 two at q.1 answer after
            = subst₂ (λ (a b : ℤ). Finishes o a b two at q.1 answer after) (plain p.0 left_number) (plain q.0 right_number) finishes in
            let v = got₁.value in
            let w = got₂.value in
            let long : q.1 ≡ at + length (v.value ∷ w.value ∷ (v.words ++ w.words))
            = omega (arith, got₁.holds.ends, got₂.holds.ends, length-append v.words w.words) in
            let laid : after ≡ lay out at (v.value ∷ w.value ∷ (v.words ++ w.words))
            = whole_record out one two after at p.1 v.value w.value v.words w.words got₁.holds.lays got₁.holds.ends got₂.holds.lays
            (f.lays ∙ ap₂ {C = List ℤ} (λ (a b : ℤ). set (set two at a) (at + 1) b) got₁.holds.value got₂.holds.value) in
            let result : answer ≡ finished_as o v.value w.value q.1
            = f.ends ∙ ap₂ {C = Result (ℤ × ℕ) Refusal} (λ (a b : ℤ). finished_as o a b q.1) got₁.holds.value got₂.holds.value in
            for_tree (λ e. EvaluatedAs (evaluate e values) answer out at after)
            (rw (got₁.comes, got₂.comes)
            (decided (in_type (gives o) (apply o v.value w.value)) (apply o v.value w.value) q.1
            (v.value ∷ w.value ∷ (v.words ++ w.words)) out at after result long laid))
