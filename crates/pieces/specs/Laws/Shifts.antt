-- Shifts in code: what an answer says, an operand's answer from its expression's, and what a constant and a variable answer.
-- Assumes nothing.
use Rattle.std.specs.Prelude.{◌≡◌, List, [], ℕ, ◌+◌, ◌*◌, ◌≤◌, ◌<◌, length, take, drop, ℤ, pos, Option, Some, None, Result, Ok, Err}
use Rattle.std.proofs.Math.Path.{refl, ap}
use Rattle.std.proofs.Common.{sym, ap₂, ◌∙◌, arith}
use Rattle.std.proofs.Math.Option.{some}
use Rattle.numbers.specs.Lay.{lay}
use Rattle.rules.specs.Outcome.{Outcome, accepted, broken}
use Rattle.rules.specs.Value.{Ty, in_type, type_of, plus, at as value_at}
use Rattle.rules.specs.Tree.{Expression, Statement}
use Rattle.rules.specs.Table.{constant_of, Kind, number_constant, truth_constant, variable, skip, assign, sequence, if, repeat, types_of, expression, statement}
use Rattle.rules.specs.Patch as Rules
use Rattle.rules.specs.Patch.{moved, shift}
use Rattle.rules.proofs.Laws.Outcome.{Holds, holds_at}
use Rattle.rules.proofs.Laws.Header.{sized, types_long}
use Rattle.rules.proofs.Laws.Parts.{number_of_kind, node_at, parts_of, Built, stands_as}
use Rattle.rules.proofs.Laws.Size.{operations}
use Rattle.table.specs.Agrees.{agrees_ok, agrees_err, accepts, handed_up}
use Rattle.table.specs.Paper.{refusal_for}
use Rattle.table.specs.declared.answer.Refusal.{Refusal}
use Rattle.table.specs.Sorts.{node_of}
use Rattle.table.specs.declared.kind.Kind.{Kind as Code}
use Rattle.table.specs.declared.kind.Operator.{Operator}
use Rattle.table.specs.declared.node.Node.{Node as Read}
use Rattle.table.specs.declared.script.Checked.{Checked}
use Rattle.run.specs.Code.{Number}
use Rattle.run.specs.Laws.Numbers.{plain}
use Rattle.run.specs.Laws.Expressions.{for_each}
use Rattle.run.specs.Laws.Statements.{kind_read}
use Rattle.pieces.specs.Change.{Near, AllNear, moved_as}
use Rattle.pieces.specs.Old.{part, Inside}
use Rattle.pieces.specs.Expression.{operand_of, ShiftedAs, Shiftable, ShiftsTo, OperandTo}
use Rattle.pieces.specs.Laws.Old.{part_long, part_drop}
use Rattle.pieces.specs.Laws.Expression.{Sized, shift_near, shift_sized}
use Rattle.pieces.specs.Laws.Changes.{chosen_in, chosen_out, kept, near_kept, kept_near, number_near}

-- ---- an answer

-- a change, or an operand, that was answered with the length of its record: where the words behind begin, and what was laid down
pub record Got (e : Expression) (m : Outcome Rules.Shifted) (old : List ℤ) (from end : ℕ) (x : ℤ) (n : ℕ) (out : List ℤ) (at : ℕ)
    (after : List ℤ) : Type 0 where
  pub words : List ℤ
  pub comes : m ≡ accepted (record { change = x; words = words; rest = part old (from + n) end })
  pub long : n ≡ length words
  pub size : n ≡ 2 * operations e
  pub room : from + n ≤ end
  pub lays : after ≡ lay out at words

pub got : (e : Expression) (old : List ℤ) (from end : ℕ) → Inside old from end → (x : ℤ) (n : ℕ) (out : List ℤ) (at : ℕ) (after : List ℤ)
    → (m : Outcome Rules.Shifted) → Holds (Sized e (part old from end)) m → {r : Result (ℤ × ℕ) Refusal} → ShiftedAs m r out at after → r ≡ Ok (x, n)
    → Got e m old from end x n out at after
got e old from end inside x n out at after m sized h q =
    let a = accepts h q in
    let s = a.value in
    let z = holds_at a.comes sized in
    let long : n ≡ length s.words = a.holds.long in
    let room : from + n ≤ end = omega (arith, long, z.inside, part_long old from end inside.ends, inside.ordered) in
    let behind : s.rest ≡ part old (from + n) end
    = z.rest ∙ ap (λ (k : ℕ). drop k (part old from end)) (sym long) ∙ part_drop old from end n room in
    record {
      words = s.words;
      comes = a.comes
          ∙ ap₂ {C = Outcome Rules.Shifted} (λ (c : ℤ) (ws : List ℤ). accepted (record { change = c; words = s.words; rest = ws })) (sym a.holds.change) behind;
      long = long;
      size = long ∙ z.size;
      room = room;
      lays = a.holds.lays;
    }

-- the change of an expression, where all changes are near
pub got_near : {e : Expression} (changes : List ℤ) {old : List ℤ} {from end : ℕ} {x : ℤ} {n : ℕ} {out : List ℤ} {at : ℕ} {after : List ℤ} → AllNear changes
    → Got e (shift e changes (part old from end)) old from end x n out at after → Near x
got_near {e} changes {old} {from} {end} near g = holds_at g.comes (shift_near e changes (part old from end) near)

-- ---- what stands at the node

module _ {checked : Checked} {node : ℕ} {changes old : List ℤ} {from end at : ℕ} (h : Shiftable checked node changes old from end at) where
  open h use {type, tree, here, near, inside, place}

  -- what is built there, by the kind
  built : (k : Kind) → (node_at checked.table.now node).kind ≡ number_of_kind k
      → Built (types_of checked.table.now) (take node (parts_of checked.table.now)) node (node_at checked.table.now node) k (expression type tree)
  built k e = stands_as checked.table.now checked.accepted.0 checked.accepted.1 node (expression type tree) k here e

  pub variable_below : (node_at checked.table.now node).kind ≡ 3 → (node_at checked.table.now node).tag < 32
  variable_below k =
      let few = (sized checked.table.now checked.accepted.0 checked.accepted.1).few in
      omega (arith, few, types_long checked.table.now checked.accepted.0 checked.accepted.1, (built variable k).1)

  -- ---- the change that was answered for it, and an operand from that

  abbrev pub Change : ℤ → ℕ → List ℤ → List ℤ → Type 0
  Change x n out after = Got tree (shift tree changes (part old from end)) old from end x n out at after

  module _ {answer : Result (ℤ × ℕ) Refusal} {out after : List ℤ} (told : ShiftsTo checked node changes old from end answer out at after) where
    pub change_got : {x : ℤ} {n : ℕ} → answer ≡ Ok (x, n) → Change x n out after
    change_got {x} {n} =
        got tree old from end inside x n out at after (shift tree changes (part old from end)) (shift_sized tree changes (part old from end))
        (told type tree here)

    pub operand_refused : (was : ℤ) {q : Refusal} → answer ≡ Err q → OperandTo checked node was changes old from end (Err q) out at after
    unfolding operand_of
    operand_refused was {q} e =
        for_each checked.table.now node (λ d. ShiftedAs (operand_of d was changes (part old from end)) (Err q) out at after) here
        (handed_up _ (told type tree here) e)

  module _ {x : ℤ} {n : ℕ} {out after : List ℤ} (g : Change x n out after) (was : ℤ) (number : Number was) where
    change_near : Near x
    change_near = got_near changes near g

    pub movable : Near (kept was) × Near (kept x)
    movable = (kept_near was (number_near was number), kept_near x change_near)

    module _ {r : Option ℤ} (is : r ≡ moved_as Ty.number (kept was) (kept x)) where
      moves : r ≡ moved_as Ty.number was x
      moves = is ∙ ap₂ {C = Option ℤ} (moved_as Ty.number) (near_kept was (number_near was number)) (near_kept x change_near)

      pub operand_broken : r ≡ None → OperandTo checked node was changes old from end (Err (refusal_for broken)) out at after
      unfolding operand_of moved
      operand_broken e =
          for_each checked.table.now node (λ d. ShiftedAs (operand_of d was changes (part old from end)) (Err (refusal_for broken)) out at after) here
          (agrees_err {p = broken} (rw (g.comes, chosen_out (in_type Ty.number (plus Ty.number was x)) (plus Ty.number was x) (sym moves ∙ e)) refl) refl)

      pub operand_moved : {z : ℤ} → r ≡ Some z → OperandTo checked node was changes old from end (Ok (kept z, n)) out at after
      unfolding operand_of moved
      operand_moved {z} e =
          let new = chosen_in (in_type Ty.number (plus Ty.number was x)) (plus Ty.number was x) (sym moves ∙ e) in
          let is_new : kept z ≡ plus Ty.number was x = ap (λ (w : ℤ). kept w) new.1 ∙ plain (plus Ty.number was x) new.0 in
          for_each checked.table.now node (λ d. ShiftedAs (operand_of d was changes (part old from end)) (Ok (kept z, n)) out at after) here
          (agrees_ok {a = record { change = plus Ty.number was x; words = g.words; rest = part old (from + n) end }}
          (rw (g.comes, new.0) refl) (record { change = is_new; long = g.long; lays = g.lays }))

  -- ---- leaves

  module _ (out : List ℤ) where
    -- a leaf's answer: this change, and nothing is laid down
    leaf_shift : (d : Expression) (u : Ty) {x w : ℤ}
        → shift d changes (part old from end) ≡ accepted (record { change = x; words = []; rest = part old from end })
        → expression type tree ≡ expression u d → w ≡ x → ShiftsTo checked node changes old from end (Ok (w, 0)) out at out
    unfolding lay
    leaf_shift d u {x} {w} s same q = for_each checked.table.now node (λ e. ShiftedAs (shift e changes (part old from end)) (Ok (w, 0)) out at out) (here ∙ ap some same)
        (agrees_ok s (record { change = q; long = refl; lays = refl }))

    pub variable_shift : {w : ℤ} → w ≡ value_at changes (node_at checked.table.now node).tag → (node_at checked.table.now node).kind ≡ 3
        → ShiftsTo checked node changes old from end (Ok (w, 0)) out at out
    unfolding shift
    variable_shift q k = leaf_shift (Expression.variable node (node_at checked.table.now node).tag) (type_of (types_of checked.table.now) (node_at checked.table.now node).tag)
        refl (built variable k).0 q

    -- what is neither a variable nor an operator is a constant
    pub constant_shift : (x : Read) → node_of x ≡ node_at checked.table.now node → (x.kind ≡ Code.Variable → ⊥) → ((o : Operator) → x.kind ≡ Code.Operator o → ⊥)
        → ShiftsTo checked node changes old from end (Ok (pos 0, 0)) out at out
    unfolding shift
    constant_shift x read no_variable no_operator = of x.kind refl
      where
        no_statement : {s : Statement} → expression type tree ≡ statement s → ⊥
        no_statement p = let z : ◌≡◌ {A = ℕ} 0 1 = cc in omega arith

        of : (k : Code) → x.kind ≡ k → ShiftsTo checked node changes old from end (Ok (pos 0, 0)) out at out
        of Code.NumberConstant e = leaf_shift (Expression.constant node (constant_of (node_at checked.table.now node))) Ty.number refl
            (built number_constant (kind_read x read e)) refl
        of Code.TruthConstant e = leaf_shift (Expression.constant node (pos (node_at checked.table.now node).tag)) Ty.truth refl
            (built truth_constant (kind_read x read e)).0 refl
        of Code.Variable e = absurd (no_variable e)
        of (Code.Operator o) e = absurd (no_operator o e)
        of Code.Skip e = absurd (no_statement (built skip (kind_read x read e)))
        of Code.Assign e = absurd (no_statement (built assign (kind_read x read e)).1)
        of Code.Sequence e = absurd (no_statement (built sequence (kind_read x read e)).2)
        of Code.If e = absurd (no_statement (built if (kind_read x read e)).3)
        of Code.Repeat e = absurd (no_statement (built repeat (kind_read x read e)).2)
