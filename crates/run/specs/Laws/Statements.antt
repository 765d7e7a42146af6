-- Statements in code: what each kind of node is made of, what its parts ask, and that the answers put together are the definition's.
-- Assumes nothing.
use Rattle.std.specs.Prelude.{◌≡◌, ℕ, ◌+◌, ◌*◌, ◌≤◌, ◌<◌, length, get_or, take, set, ℤ, Result, Ok, Err, IsErrAnd}
use Rattle.std.proofs.Common.{sym, ◌∙◌, subst, arith, to_z, of_z}
use Rattle.std.proofs.Math.Path.{ap, ap₂}
use Rattle.std.proofs.Math.Nat.{add-zero}
use Rattle.std.proofs.Math.Option.{Option, some}
use mathlib.Core.List.{List}
use Rattle.std.specs.Int.Signed.{mag}
use Rattle.std.specs.Int.{w64}
use Rattle.rules.specs.Outcome.{accepted}
use Rattle.rules.specs.Value.{Ty, type_of}
use Rattle.rules.specs.Tree.{Expression, Statement, mentions}
use Rattle.rules.specs.Table.{Node, Kind, Part, nodes, assign, types_of, expression, statement}
use Rattle.rules.specs.Run.{Valued, Done, evaluate, run}
use Rattle.rules.proofs.Laws.Outcome.{Holds, holds_of}
use Rattle.rules.proofs.Laws.Parts.{statement_of, number_of_kind, node_at, part_at, parts_of, Built, stands_as, part_below, child_at, part_typed}
use Rattle.rules.proofs.Laws.Size.{operations, record_size, weight, few_operators, Small, words_bounded}
use Rattle.rules.proofs.Laws.Typed.{Typed, Kept, run_keeps}
use Rattle.rules.proofs.Laws.Entry.{Fine}
use Rattle.rules.proofs.Laws.Inside.{inside}
use Rattle.table.specs.Agrees.{both, Accepts, accepts, handed_up}
use Rattle.table.specs.Kinds.{kind_number_of}
use Rattle.table.specs.Lists.{list_at}
use Rattle.table.specs.Sorts.{node_of}
use Rattle.table.specs.declared.answer.Refusal.{Refusal}
use Rattle.table.specs.declared.kind.Kind.{Kind as Code}
use Rattle.table.specs.declared.node.Node.{Node as Read}
use Rattle.table.specs.Laws.Row.{list_long, list_at_lem}
use Rattle.table.specs.declared.script.Checked.{Checked}
use Rattle.table.specs.declared.script.Script.{Script}
use Rattle.run.specs.declared.statement.Ran.{Ran}
use Rattle.run.specs.Code.{farthest, ValuedAs, Evaluable, EvaluatesTo}
use Rattle.run.specs.Words.{Listed}
use Rattle.run.specs.Statement.{RanAs, PartsTo, Known, Enterable}
use Rattle.run.specs.Laws.Numbers.{word_back}

-- ---- a node of a script

-- a node that has a part can be read
pub node_inside : (checked : Checked) {node : ℕ} {q : Part} → part_at checked.table.now node ≡ some q → node < nodes checked.table.now
node_inside checked {node} {q} here = part_below checked.table.now checked.accepted.0 checked.accepted.1 node q here

-- the kind of a node that was read; its other fields are those of `node_of`
pub kind_read : (x : Read) {n : Node} {kind : Code} → node_of x ≡ n → x.kind ≡ kind → n.kind ≡ kind_number_of kind
kind_read x read is = sym (ap (λ (y : Node). y.kind) read) ∙ ap kind_number_of is

-- the same part, known in two ways
pub same_part : {o : Option Part} {p q : Part} → o ≡ some p → o ≡ some q → p ≡ q
same_part e f = cc

module _ {script : Script} {node : ℕ} {values : List ℤ} (k : Known script node values) where
  open k use {tree, here, small, fine}

  pub built : (kd : Kind) → (node_at script.checked.table.now node).kind ≡ number_of_kind kd
      → Built (types_of script.checked.table.now) (take node (parts_of script.checked.table.now)) node (node_at script.checked.table.now node) kd (statement tree)
  built kd e = stands_as script.checked.table.now script.checked.accepted.0 script.checked.accepted.1 node (statement tree) kd here e

  -- what holds of the node's tree holds of each statement of the node
  pub for_statement : (P : Statement → Type 0) → P tree → (t : Statement) → part_at script.checked.table.now node ≡ some (statement t) → P t
  for_statement P h t e = subst P (statement_of (same_part here e)) h

  -- and what is shown of the parts of its tree is shown of the node's parts
  pub for_parts : {t : Statement} → tree ≡ t → (left : ℕ) (r : Result Ran Refusal) (out : List ℤ) (at : ℕ) (after : List ℤ)
      → RanAs (inside t values left) r out left at after
      → PartsTo script node values left r out at after
  for_parts e left r out at after h = for_statement (λ t. RanAs (inside t values left) r out left at after)
      (subst (λ (t : Statement). RanAs (inside t values left) r out left at after) (sym e) h)

  pub list_is : list_at script.lists.now.lists node ≡ mentions tree
  list_is = (script.listed.each node (statement tree) here).list

  pub listed_at : (at : ℕ) → at ≤ farthest → Listed script.lists.now.lists node at
  listed_at at place =
      let row = (script.listed.each node (statement tree) here).row in
      let count = list_long script.lists.now.lists node row.long row.inside row.few in
      record {
        long = row.long;
        inside = row.inside;
        count = row.few;
        known = λ i below.
            let i_below : i < get_or script.lists.now.lists (33 * node) 0 = omega (arith, count) in
            omega (arith, row.low i i_below, list_at_lem script.lists.now.lists node i i_below, script.listed.few);
        place = place;
      }

  -- there are at most 512 nodes
  pub low : node < 512
  low = (script.listed.each node (statement tree) here).row.inside

  typed : Typed (types_of script.checked.table.now) tree
  typed = part_typed script.checked.table.now script.checked.accepted.0 script.checked.accepted.1 node (statement tree) here

  -- a run from a fine store ends in a fine store
  pub still_fine : (left : ℕ) (d : Done) → run tree left values ≡ accepted d → Fine (types_of script.checked.table.now) d.store
  still_fine left d e =
      let kept : Kept (types_of script.checked.table.now) (mentions tree) values d.store
      = holds_of (subst (Holds (λ f. Kept (types_of script.checked.table.now) (mentions tree) values f.store)) e
      (run_keeps (types_of script.checked.table.now) (mentions tree) tree typed (λ v m. m) left values fine.good)) in
      record { long = kept.long ∙ fine.long; good = kept.good }

  -- and leaves no more words than its steps allow
  pub bounded : (left : ℕ) (d : Done) → run tree left values ≡ accepted d → length d.words + 32 ≤ weight * d.steps
  bounded left d e = holds_of (subst (Holds (λ f. length f.words + 32 ≤ weight * f.steps)) e (words_bounded tree small left values))

-- ---- answers

-- what `?` hands up is the refusal that it met
pub refusal_up : {A : Type 0} {r : Result A Refusal} {q : Refusal} → IsErrAnd r (λ e. e ≡ q) → r ≡ Err q
refusal_up {A} {r} {q} h = of r h
  where
    of : (r : Result A Refusal) → IsErrAnd r (λ e. e ≡ q) → r ≡ Err q
    of (Ok x) h = absurd h
    of (Err e) h = ap Err h

-- ---- assign

-- a child that is an expression can be evaluated
pub child_evaluable : {script : Script} {node : ℕ} {values : List ℤ} (k : Known script node values) {child : ℕ} {t : Ty} {e : Expression} {at : ℕ}
    → part_at script.checked.table.now child ≡ some (expression t e) → few_operators e → at + 33_554_432 ≤ farthest → Evaluable script.checked child values at
child_evaluable k {t} {e} {at} here few near =
    let near' : at + 2 * operations e ≤ farthest = omega arith in
    record { type = t; tree = e; here = here; good = k.fine.good; near = near' }

-- and its record is short
pub record_short : (values : List ℤ) (e : Expression) → few_operators e → (x : Valued) → evaluate e values ≡ accepted x → length x.words < 33_554_432
record_short values e few x comes =
    let size : length x.words ≡ 2 * operations e = holds_of (subst (Holds (λ y. length y.words ≡ 2 * operations e)) comes (record_size e values)) in
    omega arith

pub record AsAssign (bytes : List ℕ) (node : ℕ) (tree : Statement) : Type 0 where
  pub e : Expression
  pub is : tree ≡ Statement.assign node (node_at bytes node).tag e
  pub child : ((node_at bytes node).a < node) × (part_at bytes (node_at bytes node).a ≡ some (expression (type_of (types_of bytes) (node_at bytes node).tag) e))
  pub low : (node_at bytes node).tag < length (types_of bytes)

module _ {script : Script} {node : ℕ} {values : List ℤ} {left at : ℕ} (h : Enterable script node values left at 17) where
  abbrev bytes : List ℕ
  bytes = script.checked.table.now

  pub as_assign : AsAssign bytes node h.inner.known.tree
  as_assign =
      let b = built h.inner.known assign h.kinded in
      record {
        e = b.0;
        is = statement_of b.1;
        child = child_at bytes script.checked.accepted.0 script.checked.accepted.1 node (node_at bytes node).a
            (expression (type_of (types_of bytes) (node_at bytes node).tag) b.0) b.2;
        low = b.3;
      }

  few : few_operators as_assign.e
  few = subst Small as_assign.is h.inner.known.small

  -- at the node that was read
  module _ (x : Read) (read : node_of x ≡ node_at bytes node) where
    pub assign_tag : x.tag < 32
    assign_tag = omega (arith, ap (λ (n : Node). n.tag) read, as_assign.low, script.listed.few)

    assigned_here : part_at bytes x.a ≡ some (expression (type_of (types_of bytes) (node_at bytes node).tag) as_assign.e)
    assigned_here = ap (λ (n : Node). part_at bytes n.a) read ∙ as_assign.child.1

    pub assign_evaluable : Evaluable script.checked x.a values at
    assign_evaluable =
        let near : at + 33_554_432 ≤ farthest = omega (arith, h.inner.near) in
        child_evaluable h.inner.known assigned_here few near

    module _ {a : Result (ℤ × ℕ) Refusal} (out after : List ℤ) (answer : EvaluatesTo script.checked x.a values a out at after) where
      pub assign_answer : {p : ℤ × ℕ} → a ≡ Ok p → mag p.0 < 9_223_372_036_854_775_808
          → (r : Ran) → r.store.values ≡ set values x.tag (to_z w64 (of_z w64 p.0)) → r.left ≡ left → r.at ≡ p.1
          → PartsTo script node values left (Ok r) out at after
      unfolding inside
      assign_answer {p} e fits r stores leaves ends =
          let g : Accepts (ValuedAs out at after) (evaluate as_assign.e values) p = accepts (answer _ as_assign.e assigned_here) e in
          for_parts h.inner.known as_assign.is left (Ok r) out at after
          (rw g.comes (both (record {
            stores = stores ∙ ap₂ {C = List ℤ} (set values) (ap (λ (n : Node). n.tag) read) (word_back p.0 fits ∙ g.holds.value);
            leaves = add-zero r.left ∙ leaves;
            ends = ends ∙ g.holds.ends;
            lays = g.holds.lays;
          })))

      pub assign_refused : {q : Refusal} → a ≡ Err q → (out' after' : List ℤ) → PartsTo script node values left (Err q) out' at after'
      unfolding inside
      assign_refused {q} e out' after' =
          for_parts h.inner.known as_assign.is left (Err q) out' at after' (handed_up _ (answer _ as_assign.e assigned_here) e)
