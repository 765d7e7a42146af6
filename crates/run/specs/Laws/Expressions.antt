-- Expressions in code: what stands at a node, and what a leaf answers.
-- Assumes nothing.
use Rattle.std.specs.Prelude.{length, ◌≡◌, ℕ, ◌≤◌, ◌<◌, true, take, ℤ, ◌⊎◌, Ok}
use Rattle.std.proofs.Math.Path.{refl, ap, subst}
use Rattle.std.proofs.Common.{sym, ◌∙◌, arith, add-zero, to_z, of_z, lit<, inl, inr}
use Rattle.std.proofs.Math.Option.{some}
use mathlib.Core.List.{List, []}
use Rattle.std.proofs.Math.IntN.{pos}
use Rattle.std.specs.Int.Signed.{mag}
use mir.Syntax.{w64}
use Rattle.std.proofs.lemmas.Int.{to_z_pos}
use Rattle.rules.proofs.Laws.Value.{truth_cases}
use Rattle.numbers.specs.Lay.{lay}
use Rattle.rules.specs.Outcome.{accepted}
use Rattle.rules.specs.Value.{Ty, in_type, type_of, at as value_at}
use Rattle.rules.specs.Tree.{Expression, Statement}
use Rattle.rules.specs.Table.{Node, constant_of, Kind, number_constant, truth_constant, variable, skip, assign, sequence, if, repeat, types_of, expression, statement}
use Rattle.rules.specs.Run.{evaluate}
use Rattle.rules.proofs.Laws.Header.{sized, types_long}
use Rattle.rules.proofs.Laws.Parts.{number_of_kind, node_at, part_at, parts_of, Built, stands_as}
use Rattle.table.specs.Agrees.{both}
use Rattle.table.specs.Sorts.{node_of}
use Rattle.table.specs.declared.kind.Operator.{Operator as Code}
use Rattle.table.specs.declared.kind.Kind.{Kind as Kinds}
use Rattle.table.specs.declared.kind.Kind.TheVariants.{NumberConstant, TruthConstant, Variable, Operator as AnOperator, Skip, Assign, Sequence, If, Repeat}
use Rattle.table.specs.declared.node.Node.{Node as Read}
use Rattle.table.specs.declared.script.Checked.{Checked}
use Rattle.run.specs.Code.{EvaluatedAs, Evaluable, EvaluatesTo}
use Rattle.run.specs.Laws.Numbers.{mag_in, word_back}
use Rattle.run.specs.Laws.Statements.{same_part, kind_read}

-- ---- what stands at the node

-- what holds of the answer for one expression of the node holds for each
pub for_each : (bytes : List ℕ) (node : ℕ) {u : Ty} {d : Expression} (P : Expression → Type 0) → part_at bytes node ≡ some (expression u d) → P d
    → (t : Ty) (e : Expression) → part_at bytes node ≡ some (expression t e) → P e
for_each bytes node P here h t e f = subst P (tree_of (same_part here f)) h
  where
    tree_of : {u t : Ty} {d e : Expression} → expression u d ≡ expression t e → d ≡ e
    tree_of p = cc

-- a value of either type is far from the ends of a word
pub mag_of_type : (t : Ty) (z : ℤ) → in_type t z ≡ true → mag z < 2_147_483_648
mag_of_type Ty.number z h = mag_in z h
mag_of_type Ty.truth z h = small z (truth_cases z h)
  where
    small : (z : ℤ) → (z ≡ pos 0) ⊎ (z ≡ pos 1) → mag z < 2_147_483_648
    small z (inl e) = subst (λ (w : ℤ). mag w < 2_147_483_648) (sym e) (lit< tt)
    small z (inr e) = subst (λ (w : ℤ). mag w < 2_147_483_648) (sym e) (lit< tt)

-- ---- leaves

module _ {checked : Checked} {node : ℕ} {values : List ℤ} {at : ℕ} (h : Evaluable checked node values at) where
  open h use {type, tree, here, good}

  abbrev bytes : List ℕ
  bytes = checked.table.now

  abbrev top : Node
  top = node_at bytes node

  pub built : (k : Kind) → top.kind ≡ number_of_kind k → Built (types_of bytes) (take node (parts_of bytes)) node top k (expression type tree)
  built k e = stands_as bytes checked.accepted.0 checked.accepted.1 node (expression type tree) k here e

  pub few : length (types_of bytes) ≤ 32
  few = omega (arith, (sized bytes checked.accepted.0 checked.accepted.1).few, types_long bytes checked.accepted.0 checked.accepted.1)

  -- an answer with an empty record
  leaf : (out : List ℤ) (z w : ℤ) (d : Expression) (u : Ty) → evaluate d values ≡ accepted (record { value = z; words = [] })
      → expression type tree ≡ expression u d → w ≡ z → EvaluatesTo checked node values (Ok (w, at)) out at out
  unfolding lay
  leaf out z w d u ev same q = for_each bytes node (λ e. EvaluatedAs (evaluate e values) (Ok (w, at)) out at out) (here ∙ ap some same)
      (rw ev (both (record { value = q; ends = sym (add-zero at); lays = refl })))

  -- a constant's answer is the word that was read
  pub constant_answer : top.kind ≡ number_of_kind number_constant → {z : ℤ} → z ≡ constant_of top → mag z < 9_223_372_036_854_775_808
      → (out : List ℤ) → EvaluatesTo checked node values (Ok (to_z w64 (of_z w64 z), at)) out at out
  unfolding evaluate
  constant_answer k {z} e fits out = leaf out (constant_of top) _ (Expression.constant node (constant_of top)) Ty.number refl (built number_constant k)
      (word_back z fits ∙ e)

  -- and so a truth's and a variable's, of the node that was read
  module _ (x : Read) (read : node_of x ≡ top) where
    tag_is : x.tag ≡ top.tag
    tag_is = ap (λ (n : Node). n.tag) read

    pub truth_small : top.kind ≡ number_of_kind truth_constant → x.tag ≤ 1
    truth_small k = omega (arith, tag_is, (built truth_constant k).1)

    pub truth_answer : top.kind ≡ number_of_kind truth_constant → (out : List ℤ) → EvaluatesTo checked node values (Ok (to_z w64 x.tag, at)) out at out
    unfolding evaluate
    truth_answer k out = leaf out (pos top.tag) _ (Expression.constant node (pos top.tag)) Ty.truth refl (built truth_constant k).0
        (to_z_pos w64 x.tag (omega (arith, truth_small k)) ∙ ap pos tag_is)

    pub variable_below : top.kind ≡ number_of_kind variable → x.tag < 32
    variable_below k = omega (arith, tag_is, few, (built variable k).1)

    pub variable_answer : top.kind ≡ number_of_kind variable → (out : List ℤ)
        → EvaluatesTo checked node values (Ok (to_z w64 (of_z w64 (value_at values x.tag)), at)) out at out
    unfolding evaluate
    variable_answer k out = leaf out (value_at values top.tag) _ (Expression.variable node top.tag) (type_of (types_of bytes) top.tag) refl (built variable k).0
        (word_back (value_at values x.tag) (omega (arith, mag_of_type (type_of (types_of bytes) x.tag) (value_at values x.tag) (good x.tag))) ∙ ap (value_at values) tag_is)

    -- no other kind of node is an expression's
    pub no_other_kind : (x.kind ≡ NumberConstant → ⊥) → (x.kind ≡ TruthConstant → ⊥) → (x.kind ≡ Variable → ⊥)
        → ((o : Code) → x.kind ≡ AnOperator o → ⊥) → ⊥
    no_other_kind a b c d = of x.kind refl
      where
        no_statement : {t : Statement} → expression type tree ≡ statement t → ⊥
        no_statement p = let q : ◌≡◌ {A = ℕ} 0 1 = cc in omega arith

        of : (k : Kinds) → x.kind ≡ k → ⊥
        of NumberConstant e = a e
        of TruthConstant e = b e
        of Variable e = c e
        of (AnOperator o) e = d o e
        of Skip e = no_statement (built skip (kind_read x read e))
        of Assign e = no_statement (built assign (kind_read x read e)).1
        of Sequence e = no_statement (built sequence (kind_read x read e)).2
        of If e = no_statement (built if (kind_read x read e)).3
        of Repeat e = no_statement (built repeat (kind_read x read e)).2
