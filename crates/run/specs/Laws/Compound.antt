-- Compound statements in code: a statement's entry round its parts, sequences, branches and iterations; each answer is put together
-- from the answers of the calls.
-- Assumes nothing.
use Rattle.std.specs.Prelude.{◌≡◌, refl, take, ℤ, pos, Result, Ok, Err}
use Rattle.std.proofs.Common.{sym, ◌∙◌, subst, add-zero, add-one}
use Rattle.std.proofs.Math.Path.{ap, ap₂}
use Prim.Native.Nat.{ℕ, suc, ◌+◌, ◌-◌, ◌*◌, ◌≤◌, ◌<◌}
use native.Mathlib.Omega.{arith}
use mathlib.Core.List.{List, ◌∷◌}
use Rattle.std.proofs.Math.ListN.{length, set}
use Rattle.numbers.specs.Lay.{lay, set_lay}
use Rattle.rules.specs.Outcome.{accepted, ◌>>=◌, fuel_spent}
use Rattle.rules.specs.Outcome as Paper
use Rattle.rules.specs.Tree.{node_of as number_of_node}
use Rattle.rules.specs.Table.{Kind, number_constant, truth_constant, variable, operator, skip, assign, sequence, if, repeat, types_of, statement}
use Rattle.rules.specs.Run.{Done, entry, enter, run}
use Rattle.rules.proofs.Laws.Parts.{no_expression, statement_of, node_at, parts_of, Built, stands}
use Rattle.rules.proofs.Laws.Size.{weight}
use Rattle.rules.proofs.Laws.Entry.{run_dry}
use Rattle.rules.proofs.Laws.Inside.{inside, run_inside}
use Rattle.table.specs.Agrees.{both, neither, Accepts, accepts, handed_up}
use Rattle.table.specs.Kinds.{paper_operator}
use Rattle.table.specs.Paper.{refusal_for}
use Rattle.table.specs.Sorts.{node_of}
use Rattle.table.specs.declared.answer.Refusal.{Refusal}
use Rattle.table.specs.declared.kind.Kind.{Kind as Code}
use Rattle.table.specs.declared.kind.Kind.TheVariants.{NumberConstant, TruthConstant, Variable, Operator as AnOperator, Skip, Assign, Sequence, If, Repeat}
use Rattle.table.specs.declared.node.Node.{Node as Read}
use Rattle.table.specs.declared.script.Script.{Script}
use Rattle.run.specs.declared.statement.Ran.{Ran}
use Rattle.run.specs.Code.{farthest}
use Rattle.run.specs.Statement.{EndedAs, RanAs, RunsTo, PartsTo, Opened, Known, Runnable, Inner}
use Rattle.run.specs.Laws.Statements.{kind_read, built, for_statement, for_parts, low, bounded}

-- ---- a statement's kind and node

module _ {script : Script} {node : ℕ} {values : List ℤ} (k : Known script node values) where
  open k use {tree, here}

  named_by : (kd : Kind) → Built (types_of script.checked.table.now) (take node (parts_of script.checked.table.now)) node (node_at script.checked.table.now node) kd (statement tree)
      → number_of_node tree ≡ node
  unfolding number_of_node
  named_by number_constant b = absurd (no_expression b)
  named_by truth_constant b = absurd (no_expression b.0)
  named_by variable b = absurd (no_expression b.0)
  named_by (operator o) b = absurd (no_expression b.2)
  named_by skip b = ap number_of_node (statement_of b)
  named_by assign b = ap number_of_node (statement_of b.1)
  named_by sequence b = ap number_of_node (statement_of b.2)
  named_by if b = ap number_of_node (statement_of b.3)
  named_by repeat b = ap number_of_node (statement_of b.2)

  pub named : number_of_node tree ≡ node
  named = let s = stands script.checked.table.now script.checked.accepted.0 script.checked.accepted.1 node (statement tree) here in named_by s.kind s.built

  -- no other kind of node is a statement's
  pub no_other_kind : (x : Read) → node_of x ≡ node_at script.checked.table.now node
      → (x.kind ≡ Skip → ⊥) → (x.kind ≡ Assign → ⊥) → (x.kind ≡ Sequence → ⊥) → (x.kind ≡ If → ⊥) → (x.kind ≡ Repeat → ⊥) → ⊥
  no_other_kind x read a₁ a₂ a₃ a₄ a₅ = of x.kind refl
    where
      of : (kd : Code) → x.kind ≡ kd → ⊥
      of NumberConstant e = no_expression (built k number_constant (kind_read x read e))
      of TruthConstant e = no_expression (built k truth_constant (kind_read x read e)).0
      of Variable e = no_expression (built k variable (kind_read x read e)).0
      of (AnOperator o) e = no_expression (built k (operator (paper_operator o)) (kind_read x read e)).2
      of Skip e = a₁ e
      of Assign e = a₂ e
      of Sequence e = a₃ e
      of If e = a₄ e
      of Repeat e = a₅ e

-- ---- a statement: a step, the parts, the opening words

pub three_before : (out words : List ℤ) (at : ℕ) (x y z : ℤ)
    → set (set (set (lay out (at + 3) words) at x) (at + 1) y) (at + 2) z ≡ lay out at (x ∷ y ∷ z ∷ words)
unfolding lay
three_before out words at x y z =
    let two : at + 2 ≡ suc (suc at) = omega arith in
    let three : at + 3 ≡ suc (suc (suc at)) = omega arith in
    ap (λ (l : List ℤ). set (set l (at + 1) y) (at + 2) z) (set_lay out at (at + 3) x words (omega arith))
    ∙ ap (λ (l : List ℤ). set l (at + 2) z) (set_lay (set out at x) (at + 1) (at + 3) y words (omega arith))
    ∙ set_lay (set (set out at x) (at + 1) y) (at + 2) (at + 3) z words (omega arith)
    ∙ ap₂ {C = List ℤ} (λ (i j : ℕ). lay (set (set (set out at x) i y) j z) (at + 3) words) (add-one at) two
    ∙ ap (λ (i : ℕ). lay (set (set (set out at x) (suc at) y) (suc (suc at)) z) i words) three

module _ {script : Script} {node : ℕ} {values : List ℤ} {left at : ℕ} (h : Runnable script node values left at) where
  open h.known use {tree, here}

  -- with the limit used up it is 9
  pub dry : left ≡ 0 → (out after : List ℤ) → RunsTo script node values left (Err (refusal_for fuel_spent)) out at after
  dry e out after = for_statement h.known (λ t. RanAs (run t left values) (Err (refusal_for fuel_spent)) out left at after)
      (rw (e, run_dry tree values) (neither refl))

  entered : (left ≡ 0 → ⊥) → run tree left values ≡ enter node (suc (left - 1)) (inside tree values)
  entered has =
      let same : left ≡ suc (left - 1) = omega arith in
      run_inside tree left values ∙ ap₂ {C = Paper.Outcome Done} (λ (n l : ℕ). enter n l (inside tree values)) (named h.known) same

  module _ (has : left ≡ 0 → ⊥) {r : Result Ran Refusal} {out one : List ℤ} (p : PartsTo script node values (left - 1) r out (at + 3) one) where
    pub entry_refused : {q : Refusal} → r ≡ Err q → (after : List ℤ) → RunsTo script node values left (Err q) out at after
    unfolding enter
    entry_refused {q} e after = for_statement h.known (λ t. RanAs (run t left values) (Err q) out left at after)
        (subst (λ (m : Paper.Outcome Done). RanAs m (Err q) out left at after) (sym (entered has)) (handed_up _ (p tree here) e))

    module _ {ran : Ran} (answered : r ≡ Ok ran) where
      -- the parts' end
      got : Accepts (EndedAs out (left - 1) (at + 3) one) (inside tree values (left - 1)) ran
      got = accepts (p tree here) answered

      pub parts_place : at + 3 ≤ ran.at
      parts_place = omega (arith, got.holds.ends)

      pub parts_left : ran.left ≤ left - 1
      parts_left = omega (arith, got.holds.leaves)

      abbrev ended : Done
      ended = record { store = got.value.store; steps = suc got.value.steps; words = entry node (suc got.value.steps) got.value.words }

      whole : run tree left values ≡ accepted ended
      unfolding enter
      whole = entered has ∙ ap (λ (m : Paper.Outcome Done). m >>= λ g. accepted (record {
        store = g.store;
        steps = suc g.steps;
        words = entry node (suc g.steps) g.words;
      })) got.comes

      -- node, size and steps are words
      pub entry_openable : (at + 2 ≤ farthest) × ((node ≤ farthest) × ((ran.at - at ≤ farthest) × (left - ran.left ≤ farthest)))
      unfolding entry
      entry_openable =
          let f = got.holds in
          let b : length ended.words + 32 ≤ weight * suc got.value.steps = bounded h.known left ended whole in
          let below : node < 512 = low h.known in
          let place : at + 2 ≤ farthest = omega (arith, h.near, has) in
          let number : node ≤ farthest = omega arith in
          let size : ran.at - at ≤ farthest = omega (arith, h.near, f.ends, f.leaves, has) in
          let steps : left - ran.left ≤ farthest = omega (arith, h.near) in
          (place, (number, (size, steps)))

      pub entry_answer : (two : List ℤ) → Opened one at node (ran.at - at) (left - ran.left) two → RunsTo script node values left (Ok ran) out at two
      unfolding entry
      entry_answer two o =
          let d = got.value in
          let f = got.holds in
          let size : ran.at - at ≡ 3 + length d.words = omega (arith, f.ends) in
          let steps : left - ran.left ≡ suc d.steps = omega (arith, f.leaves, has) in
          let laid : two ≡ lay out at (entry node (suc d.steps) d.words)
          = o ∙ ap₂ {C = List ℤ} (λ (i j : ℕ). set (set (set one at (pos node)) (at + 1) (pos i)) (at + 2) (pos j)) size steps
          ∙ ap (λ (l : List ℤ). set (set (set l at (pos node)) (at + 1) (pos (3 + length d.words))) (at + 2) (pos (suc d.steps))) f.lays
          ∙ three_before out d.words at (pos node) (pos (3 + length d.words)) (pos (suc d.steps)) in
          let leaves : ran.left + suc d.steps ≡ left = omega (arith, f.leaves, has) in
          let ends : ran.at ≡ at + suc (suc (suc (length d.words))) = omega (arith, f.ends) in
          for_statement h.known (λ t. RanAs (run t left values) (Ok ran) out left at two)
          (rw whole (both (record { stores = f.stores; leaves = leaves; ends = ends; lays = laid })))

-- ---- skip

-- a skip's parts are none
pub skip_answer : {script : Script} {node : ℕ} {values : List ℤ} {left at : ℕ} (h : Inner script node values left at)
    → (node_at script.checked.table.now node).kind ≡ 16
    → (r : Ran) → r.store.values ≡ values → r.left ≡ left → r.at ≡ at → (out : List ℤ) → PartsTo script node values left (Ok r) out at out
unfolding inside lay
skip_answer {left} {at} h kinded r s l p out = for_parts h.known (statement_of (built h.known skip kinded)) left (Ok r) out at out
    (both (record { stores = s; leaves = add-zero r.left ∙ l; ends = p ∙ sym (add-zero at); lays = refl }))
