-- The branch that a condition takes, and the snapshot after it: the branch goes on from where the condition ended.
-- Assumes nothing.
use Rattle.std.specs.Prelude.{◌≡◌, refl, ℕ, zero, suc, ◌≤◌, ◌<◌, Bool, true, false, List, length, ℤ, pos, negsuc, eqb, Result, Ok, Err}
use Rattle.std.proofs.Common.{sym, ap, ap₂, ◌∙◌, subst, arith, SFits, to_z, of_z, ne_eqb}
use Rattle.std.proofs.Math.Option.{some}
use Rattle.std.specs.Int.{w64}
use Rattle.std.proofs.lemmas.Int.{to_z-of_z}
use Rattle.numbers.specs.Lay.{lay}
use Rattle.rules.specs.Outcome.{choose}
use Rattle.rules.specs.Outcome as Paper
use Rattle.rules.specs.Value.{Ty, snapshot}
use Rattle.rules.specs.Tree.{Expression, Statement, mentions}
use Rattle.rules.specs.Table.{Node, Kind, expression, statement}
use Rattle.rules.specs.Run.{Done, holds, run}
use Rattle.rules.proofs.Laws.Parts.{statement_of, node_at, part_at, child_at}
use Rattle.rules.proofs.Laws.Size.{Small}
use Rattle.table.specs.Agrees.{Accepts, accepts, refuses, agrees_ok, agrees_err}
use Rattle.table.specs.Lists.{list_at}
use Rattle.table.specs.Sorts.{node_of}
use Rattle.table.specs.declared.answer.Refusal.{Refusal}
use Rattle.table.specs.declared.node.Node.{Node as Read}
use Rattle.table.specs.declared.script.Script.{Script}
use Rattle.run.specs.declared.statement.Ran.{Ran}
use Rattle.run.specs.Words.{Listed}
use Rattle.run.specs.Statement.{EndedAs, RanAs, RunsTo, TookAs, TakesTo, Known, Runnable, Takeable}
use Rattle.run.specs.Laws.Statements.{built, for_statement, list_is, listed_at}
use Rattle.run.specs.Laws.Sequences.{child_known}

-- ---- what a condition takes

pub holds_zero : {A : Type 0} {z : ℤ} (x y : A) → z ≡ pos 0 → y ≡ choose (holds z) x y
unfolding holds
holds_zero x y e = ap (λ (w : ℤ). choose (holds w) x y) (sym e)

pub holds_other : {A : Type 0} (z : ℤ) (x y : A) → (z ≡ pos 0 → ⊥) → x ≡ choose (holds z) x y
unfolding holds
holds_other (pos zero) x y e = absurd (e refl)
holds_other (pos (suc n)) x y e = let other : eqb (suc n) 0 ≡ false = ne_eqb (suc n) 0 (λ q. omega arith) in rw other refl
holds_other (negsuc n) x y e = refl

-- ---- the parts of an if

pub record AsIf (bytes : List ℕ) (node : ℕ) (tree : Statement) : Type 0 where
  pub e : Expression
  pub s : Statement
  pub t : Statement
  pub is : tree ≡ Statement.if node e s t
  pub test : ((node_at bytes node).a < node) × (part_at bytes (node_at bytes node).a ≡ some (expression Ty.truth e))
  pub yes : ((node_at bytes node).b < node) × (part_at bytes (node_at bytes node).b ≡ some (statement s))
  pub no : ((node_at bytes node).c < node) × (part_at bytes (node_at bytes node).c ≡ some (statement t))

abbrev pub taken_node : List ℕ → ℕ → Bool → ℕ
taken_node bytes node b = choose b (node_at bytes node).b (node_at bytes node).c

module _ {script : Script} {node : ℕ} {values : List ℤ} (k : Known script node values) (kinded : (node_at script.checked.table.now node).kind ≡ 19) where
  open k use {tree, small}

  abbrev bytes : List ℕ
  bytes = script.checked.table.now

  pub as_if : AsIf bytes node k.tree
  as_if =
      let b = built k Kind.if kinded in
      record {
        e = b.0;
        s = b.1;
        t = b.2;
        is = statement_of b.3;
        test = child_at bytes script.checked.accepted.0 script.checked.accepted.1 node (node_at bytes node).a (expression Ty.truth b.0) b.4;
        yes = child_at bytes script.checked.accepted.0 script.checked.accepted.1 node (node_at bytes node).b (statement b.1) b.5;
        no = child_at bytes script.checked.accepted.0 script.checked.accepted.1 node (node_at bytes node).c (statement b.2) b.6;
      }

  pub if_small : Small (Statement.if node as_if.e as_if.s as_if.t)
  if_small = subst Small as_if.is small

  pub if_variables : list_at script.lists.now.lists node ≡ mentions (Statement.if node as_if.e as_if.s as_if.t)
  if_variables = list_is k ∙ ap mentions as_if.is

  pub if_narrow : length (list_at script.lists.now.lists node) ≤ 32
  if_narrow = omega (arith, ap length if_variables, if_small.1)

  -- the branch that a condition takes: at its node, as a statement and as a run
  abbrev pub taken : Bool → Statement
  taken b = choose b as_if.s as_if.t

  pub taken_here : (b : Bool) → part_at bytes (taken_node bytes node b) ≡ some (statement (taken b))
  taken_here true = as_if.yes.1
  taken_here false = as_if.no.1

  pub taken_small : (b : Bool) → Small (taken b)
  taken_small true = if_small.2
  taken_small false = if_small.3

  pub taken_below : (b : Bool) → taken_node bytes node b < node
  taken_below true = as_if.yes.0
  taken_below false = as_if.no.0

  taken_run : (b : Bool) (left : ℕ) → choose b (run as_if.s) (run as_if.t) left values ≡ run (taken b) left values
  taken_run true left = refl
  taken_run false left = refl

-- ---- the branch taken, and the snapshot after it

-- what is to be shown of a statement that is an if
abbrev Took : ℤ → List ℤ → Result Ran Refusal → List ℤ → ℕ → ℕ → ℕ → List ℤ → Statement → Type 0
Took z values r out left after at final (Statement.if n e s t) = TookAs (mentions (Statement.if n e s t))
    (choose (holds z) (run s) (run t) left values) r out left after at final
Took z values r out left after at final (Statement.skip n) = Unit {0}
Took z values r out left after at final (Statement.assign n v e) = Unit {0}
Took z values r out left after at final (Statement.sequence n s t) = Unit {0}
Took z values r out left after at final (Statement.repeat n e s) = Unit {0}

took_refused : {vs : List ℕ} {m : Paper.Outcome Done} {r : Result Ran Refusal} {q : Refusal} {out one final : List ℤ} {left after at : ℕ}
    → RanAs m r out left at one → r ≡ Err q → TookAs vs m (Err q) out left after at final
took_refused h e = let w = refuses h e in agrees_err w.comes w.is

module _ {script : Script} {node : ℕ} {values : List ℤ} {left after at : ℕ} (h : Takeable script node values left after at) (z : ℤ) where
  abbrev here : List ℕ
  here = script.checked.table.now

  abbrev its : AsIf here node h.known.tree
  its = as_if h.known h.kinded

  abbrev branch : Statement
  branch = taken h.known h.kinded (holds z)

  pub take_listed : Listed script.lists.now.lists node after
  take_listed = listed_at h.known after (omega (arith, h.near, h.place))

  -- the branch, at the node that was read for the condition's word
  module _ (fits : SFits w64 z) (x : Read) (read : node_of x ≡ node_at here node) {child : ℕ}
      (child_is : child ≡ choose (holds (to_z w64 (of_z w64 z))) x.b x.c) where
    taken_is : child ≡ taken_node here node (holds z)
    taken_is = child_is ∙ ap (λ (w : ℤ). choose (holds w) x.b x.c) (to_z-of_z w64 z fits) ∙ ap (λ (n : Node). choose (holds z) n.b n.c) read

    branch_here : part_at here child ≡ some (statement branch)
    branch_here = ap (part_at here) taken_is ∙ taken_here h.known h.kinded (holds z)

    pub take_below : child < node
    take_below = subst (λ (i : ℕ). i < node) (sym taken_is) (taken_below h.known h.kinded (holds z))

    pub take_runnable : Runnable script child values left at
    take_runnable = record { known = child_known branch_here (taken_small h.known h.kinded (holds z)) h.known.fine; near = h.near }

    module _ {r : Result Ran Refusal} {out one : List ℤ} (p : RunsTo script child values left r out at one) (final : List ℤ) where
      -- what is shown of the branch's run is shown of the if
      whole : {a : Result Ran Refusal} → TookAs (mentions (Statement.if node its.e its.s its.t)) (run branch left values) a out left after at final
          → TakesTo script node z values left a out after at final
      whole {a} w n e s t found = for_statement h.known (Took z values a out left after at final)
          (subst (Took z values a out left after at final) (sym its.is)
          (subst (λ (m : Paper.Outcome Done). TookAs (mentions (Statement.if node its.e its.s its.t)) m a out left after at final)
          (sym (taken_run h.known h.kinded (holds z) left)) w)) (Statement.if n e s t) found

      pub take_refused : {q : Refusal} → r ≡ Err q → TakesTo script node z values left (Err q) out after at final
      take_refused e = whole (took_refused (p branch branch_here) e)

      pub take_answer : {ran : Ran} → r ≡ Ok ran → final ≡ lay one after (snapshot (list_at script.lists.now.lists node) ran.store.values)
          → TakesTo script node z values left (Ok ran) out after at final
      take_answer {ran} e f =
          let got : Accepts (EndedAs out left at one) (run branch left values) ran = accepts (p branch branch_here) e in
          whole (agrees_ok got.comes (record {
            stores = got.holds.stores;
            leaves = got.holds.leaves;
            ends = got.holds.ends;
            lays = f
                ∙ ap (λ (l : List ℤ). lay l after (snapshot (list_at script.lists.now.lists node) ran.store.values)) got.holds.lays
                ∙ ap₂ {C = List ℤ} (λ (ws : List ℕ) (vs : List ℤ). lay (lay out at got.value.words) after (snapshot ws vs))
                (if_variables h.known h.kinded) got.holds.stores;
          }))
