-- What the contracts of statements say, by the definitions of the rules: `run` for a statement, `inside` for its parts behind the
-- step on entry, `iterate` for iterations.
-- Assumes nothing.
use Rattle.std.specs.Prelude.{◌≡◌, List, ℕ, ◌+◌, ◌*◌, ◌≤◌, length, set, ℤ, pos, Result}
use Rattle.std.proofs.Math.Option.{some}
use Rattle.numbers.specs.Lay.{lay}
use Rattle.rules.specs.Outcome.{choose}
use Rattle.rules.specs.Value.{snapshot}
use Rattle.rules.specs.Outcome as Paper
use Rattle.rules.specs.Tree.{Expression, Statement, if, mentions}
use Rattle.rules.specs.Table.{types_of, statement}
use Rattle.rules.specs.Run.{Done, holds, iterate, run}
use Rattle.rules.proofs.Laws.Mentions.{◌⊆◌}
use Rattle.rules.proofs.Laws.Entry.{Fine}
use Rattle.rules.proofs.Laws.Inside.{inside}
use Rattle.rules.proofs.Laws.Parts.{node_at, part_at}
use Rattle.rules.proofs.Laws.Size.{weight, Small}
use Rattle.table.specs.Agrees.{Agrees}
use Rattle.table.specs.declared.answer.Refusal.{Refusal}
use Rattle.table.specs.declared.script.Script.{Script}
use Rattle.run.specs.Code.{farthest}
use Rattle.run.specs.declared.statement.Ran.{Ran}

-- ---- answers

-- the code has come to this end: `left` were the steps left before, and the words are laid down from `at` on
pub record EndedAs (out : List ℤ) (left at : ℕ) (after : List ℤ) (d : Done) (r : Ran) : Type 0 where
  pub stores : r.store.values ≡ d.store
  pub leaves : r.left + d.steps ≡ left
  pub ends : r.at ≡ at + length d.words
  pub lays : after ≡ lay out at d.words

abbrev pub RanAs : Paper.Outcome Done → Result Ran Refusal → List ℤ → ℕ → ℕ → List ℤ → Type 0
RanAs m r out left at after = Agrees (EndedAs out left at after) m r

-- the run of the node's statement, and its parts
abbrev pub RunsTo : Script → ℕ → List ℤ → ℕ → Result Ran Refusal → List ℤ → ℕ → List ℤ → Type 0
RunsTo s node values left r out at after = (t : Statement) → part_at s.checked.table.now node ≡ some (statement t) → RanAs (run t left values) r out left at after

abbrev pub PartsTo : Script → ℕ → List ℤ → ℕ → Result Ran Refusal → List ℤ → ℕ → List ℤ → Type 0
PartsTo s node values left r out at after = (t : Statement) → part_at s.checked.table.now node ≡ some (statement t) → RanAs (inside t values left) r out left at after

-- so many iterations of the body, with the snapshots of the node
abbrev pub RepeatsTo : Script → ℕ → ℕ → ℕ → List ℤ → ℕ → Result Ran Refusal → List ℤ → ℕ → List ℤ → Type 0
RepeatsTo s node body count values left r out at after =
    (t b : Statement) → part_at s.checked.table.now node ≡ some (statement t) → part_at s.checked.table.now body ≡ some (statement b)
    → RanAs (iterate (run b) (mentions t) count left values) r out left at after

-- the three opening words of an entry
abbrev pub Opened : List ℤ → ℕ → ℕ → ℕ → ℕ → List ℤ → Type 0
Opened out at node size steps after = after ≡ set (set (set out at (pos node)) (at + 1) (pos size)) (at + 2) (pos steps)

-- ---- what is asked

-- the node is a statement of the script, and the store is fine
pub record Known (s : Script) (node : ℕ) (values : List ℤ) : Type 0 where
  pub tree : Statement
  pub here : part_at s.checked.table.now node ≡ some (statement tree)
  pub small : Small tree
  pub fine : Fine (types_of s.checked.table.now) values

-- and all that it may lay down ends before the farthest place
pub record Runnable (s : Script) (node : ℕ) (values : List ℤ) (left at : ℕ) : Type 0 where
  pub known : Known s node values
  pub near : at + weight * left ≤ farthest

-- the same behind the step on entry: there is room for all words of the parts of one statement
pub record Inner (s : Script) (node : ℕ) (values : List ℤ) (left at : ℕ) : Type 0 where
  pub known : Known s node values
  pub near : at + weight * left + 60_000_000 ≤ farthest

-- and the node is of this kind
pub record Enterable (s : Script) (node : ℕ) (values : List ℤ) (left at kind : ℕ) : Type 0 where
  pub inner : Inner s node values left at
  pub kinded : (node_at s.checked.table.now node).kind ≡ kind

-- the same of an if whose branch is laid down at `at` and its snapshot after at `after`
pub record Takeable (s : Script) (node : ℕ) (values : List ℤ) (left after at : ℕ) : Type 0 where
  pub known : Known s node values
  pub kinded : (node_at s.checked.table.now node).kind ≡ 19
  pub near : at + weight * left ≤ farthest
  pub place : after + length (mentions known.tree) ≤ at

-- the branch taken, and the snapshot after it
pub record TakenAs (vs : List ℕ) (out : List ℤ) (left after at : ℕ) (final : List ℤ) (d : Done) (r : Ran) : Type 0 where
  pub stores : r.store.values ≡ d.store
  pub leaves : r.left + d.steps ≡ left
  pub ends : r.at ≡ at + length d.words
  pub lays : final ≡ lay (lay out at d.words) after (snapshot vs d.store)

abbrev pub TookAs : List ℕ → Paper.Outcome Done → Result Ran Refusal → List ℤ → ℕ → ℕ → ℕ → List ℤ → Type 0
TookAs vs m r out left after at final = Agrees (TakenAs vs out left after at final) m r

abbrev pub TakesTo : Script → ℕ → ℤ → List ℤ → ℕ → Result Ran Refusal → List ℤ → ℕ → ℕ → List ℤ → Type 0
TakesTo s node z values left r out after at final = (n : ℕ) (e : Expression) (a b : Statement) → part_at s.checked.table.now node ≡ some (statement (if n e a b))
    → TookAs (mentions (if n e a b)) (choose (holds z) (run a) (run b) left values) r out left after at final

-- iterations: the node is a repeat's, the body is below it
pub record Repeatable (s : Script) (node body : ℕ) (values : List ℤ) (left at : ℕ) : Type 0 where
  pub known : Known s node values
  pub bodied : Known s body values
  pub within : mentions bodied.tree ⊆ mentions known.tree
  pub near : at + weight * left ≤ farthest
