-- An if: the answer of its head becomes a refusal of the whole, or the branch goes on, kept or flipped.
-- Assumes nothing.
use mathlib.Core.Path.{◌≡◌, sym, ap, ◌∙◌, subst}
use Prim.Native.Nat.{ℕ}
use mathlib.Core.Bool.{Bool, true, false}
use mathlib.Core.Option.{some}
use mathlib.Core.List.{List}
use mathlib.Core.Logic.{⊎_elim}
use lib.IntN.{ℤ, pos}
use Rattle.std.specs.Prelude.{Result, Ok, Err}
use Rattle.numbers.specs.Signed.{eq_z}
use Rattle.numbers.specs.Laws.{eq_z_true, eq_z_refl, decide}
use Rattle.rules.specs.Outcome.{◌>>=◌, choose}
use Rattle.rules.specs.Outcome as Paper
use Rattle.rules.specs.Value.{Ty}
use Rattle.rules.specs.Tree.{Statement, mentions}
use Rattle.rules.specs.Table.{types_of, statement}
use Rattle.rules.specs.Run.{holds, run}
use Rattle.rules.specs.Patch.{Walked, Fork, kept, flipped, visit, walk}
use Rattle.rules.proofs.Laws.Parts.{part_at}
use Rattle.table.specs.Agrees.{Accepts, accepts, handed_up}
use Rattle.table.specs.declared.answer.Refusal.{Refusal}
use Rattle.table.specs.declared.script.Script.{Script}
use Rattle.run.specs.Laws.Taken.{AsIf, as_if}
use Rattle.pieces.specs.Old.{part}
use Rattle.patch.specs.Laws.Turns.{branch_of, walk_if}
use Rattle.pieces.specs.Entry.{WalkAs}
use Rattle.patch.specs.Statement.{Enterable, WalksTo}
use Rattle.patch.specs.Branch.{fork_of, ForkedAs, ForkAs, ForksTo, Forked, KeepsTo, FlipsTo}
use Rattle.pieces.specs.declared.entry.Reached.{Reached}
use Rattle.patch.proofs.Agreed.{agrees_then}
use Rattle.patch.proofs.Nodes.{for_tree}
use Rattle.pieces.specs.Change.{Near}
use Rattle.patch.proofs.Branches.{forked_at}

module _ {script : Script} {node : ℕ} {old : List ℤ} {end : ℕ} {s : Reached} (h : Enterable script node old end s 19) where
  abbrev types : List Ty
  types = types_of script.checked.table.now

  abbrev its : AsIf script.checked.table.now node h.known.tree
  its = as_if h.known h.kinded

  abbrev own : Statement
  own = Statement.if node its.e its.s its.t

  own_here : part_at script.checked.table.now node ≡ some (statement own)
  own_here = h.known.here ∙ ap (λ (t : Statement). some (statement t)) its.is

  abbrev forks : Paper.Outcome Fork
  forks = fork_of types (mentions own) its.e s.left s.changes.values (part old s.from end)

  -- what is shown of the node's own if is shown of each tree of the node
  each_if : (r : Result Reached Refusal) (out after : List ℤ) → WalkAs (forks >>= branch_of types its.s its.t) s r old end out after
      → WalksTo script node old end s r out after
  each_if r out after w = for_tree h.known (λ t. WalkAs (walk types t s.left s.changes.values (part old s.from end)) s r old end out after)
      (subst (λ (t : Statement). WalkAs (walk types t s.left s.changes.values (part old s.from end)) s r old end out after) (sym its.is)
      (subst (λ (m : Paper.Outcome Walked). WalkAs m s r old end out after) (sym (walk_if types node its.e its.s its.t s.left s.changes.values (part old s.from end))) w))

  module _ {a : Result (ℤ × ℕ) Refusal} {out one : List ℤ} (f : ForksTo script node old end s a out one) where
    answered : ForkAs forks a out s.at one
    answered = f node its.e its.s its.t own_here

    -- a refusal in the head is the refusal of the whole
    pub branch_refused : {q : Refusal} → a ≡ Err q → (after : List ℤ) → WalksTo script node old end s (Err q) out after
    branch_refused {q} e after = each_if (Err q) out after (handed_up (branch_of types its.s its.t) answered e)

    module _ {p : ℤ × ℕ} (is : a ≡ Ok p) where
      told : Accepts (ForkedAs out s.at one) forks p
      told = accepts answered is

      pub branch_forked : Forked script node p.1 old end s
      branch_forked = record {
        entered = h;
        e = its.e;
        a = its.s;
        b = its.t;
        here = own_here;
        fork = told.value;
        forks = told.comes;
        size = told.holds.long;
      }

      -- the change may be passed as a word that says the same
      pub branch_near : {z : ℤ} → z ≡ p.0 → Near z
      unfolding branch_forked
      branch_near e = subst Near (sym (e ∙ told.holds.change)) ((forked_at branch_forked).near h.sound.near)

      by : (b : Bool) → eq_z told.value.test.change (pos 0) ≡ b → (r : Result Reached Refusal) (after : List ℤ)
          → WalkAs (choose b (kept types (choose (holds told.value.condition) (visit its.s (walk types its.s)) (visit its.t (walk types its.t))))
          (flipped types (choose (holds told.value.condition) (run its.t) (run its.s))) told.value) s r old end out after
          → WalksTo script node old end s r out after
      by b e r after w = each_if r out after (agrees_then (branch_of types its.s its.t) told.comes (subst (λ (c : Bool).
          WalkAs (choose c (kept types (choose (holds told.value.condition) (visit its.s (walk types its.s)) (visit its.t (walk types its.t))))
          (flipped types (choose (holds told.value.condition) (run its.t) (run its.s))) told.value) s r old end out after) (sym e) w))

      pub branch_kept : p.0 ≡ pos 0 → (r : Result Reached Refusal) (after : List ℤ) → KeepsTo script node old end s r one after
          → WalksTo script node old end s r out after
      branch_kept none r after g = by true (ap (λ (z : ℤ). eq_z z (pos 0)) (sym told.holds.change ∙ none) ∙ eq_z_refl (pos 0)) r after
          (g node its.e its.s its.t own_here told.value told.comes out told.holds.lays)

      pub branch_flipped : (p.0 ≡ pos 0 → ⊥) → {z : ℤ} → z ≡ p.0 → (r : Result Reached Refusal) (after : List ℤ)
          → FlipsTo script node z old end s r one after → WalksTo script node old end s r out after
      branch_flipped other_than e r after g = by false (other told.value.test.change (λ n. other_than (told.holds.change ∙ n))) r after
          (g node its.e its.s its.t own_here told.value told.comes (e ∙ told.holds.change) out told.holds.lays)
        where
          other : (z : ℤ) → (z ≡ pos 0 → ⊥) → eq_z z (pos 0) ≡ false
          other z n = ⊎_elim (λ e. absurd (n (eq_z_true z (pos 0) e))) (λ e. e) (decide (eq_z z (pos 0)))
