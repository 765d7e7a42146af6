-- Runs one after the other: the second goes on where the first ended, and their words stand one behind the other; so a sequence.
-- Assumes nothing.
use Rattle.std.specs.Prelude.{◌≡◌, ℕ, ◌+◌, ◌-◌, ◌*◌, ◌≤◌, ◌<◌, List, ◌++◌, length, ℤ, Result, Ok, Err}
use Rattle.std.proofs.Common.{sym, ap, ap₂, ◌∙◌, arith, length-append}
use Rattle.std.proofs.Math.Path.{subst}
use Rattle.std.proofs.Math.Option.{some}
use Rattle.numbers.specs.Lay.{lay, lay_append}
use Rattle.rules.specs.Outcome.{accepted, ◌>>=◌}
use Rattle.rules.specs.Outcome as Paper
use Rattle.rules.specs.Tree.{Statement}
use Rattle.rules.specs.Table.{Node, Kind, types_of, statement}
use Rattle.rules.specs.Run.{Done, run}
use Rattle.rules.proofs.Laws.Parts.{statement_of, node_at, part_at, child_at}
use Rattle.rules.proofs.Laws.Size.{weight, Small}
use Rattle.rules.proofs.Laws.Entry.{Fine}
use Rattle.rules.proofs.Laws.Inside.{inside}
use Rattle.table.specs.Agrees.{both, neither, Accepts, accepts, handed_up}
use Rattle.table.specs.Sorts.{node_of}
use Rattle.table.specs.declared.answer.Refusal.{Refusal}
use Rattle.table.specs.declared.node.Node.{Node as Read}
use Rattle.table.specs.declared.script.Script.{Script}
use Rattle.run.specs.declared.statement.Ran.{Ran}
use Rattle.run.specs.Code.{farthest}
use Rattle.run.specs.Statement.{EndedAs, RanAs, RunsTo, PartsTo, Known, Runnable, Enterable}
use Rattle.run.specs.Laws.Statements.{built, for_parts, still_fine, bounded}

-- ---- one run behind another

abbrev pub follow : Done → Done → Done
follow d f = record { store = f.store; steps = d.steps + f.steps; words = d.words ++ f.words }

pub followed : (d : Done) {m : Paper.Outcome Done} {r : Result Ran Refusal} (out one two : List ℤ) (left rest at behind : ℕ)
    → rest + d.steps ≡ left → behind ≡ at + length d.words → one ≡ lay out at d.words
    → RanAs m r one rest behind two → RanAs (m >>= λ f. accepted (follow d f)) r out left at two
followed d out one two left rest at behind steps place laid (neither h) = neither h
followed d out one two left rest at behind steps place laid (both {a = f} {b = r} h) =
    let leaves : r.left + (d.steps + f.steps) ≡ left = omega (arith, h.leaves) in
    let ends : r.at ≡ at + length (d.words ++ f.words) = omega (arith, h.ends, length-append d.words f.words) in
    both (record {
      stores = h.stores;
      leaves = leaves;
      ends = ends;
      lays = h.lays ∙ ap₂ {C = List ℤ} (λ (o : List ℤ) (i : ℕ). lay o i f.words) laid place ∙ sym (lay_append out at d.words f.words);
    })

-- ---- a statement below

abbrev pub child_known : {script : Script} {child : ℕ} {c : Statement} → part_at script.checked.table.now child ≡ some (statement c) → Small c → {store : List ℤ}
    → Fine (types_of script.checked.table.now) store → Known script child store
child_known {script} {child} {c} here small fine = record { tree = c; here = here; small = small; fine = fine }

-- ---- sequence

pub record AsSequence (bytes : List ℕ) (node : ℕ) (tree : Statement) : Type 0 where
  pub s : Statement
  pub t : Statement
  pub is : tree ≡ Statement.sequence node s t
  pub first : ((node_at bytes node).a < node) × (part_at bytes (node_at bytes node).a ≡ some (statement s))
  pub second : ((node_at bytes node).b < node) × (part_at bytes (node_at bytes node).b ≡ some (statement t))

module _ {script : Script} {node : ℕ} {values : List ℤ} {left at : ℕ} (h : Enterable script node values left at 18) where
  open h.inner.known use {tree, small, fine}

  abbrev bytes : List ℕ
  bytes = script.checked.table.now

  pub as_sequence : AsSequence bytes node tree
  as_sequence =
      let b = built h.inner.known Kind.sequence h.kinded in
      record {
        s = b.0;
        t = b.1;
        is = statement_of b.2;
        first = child_at bytes script.checked.accepted.0 script.checked.accepted.1 node (node_at bytes node).a (statement b.0) b.3;
        second = child_at bytes script.checked.accepted.0 script.checked.accepted.1 node (node_at bytes node).b (statement b.1) b.4;
      }

  pub both_small : Small as_sequence.s × Small as_sequence.t
  both_small = subst Small as_sequence.is small

  -- the first statement's end
  abbrev pub GotFirst : Ran → List ℤ → List ℤ → Type 0
  GotFirst r₁ out one = Accepts (EndedAs out left at one) (run as_sequence.s left values) r₁

  -- at the node that was read
  module _ (x : Read) (read : node_of x ≡ node_at bytes node) where
    first_is : x.a ≡ (node_at bytes node).a
    first_is = ap (λ (n : Node). n.a) read

    pub first_below : x.a < node
    first_below = subst (λ (i : ℕ). i < node) (sym first_is) as_sequence.first.0

    first_here : part_at bytes x.a ≡ some (statement as_sequence.s)
    first_here = ap (part_at bytes) first_is ∙ as_sequence.first.1

    pub first_runnable : Runnable script x.a values left at
    first_runnable =
        let near : at + weight * left ≤ farthest = omega (arith, h.inner.near) in
        record { known = child_known first_here both_small.0 fine; near = near }

    module _ {r : Result Ran Refusal} {out one : List ℤ} (p : RunsTo script x.a values left r out at one) where
      pub first_refused : {q : Refusal} → r ≡ Err q → (after : List ℤ) → PartsTo script node values left (Err q) out at after
      unfolding inside
      first_refused {q} e after = for_parts h.inner.known as_sequence.is left (Err q) out at after (handed_up _ (p as_sequence.s first_here) e)

      pub got_first : {r₁ : Ran} → r ≡ Ok r₁ → GotFirst r₁ out one
      got_first e = accepts (p as_sequence.s first_here) e

    -- the second one, likewise
    module _ {r₁ : Ran} {out one : List ℤ} (got : GotFirst r₁ out one) where
      first_known : Known script (node_at bytes node).a values
      first_known = child_known as_sequence.first.1 both_small.0 fine

      second_is : x.b ≡ (node_at bytes node).b
      second_is = ap (λ (n : Node). n.b) read

      pub second_below : x.b < node
      second_below = subst (λ (i : ℕ). i < node) (sym second_is) as_sequence.second.0

      second_here : part_at bytes x.b ≡ some (statement as_sequence.t)
      second_here = ap (part_at bytes) second_is ∙ as_sequence.second.1

      pub second_runnable : Runnable script x.b r₁.store.values r₁.left r₁.at
      unfolding first_known
      second_runnable =
          let near : r₁.at + weight * r₁.left ≤ farthest
          = omega (arith, h.inner.near, got.holds.ends, got.holds.leaves, bounded first_known left got.value got.comes) in
          record {
            known = child_known second_here both_small.1
                (subst (Fine (types_of bytes)) (sym got.holds.stores) (still_fine first_known left got.value got.comes));
            near = near;
          }

      pub sequence_answer : (r : Result Ran Refusal) (two : List ℤ) → RunsTo script x.b r₁.store.values r₁.left r one r₁.at two
          → PartsTo script node values left r out at two
      unfolding inside
      sequence_answer r two p =
          let d = got.value in
          let rest : r₁.left ≡ left - d.steps = omega (arith, got.holds.leaves) in
          let second : RanAs (run as_sequence.t (left - d.steps) d.store) r one r₁.left r₁.at two
          = subst (λ (m : Paper.Outcome Done). RanAs m r one r₁.left r₁.at two)
          (ap₂ {C = Paper.Outcome Done} (run as_sequence.t) rest got.holds.stores)
          (p as_sequence.t second_here) in
          for_parts h.inner.known as_sequence.is left r out at two
          (rw got.comes (followed d out one two left r₁.left at r₁.at got.holds.leaves got.holds.ends got.holds.lays second))
