-- The head of an if in code: behind its condition and the snapshot before stand the snapshot after and the condition's record, and the
-- answers put together are the definition's fork.
-- Assumes nothing.
use mathlib.Core.Path.{◌≡◌, refl, sym, ap, ap₂, ◌∙◌, subst, subst₂}
use Prim.Native.Nat.{ℕ, ◌+◌, ◌*◌, ◌≤◌}
use native.Mathlib.Omega.{arith}
use mathlib.Core.Bool.{Bool, true, false}
use mathlib.Core.Option.{some}
use mathlib.Core.List.{List}
use lib.ListN.{length}
use lib.IntN.{ℤ}
use Rattle.std.specs.Prelude.{Result, Err}
use Rattle.numbers.specs.Lay.{lay}
use Rattle.rules.specs.Outcome.{accepted, ◌>>=◌, broken}
use Rattle.rules.specs.Outcome as Paper
use Rattle.rules.specs.Value.{Ty}
use Rattle.rules.specs.Tree.{Statement, mentions}
use Rattle.rules.specs.Table.{Node as Bytes, types_of, expression}
use Rattle.rules.specs.Patch as Rules
use Rattle.rules.specs.Patch.{Snapshot, Fork, read_snapshot, shift}
use Rattle.rules.proofs.Laws.Parts.{node_at, part_at}
use Rattle.table.specs.Agrees.{neither}
use Rattle.table.specs.Paper.{refusal_for}
use Rattle.table.specs.Sorts.{node_of}
use Rattle.table.specs.declared.answer.Refusal.{Refusal}
use Rattle.table.specs.declared.node.Node.{Node as Read}
use Rattle.table.specs.declared.script.Script.{Script}
use Rattle.run.specs.Laws.Taken.{AsIf, as_if, if_small, if_variables}
use Rattle.pieces.specs.Old.{part, Inside}
use Rattle.pieces.specs.Snapshot.{Snapped}
use Rattle.pieces.specs.Unbroken.{Unbroken}
use Rattle.pieces.specs.Expression.{Shiftable, ShiftsTo}
use Rattle.patch.specs.Statement.{listed, Node, Enterable}
use Rattle.patch.specs.Head.{HeadTo}
use Rattle.patch.specs.Branch.{fork_of, ForkAs, ForksTo}
use Rattle.pieces.specs.Laws.Snapshot.{ReadAt, read_at}
use Rattle.pieces.specs.declared.entry.Reached.{Reached}
use Rattle.patch.proofs.Agreed.{agrees_map}
use Rattle.patch.proofs.Broken.{Right, broken_of, right_of}
use Rattle.patch.proofs.Nodes.{for_tree, named_of}
use Rattle.patch.proofs.Heads.{HeadGot, head_broken, head_got, part_shiftable}

module _ {script : Script} {node : ℕ} {old : List ℤ} {end : ℕ} {s : Reached} (h : Enterable script node old end s 19) where
  abbrev k : Node script node
  k = h.known

  abbrev vs : List ℕ
  vs = listed script node

  abbrev types : List Ty
  types = types_of script.checked.table.now

  abbrev changes : List ℤ
  changes = s.changes.values

  abbrev its : AsIf script.checked.table.now node k.tree
  its = as_if k h.kinded

  -- what is shown of the node's own if is shown of each
  abbrev OfIf : Result (ℤ × ℕ) Refusal → List ℤ → List ℤ → Statement → Type 0
  OfIf r out after (Statement.if n e a b) = ForkAs (fork_of types (mentions (Statement.if n e a b)) e s.left changes (part old s.from end)) r out
      s.at after
  OfIf r out after (Statement.skip n) = Unit {0}
  OfIf r out after (Statement.assign n v e) = Unit {0}
  OfIf r out after (Statement.sequence n a b) = Unit {0}
  OfIf r out after (Statement.repeat n e a) = Unit {0}

  each : {r : Result (ℤ × ℕ) Refusal} (out after : List ℤ) → ForkAs (fork_of types vs its.e s.left changes (part old s.from end)) r out s.at after
      → ForksTo script node old end s r out after
  each {r} out after w n e a b = for_tree k (OfIf r out after) (subst (OfIf r out after) (sym its.is) own) (Statement.if n e a b)
    where
      own : OfIf r out after (Statement.if node its.e its.s its.t)
      own = subst (λ (ws : List ℕ). ForkAs (fork_of types ws its.e s.left changes (part old s.from end)) r out s.at after)
          (if_variables k h.kinded) w

  module _ (out one : List ℤ) {fits : Bool} (p : HeadTo script node Ty.truth old end s fits out one) where
    pub fork_headless : fits ≡ false → (after : List ℤ) → ForksTo script node old end s (Err (refusal_for broken)) out after
    unfolding fork_of
    fork_headless wrong after = each out after (rw (head_broken h Ty.truth out one p wrong) (neither refl))

    module _ (right : fits ≡ true) {ws : List ℕ} (is : ws ≡ vs) where
      abbrev width : ℕ
      width = length ws

      wide : width ≡ length vs
      wide = ap length is

      g : HeadGot h Ty.truth out one
      g = head_got h Ty.truth out one p right

      -- ---- the snapshot after

      second_inside : Inside old (s.from + 1 + width) end
      second_inside =
          let ordered : s.from + 1 + width ≤ end = omega (arith, wide, g.reads.snap.within) in
          record { ordered = ordered; ends = h.sound.inside.ends }

      pub second_asked : Snapped script.checked.table.now script.lists.now.lists node old (s.from + 1 + width) end
      second_asked = record { named = named_of k; inside = second_inside }

      abbrev second : Paper.Outcome Snapshot
      second = read_snapshot types vs (part old (s.from + 1 + width) end)

      second_is : read_snapshot types vs g.head.snap.rest ≡ second
      second_is = ap (read_snapshot types vs) (g.reads.snap.rest ∙ ap (λ (n : ℕ). part old (s.from + 1 + n) end) (sym wide))

      module _ {fits' : Bool} (q : Unbroken second fits') where
        pub second_broken : fits' ≡ false → (after : List ℤ) → ForksTo script node old end s (Err (refusal_for broken)) out after
        unfolding fork_of
        second_broken wrong after = each out after (rw (g.comes, second_is ∙ broken_of second q wrong) (neither refl))

        -- ---- the condition's record

        module _ (fit : fits' ≡ true) (x : Read) (read : node_of x ≡ node_at script.checked.table.now node) where
          snap : Right (λ a. second ≡ accepted a) second
          snap = right_of second q fit

          stands : ReadAt script.checked.table.now script.lists.now.lists node (named_of k) old (s.from + 1 + width) end second_inside snap.value
          stands = read_at script.checked.table.now script.lists.now.lists node (named_of k) old (s.from + 1 + width) end second_inside snap.value snap.comes

          rest : snap.value.rest ≡ part old (s.from + 1 + 2 * width) end
          rest =
              let place : s.from + 1 + width + length vs ≡ s.from + 1 + 2 * width = omega (arith, wide) in
              stands.rest ∙ ap (λ (n : ℕ). part old n end) place

          test_here : part_at script.checked.table.now x.a ≡ some (expression Ty.truth its.e)
          test_here = ap (λ (n : Bytes). part_at script.checked.table.now n.a) read ∙ its.test.1

          pub test_asked : Shiftable script.checked x.a changes old (s.from + 1 + 2 * width) end (s.at + 1 + 2 * width)
          test_asked =
              let from : s.from + (1 + 2 * width) ≡ s.from + 1 + 2 * width = omega arith in
              let place : s.at + (1 + 2 * width) ≡ s.at + 1 + 2 * width = omega arith in
              let within : s.from + (1 + 2 * width) ≤ end = omega (arith, stands.within, wide) in
              subst₂ (λ (i j : ℕ). Shiftable script.checked x.a changes old i end j) from place
              (part_shiftable h test_here (if_small k h.kinded).0 (1 + 2 * width) within)

          abbrev forked : Rules.Shifted → Fork
          forked y = record {
            left = s.left;
            changes = changes;
            vs = vs;
            condition = g.head.word;
            before = g.head.snap.new;
            after = snap.value.values;
            test = y;
          }

          fork_is : fork_of types vs its.e s.left changes (part old s.from end)
              ≡ (shift its.e changes (part old (s.from + 1 + 2 * width) end) >>= λ y. accepted (forked y))
          unfolding fork_of
          fork_is = rw (g.comes, second_is ∙ snap.comes, rest) refl

          pub fork_answer : (r : Result (ℤ × ℕ) Refusal) (after : List ℤ)
              → ShiftsTo script.checked x.a changes old (s.from + 1 + 2 * width) end r one (s.at + 1 + 2 * width) after → ForksTo script node old end s r out after
          fork_answer r after w = each out after (subst (λ (o : Paper.Outcome Fork). ForkAs o r out s.at after) (sym fork_is)
              (agrees_map forked (λ y e b f. record {
                change = f.change;
                long = f.long;
                lays = f.lays ∙ ap₂ {C = List ℤ} (λ (l : List ℤ) (n : ℕ). lay l (s.at + 1 + 2 * n) y.words) g.lays wide;
              }) (w Ty.truth its.e test_here)))
