-- The head of a repeat in code: behind its count and the snapshot before stands the count's record, and the answers put together are
-- the definition's count.
-- Assumes nothing.
use mathlib.Core.Path.{◌≡◌, refl, sym, ap, ap₂, ◌∙◌, subst, subst₂}
use Prim.Native.Nat.{ℕ, ◌+◌, ◌≤◌, ◌<◌}
use native.Mathlib.Omega.{arith}
use mathlib.Core.Bool.{Bool, true, false}
use mathlib.Core.Option.{some}
use mathlib.Core.List.{List}
use lib.ListN.{length}
use lib.IntN.{ℤ}
use Rattle.std.specs.Prelude.{Result, Err}
use Rattle.numbers.specs.Lay.{lay}
use Rattle.rules.specs.Outcome.{accepted, ◌>>=◌, broken}
use Rattle.rules.specs.Outcome as Paper
use Rattle.rules.specs.Value.{Ty, at, in_type}
use Rattle.rules.specs.Tree.{Statement, mentions}
use Rattle.rules.specs.Table.{Node as Bytes, types_of, expression}
use Rattle.rules.specs.Patch as Rules
use Rattle.rules.proofs.Laws.Parts.{node_at, part_at}
use Rattle.table.specs.Agrees.{neither}
use Rattle.table.specs.Paper.{refusal_for}
use Rattle.table.specs.Sorts.{node_of}
use Rattle.table.specs.declared.answer.Refusal.{Refusal}
use Rattle.table.specs.declared.node.Node.{Node as Read}
use Rattle.table.specs.declared.script.Script.{Script}
use Rattle.run.specs.Code.{Number}
use Rattle.run.specs.Laws.Numbers.{plain}
use Rattle.run.specs.Laws.Loops.{AsRepeat, as_repeat, repeat_small, repeat_variables}
use Rattle.pieces.specs.Old.{part}
use Rattle.pieces.specs.Expression.{operand_of, Shiftable, OperandTo}
use Rattle.patch.specs.Statement.{listed, Node, Enterable}
use Rattle.patch.specs.Head.{HeadTo}
use Rattle.patch.specs.Loop.{Count, count_of, CountAs, CountsTo}
use Rattle.pieces.specs.declared.entry.Reached.{Reached}
use Rattle.patch.proofs.Agreed.{agrees_map}
use Rattle.patch.proofs.Nodes.{for_tree, as_run}
use Rattle.patch.proofs.Heads.{HeadGot, head_broken, head_got, part_shiftable}
use Rattle.pieces.specs.Laws.Changes.{kept}

module _ {script : Script} {node : ℕ} {old : List ℤ} {end : ℕ} {s : Reached} (h : Enterable script node old end s 20) where
  abbrev k : Node script node
  k = h.known

  abbrev vs : List ℕ
  vs = listed script node

  abbrev types : List Ty
  types = types_of script.checked.table.now

  abbrev changes : List ℤ
  changes = s.changes.values

  abbrev its : AsRepeat script.checked.table.now node k.tree
  its = as_repeat (as_run k h.kinded)

  -- what is shown of the node's own repeat is shown of each
  abbrev OfRepeat : Result (ℤ × ℕ) Refusal → List ℤ → List ℤ → Statement → Type 0
  OfRepeat r out after (Statement.repeat n e b) = CountAs (mentions (Statement.repeat n e b))
      (count_of types (mentions (Statement.repeat n e b)) e changes (part old s.from end)) r out s.at after
  OfRepeat r out after (Statement.skip n) = Unit {0}
  OfRepeat r out after (Statement.assign n v e) = Unit {0}
  OfRepeat r out after (Statement.sequence n a b) = Unit {0}
  OfRepeat r out after (Statement.if n e a b) = Unit {0}

  each : {r : Result (ℤ × ℕ) Refusal} (out after : List ℤ) → CountAs vs (count_of types vs its.e changes (part old s.from end)) r out s.at after
      → CountsTo script node old end s r out after
  each {r} out after w n e b = for_tree k (OfRepeat r out after) (subst (OfRepeat r out after) (sym its.is) own) (Statement.repeat n e b)
    where
      own : OfRepeat r out after (Statement.repeat node its.e its.s)
      own = subst (λ (ws : List ℕ). CountAs ws (count_of types ws its.e changes (part old s.from end)) r out s.at after)
          (repeat_variables (as_run k h.kinded)) w

  module _ (out one : List ℤ) {fits : Bool} (p : HeadTo script node Ty.number old end s fits out one) where
    pub count_headless : fits ≡ false → (after : List ℤ) → CountsTo script node old end s (Err (refusal_for broken)) out after
    unfolding count_of
    count_headless wrong after = each out after (rw (head_broken h Ty.number out one p wrong) (neither refl))

    module _ (right : fits ≡ true) where
      g : HeadGot h Ty.number out one
      g = head_got h Ty.number out one p right

      pub count_below : s.from < length old
      count_below = omega (arith, g.reads.below.ordered, g.reads.below.ends)

      -- the count as the code reads it
      abbrev was : ℤ
      was = kept (at old s.from)

      was_is : was ≡ g.head.word
      was_is = ap (λ (z : ℤ). kept z) (sym g.reads.word) ∙ plain g.head.word g.reads.typed

      module _ {ws : List ℕ} (is : ws ≡ vs) (x : Read) (read : node_of x ≡ node_at script.checked.table.now node) where
        abbrev width : ℕ
        width = length ws

        wide : width ≡ length vs
        wide = ap length is

        count_here : part_at script.checked.table.now x.a ≡ some (expression Ty.number its.e)
        count_here = ap (λ (n : Bytes). part_at script.checked.table.now n.a) read ∙ its.counted.1

        pub count_asked : Shiftable script.checked x.a changes old (s.from + 1 + width) end (s.at + 1 + width) × Number was
        count_asked =
            let from : s.from + (1 + width) ≡ s.from + 1 + width = omega arith in
            let place : s.at + (1 + width) ≡ s.at + 1 + width = omega arith in
            let within : s.from + (1 + width) ≤ end = omega (arith, wide, g.reads.snap.within) in (
              subst₂ (λ (i j : ℕ). Shiftable script.checked x.a changes old i end j) from place
                  (part_shiftable h count_here (repeat_small (as_run k h.kinded)).0 (1 + width) within),
              ap (in_type Ty.number) was_is ∙ g.reads.typed,
            )

        abbrev counted : Rules.Shifted → Count
        counted y = record { head = g.head; count = y }

        count_is : count_of types vs its.e changes (part old s.from end)
            ≡ (operand_of its.e was changes (part old (s.from + 1 + width) end) >>= λ y. accepted (counted y))
        unfolding count_of
        count_is =
            let behind : g.head.snap.rest ≡ part old (s.from + 1 + width) end
            = g.reads.snap.rest ∙ ap (λ (n : ℕ). part old (s.from + 1 + n) end) (sym wide) in
            rw g.comes (ap₂ {C = Paper.Outcome Count} (λ (z : ℤ) (ws : List ℤ). operand_of its.e z changes ws >>= λ y. accepted (counted y)) (sym was_is) behind)

        pub count_answer : (r : Result (ℤ × ℕ) Refusal) (after : List ℤ)
            → OperandTo script.checked x.a was changes old (s.from + 1 + width) end r one (s.at + 1 + width) after → CountsTo script node old end s r out after
        count_answer r after w = each out after (subst (λ (o : Paper.Outcome Count). CountAs vs o r out s.at after) (sym count_is)
            (agrees_map counted (λ y e b f. record {
              count = f.change;
              long = f.long;
              lays = f.lays ∙ ap₂ {C = List ℤ} (λ (l : List ℤ) (n : ℕ). lay l (s.at + 1 + n) y.words) g.lays wide;
            }) (w Ty.number its.e count_here)))
