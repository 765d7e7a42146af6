-- A repeat whose head was counted: where its words stand in the old record, and its body.
-- Assumes nothing.
use mathlib.Core.Path.{◌≡◌, sym, ap, ◌∙◌}
use Prim.Native.Nat.{ℕ, ◌+◌, ◌≤◌, ◌<◌}
use native.Mathlib.Omega.{arith}
use mathlib.Core.Option.{Option, some}
use mathlib.Core.List.{List}
use lib.ListN.{length}
use lib.IntN.{ℤ}
use Rattle.rules.specs.Outcome.{accepted}
use Rattle.rules.specs.Value.{Ty}
use Rattle.rules.specs.Tree.{Expression, Statement, mentions}
use Rattle.rules.specs.Table.{types_of, Part, statement}
use Rattle.rules.proofs.Laws.Parts.{node_at, part_at}
use Rattle.table.specs.declared.script.Script.{Script}
use Rattle.run.specs.Laws.Loops.{AsRepeat, as_repeat}
use Rattle.pieces.specs.Old.{part}
use Rattle.pieces.specs.Laws.Snapshot.{olds_long, moved_long}
use Rattle.patch.specs.Laws.Head.{CountAt, count_at}
use Rattle.pieces.specs.Entry.{Sound}
use Rattle.patch.specs.Statement.{listed, Node}
use Rattle.patch.specs.Loop.{Counted, Count, count_of}
use Rattle.pieces.specs.declared.entry.Reached.{Reached}
use Rattle.patch.proofs.Nodes.{list_is, named_of, as_run, same_tree}

module _ {script : Script} {node : ℕ} {new : ℤ} {size : ℕ} {old : List ℤ} {end : ℕ} {s : Reached}
    (h : Counted script node new size old end s) where
  abbrev k : Node script node
  k = h.entered.known

  abbrev sound : Sound old end s
  sound = h.entered.sound

  abbrev vs : List ℕ
  vs = listed script node

  abbrev types : List Ty
  types = types_of script.checked.table.now

  abbrev c : Count
  c = h.count

  pub tree_is : k.tree ≡ Statement.repeat node h.e h.b
  tree_is = same_tree k.here h.here

  pub vs_are : vs ≡ mentions (Statement.repeat node h.e h.b)
  vs_are = list_is k ∙ ap mentions tree_is

  counts : count_of types vs h.e s.changes.values (part old s.from end) ≡ accepted c
  counts = ap (λ (ws : List ℕ). count_of types ws h.e s.changes.values (part old s.from end)) vs_are ∙ h.counts

  pub counted_at : CountAt script node (named_of k) old s.from end sound.inside.ends s.changes.values h.e c
  counted_at = count_at script node (named_of k) old s.from end sound.inside.ends s.changes.values h.e c counts

  pub count_inside : s.from + (1 + length vs + size) ≤ end
  count_inside = omega (arith, counted_at.count.within, h.size)

  pub width : length c.head.snap.new ≡ length vs
  width = moved_long types vs c.head.snap.old s.changes.values c.head.snap.new
      (ap length counted_at.was ∙ olds_long script.checked.table.now script.lists.now.lists node old (s.from + 1) counted_at.first) counted_at.moved

  -- ---- the body

  its : AsRepeat script.checked.table.now node k.tree
  its = as_repeat (as_run k h.entered.kinded)

  body_is : its.s ≡ h.b
  body_is = of (sym its.is ∙ tree_is)
    where
      of : {n m : ℕ} {e f : Expression} {a b : Statement} → Statement.repeat n e a ≡ Statement.repeat m f b → a ≡ b
      of p = cc

  pub body_below : {i : ℕ} → i ≡ (node_at script.checked.table.now node).b → i < node
  body_below e = omega (arith, its.bodied.0)

  pub body_here : {i : ℕ} → i ≡ (node_at script.checked.table.now node).b → part_at script.checked.table.now i ≡ some (statement h.b)
  body_here e = ap (part_at script.checked.table.now) e ∙ its.bodied.1 ∙ ap {B = Option Part} (λ (t : Statement). some (statement t)) body_is
