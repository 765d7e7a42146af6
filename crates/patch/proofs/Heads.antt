-- The heads of ifs and repeats in code: the first word and the snapshot behind it are read, or are the refusal; what an expression behind
-- them asks; and the snapshot after an iteration.
-- Assumes nothing.
use mathlib.Core.Path.{◌≡◌, refl, sym, ap, ◌∙◌}
use Prim.Native.Nat.{ℕ, ◌+◌, ◌*◌, ◌≤◌, ◌<◌}
use native.Mathlib.Omega.{arith}
use mathlib.Core.Bool.{Bool, true, false}
use mathlib.Core.Option.{some}
use mathlib.Core.List.{List}
use lib.ListN.{length}
use lib.IntN.{ℤ}
use Rattle.std.specs.Prelude.{Ok, Err}
use Rattle.numbers.specs.Lay.{lay}
use Rattle.rules.specs.Outcome.{accepted, refused, ◌>>=◌, broken}
use Rattle.rules.specs.Outcome as Paper
use Rattle.rules.specs.Value.{Ty, in_type, at}
use Rattle.rules.specs.Tree.{Expression}
use Rattle.rules.specs.Table.{types_of, expression}
use Rattle.rules.specs.Patch.{read, read_in}
use Rattle.rules.proofs.Laws.Parts.{part_at}
use Rattle.rules.proofs.Laws.Size.{operations, few_operators}
use Rattle.table.specs.Agrees.{agrees_ok, agrees_err}
use Rattle.table.specs.Paper.{refusal_for}
use Rattle.table.specs.Lists.{list_at}
use Rattle.table.specs.declared.script.Script.{Script}
use Rattle.run.specs.Code.{farthest}
use Rattle.pieces.specs.Old.{part}
use Rattle.pieces.specs.Snapshot.{Patched, PatchedAs, patched}
use Rattle.pieces.specs.Expression.{Shiftable}
use Rattle.pieces.specs.Entry.{AdvancedBy}
use Rattle.pieces.specs.Laws.Old.{part_none, part_next}
use Rattle.pieces.specs.declared.entry.Reached.{Reached}
use Rattle.patch.specs.Statement.{listed, Node, Enterable}
use Rattle.patch.specs.Head.{Head, head_of, Headable, HeadAs, HeadTo}
use Rattle.patch.specs.Loop.{Snappable, SnapsTo}
use Rattle.patch.specs.Laws.Head.{HeadAt, head_at}
use Rattle.patch.proofs.Broken.{broken_with, right_with}
use Rattle.patch.proofs.Nodes.{named_of}

-- ---- the first word, and the snapshot behind it

head_by : (word : ℤ) (o : Paper.Outcome Patched) (r : Bool) (out : List ℤ) (place : ℕ) (after : List ℤ) → PatchedAs o r out (place + 1) after
    → HeadAs (o >>= λ p. accepted (record { word = word; snap = p })) r out place after
head_by word (accepted p) r out place after h = h
head_by word (refused q) r out place after h = h

module _ {script : Script} {node : ℕ} {old : List ℤ} {end : ℕ} {s : Reached} (h : Headable script node old end s) (t : Ty) (out after : List ℤ) where
  pub head_none : end ≤ s.from → HeadTo script node t old end s false out after
  unfolding head_of read_in read
  head_none past = rw (part_none old s.from end past) (refl, refl)

  module _ (below : s.from < end) {word : ℤ} (is : word ≡ at old s.from) where
    pub head_wrong : in_type t word ≡ false → HeadTo script node t old end s false out after
    unfolding head_of read_in read
    head_wrong wrong =
        let typed : in_type t (at old s.from) ≡ false = ap (in_type t) (sym is) ∙ wrong in
        rw (part_next old s.from end below h.inside.ends, typed) (refl, refl)

    pub head_snapped : in_type t word ≡ true → (r : Bool)
        → PatchedAs (patched (types_of script.checked.table.now) (listed script node) s.changes.values (part old (s.from + 1) end)) r out (s.at + 1) after
        → HeadTo script node t old end s r out after
    unfolding head_of read_in read
    head_snapped right r p =
        let typed : in_type t (at old s.from) ≡ true = ap (in_type t) (sym is) ∙ right in
        rw (part_next old s.from end below h.inside.ends, typed)
        (head_by (at old s.from) (patched (types_of script.checked.table.now) (listed script node) s.changes.values (part old (s.from + 1) end)) r out s.at after p)

-- ---- the head of a node that the walk has entered

module _ {script : Script} {node : ℕ} {old : List ℤ} {end : ℕ} {s : Reached} {kind : ℕ} (h : Enterable script node old end s kind) where
  abbrev k : Node script node
  k = h.known

  pub head_asked : Headable script node old end s
  head_asked =
      let place : s.at + 1 ≤ farthest = omega (arith, h.sound.place, h.sound.inside.ordered, h.sound.inside.ends) in
      record { named = named_of k; near = h.sound.near; inside = h.sound.inside; place = place }

  abbrev headed : Ty → Paper.Outcome Head
  headed t = head_of (types_of script.checked.table.now) t (listed script node) s.changes.values (part old s.from end)

  -- it was read, and its new snapshot is laid down
  pub record HeadGot (t : Ty) (out one : List ℤ) : Type 0 where
    pub head : Head
    pub comes : headed t ≡ accepted head
    pub reads : HeadAt script node (named_of k) old s.from end h.sound.inside.ends s.changes.values t head
    pub lays : one ≡ lay out (s.at + 1) head.snap.new

  module _ (t : Ty) (out one : List ℤ) {fits : Bool} (p : HeadTo script node t old end s fits out one) where
    pub head_broken : fits ≡ false → headed t ≡ refused broken
    head_broken = broken_with (λ d. one ≡ lay out (s.at + 1) d.snap.new) (headed t) p

    pub head_got : fits ≡ true → HeadGot t out one
    head_got right =
        let g = right_with (λ d. one ≡ lay out (s.at + 1) d.snap.new) (headed t) p right in
        record {
          head = g.value;
          comes = g.comes;
          reads = head_at script node (named_of k) old s.from end h.sound.inside.ends s.changes.values t g.value g.comes;
          lays = g.holds;
        }

  -- an expression that the node is made of may be shifted behind some words of the entry
  pub part_shiftable : {t : Ty} {e : Expression} {i : ℕ} → part_at script.checked.table.now i ≡ some (expression t e) → few_operators e → (n : ℕ) → s.from + n ≤ end
      → Shiftable script.checked i s.changes.values old (s.from + n) end (s.at + n)
  part_shiftable {t} {e} here few n within =
      let place : s.at + n + 2 * operations e ≤ farthest = omega (arith, h.sound.place, h.sound.inside.ends) in
      record {
        type = t;
        tree = e;
        here = here;
        near = h.sound.near;
        inside = record { ordered = within; ends = h.sound.inside.ends };
        place = place;
      }

-- ---- the snapshot after an iteration

module _ {bytes lists : List ℕ} {node : ℕ} {old : List ℤ} {end : ℕ} {s : Reached} (h : Snappable bytes lists node old end s) (out after : List ℤ) where
  abbrev snaps : Paper.Outcome Patched
  snaps = patched (types_of bytes) (list_at lists node) s.changes.values (part old s.from end)

  pub snapped_broken : {fits : Bool} → PatchedAs snaps fits out s.at after → fits ≡ false → SnapsTo bytes lists node old end s (Err (refusal_for broken)) out after
  snapped_broken p wrong = agrees_err {p = broken} (broken_with (λ q. after ≡ lay out s.at q.new) snaps p wrong) refl

  pub snapped_on : {fits : Bool} → PatchedAs snaps fits out s.at after → fits ≡ true → {r : Reached} → AdvancedBy (length (list_at lists node)) s r
      → SnapsTo bytes lists node old end s (Ok r) out after
  snapped_on p right step = let g = right_with (λ q. after ≡ lay out s.at q.new) snaps p right in agrees_ok g.comes (step, g.holds)
