-- An assign in code: the expression's change becomes the variable's where its record is all of the entry; and what else is refused.
-- Assumes nothing.
use mathlib.Core.Path.{◌≡◌, refl, sym, ap, ◌∙◌, subst, subst₂}
use Prim.Native.Nat.{ℕ, ◌+◌, ◌*◌, ◌≤◌, ◌<◌}
use native.Mathlib.Omega.{arith}
use mathlib.Core.Option.{some}
use mathlib.Core.List.{List, []}
use lib.ListN.{length, set, length-set}
use lib.IntN.{ℤ}
use Rattle.std.specs.Prelude.{Result, Ok, Err}
use Rattle.rules.specs.Outcome.{accepted, ◌>>=◌, broken}
use Rattle.rules.specs.Outcome as Paper
use Rattle.rules.specs.Value.{Ty, type_of}
use Rattle.rules.specs.Tree.{Statement}
use Rattle.rules.specs.Table.{Node as Bytes, types_of, expression}
use Rattle.rules.specs.Patch.{Shifted, Walked, no_steps, steps_of, finished, shift, walk}
use Rattle.rules.proofs.Laws.Parts.{node_at, part_at}
use Rattle.rules.proofs.Laws.Size.{weight, few_operators, Small}
use Rattle.table.specs.Agrees.{both, neither, handed_up}
use Rattle.table.specs.Paper.{refusal_for}
use Rattle.table.specs.Sorts.{node_of}
use Rattle.table.specs.declared.node.Node.{Node as Read}
use Rattle.table.specs.declared.answer.Refusal.{Refusal}
use Rattle.table.specs.declared.script.Script.{Script}
use Rattle.run.specs.Code.{farthest}
use Rattle.run.specs.Laws.Statements.{AsAssign, as_assign, assign_tag}
use Rattle.pieces.specs.Change.{Near, AllNear}
use Rattle.pieces.specs.Old.{part}
use Rattle.pieces.specs.Expression.{Shiftable, ShiftsTo}
use Rattle.pieces.specs.Entry.{Sound, Came, whole, WalkAs}
use Rattle.patch.specs.Statement.{Node, Enterable, WalksTo, AssignedAs}
use Rattle.pieces.specs.Laws.Old.{part_none, part_next}
use Rattle.pieces.specs.Laws.Moved.{set_each}
use Rattle.pieces.specs.Laws.Expression.{shift_sized}
use Rattle.pieces.specs.declared.entry.Reached.{Reached}
use Rattle.pieces.specs.Laws.Shifts.{Got, got, got_near}
use Rattle.patch.proofs.Agreed.{agrees_then}
use Rattle.patch.proofs.Nodes.{for_tree, as_run}
use Rattle.patch.proofs.Heads.{part_shiftable}
use Rattle.pieces.specs.Laws.Changes.{near_kept, kept}

-- ---- the walk behind an assign

-- it has come to the end, by as many words in both records
pub assigned_sound : {old : List ℤ} {end : ℕ} {s r : Reached} {v n : ℕ} {x : ℤ} → Sound old end s → AssignedAs s v x end n r → s.from + n ≡ end → Near x
    → Sound old end r
assigned_sound {old} {end} {s} {r} {v} {n} {x} h a all near =
    let ordered : r.from ≤ end = omega (arith, a.from) in
    let place : r.at + weight * r.left + length old + 60_000_000 ≤ farthest + r.from = omega (arith, h.place, a.left, a.from, a.at, all) in
    let few : r.walked + r.reused + r.left ≤ 1_000_000 = omega (arith, h.few, a.left, a.walked, a.reused) in
    record {
      long = ap length a.changes ∙ length-set s.changes.values v x ∙ h.long;
      near = subst AllNear (sym a.changes) (set_each (λ w z. Near z) s.changes.values h.near v x near);
      inside = record { ordered = ordered; ends = h.inside.ends };
      place = place;
      few = few;
    }

module _ {script : Script} {node : ℕ} {old : List ℤ} {end : ℕ} {s : Reached} (h : Enterable script node old end s 17) where
  abbrev k : Node script node
  k = h.known

  abbrev types : List Ty
  types = types_of script.checked.table.now

  abbrev changes : List ℤ
  changes = s.changes.values

  abbrev v : ℕ
  v = (node_at script.checked.table.now node).tag

  abbrev pub its : AsAssign script.checked.table.now node k.tree
  its = as_assign (as_run k h.kinded)

  abbrev pub shifts : Paper.Outcome Shifted
  shifts = shift its.e changes (part old s.from end)

  abbrev further : Shifted → Paper.Outcome Walked
  further x = finished x.rest >>= λ u. accepted (record { changes = set changes v x.change; counts = no_steps; words = x.words })

  -- what is shown of the node's own assign is shown of each
  each : {r : Result Reached Refusal} {out after : List ℤ} → WalkAs (shifts >>= further) s r old end out after → WalksTo script node old end s r out after
  unfolding walk
  each {r} {out} {after} w = for_tree k (λ t. WalkAs (walk types t s.left changes (part old s.from end)) s r old end out after)
      (subst (λ (t : Statement). WalkAs (walk types t s.left changes (part old s.from end)) s r old end out after) (sym its.is) w)

  module _ (x : Read) (read : node_of x ≡ node_at script.checked.table.now node) where
    pub variable_low : x.tag < 32
    variable_low = assign_tag (as_run k h.kinded) x read

    value_here : part_at script.checked.table.now x.a ≡ some (expression (type_of types v) its.e)
    value_here = ap (λ (n : Bytes). part_at script.checked.table.now n.a) read ∙ its.child.1

    pub value_asked : Shiftable script.checked x.a changes old s.from end s.at
    value_asked =
        let from : s.from + 0 ≡ s.from = omega arith in
        let place : s.at + 0 ≡ s.at = omega arith in
        let within : s.from + 0 ≤ end = omega (arith, h.sound.inside.ordered) in
        let few : few_operators its.e = subst Small its.is k.small in
        subst₂ (λ (i j : ℕ). Shiftable script.checked x.a changes old i end j) from place (part_shiftable h value_here few 0 within)

    module _ {a : Result (ℤ × ℕ) Refusal} {out one : List ℤ} (p : ShiftsTo script.checked x.a changes old s.from end a out s.at one) where
      pub assign_refused : {q : Refusal} → a ≡ Err q → {after : List ℤ} → WalksTo script node old end s (Err q) out after
      assign_refused e = each (handed_up further (p _ its.e value_here) e)

      module _ {z : ℤ} {n : ℕ} (e : a ≡ Ok (z, n)) where
        g : Got its.e shifts old s.from end z n out s.at one
        g = got its.e old s.from end h.sound.inside z n out s.at one shifts (shift_sized its.e changes (part old s.from end)) (p _ its.e value_here) e

        pub value_inside : s.from + n ≤ end
        value_inside = g.room

        -- words are left
        pub assign_broken : (s.from + n ≡ end → ⊥) → {after : List ℤ} → WalksTo script node old end s (Err (refusal_for broken)) out after
        unfolding finished
        assign_broken more =
            let below : s.from + n < end = omega (arith, g.room, more) in
            each (agrees_then further g.comes (rw (part_next old (s.from + n) end below h.sound.inside.ends) (neither refl)))

        abbrev ended : Walked
        ended = record { changes = set changes v z; counts = no_steps; words = g.words }

        pub assign_answer : s.from + n ≡ end → {r : Reached} → AssignedAs s x.tag (kept z) end n r → WalksTo script node old end s (Ok r) out one
        unfolding no_steps steps_of finished
        assign_answer all {r} assigned =
            let near : Near z = got_near changes h.sound.near g in
            let b : AssignedAs s x.tag z end n r = subst (λ (y : ℤ). AssignedAs s x.tag y end n r) (near_kept z near) assigned in
            let over : part old (s.from + n) end ≡ [] = part_none old (s.from + n) end (omega (arith, all)) in
            let leaves : r.left + (0 + 0 + 0) ≡ s.left = omega (arith, b.left) in
            let walks : r.walked ≡ s.walked + 0 = omega (arith, b.walked) in
            let reuses : r.reused ≡ s.reused + 0 = omega (arith, b.reused) in
            let onward : s.from ≤ r.from = omega (arith, b.from, all) in
            let ends : r.at ≡ s.at + length g.words = omega (arith, b.at, g.long) in
            let past : end ≤ r.from = omega (arith, b.from) in
            let came : Came (whole ended) s r old end out one
            = record {
              sound = assigned_sound h.sound b all near;
              changes = b.changes ∙ ap (λ (m : Bytes). set changes m.tag z) read;
              leaves = leaves;
              walks = walks;
              reuses = reuses;
              rest = sym (part_none old r.from end past);
              onward = onward;
              ends = ends;
              lays = g.lays;
            } in
            each (agrees_then further g.comes (rw over (both came)))
