-- Iterations that stay: each visits the body and moves the snapshot behind it; after so many, what the loop comes to is what they came
-- to and then the iterations that are left.
-- Assumes nothing.
use mathlib.Core.Path.{◌≡◌, sym, ap, ap₂, ◌∙◌, subst}
use Prim.Native.Nat.{ℕ, ◌+◌, ◌-◌, ◌≤◌}
use native.Mathlib.Omega.{arith}
use mathlib.Core.Bool.{false}
use mathlib.Core.List.{List, ◌++◌}
use lib.ListN.{length, length-append}
use lib.IntN.{ℤ}
use Rattle.std.specs.Prelude.{Result, Ok, Err}
use Rattle.numbers.specs.Lay.{lay, lay_append}
use Rattle.rules.specs.Outcome.{accepted, ◌>>=◌}
use Rattle.rules.specs.Outcome as Paper
use Rattle.rules.specs.Value.{Ty}
use Rattle.rules.specs.Tree.{Statement}
use Rattle.rules.specs.Table.{types_of}
use Rattle.rules.specs.Patch.{Visited, Turn, steps_of, moved_all, visit, walk}
use Rattle.table.specs.Agrees.{Accepts, accepts, handed_up}
use Rattle.table.specs.declared.answer.Refusal.{Refusal}
use Rattle.table.specs.declared.answer.Changes.{Changes}
use Rattle.table.specs.declared.script.Script.{Script}
use Rattle.pieces.specs.Old.{part}
use Rattle.pieces.specs.Snapshot.{Named, Patched, patched}
use Rattle.pieces.specs.Laws.Snapshot.{PatchedAt, patched_at, olds_long, moved_long}
use Rattle.pieces.specs.Entry.{Sound, Came, VisitAs, AdvancedBy}
use Rattle.patch.specs.Statement.{listed, VisitsTo}
use Rattle.patch.specs.Loop.{Turned, turn_of, turn_at, LastAt, Turnable, TurnCame, TurnAs, SnapsTo, TurnTo}
use Rattle.pieces.specs.declared.entry.Reached.{Reached}
use Rattle.patch.proofs.Agreed.{agrees_map}
use Rattle.patch.proofs.Walks.{sound_advanced}
use Rattle.patch.proofs.Nodes.{for_tree, named_of}

module _ {script : Script} {node body : ℕ} {old : List ℤ} {end : ℕ} {s : Reached}
    (h : Turnable script node body old end s) where
  abbrev vs : List ℕ
  vs = listed script node

  abbrev types : List Ty
  types = types_of script.checked.table.now

  abbrev b : Statement
  b = h.bodied.tree

  abbrev body_of : ℕ → List ℤ → List ℤ → Paper.Outcome Visited
  body_of = visit b (walk types b) false

  abbrev named : Named script.checked.table.now script.lists.now.lists node
  named = named_of h.known

  -- ---- one iteration

  abbrev turned : Turn → Visited → Patched → Turned
  turned t v p = record {
    turn = record { left = t.left - steps_of v.counts; changes = v.changes; old = p.old; new = p.new; rest = p.rest };
    counts = v.counts;
    words = v.words ++ p.new;
  }

  module _ {u : Result Reached Refusal} {out one : List ℤ} (p : VisitsTo script body false old end s u out one) where
    abbrev first : Paper.Outcome Visited
    first = body_of s.left s.changes.values (part old s.from end)

    visit_came : VisitAs first s u old end out one
    visit_came = p b h.bodied.here

    -- what is shown of the body's tree is shown of each
    each : (r : Result Reached Refusal) (two : List ℤ)
        → ((was new : List ℤ) → TurnAs script node 1 0 (turn_of types body_of vs (turn_at s old end was new)) s r old end out two)
        → TurnTo script node body old end s r out two
    each r two w = for_tree h.bodied (λ t. (was new : List ℤ) → TurnAs script node 1 0 (turn_of types (visit t (walk types t) false) vs (turn_at s old end was new)) s r old end out two) w

    pub turn_refused : {q : Refusal} → u ≡ Err q → (two : List ℤ) → TurnTo script node body old end s (Err q) out two
    unfolding turn_of
    turn_refused {q} stops two = each (Err q) two λ was new.
        handed_up (λ v. patched types vs v.changes v.rest >>= λ q. accepted (turned (turn_at s old end was new) v q)) visit_came stops

    module _ {x : Reached} (goes : u ≡ Ok x) where
      went : Accepts (λ v to. Came v s to old end out one) first x
      went = accepts visit_came goes

      abbrev v : Visited
      v = went.value

      abbrev came : Came v s x old end out one
      came = went.holds

      pub turn_sound : Sound old end x
      turn_sound = came.sound

      abbrev snaps : Paper.Outcome Patched
      snaps = patched types vs x.changes.values (part old x.from end)

      turn_is : (was new : List ℤ) → turn_of types body_of vs (turn_at s old end was new) ≡ (snaps >>= λ q. accepted (turned (turn_at s old end was new) v q))
      unfolding turn_of
      turn_is was new =
          ap (λ (m : Paper.Outcome Visited). m >>= λ w. patched types vs w.changes w.rest >>= λ q. accepted (turned (turn_at s old end was new) w q))
          went.comes
          ∙ ap₂ {C = Paper.Outcome Turned} (λ (cs ws : List ℤ). patched types vs cs ws >>= λ q. accepted (turned (turn_at s old end was new) v q))
          (sym came.changes) came.rest

      closes : (r : Reached) (two : List ℤ) (q : Patched) → snaps ≡ accepted q → AdvancedBy (length vs) x r → two ≡ lay one x.at q.new
          → (was new : List ℤ)
          → TurnCame script node (r.from - length vs) (turned (turn_at s old end was new) v q) s r old end out two
      closes r two q is step laid was new =
          let w = length vs in
          let a : PatchedAt script.checked.table.now script.lists.now.lists node named old x.from end came.sound.inside x.changes.values q
          = patched_at script.checked.table.now script.lists.now.lists node named old x.from end came.sound.inside x.changes.values q is in
          let width : length q.new ≡ w
          = moved_long types vs q.old x.changes.values q.new (ap length a.was ∙ olds_long script.checked.table.now script.lists.now.lists node old x.from a.standing)
          a.moved in
          let place : x.from + w ≡ r.from = sym step.from in
          let here : x.from ≡ r.from - w = omega (arith, step.from) in
          let leaves : r.left + steps_of v.counts ≡ s.left = omega (arith, came.leaves, step.left) in
          let left : s.left - steps_of v.counts ≡ r.left = omega (arith, came.leaves, step.left) in
          let walks : r.walked ≡ s.walked + v.counts.walked = omega (arith, came.walks, step.walked) in
          let reuses : r.reused ≡ s.reused + v.counts.reused = omega (arith, came.reuses, step.reused) in
          let onward : s.from ≤ r.from = omega (arith, came.onward, step.from) in
          let ends : r.at ≡ s.at + length (v.words ++ q.new) = omega (arith, came.ends, step.at, width, length-append v.words q.new) in
          record {
            came = record {
              sound = sound_advanced came.sound step a.within;
              changes = ap (λ (c : Changes). c.values) step.changes ∙ came.changes;
              leaves = leaves;
              walks = walks;
              reuses = reuses;
              rest = a.rest ∙ ap (λ (p : ℕ). part old p end) place;
              onward = onward;
              ends = ends;
              lays = laid ∙ ap₂ {C = List ℤ} (λ (l : List ℤ) (i : ℕ). lay l i q.new) came.lays came.ends
                  ∙ sym (lay_append out s.at v.words q.new);
            };
            left = left;
            lastly = subst (λ (i : ℕ). LastAt script node old i (turned (turn_at s old end was new) v q).turn) here (record {
              standing = a.standing;
              was = a.was;
              moved = ap (moved_all types vs q.old) (sym came.changes) ∙ a.moved;
            });
          }

      pub turn_answer : (r : Result Reached Refusal) (two : List ℤ) → SnapsTo script.checked.table.now script.lists.now.lists node old end x r one two → TurnTo script node body old end s r out two
      turn_answer r two g = each r two λ was new. subst (λ (m : Paper.Outcome Turned). TurnAs script node 1 0 m s r old end out two)
          (sym (turn_is was new)) (agrees_map (turned (turn_at s old end was new) v) (λ q is y k. closes y two q is k.0 k.1 was new) g)
