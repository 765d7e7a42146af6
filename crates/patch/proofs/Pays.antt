-- A walked entry: a step, the parts behind the three opening words, and then these words in front of the new parts.
-- Assumes nothing.
use mathlib.Core.Path.{◌≡◌, refl, sym, ap, ap₂, ◌∙◌, subst}
use Prim.Native.Nat.{ℕ, suc, ◌+◌, ◌-◌, ◌≤◌, ◌<◌}
use native.Mathlib.Omega.{arith}
use mathlib.Core.Bool.{false}
use mathlib.Core.List.{List}
use lib.ListN.{length, set}
use lib.IntN.{ℤ, pos}
use Rattle.std.specs.Prelude.{Result, Ok, Err}
use Rattle.numbers.specs.Lay.{lay}
use Rattle.rules.specs.Outcome.{accepted, refused, ◌>>=◌, fuel_spent}
use Rattle.rules.specs.Outcome as Paper
use Rattle.rules.specs.Value.{unchanged}
use Rattle.rules.specs.Tree.{node_of, mentions}
use Rattle.rules.specs.Table.{types_of}
use Rattle.rules.specs.Run.{entry}
use Rattle.rules.specs.Patch.{Entry, Visited, Walked, Walk, steps_of, one_walked, paid, walk}
use Rattle.table.specs.Agrees.{both, Accepts, accepts, agrees_err, handed_up}
use Rattle.table.specs.Paper.{refusal_for}
use Rattle.table.specs.declared.answer.Refusal.{Refusal}
use Rattle.table.specs.declared.answer.Changes.{Changes}
use Rattle.table.specs.declared.script.Script.{Script}
use Rattle.run.specs.Code.{farthest}
use Rattle.run.specs.Statement.{Opened}
use Rattle.run.specs.Laws.Statements.{low}
use Rattle.run.specs.Laws.Compound.{three_before}
use Rattle.pieces.specs.Old.{part, Inside}
use Rattle.pieces.specs.Laws.Old.{part_over}
use Rattle.pieces.specs.Entry.{Came, VisitAs, whole, WalkAs, Stepped}
use Rattle.patch.specs.Statement.{Node, Payable, PaysTo, Inner, WalksTo}
use Rattle.pieces.specs.declared.entry.Reached.{Reached}
use Rattle.patch.proofs.Agreed.{agrees_then}
use Rattle.patch.proofs.Walks.{sound_stepped}
use Rattle.patch.proofs.Nodes.{for_tree, node_is}

-- what an entry's walk makes of its parts
abbrev shut : ℕ → List ℤ → Walked → Visited
shut node behind w = record { changes = w.changes; counts = one_walked w.counts; words = entry node (steps_of (one_walked w.counts)) w.words; rest = behind }

paid_dry : (node : ℕ) (own : Walk) (e : Entry) (left : ℕ) (changes : List ℤ) → left ≡ 0 → paid node own e left changes ≡ refused fuel_spent
unfolding paid
paid_dry node own e left changes none = ap (λ (n : ℕ). paid node own e n changes) none

paid_step : (node : ℕ) (own : Walk) (e : Entry) (left rest : ℕ) (changes : List ℤ) → rest + 1 ≡ left
    → paid node own e left changes ≡ (own rest changes e.parts >>= λ w. accepted (shut node e.behind w))
unfolding paid
paid_step node own e left rest changes one =
    let more : left ≡ suc rest = omega arith in
    ap (λ (n : ℕ). paid node own e n changes) more

module _ {script : Script} {node : ℕ} {old : List ℤ} {stop : ℕ} {s : Reached} (h : Payable script node old stop s) where
  abbrev k : Node script node
  k = h.known

  abbrev own : Walk
  own = walk (types_of script.checked.table.now) k.tree

  -- with the limit used up it is 9
  pub pay_dry : s.left ≡ 0 → (out after : List ℤ) → PaysTo script node old stop s (Err (refusal_for fuel_spent)) out after
  pay_dry none out after t here end e beyond parts behind = agrees_err (paid_dry (node_of t) (walk (types_of script.checked.table.now) t) e s.left s.changes.values none) refl

  module _ {u : Reached} (step : Stepped s u) where
    pub pay_inner : Inner script node old stop u
    pay_inner = record {
      known = k;
      sound = sound_stepped h.sound step h.opens;
      changed = subst (λ (c : Changes). unchanged (mentions k.tree) c.values ≡ false) (sym step.changes) h.changed;
    }

    module _ {r : Result Reached Refusal} {out one : List ℤ} (w : WalksTo script node old stop u r out one) where
      abbrev inner : Paper.Outcome Walked
      inner = own u.left s.changes.values (part old (s.from + 3) stop)

      -- the parts, from the entry's own words
      inside : WalkAs inner u r old stop out one
      inside = subst (λ (c : Changes). WalkAs (own u.left c.values (part old (s.from + 3) stop)) u r old stop out one) step.changes
          (subst (λ (p : ℕ). WalkAs (own u.left u.changes.values (part old p stop)) u r old stop out one) step.from (w k.tree k.here))

      -- what is shown of the node's tree is shown of each
      each : (x : Result Reached Refusal) (after : List ℤ) → ((end : ℕ) (e : Entry) → Inside old stop end → e.behind ≡ part old stop end
          → VisitAs (inner >>= λ w. accepted (shut node e.behind w)) s x old end out after)
          → PaysTo script node old stop s x out after
      each x after f = for_tree k
          (λ t. (end : ℕ) (e : Entry) → Inside old stop end → e.parts ≡ part old (s.from + 3) stop → e.behind ≡ part old stop end
          → VisitAs (paid (node_of t) (walk (types_of script.checked.table.now) t) e s.left s.changes.values) s x old end out after)
          (λ end e beyond parts behind. subst (λ (m : Paper.Outcome Visited). VisitAs m s x old end out after)
          (sym (ap (λ (n : ℕ). paid n own e s.left s.changes.values) (node_is k)
          ∙ paid_step node own e s.left u.left s.changes.values step.left
          ∙ ap (λ (ws : List ℤ). own u.left s.changes.values ws >>= λ w. accepted (shut node e.behind w)) parts))
          (f end e beyond behind))

      pub pay_refused : {q : Refusal} → r ≡ Err q → (after : List ℤ) → PaysTo script node old stop s (Err q) out after
      pay_refused {q} stops after = each (Err q) after λ end e beyond behind. handed_up (λ w. accepted (shut node e.behind w)) inside stops

      module _ {x : Reached} (goes : r ≡ Ok x) where
        went : Accepts (λ w to. Came (whole w) u to old stop out one) inner x
        went = accepts inside goes

        abbrev came : Came (whole went.value) u x old stop out one
        came = went.holds

        pub pay_place : s.at + 3 ≤ x.at
        pay_place = omega (arith, came.ends, step.at)

        pub pay_left : x.left ≤ s.left
        pay_left = omega (arith, came.leaves, step.left)

        -- node, size and steps are words
        pub pay_openable : (s.at + 2 ≤ farthest) × ((node ≤ farthest) × ((x.at - s.at ≤ farthest) × (s.left - x.left ≤ farthest)))
        pay_openable =
            let end = h.sound.inside.ends in
            let few : node < 512 = low k in
            let place : s.at + 2 ≤ farthest = omega (arith, h.sound.place, end, h.opens) in
            let number : node ≤ farthest = omega arith in
            let size : x.at - s.at ≤ farthest = omega (arith, came.sound.place, came.sound.inside.ordered, came.sound.inside.ends) in
            let steps : s.left - x.left ≤ farthest = omega (arith, h.sound.few) in
            (place, (number, (size, steps)))

        over : x.from ≡ stop
        over = part_over old x.from stop came.sound.inside.ordered h.sound.inside.ends came.rest

        opened : (two : List ℤ) → Opened one s.at node (x.at - s.at) (s.left - x.left) two
            → two ≡ lay out s.at (entry node (steps_of (one_walked went.value.counts)) went.value.words)
        unfolding entry steps_of one_walked
        opened two o =
            let words = went.value.words in
            let c = went.value.counts in
            let size : x.at - s.at ≡ 3 + length words = omega (arith, came.ends, step.at) in
            let steps : s.left - x.left ≡ suc c.walked + c.reused + c.fresh = omega (arith, came.leaves, step.left) in
            o ∙ ap₂ {C = List ℤ} (λ (i j : ℕ). set (set (set one s.at (pos node)) (s.at + 1) (pos i)) (s.at + 2) (pos j)) size steps
            ∙ ap (λ (l : List ℤ). set (set (set l s.at (pos node)) (s.at + 1) (pos (3 + length words))) (s.at + 2) (pos (suc c.walked + c.reused + c.fresh)))
            (came.lays ∙ ap (λ (i : ℕ). lay out i words) step.at)
            ∙ three_before out words s.at (pos node) (pos (3 + length words)) (pos (suc c.walked + c.reused + c.fresh))

        closes : (two : List ℤ) → Opened one s.at node (x.at - s.at) (s.left - x.left) two → (end : ℕ) (e : Entry) → Inside old stop end
            → e.behind ≡ part old stop end
            → Came (shut node e.behind went.value) s x old end out two
        unfolding entry steps_of one_walked
        closes two o end e beyond behind =
            let c = went.value.counts in
            let leaves : x.left + (suc c.walked + c.reused + c.fresh) ≡ s.left = omega (arith, came.leaves, step.left) in
            let walks : x.walked ≡ s.walked + suc c.walked = omega (arith, came.walks, step.walked) in
            let onward : s.from ≤ x.from = omega (arith, came.onward, step.from) in
            let ends : x.at ≡ s.at + suc (suc (suc (length went.value.words))) = omega (arith, came.ends, step.at) in
            let ordered : x.from ≤ end = omega (arith, over, beyond.ordered) in
            record {
              sound = record {
                long = came.sound.long;
                near = came.sound.near;
                inside = record { ordered = ordered; ends = beyond.ends };
                place = came.sound.place;
                few = came.sound.few;
              };
              changes = came.changes;
              leaves = leaves;
              walks = walks;
              reuses = came.reuses ∙ ap (λ (n : ℕ). n + c.reused) step.reused;
              rest = behind ∙ ap (λ (p : ℕ). part old p end) (sym over);
              onward = onward;
              ends = ends;
              lays = opened two o;
            }

        pub pay_answer : (two : List ℤ) → Opened one s.at node (x.at - s.at) (s.left - x.left) two → PaysTo script node old stop s (Ok x) out two
        pay_answer two o = each (Ok x) two λ end e beyond behind. agrees_then (λ w. accepted (shut node e.behind w)) went.comes (both (closes two o end e beyond behind))
