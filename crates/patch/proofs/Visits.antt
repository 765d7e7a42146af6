-- A visit of an entry: it is met, and then skipped or paid for; the answer of the call that follows is the visit's.
-- Assumes nothing.
use mathlib.Core.Path.{◌≡◌, sym, ap, ap₂, ◌∙◌, subst}
use Prim.Native.Nat.{ℕ}
use native.Mathlib.Omega.{arith}
use mathlib.Core.Bool.{Bool, true, false}
use mathlib.Core.List.{List}
use lib.IntN.{ℤ}
use Rattle.std.specs.Prelude.{Result, Ok, Err}
use Rattle.rules.specs.Outcome.{◌>>=◌, choose}
use Rattle.rules.specs.Outcome as Paper
use Rattle.rules.specs.Value.{unchanged}
use Rattle.rules.specs.Table.{types_of}
use Rattle.rules.specs.Patch.{Entry, Visited, Walk, meet, skipped, paid, visit, walk}
use Rattle.table.specs.Agrees.{Agrees, Accepts, accepts, handed_up}
use Rattle.table.specs.declared.answer.Refusal.{Refusal}
use Rattle.table.specs.declared.script.Script.{Script}
use Rattle.pieces.specs.Old.{part, Inside}
use Rattle.pieces.specs.Entry.{MetAt, Sound, VisitAs, SkipsTo}
use Rattle.patch.specs.Statement.{listed, Node, Visitable, VisitsTo, Payable, PaysTo}
use Rattle.pieces.specs.declared.entry.Met.{Met}
use Rattle.pieces.specs.declared.entry.Reached.{Reached}
use Rattle.patch.proofs.Agreed.{agrees_then}
use Rattle.patch.proofs.Walks.{sound_before}
use Rattle.patch.proofs.Nodes.{for_tree, node_is, list_is}

module _ {script : Script} {node : ℕ} {old : List ℤ} {end : ℕ} {s : Reached} (last : Bool)
    (h : Visitable script node old end s) where
  abbrev k : Node script node
  k = h.known

  abbrev before : List ℤ
  before = part old s.from end

  abbrev own : Walk
  own = walk (types_of script.checked.table.now) k.tree

  -- the entry that is met is skipped where the test says so, else paid for
  abbrev goes_on : Bool → Entry → Paper.Outcome Visited
  goes_on b e = choose b skipped (paid node own) e s.left s.changes.values

  abbrev same : Bool
  same = unchanged (listed script node) s.changes.values

  -- what is shown of the node's entry is shown of each tree of the node
  each : (r : Result Reached Refusal) (out after : List ℤ) → VisitAs (meet node last before >>= goes_on same) s r old end out after
      → VisitsTo script node last old end s r out after
  unfolding visit
  each r out after w = for_tree k
      (λ t. VisitAs (visit t (walk (types_of script.checked.table.now) t) last s.left s.changes.values before) s r old end out after)
      (subst (λ (m : Paper.Outcome Visited). VisitAs m s r old end out after) (sym (ap₂ {C = Paper.Outcome Visited}
      (λ (n : ℕ) (vs : List ℕ). meet n last before >>= λ e. choose (unchanged vs s.changes.values) skipped (paid n own) e s.left s.changes.values)
      (node_is k) (sym (list_is k)))) w)

  module _ {met : Result Met Refusal} (m : Agrees (MetAt old s.from end) (meet node last before) met) where
    pub visit_broken : {q : Refusal} → met ≡ Err q → (out after : List ℤ) → VisitsTo script node last old end s (Err q) out after
    visit_broken {q} is out after = each (Err q) out after (handed_up (goes_on same) m is)

    module _ {x : Met} (is : met ≡ Ok x) where
      here : Accepts (MetAt old s.from end) (meet node last before) x
      here = accepts m is

      abbrev at : MetAt old s.from end here.value x
      at = here.holds

      visit_sound : Sound old x.stop s
      visit_sound = sound_before h.sound (omega (arith, at.opens)) at.inside

      beyond : Inside old x.stop end
      beyond = record { ordered = at.inside; ends = h.sound.inside.ends }

      module _ {test : Bool} (tested : test ≡ same) (r : Result Reached Refusal) (out after : List ℤ) where
        -- what is answered where the test of the skip rule comes out so
        by : (b : Bool) → test ≡ b → VisitAs (goes_on b here.value) s r old end out after → VisitsTo script node last old end s r out after
        by b e w = each r out after (agrees_then (goes_on same) here.comes
            (subst (λ (c : Bool). VisitAs (goes_on c here.value) s r old end out after) (sym e ∙ tested) w))

        pub visit_skipped : test ≡ true → SkipsTo old x.stop x.steps s r out after → VisitsTo script node last old end s r out after
        visit_skipped e w = by true e (w end here.value beyond (sym at.steps) at.words at.behind)

        pub visit_paid : test ≡ false → PaysTo script node old x.stop s r out after → VisitsTo script node last old end s r out after
        visit_paid e w = by false e
            (subst (λ (n : ℕ). VisitAs (paid n own here.value s.left s.changes.values) s r old end out after) (node_is k)
            (w k.tree k.here end here.value beyond at.parts at.behind))

      pub visit_payable : {test : Bool} → test ≡ same → test ≡ false → Payable script node old x.stop s
      visit_payable tested other = record {
        known = k;
        sound = visit_sound;
        opens = at.opens;
        changed = ap (λ (vs : List ℕ). unchanged vs s.changes.values) (sym (list_is k)) ∙ sym tested ∙ other;
      }
