-- A sequence: the first entry is visited, and the second, which is the last part, goes on where the first ended.
-- Assumes nothing.
use mathlib.Core.Path.{◌≡◌, refl, sym, ap, ap₂, ◌∙◌, subst}
use Prim.Native.Nat.{ℕ, zero, suc, ◌-◌, ◌<◌}
use native.Mathlib.Omega.{arith}
use mathlib.Core.Option.{some}
use mathlib.Core.Bool.{Bool, true, false, false≢true}
use mathlib.Core.List.{List, [], ◌∷◌, ◌++◌}
use lib.Dec.{leb}
use lib.IntN.{ℤ, pos, nat_abs}
use lib.Signed.{le_z}
use Rattle.std.specs.Prelude.{Result, Ok, Err}
use Rattle.numbers.specs.Signed.{eq_z, between}
use Rattle.rules.specs.Outcome.{accepted, ◌>>=◌, choose, broken, fuel_spent}
use Rattle.rules.specs.Outcome as Paper
use Rattle.rules.specs.Value.{Ty, unchanged}
use Rattle.rules.specs.Tree.{Statement, node_of, mentions}
use Rattle.rules.specs.Table.{Node as Bytes, types_of, statement}
use Rattle.rules.specs.Run.{opening, most_steps}
use Rattle.rules.specs.Patch.{Entry, Visited, Walked, Walk, both, steps_of, cut, ends, meet, skipped, paid, visit, walk}
use Rattle.rules.proofs.Laws.Outcome.{Holds, value, vacant, holds_bind, holds_need, holds_any, holds_map, holds_at}
use Rattle.rules.proofs.Laws.Parts.{node_at, part_at}
use Rattle.rules.proofs.Laws.Size.{Small}
use Rattle.table.specs.Agrees.{Accepts, accepts, handed_up}
use Rattle.table.specs.declared.answer.Refusal.{Refusal}
use Rattle.table.specs.declared.script.Script.{Script}
use Rattle.run.specs.Laws.Sequences.{AsSequence, as_sequence, both_small}
use Rattle.pieces.specs.Old.{part}
use Rattle.pieces.specs.Entry.{Came, VisitAs, whole, WalkAs}
use Rattle.patch.specs.Statement.{Visitable, VisitsTo, Enterable, WalksTo}
use Rattle.pieces.specs.declared.entry.Reached.{Reached}
use Rattle.patch.proofs.Agreed.{agrees_map, agrees_then}
use Rattle.patch.proofs.Walks.{came_then}
use Rattle.patch.proofs.Nodes.{for_tree, as_run, child}

-- ---- a last part leaves nothing behind

nothing_behind : (ws : List ℤ) → ends true ws ≡ true → ws ≡ []
unfolding ends
nothing_behind [] e = refl
nothing_behind (w ∷ ws) e = absurd (false≢true e)

meet_last : (node : ℕ) (ws : List ℤ) → Holds (λ e. e.behind ≡ []) (meet node true ws)
unfolding meet
meet_last node [] = vacant
meet_last node (n ∷ []) = vacant
meet_last node (n ∷ size ∷ []) = vacant
meet_last node (n ∷ size ∷ steps ∷ ws) =
    holds_need (eq_z n (pos node)) broken _ λ a.
    holds_need (le_z (pos opening) size) broken _ λ b.
    holds_bind (cut (nat_abs size - opening) ws) _ (holds_any (cut (nat_abs size - opening) ws)) λ c d.
    holds_need (ends true c.behind) broken _ λ e.
    holds_need (between (pos 1) most_steps steps) broken _ λ f. value (nothing_behind c.behind e)

skipped_rest : (e : Entry) (fuel : ℕ) (changes : List ℤ) → Holds (λ v. v.rest ≡ e.behind) (skipped e fuel changes)
unfolding skipped
skipped_rest e fuel changes = holds_need (leb e.steps fuel) fuel_spent _ λ t. value refl

paid_rest : (node : ℕ) (own : Walk) (e : Entry) (fuel : ℕ) (changes : List ℤ) → Holds (λ v. v.rest ≡ e.behind) (paid node own e fuel changes)
unfolding paid
paid_rest node own e zero changes = vacant
paid_rest node own e (suc left) changes = holds_bind (own left changes e.parts) _ (holds_any (own left changes e.parts)) λ w t. value refl

chosen_rest : (b : Bool) (node : ℕ) (own : Walk) (e : Entry) (fuel : ℕ) (changes : List ℤ)
    → Holds (λ v. v.rest ≡ e.behind) (choose b skipped (paid node own) e fuel changes)
chosen_rest true node own e fuel changes = skipped_rest e fuel changes
chosen_rest false node own e fuel changes = paid_rest node own e fuel changes

visit_all : (t : Statement) (own : Walk) (fuel : ℕ) (changes ws : List ℤ) → Holds (λ v. v.rest ≡ []) (visit t own true fuel changes ws)
unfolding visit
visit_all t own fuel changes ws = holds_bind (meet (node_of t) true ws) _ (meet_last (node_of t) ws) λ e none.
    holds_map (λ v same. same ∙ none) (chosen_rest (unchanged (mentions t) changes) (node_of t) own e fuel changes)

pub visit_last : (t : Statement) (own : Walk) (fuel : ℕ) (changes ws : List ℤ) (v : Visited) → visit t own true fuel changes ws ≡ accepted v → v.rest ≡ []
visit_last t own fuel changes ws v e = holds_at e (visit_all t own fuel changes ws)

-- two walks one behind the other are the whole of their entry where nothing is left
pub came_whole : {a b : Visited} {s u r : Reached} {old : List ℤ} {end : ℕ} {out one two : List ℤ} → Came a s u old end out one → Came b u r old end one two
    → b.rest ≡ []
    → Came (whole (record { changes = b.changes; counts = both a.counts b.counts; words = a.words ++ b.words })) s r old end out two
came_whole {s} {r} {old} {end} {out} {two} c d none =
    let both = came_then c d in record {
      sound = both.sound;
      changes = both.changes;
      leaves = both.leaves;
      walks = both.walks;
      reuses = both.reuses;
      rest = sym none ∙ both.rest;
      onward = both.onward;
      ends = both.ends;
      lays = both.lays;
    }

-- ---- sequence

module _ {script : Script} {node : ℕ} {old : List ℤ} {end : ℕ} {s : Reached} (h : Enterable script node old end s 18) where
  abbrev its : AsSequence script.checked.table.now node h.known.tree
  its = as_sequence (as_run h.known h.kinded)

  small_both : Small its.s × Small its.t
  small_both = both_small (as_run h.known h.kinded)

  abbrev types : List Ty
  types = types_of script.checked.table.now

  abbrev one_visit : Paper.Outcome Visited
  one_visit = visit its.s (walk types its.s) false s.left s.changes.values (part old s.from end)

  abbrev two_visit : Visited → Paper.Outcome Visited
  two_visit a = visit its.t (walk types its.t) true (s.left - steps_of a.counts) a.changes a.rest

  abbrev joined : Visited → Visited → Walked
  joined a b = record { changes = b.changes; counts = both a.counts b.counts; words = a.words ++ b.words }

  -- what is shown of the sequence is shown of each tree of the node
  each : (r : Result Reached Refusal) (out after : List ℤ) → WalkAs (one_visit >>= λ a. two_visit a >>= λ b. accepted (joined a b)) s r old end out after
      → WalksTo script node old end s r out after
  unfolding walk
  each r out after w = for_tree h.known (λ t. WalkAs (walk types t s.left s.changes.values (part old s.from end)) s r old end out after)
      (subst (λ (t : Statement). WalkAs (walk types t s.left s.changes.values (part old s.from end)) s r old end out after) (sym its.is) w)

  -- the node as the code read it
  module _ {top : Bytes} (read : top ≡ node_at script.checked.table.now node) where
    first_is : top.a ≡ (node_at script.checked.table.now node).a
    first_is = ap (λ (n : Bytes). n.a) read

    second_is : top.b ≡ (node_at script.checked.table.now node).b
    second_is = ap (λ (n : Bytes). n.b) read

    first_here : part_at script.checked.table.now top.a ≡ some (statement its.s)
    first_here = ap (part_at script.checked.table.now) first_is ∙ its.first.1

    second_here : part_at script.checked.table.now top.b ≡ some (statement its.t)
    second_here = ap (part_at script.checked.table.now) second_is ∙ its.second.1

    pub first_below : top.a < node
    first_below = omega (arith, first_is, its.first.0)

    pub second_below : top.b < node
    second_below = omega (arith, second_is, its.second.0)

    pub first_visitable : Visitable script top.a old end s
    first_visitable = record { known = child h.known top.a its.s first_here small_both.0; sound = h.sound }

    module _ {u : Result Reached Refusal} {out one : List ℤ} (p : VisitsTo script top.a false old end s u out one) where
      first : VisitAs one_visit s u old end out one
      first = p its.s first_here

      pub first_refused : {q : Refusal} → u ≡ Err q → (after : List ℤ) → WalksTo script node old end s (Err q) out after
      first_refused {q} stops after = each (Err q) out after (handed_up (λ a. two_visit a >>= λ b. accepted (joined a b)) first stops)

      module _ {x : Reached} (goes : u ≡ Ok x) where
        went : Accepts (λ v to. Came v s to old end out one) one_visit x
        went = accepts first goes

        pub second_visitable : Visitable script top.b old end x
        second_visitable = record { known = child h.known top.b its.t second_here small_both.1; sound = went.holds.sound }

        pub sequence_answer : (r : Result Reached Refusal) (two : List ℤ) → VisitsTo script top.b true old end x r one two
            → WalksTo script node old end s r out two
        sequence_answer r two g =
            let a = went.value in
            let c = went.holds in
            let rest : s.left - steps_of a.counts ≡ x.left = omega (arith, c.leaves) in
            let same : two_visit a ≡ visit its.t (walk types its.t) true x.left x.changes.values (part old x.from end)
            = ap₂ {C = Paper.Outcome Visited} (λ (n : ℕ) (cs : List ℤ). visit its.t (walk types its.t) true n cs a.rest) rest (sym c.changes)
            ∙ ap (visit its.t (walk types its.t) true x.left x.changes.values) c.rest in
            let second : VisitAs (two_visit a) x r old end one two
            = subst (λ (m : Paper.Outcome Visited). VisitAs m x r old end one two) (sym same) (g its.t second_here) in
            each r out two (agrees_then (λ b. two_visit b >>= λ d. accepted (joined b d)) went.comes
            (agrees_map (joined a) (λ b comes y d. came_whole c d
            (visit_last its.t (walk types its.t) (s.left - steps_of a.counts) a.changes a.rest b comes)) second))
