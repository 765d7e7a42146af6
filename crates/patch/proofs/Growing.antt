-- The iterations that come anew: they run from the last new snapshot, and what they leave is settled against the last old one.
-- Assumes nothing.
use mathlib.Core.Path.{◌≡◌, refl, sym, ap, ap₂, ◌∙◌, subst}
use Prim.Native.Nat.{ℕ, zero, suc, ◌+◌, ◌*◌, ◌≤◌, ◌<◌}
use native.Mathlib.Omega.{arith}
use mathlib.Core.Bool.{false}
use mathlib.Core.List.{List, []}
use lib.ListN.{length}
use lib.IntN.{ℤ}
use Rattle.std.specs.Prelude.{Result, Ok, Err}
use Rattle.rules.specs.Outcome.{accepted, ◌>>=◌}
use Rattle.rules.specs.Outcome as Paper
use Rattle.rules.specs.Value.{Ty, zeros, most_variables, put, minus_all, snapshot}
use Rattle.rules.specs.Tree.{Statement, mentions}
use Rattle.rules.specs.Table.{types_of, statement}
use Rattle.rules.specs.Run.{Done, iterate, run}
use Rattle.rules.specs.Patch.{Visited, Walked, Turn, all_fresh, finished, grown, loop, visit, walk}
use Rattle.rules.proofs.Laws.Parts.{part_typed}
use Rattle.rules.proofs.Laws.Size.{weight, bounded_iterate, words_bounded}
use Rattle.rules.proofs.Laws.Store.{Good}
use Rattle.rules.proofs.Laws.Typed.{keeps_iterate, run_keeps}
use Rattle.table.specs.Agrees.{both, Accepts, accepts, handed_up}
use Rattle.table.specs.declared.answer.Refusal.{Refusal}
use Rattle.table.specs.declared.script.Script.{Script}
use Rattle.run.specs.Code.{farthest}
use Rattle.run.specs.Statement.{EndedAs, RanAs, RepeatsTo, Repeatable}
use Rattle.run.specs.declared.statement.Ran.{Ran}
use Rattle.pieces.specs.Old.{part}
use Rattle.pieces.specs.Snapshot.{started_from}
use Rattle.pieces.specs.Laws.Old.{part_none}
use Rattle.pieces.specs.Laws.Snapshot.{good_near}
use Rattle.pieces.specs.Entry.{Came, WalkAs, whole}
use Rattle.patch.specs.Statement.{listed, Node}
use Rattle.patch.specs.Fresh.{Freshened, FreshAs}
use Rattle.patch.specs.Loop.{turn_at, LastAt, Endable, EndsTo}
use Rattle.pieces.specs.declared.entry.Reached.{Reached}
use Rattle.patch.proofs.Agreed.{agrees_then}
use Rattle.patch.proofs.Nodes.{narrow, for_tree, list_is, named_of}
use Rattle.patch.proofs.Fresh.{from_last, store_fine, store_known, store_is, settled_as, fresh_came}
use Rattle.rules.proofs.Laws.Outcome.{holds_at}

-- so many more iterations run fresh, where none is left of the old
pub loop_more : (types : List Ty) (body : ℕ → List ℤ → List ℤ → Paper.Outcome Visited) (fresh : ℕ → List ℤ → Paper.Outcome Done) (vs : List ℕ) (t : Turn)
    (n : ℕ) → 0 < n
    → loop types body fresh vs 0 n t ≡ grown types (iterate fresh vs n) vs t
unfolding loop
loop_more types body fresh vs t zero p = absurd (omega arith)
loop_more types body fresh vs t (suc n) p = refl

module _ (types : List Ty) (vs : List ℕ) (t : Turn) where
  -- what they come to is settled against the last old snapshot
  abbrev grown_as : Done → Walked
  grown_as d = record {
    changes = put vs (minus_all types vs (snapshot vs d.store) t.old) t.changes;
    counts = all_fresh d.steps;
    words = d.words;
  }

  grown_is : (more : ℕ → List ℤ → Paper.Outcome Done) → t.rest ≡ [] → {values : List ℤ} → values ≡ put vs t.new (zeros most_variables)
      → grown types more vs t ≡ (more t.left values >>= λ d. accepted (grown_as d))
  unfolding grown finished
  grown_is more over is =
      ap (λ (ws : List ℤ). finished ws >>= λ u. more t.left (put vs t.new (zeros most_variables)) >>= λ d. accepted (grown_as d)) over
      ∙ ap (λ (store : List ℤ). more t.left store >>= λ d. accepted (grown_as d)) (sym is)

module _ {script : Script} {node body last : ℕ} {old : List ℤ} {s : Reached} (h : Endable script node body last old s.from s) where
  abbrev vs : List ℕ
  vs = listed script node

  abbrev types : List Ty
  types = types_of script.checked.table.now

  abbrev k : Node script node
  k = h.turnable.known

  abbrev bodied : Node script body
  bodied = h.turnable.bodied

  abbrev b : Statement
  b = bodied.tree

  module _ {values : List ℤ} (is : values ≡ started_from script.checked.table.now script.lists.now.lists node old last s.changes.values) where
    pub grown_repeatable : Repeatable script node body values s.left s.at
    grown_repeatable =
        let near : s.at + weight * s.left ≤ farthest = omega (arith, h.turnable.sound.place, h.turnable.sound.inside.ends) in
        let begun = from_last h.lastly is in
        record { known = store_known begun k; bodied = store_known begun bodied; within = h.turnable.within; near = near }

    module _ (more : ℕ) (some : 0 < more) {a : Result Ran Refusal} {out after : List ℤ} (p : RepeatsTo script node body more values s.left a out s.at after) where
      abbrev iterates : Paper.Outcome Done
      iterates = iterate (run b) vs more s.left values

      ran_as : RanAs iterates a out s.left s.at after
      ran_as = subst (λ (ws : List ℕ). RanAs (iterate (run b) ws more s.left values) a out s.left s.at after) (sym (list_is k))
          (p k.tree b k.here bodied.here)

      -- what is shown of the body's tree is shown of each
      each : {r : Result Reached Refusal}
          → ((was new : List ℤ) → LastAt script node old last (turn_at s old s.from was new)
          → WalkAs (iterates >>= λ d. accepted (grown_as types vs (turn_at s old s.from was new) d)) s r old s.from out after)
          → EndsTo script node body 0 more last old s.from s r out after
      each {r} f = for_tree bodied
          (λ t. (was new : List ℤ) → LastAt script node old last (turn_at s old s.from was new)
          → WalkAs (loop types (visit t (walk types t) false) (run t) vs 0 more (turn_at s old s.from was new)) s r old s.from out after)
          λ was new l.
          let t = turn_at s old s.from was new in
          let over : part old s.from s.from ≡ [] = part_none old s.from s.from (omega arith) in
          subst (λ (m : Paper.Outcome Walked). WalkAs m s r old s.from out after)
          (sym (loop_more types (visit b (walk types b) false) (run b) vs t more some
          ∙ grown_is types vs t (iterate (run b) vs more) over (store_is (from_last l is))))
          (f was new l)

      pub grown_refused : {q : Refusal} → a ≡ Err q → EndsTo script node body 0 more last old s.from s (Err q) out after
      grown_refused e = each λ was new l. handed_up (λ d. accepted (grown_as types vs (turn_at s old s.from was new) d)) ran_as e

      module _ {ran : Ran} (goes : a ≡ Ok ran) where
        got : Accepts (EndedAs out s.left s.at after) iterates ran
        got = accepts ran_as goes

        abbrev d : Done
        d = got.value

        good : Good types ran.store.values
        good = subst (Good types) (sym got.holds.stores)
            (holds_at got.comes (keeps_iterate types (mentions b) (run b) vs
            (run_keeps types (mentions b) b (part_typed script.checked.table.now script.checked.accepted.0 script.checked.accepted.1 body (statement b) bodied.here) (λ v m. m))
            more s.left values (store_fine (from_last h.lastly is)).good)).good

        pub grown_settles : Freshened script node old last ran s
        grown_settles = record { standing = h.lastly.standing; near = good_near types ran.store.values good }

        short : length d.words ≤ weight * d.steps
        short = holds_at got.comes (bounded_iterate (run b) vs (narrow (named_of k)) (words_bounded b bodied.small) more s.left values)

        pub grown_answer : {r : Reached} → FreshAs script node old last s.from ran s r → EndsTo script node body 0 more last old s.from s (Ok r) out after
        grown_answer {r} fresh = each λ was new l.
            let t = turn_at s old s.from was new in
            let room : s.from + length d.words ≤ weight * d.steps + s.from = omega (arith, short) in
            let came : Came (settled_as script node old last s ran.store.values d.steps d.words) s r old s.from out after
            = fresh_came h.turnable.sound h.lastly.standing fresh good d.steps d.words got.holds.leaves got.holds.ends room got.holds.lays in
            agrees_then (λ f. accepted (grown_as types vs t f)) got.comes
            (both (subst (λ (cs : List ℤ). Came (whole (record { changes = put vs cs s.changes.values; counts = all_fresh d.steps; words = d.words })) s r old s.from out after)
            (ap₂ {C = List ℤ} (λ (store was' : List ℤ). minus_all types vs (snapshot vs store) was') got.holds.stores (sym l.was)) came))
