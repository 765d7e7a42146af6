-- The iterations that fall away: the last snapshot of the entry stands before its end, and the changes are settled against it.
-- Assumes nothing.
use mathlib.Core.Path.{◌≡◌, refl, sym, ap, ap₂, ◌∙◌, subst}
use Prim.Native.Nat.{ℕ, ◌+◌, ◌-◌, ◌*◌, ◌≤◌, ◌<◌}
use native.Mathlib.Omega.{arith}
use mathlib.Core.Bool.{Bool, true, false}
use mathlib.Core.List.{List, []}
use lib.ListN.{length, drop}
use lib.IntN.{ℤ}
use borrow.Author.Tests.{le-leb, lt-leb}
use Rattle.patch.specs.Statement.{listed}
use Rattle.std.specs.Prelude.{Result, Ok, Err}
use Rattle.numbers.specs.Lay.{lay}
use Rattle.rules.specs.Outcome.{accepted, refused, ◌>>=◌, need, broken}
use Rattle.rules.specs.Outcome as Paper
use Rattle.rules.specs.Value.{Ty, put, minus_all}
use Rattle.rules.specs.Table.{types_of}
use Rattle.rules.specs.Patch.{Walked, Snapshot, no_steps, all_fresh, read_snapshot, last_snapshot, shrunk}
use Rattle.rules.proofs.Laws.Size.{weight}
use Rattle.table.specs.Agrees.{both, neither}
use Rattle.table.specs.Paper.{refusal_for}
use Rattle.table.specs.declared.answer.Refusal.{Refusal}
use Rattle.table.specs.declared.answer.Store.{Store}
use Rattle.table.specs.declared.script.Script.{Script}
use Rattle.run.specs.declared.statement.Ran.{Ran}
use Rattle.pieces.specs.Old.{part, Inside}
use Rattle.pieces.specs.Snapshot.{Standing, started_from}
use Rattle.pieces.specs.Unbroken.{Unbroken}
use Rattle.pieces.specs.Laws.Old.{part_long, part_drop}
use Rattle.pieces.specs.Laws.Snapshot.{ReadAt, read_at}
use Rattle.pieces.specs.Entry.{Came, WalkAs, whole}
use Rattle.patch.specs.Fresh.{FreshAs}
use Rattle.patch.specs.Loop.{turn_at, LastAt, Shrinkable, ShrinksTo}
use Rattle.pieces.specs.declared.entry.Reached.{Reached}
use Rattle.patch.proofs.Broken.{Right, broken_of, right_of}
use Rattle.patch.proofs.Nodes.{named_of}
use Rattle.patch.proofs.Fresh.{from_last, store_fine, store_back, fresh_came}

module _ {script : Script} {node last : ℕ} {old : List ℤ} {end : ℕ} {s : Reached} (h : Shrinkable script node last old end s) where
  abbrev vs : List ℕ
  vs = listed script node

  abbrev types : List Ty
  types = types_of script.checked.table.now

  abbrev closed : List ℤ → Snapshot → Walked
  closed new t = record { changes = put vs (minus_all types vs new t.values) s.changes.values; counts = no_steps; words = [] }

  shrunk_by : (m : Paper.Outcome Snapshot) → last_snapshot types vs (part old s.from end) ≡ m → {r : Result Reached Refusal}
      → ((out was new : List ℤ) → LastAt script node old last (turn_at s old end was new) → WalkAs (m >>= λ t. accepted (closed new t)) s r old end out out)
      → ShrinksTo script node last old end s r
  unfolding shrunk
  shrunk_by m is {r} f out was new l = subst (λ (o : Paper.Outcome Snapshot). WalkAs (o >>= λ t. accepted (closed new t)) s r old end out out) (sym is)
      (f out was new l)

  module _ {ws : List ℕ} (is : ws ≡ vs) where
    abbrev w : ℕ
    w = length ws

    wide : w ≡ length vs
    wide = ap length is

    long : length (part old s.from end) ≡ end - s.from
    long = part_long old s.from end h.sound.inside.ends

    none : end - s.from < w → last_snapshot types vs (part old s.from end) ≡ refused broken
    unfolding last_snapshot
    none less =
        let few : length (part old s.from end) < length vs = omega (arith, long, wide) in
        ap (λ (b : Bool). need b broken >>= λ u. read_snapshot types vs (drop (length (part old s.from end) - length vs) (part old s.from end)))
        (lt-leb (length vs) (length (part old s.from end)) few)

    -- no room for the last snapshot
    pub shrunk_short : end - s.from < w → ShrinksTo script node last old end s (Err (refusal_for broken))
    shrunk_short less = shrunk_by (refused broken) (none less) λ out was new l. neither refl

    module _ (room : w ≤ end - s.from) where
      pub tail_inside : Inside old (end - w) end
      tail_inside =
          let ordered : end - w ≤ end = omega arith in
          record { ordered = ordered; ends = h.sound.inside.ends }

      abbrev reads : Paper.Outcome Snapshot
      reads = read_snapshot types vs (part old (end - w) end)

      tailed : last_snapshot types vs (part old s.from end) ≡ reads
      unfolding last_snapshot
      tailed =
          let count = length (part old s.from end) - length vs in
          let most : length vs ≤ length (part old s.from end) = omega (arith, long, wide) in
          let place : s.from + (length (part old s.from end) - length vs) ≡ end - w = omega (arith, long, wide) in
          let within : s.from + (length (part old s.from end) - length vs) ≤ end = omega (arith, long, wide) in
          ap (λ (b : Bool). need b broken >>= λ u. read_snapshot types vs (drop (length (part old s.from end) - length vs) (part old s.from end)))
          (le-leb (length vs) (length (part old s.from end)) most)
          ∙ ap (read_snapshot types vs) (part_drop old s.from end count within ∙ ap (λ (p : ℕ). part old p end) place)

      module _ {fits : Bool} (f : Unbroken reads fits) where
        -- it is none
        pub shrunk_broken : fits ≡ false → ShrinksTo script node last old end s (Err (refusal_for broken))
        shrunk_broken wrong = shrunk_by (refused broken) (tailed ∙ broken_of reads f wrong) λ out was new l. neither refl

        module _ (right : fits ≡ true) where
          tail : Right (λ t. reads ≡ accepted t) reads
          tail = right_of reads f right

          stands : ReadAt script.checked.table.now script.lists.now.lists node (named_of h.known) old (end - w) end tail_inside tail.value
          stands = read_at script.checked.table.now script.lists.now.lists node (named_of h.known) old (end - w) end tail_inside tail.value tail.comes

          pub tail_standing : Standing script.checked.table.now script.lists.now.lists node old (end - w)
          tail_standing = stands.standing

          module _ {store : Store} (begins : store.values ≡ started_from script.checked.table.now script.lists.now.lists node old last s.changes.values) where
            -- the walk as if it had run fresh, without a step
            abbrev pub unmoved : Ran
            unmoved = record { store = store; left = s.left; at = s.at }

            pub shrunk_answer : {r : Reached} → FreshAs script node old (end - w) end unmoved s r → ShrinksTo script node last old end s (Ok r)
            unfolding lay no_steps all_fresh
            shrunk_answer {r} fresh = shrunk_by (accepted tail.value) (tailed ∙ tail.comes) λ out was new l. both (came out was new l)
              where
                came : (out was new : List ℤ) → LastAt script node old last (turn_at s old end was new)
                    → Came (whole (closed new tail.value)) s r old end out out
                came out was new l =
                    let begun = from_last l begins in
                    let left : s.left + 0 ≡ s.left = omega arith in
                    let ends : s.at ≡ s.at + 0 = omega arith in
                    let short : s.from + 0 ≤ weight * 0 + end = omega (arith, h.sound.inside.ordered) in
                    subst (λ (cs : List ℤ). Came (whole (record { changes = put vs cs s.changes.values; counts = no_steps; words = [] })) s r old end out out)
                    (ap₂ {C = List ℤ} (minus_all types vs) (store_back begun h.known) (sym stands.values))
                    (fresh_came h.sound tail_standing fresh (store_fine begun).good 0 [] left ends short refl)
