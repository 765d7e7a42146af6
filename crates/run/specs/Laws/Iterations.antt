-- Iterations: after so many of them the run is those, and then the iterations that are left; each goes on where the one before ended.
-- Assumes nothing.
use Rattle.std.specs.Prelude.{◌≡◌, ℤ, Result, Ok, Err}
use Rattle.std.proofs.Math.Path.{refl, sym, ap}
use Rattle.std.proofs.Common.{ap₂, ◌∙◌, subst, zero-add, length-append}
use Prim.Native.Nat.{ℕ, suc, ◌+◌, ◌-◌, ◌*◌, ◌≤◌, ◌<◌}
use native.Mathlib.Omega.{arith}
use Rattle.std.proofs.Math.Nat.{add-zero}
use mathlib.Core.List.{List, [], ◌++◌, append_assoc, append-nil}
use Rattle.std.proofs.Math.ListN.{length}
use Rattle.numbers.specs.Lay.{lay, lay_append}
use Rattle.rules.specs.Outcome.{accepted, refused, ◌>>=◌}
use Rattle.rules.specs.Outcome as Paper
use Rattle.rules.specs.Value.{snapshot}
use Rattle.rules.specs.Tree.{Statement, mentions}
use Rattle.rules.specs.Table.{types_of}
use Rattle.rules.specs.Run.{Done, iterate, run}
use Rattle.rules.proofs.Laws.Store.{length_snapshot}
use Rattle.rules.proofs.Laws.Size.{weight}
use Rattle.rules.proofs.Laws.Entry.{Fine}
use Rattle.table.specs.Agrees.{both, neither, Accepts, accepts, refuses}
use Rattle.table.specs.Lists.{list_at}
use Rattle.table.specs.declared.answer.Refusal.{Refusal}
use Rattle.table.specs.declared.script.Script.{Script}
use Rattle.run.specs.declared.statement.Ran.{Ran}
use Rattle.run.specs.Code.{farthest}
use Rattle.run.specs.Words.{Listed}
use Rattle.run.specs.Statement.{EndedAs, RanAs, RunsTo, RepeatsTo, Known, Runnable, Repeatable}
use Rattle.run.specs.Laws.Statements.{for_statement, list_is, listed_at, still_fine, bounded}
use Rattle.run.specs.Laws.Listing.{listed_narrow}
use Rattle.run.specs.Laws.Sequences.{follow, child_known}

-- ---- the iterations so far, and those that are left

abbrev none : List ℤ → Done
none store = record { store = store; steps = 0; words = [] }

-- an iteration: the body's run and the snapshot after it
abbrev turn : List ℕ → Done → Done
turn vs d = record { store = d.store; steps = d.steps; words = d.words ++ snapshot vs d.store }

behind_none : (store : List ℤ) (m : Paper.Outcome Done) → m ≡ (m >>= λ f. accepted (follow (none store) f))
behind_none store (refused q) = refl
behind_none store (accepted f) = ap (λ (n : ℕ). accepted (record { store = f.store; steps = n; words = f.words })) (sym (zero-add f.steps))

-- the next iteration joins those before it
behind_turn : (vs : List ℕ) (d e : Done) (m : Paper.Outcome Done)
    → ((m >>= λ r. accepted (record { store = r.store; steps = e.steps + r.steps; words = e.words ++ (snapshot vs e.store ++ r.words) })) >>= λ f. accepted (follow d f))
    ≡ (m >>= λ f. accepted (follow (follow d (turn vs e)) f))
behind_turn vs d e (refused q) = refl
behind_turn vs d e (accepted r) =
    let steps : d.steps + (e.steps + r.steps) ≡ d.steps + e.steps + r.steps = omega arith in
    let words : d.words ++ (e.words ++ (snapshot vs e.store ++ r.words)) ≡ (d.words ++ (e.words ++ snapshot vs e.store)) ++ r.words
    = ap (λ (l : List ℤ). d.words ++ l) (sym (append_assoc e.words (snapshot vs e.store) r.words))
    ∙ sym (append_assoc d.words (e.words ++ snapshot vs e.store) r.words) in
    ap₂ {C = Paper.Outcome Done} (λ (n : ℕ) (l : List ℤ). accepted (record { store = r.store; steps = n; words = l })) steps words

module _ {script : Script} {node body : ℕ} {values : List ℤ} {left at : ℕ} (h : Repeatable script node body values left at) where
  abbrev b : Statement
  b = h.bodied.tree

  abbrev vs : List ℕ
  vs = mentions h.known.tree

  -- so many iterations are run and laid down
  pub record Iterated (count : ℕ) (out : List ℤ) (i : ℕ) (r : Ran) (now : List ℤ) : Type 0 where
    pub done : Done
    pub ended : EndedAs out left at now done r
    pub goes_on : (m : ℕ) → i + m ≡ count → iterate (run b) vs count left values
        ≡ (iterate (run b) vs m (left - done.steps) done.store >>= λ f. accepted (follow done f))
    pub fine : Fine (types_of script.checked.table.now) done.store
    pub short : length done.words ≤ weight * done.steps

  pub iterated_none : (count : ℕ) (out : List ℤ) (r : Ran) → r.store.values ≡ values → r.left ≡ left → r.at ≡ at → Iterated count out 0 r out
  unfolding lay
  iterated_none count out r s l p = record {
    done = none values;
    ended = record { stores = s; leaves = add-zero r.left ∙ l; ends = p ∙ sym (add-zero at); lays = refl };
    goes_on = on;
    fine = h.known.fine;
    short = holds;
  }
    where
      holds : length (none values).words ≤ weight * 0
      holds = omega arith

      on : (m : ℕ) → 0 + m ≡ count → iterate (run b) vs count left values ≡ (iterate (run b) vs m (left - 0) values >>= λ f. accepted (follow (none values) f))
      on m e =
          let same : count ≡ m = omega arith in
          let all : left ≡ left - 0 = omega arith in
          ap₂ {C = Paper.Outcome Done} (λ (n l : ℕ). iterate (run b) vs n l values) same all ∙ behind_none values (iterate (run b) vs m (left - 0) values)

  -- what is shown of the node's and the body's trees is shown of each
  each : (count : ℕ) (out : List ℤ) (r : Result Ran Refusal) (now : List ℤ) → RanAs (iterate (run b) vs count left values) r out left at now
      → RepeatsTo script node body count values left r out at now
  each count out r now w s c here below =
      for_statement h.known (λ s'. RanAs (iterate (run c) (mentions s') count left values) r out left at now)
      (for_statement h.bodied (λ c'. RanAs (iterate (run c') vs count left values) r out left at now) w c below) s here

  module _ {count : ℕ} {out : List ℤ} {i : ℕ} {r : Ran} {now : List ℤ} (so : Iterated count out i r now) where
    pub iterated_all : count ≤ i → i ≤ count → RepeatsTo script node body count values left (Ok r) out at now
    unfolding iterate
    iterated_all p q =
        let d = so.done in
        let none_left : i + 0 ≡ count = omega arith in
        let leaves : r.left + (d.steps + 0) ≡ left = omega (arith, so.ended.leaves) in
        each count out (Ok r) now (rw (so.goes_on 0 none_left) (both (record {
          stores = so.ended.stores;
          leaves = leaves;
          ends = so.ended.ends ∙ ap (λ (l : List ℤ). at + length l) (sym (append-nil d.words));
          lays = so.ended.lays ∙ ap (lay out at) (sym (append-nil d.words));
        })))

    abbrev again_known : Known script body so.done.store
    again_known = child_known h.bodied.here h.bodied.small so.fine

    pub again_runnable : Runnable script body r.store.values r.left r.at
    again_runnable = subst (λ (vs : List ℤ). Runnable script body vs r.left r.at) (sym so.ended.stores)
        (let near : r.at + weight * r.left ≤ farthest = omega (arith, h.near, so.ended.ends, so.ended.leaves, so.short) in
        record { known = again_known; near = near })

    module _ (below : i < count) {a : Result Ran Refusal} {one : List ℤ} (p : RunsTo script body r.store.values r.left a now r.at one) where
      rest : r.left ≡ left - so.done.steps
      rest = omega (arith, so.ended.leaves)

      ran : RanAs (run b (left - so.done.steps) so.done.store) a now r.left r.at one
      ran = subst (λ (m : Paper.Outcome Done). RanAs m a now r.left r.at one) (ap₂ {C = Paper.Outcome Done} (run b) rest so.ended.stores)
          (p b h.bodied.here)

      pub again_refused : {q : Refusal} → a ≡ Err q → (final : List ℤ) → RepeatsTo script node body count values left (Err q) out at final
      unfolding iterate
      again_refused {q} e final =
          let more : i + suc (count - suc i) ≡ count = omega arith in
          let w = refuses ran e in
          each count out (Err q) final (rw (so.goes_on (suc (count - suc i)) more, w.comes) (neither w.is))

      module _ {r₁ : Ran} (e : a ≡ Ok r₁) where
        abbrev got : Accepts (EndedAs now r.left r.at one) (run b (left - so.done.steps) so.done.store) r₁
        got = accepts ran e

        abbrev d : Done
        d = so.done

        abbrev f : Done
        f = got.value

        pub again_listed : Listed script.lists.now.lists node r₁.at
        again_listed =
            let near : r₁.at ≤ farthest = omega (
              arith,
              h.near,
              so.ended.ends,
              so.ended.leaves,
              so.short,
              got.holds.ends,
              got.holds.leaves,
              bounded again_known (left - so.done.steps) got.value got.comes,
            ) in
            listed_at h.known r₁.at near

        pub again_done : (r₂ : Ran) (two : List ℤ) → r₂.store.values ≡ r₁.store.values → r₂.left ≡ r₁.left
            → r₂.at ≡ r₁.at + length (list_at script.lists.now.lists node)
            → two ≡ lay one r₁.at (snapshot (list_at script.lists.now.lists node) r₁.store.values) → Iterated count out (i + 1) r₂ two
        unfolding iterate
        again_done r₂ two s l p laid = record {
          done = follow d (turn vs f);
          ended = record { stores = s ∙ got.holds.stores; leaves = leaves; ends = ends; lays = lays };
          goes_on = on;
          fine = still_fine again_known (left - d.steps) f got.comes;
          short = short;
        }
          where
            width : length (list_at script.lists.now.lists node) ≡ length (snapshot vs f.store)
            width = ap length (list_is h.known) ∙ sym (length_snapshot vs f.store)

            narrow : length (snapshot vs f.store) ≤ 32
            narrow = omega (arith, width, listed_narrow again_listed)

            long : length (d.words ++ (f.words ++ snapshot vs f.store)) ≡ length d.words + length f.words + length (snapshot vs f.store)
            long = omega (arith, length-append d.words (f.words ++ snapshot vs f.store), length-append f.words (snapshot vs f.store))

            leaves : r₂.left + (d.steps + f.steps) ≡ left
            leaves = omega (arith, l, so.ended.leaves, got.holds.leaves)

            ends : r₂.at ≡ at + length (d.words ++ (f.words ++ snapshot vs f.store))
            ends = omega (arith, p, got.holds.ends, so.ended.ends, width, long)

            short : length (d.words ++ (f.words ++ snapshot vs f.store)) ≤ weight * (d.steps + f.steps)
            short = omega (arith, long, narrow, so.short, bounded again_known (left - d.steps) f got.comes)

            lays : two ≡ lay out at (d.words ++ (f.words ++ snapshot vs f.store))
            lays =
                laid
                ∙ ap₂ {C = List ℤ} (λ (ws : List ℕ) (store : List ℤ). lay one r₁.at (snapshot ws store)) (list_is h.known) got.holds.stores
                ∙ ap₂ {C = List ℤ} (λ (o : List ℤ) (j : ℕ). lay o j (snapshot vs f.store)) got.holds.lays got.holds.ends
                ∙ sym (lay_append now r.at f.words (snapshot vs f.store))
                ∙ ap₂ {C = List ℤ} (λ (o : List ℤ) (j : ℕ). lay o j (f.words ++ snapshot vs f.store)) so.ended.lays so.ended.ends
                ∙ sym (lay_append out at d.words (f.words ++ snapshot vs f.store))

            on : (m : ℕ) → i + 1 + m ≡ count → iterate (run b) vs count left values
                ≡ (iterate (run b) vs m (left - (d.steps + f.steps)) f.store >>= λ g. accepted (follow (follow d (turn vs f)) g))
            on m q =
                let more : i + suc m ≡ count = omega arith in
                let less : left - d.steps - f.steps ≡ left - (d.steps + f.steps) = omega arith in
                so.goes_on (suc m) more
                ∙ ap (λ (o : Paper.Outcome Done). (o >>= λ g. iterate (run b) vs m (left - d.steps - g.steps) g.store >>= λ r. accepted (record { store = r.store; steps = g.steps + r.steps; words = g.words ++ (snapshot vs g.store ++ r.words) })) >>= λ g. accepted (follow d g)) got.comes
                ∙ behind_turn vs d f (iterate (run b) vs m (left - d.steps - f.steps) f.store)
                ∙ ap (λ (n : ℕ). iterate (run b) vs m n f.store >>= λ g. accepted (follow (follow d (turn vs f)) g)) less
