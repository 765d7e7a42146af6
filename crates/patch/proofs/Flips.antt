-- An if whose condition is flipped: the branch that it did not take is run fresh, the snapshot after is taken behind it, and the words,
-- laid in this order, are those of the definition.
-- Assumes nothing.
use mathlib.Core.Path.{◌≡◌, refl, sym, ap, ap₂, ◌∙◌, subst}
use Prim.Native.Nat.{ℕ, ◌+◌, ◌*◌, ◌≤◌, ◌<◌}
use native.Mathlib.Omega.{arith}
use mathlib.Core.Bool.{Bool, true, false, not}
use mathlib.Core.Logic.{◌⊎◌, inl, inr}
use mathlib.Core.List.{List}
use lib.ListN.{length, set}
use lib.IntN.{ℤ, pos, ◌-ℤ◌}
use lib.Signed.{mag}
use mir.Syntax.{w64}
use mir.Val.{SFits}
use Rattle.std.specs.Prelude.{Result, Ok, Err}
use Rattle.numbers.specs.Lay.{lay}
use Rattle.numbers.specs.Signed.{eq_z}
use Rattle.rules.specs.Outcome.{accepted, ◌>>=◌, choose}
use Rattle.rules.specs.Outcome as Paper
use Rattle.rules.specs.Value.{Ty, at, in_type, bit, differ, plus, zeros, most_variables, put, minus_all, snapshot}
use Rattle.rules.specs.Tree.{Statement}
use Rattle.rules.specs.Table.{Node as Bytes, types_of}
use Rattle.rules.specs.Run.{Done, holds, if_words, run}
use Rattle.rules.specs.Patch.{Walked, all_fresh, flipped}
use Rattle.rules.proofs.Laws.Value.{truth_cases}
use Rattle.rules.proofs.Laws.Parts.{node_at, part_at}
use Rattle.rules.proofs.Laws.Size.{weight}
use Rattle.rules.proofs.Laws.Store.{Good, length_snapshot}
use Rattle.table.specs.Agrees.{both, Accepts, accepts, handed_up}
use Rattle.table.specs.Sorts.{node_of}
use Rattle.table.specs.declared.answer.Refusal.{Refusal}
use Rattle.table.specs.declared.node.Node.{Node as Read}
use Rattle.table.specs.declared.script.Script.{Script}
use Rattle.run.specs.Code.{farthest}
use Rattle.run.specs.Statement.{EndedAs, RanAs, RunsTo, Runnable}
use Rattle.run.specs.declared.statement.Ran.{Ran}
use Rattle.run.specs.Laws.Numbers.{word, word_back}
use Rattle.run.specs.Laws.Statements.{still_fine, bounded}
use Rattle.run.specs.Laws.Branches.{if_long}
use Rattle.run.specs.Laws.Taken.{taken_node}
use Rattle.pieces.specs.Change.{Near}
use Rattle.pieces.specs.Snapshot.{olds, started_from}
use Rattle.pieces.specs.Laws.Snapshot.{in_near, good_near}
use Rattle.pieces.specs.Entry.{Came, WalkAs, whole}
use Rattle.patch.specs.Statement.{listed, Node}
use Rattle.patch.specs.Branch.{fork_laid, Forked, FlipsTo}
use Rattle.patch.specs.Fresh.{Freshened, FreshAs}
use Rattle.pieces.specs.declared.entry.Reached.{Reached}
use Rattle.patch.proofs.Branches.{fork_laid_lem, forked_at, fork_inside, if_each, branch_here, branch_known}
use Rattle.patch.proofs.Fresh.{Started, store_is, store_known, news_long, settled_as, fresh_came}
use Rattle.pieces.specs.Laws.Changes.{near_kept, kept_near, kept}
use Rattle.patch.proofs.Agreed.{agrees_then}
use Rattle.patch.proofs.Nodes.{same_tree}

-- a truth turned round
turned_small : (x : ℤ) → (x ≡ pos 0) ⊎ (x ≡ pos 1) → mag (pos 1 -ℤ x) < 9_223_372_036_854_775_808
turned_small x (inl e) = rw e (omega arith)
turned_small x (inr e) = rw e (omega arith)

turned_holds : (x : ℤ) → (x ≡ pos 0) ⊎ (x ≡ pos 1) → holds (pos 1 -ℤ x) ≡ not (holds x)
unfolding holds
turned_holds x (inl e) = rw e refl
turned_holds x (inr e) = rw e refl

bit_back : (b : Bool) → kept (bit b) ≡ bit b
bit_back true = word_back (pos 1) (omega arith)
bit_back false = word_back (pos 0) (omega arith)

plus_back : (x y : ℤ) → kept (plus Ty.truth x y) ≡ plus Ty.truth x y
unfolding plus differ
plus_back x y = bit_back (not (eq_z x y))

-- the branch that the condition does not take
run_other : (b : Bool) (x y : Statement) → run (choose (not b) x y) ≡ choose b (run y) (run x)
run_other true x y = refl
run_other false x y = refl

module _ {script : Script} {node size : ℕ} {old : List ℤ} {end : ℕ} {s : Reached} (h : Forked script node size old end s) where
  abbrev vs : List ℕ
  vs = listed script node

  abbrev types : List Ty
  types = types_of script.checked.table.now

  abbrev z : ℤ
  z = h.fork.condition

  -- the condition's word, as it is read
  abbrev read : ℤ
  read = kept (at old s.from)

  truth : in_type Ty.truth (at old s.from) ≡ true
  truth = ap (in_type Ty.truth) (sym (forked_at h).condition) ∙ (forked_at h).truth

  read_is : read ≡ z
  read_is = near_kept (at old s.from) (in_near Ty.truth (at old s.from) truth) ∙ sym (forked_at h).condition

  either : (read ≡ pos 0) ⊎ (read ≡ pos 1)
  either = truth_cases read (ap (in_type Ty.truth) read_is ∙ (forked_at h).truth)

  -- the condition and its change are near where they are passed
  pub flip_passed : (change : ℤ) → Near change → Near read × Near (kept change)
  flip_passed change near = (kept_near (at old s.from) (in_near Ty.truth (at old s.from) truth), kept_near change near)

  pub turned_fits : SFits w64 (pos 1 -ℤ read)
  turned_fits = word (pos 1 -ℤ read) (turned_small read either)

  pub turned : (x : Read) → node_of x ≡ node_at script.checked.table.now node → {i : ℕ}
      → i ≡ choose (holds (kept (pos 1 -ℤ read))) (node_of x).b (node_of x).c → i ≡ taken_node script.checked.table.now node (not (holds z))
  turned x is e =
      e ∙ ap (λ (n : Bytes). choose (holds (kept (pos 1 -ℤ read))) n.b n.c) is
      ∙ ap (taken_node script.checked.table.now node) (ap holds (word_back (pos 1 -ℤ read) (turned_small read either)) ∙ turned_holds read either ∙ ap (λ (y : ℤ). not (holds y)) read_is)

  -- the head's words lie inside both records
  pub flip_room : {ws : List ℕ} → ws ≡ vs → (s.at + 1 + 2 * length ws + size ≤ farthest) × (s.from + 1 + 2 * length ws + size ≤ length old)
  flip_room is =
      let inside = h.entered.sound.inside.ends in
      let wide = ap length is in
      (omega (arith, wide, h.entered.sound.place, inside, fork_inside h), omega (arith, wide, inside, fork_inside h))

  -- what the branch comes to
  abbrev flipped_as : Done → Walked
  flipped_as d = record {
    changes = put vs (minus_all types vs (snapshot vs d.store) (olds old (s.from + 1 + length vs) vs)) s.changes.values;
    counts = all_fresh d.steps;
    words = if_words (plus Ty.truth z h.fork.test.change) h.fork.before (snapshot vs d.store) h.fork.test.words d.words;
  }

  other : Node script (taken_node script.checked.table.now node (not (holds z)))
  other = branch_known h (not (holds z))

  module _ {values : List ℤ} (is : values ≡ started_from script.checked.table.now script.lists.now.lists node old (s.from + 1) s.changes.values) where
    begun : Started script node old (s.from + 1) s.changes.values h.fork.before values
    begun = record { moved = (forked_at h).moved; standing = (forked_at h).first; is = is }

    abbrev runs : Paper.Outcome Done
    runs = run other.tree s.left values

    flipped_is : flipped types (choose (holds z) (run h.b) (run h.a)) h.fork ≡ (runs >>= λ d. accepted (flipped_as d))
    unfolding flipped
    flipped_is =
        let f = h.fork in
        let closed : List ℕ → List ℤ → List ℤ → Done → Walked = λ ws after cs d. record {
          changes = put ws (minus_all types ws (snapshot ws d.store) after) cs;
          counts = all_fresh d.steps;
          words = if_words (plus Ty.truth z f.test.change) f.before (snapshot ws d.store) f.test.words d.words;
        } in
        ap (λ (ws : List ℕ). choose (holds z) (run h.b) (run h.a) f.left (put ws f.before (zeros most_variables)) >>= λ d. accepted (closed ws f.after f.changes d)) (forked_at h).vs_are
        ∙ ap₂ {C = Paper.Outcome Walked} (λ (after cs : List ℤ). choose (holds z) (run h.b) (run h.a) f.left (put vs f.before (zeros most_variables)) >>= λ d. accepted (closed vs after cs d))
        (forked_at h).after (forked_at h).changes_are
        ∙ ap₂ {C = Paper.Outcome Walked} (λ (left : ℕ) (store : List ℤ). choose (holds z) (run h.b) (run h.a) left store >>= λ d. accepted (flipped_as d))
        (forked_at h).left_is (sym (store_is begun))
        ∙ ap (λ (body : ℕ → List ℤ → Paper.Outcome Done). body s.left values >>= λ d. accepted (flipped_as d))
        (sym (ap run (same_tree other.here (branch_here h (not (holds z)))) ∙ run_other (holds z) h.a h.b))

    module _ {i : ℕ} (at_i : i ≡ taken_node script.checked.table.now node (not (holds z))) {ws : List ℕ} (same : ws ≡ vs) where
      abbrev w : ℕ
      w = length ws

      wide : w ≡ length vs
      wide = ap length same

      abbrev at' : ℕ
      at' = s.at + 1 + 2 * w + size

      pub flip_runnable : Runnable script i values s.left at'
      flip_runnable =
          let near : at' + weight * s.left ≤ farthest = omega (arith, wide, h.entered.sound.place, h.entered.sound.inside.ends, fork_inside h) in
          subst (λ (j : ℕ). Runnable script j values s.left at') (sym at_i) (record { known = store_known begun other; near = near })

      module _ {a : Result Ran Refusal} {out one : List ℤ} (p : RunsTo script i values s.left a out at' one) where
        ran_as : RanAs runs a out s.left at' one
        ran_as = p other.tree (ap (part_at script.checked.table.now) at_i ∙ other.here)

        each : (change : ℤ) {r : Result Reached Refusal} {final : List ℤ}
            → ((out₀ : List ℤ) → out ≡ fork_laid out₀ s.at h.fork → change ≡ h.fork.test.change
            → WalkAs (runs >>= λ d. accepted (flipped_as d)) s r old end out₀ final)
            → FlipsTo script node change old end s r out final
        each change {r} {final} f n e a b here g g_is told out₀ laid =
            if_each h out (λ a' b' g' out₁. change ≡ g'.test.change → WalkAs (flipped types (choose (holds g'.condition) (run b') (run a')) g') s r old end out₁ final)
            (λ out₁ laid₁ told₁. subst (λ (m : Paper.Outcome Walked). WalkAs m s r old end out₁ final) (sym flipped_is) (f out₁ laid₁ told₁)) n e a b here g g_is out₀ laid told

        pub flip_refused : {q : Refusal} → a ≡ Err q → (change : ℤ) {final : List ℤ} → FlipsTo script node change old end s (Err q) out final
        flip_refused stops change = each change λ out₀ laid told. handed_up (λ d. accepted (flipped_as d)) ran_as stops

        module _ {ran : Ran} (goes : a ≡ Ok ran) where
          got : Accepts (EndedAs out s.left at' one) runs ran
          got = accepts ran_as goes

          good : Good types ran.store.values
          good = subst (Good types) (sym got.holds.stores) (still_fine (store_known begun other) s.left got.value got.comes).good

          pub flip_settles : Freshened script node old (s.from + 1 + w) ran s
          flip_settles = subst (λ (n : ℕ). Freshened script node old (s.from + 1 + n) ran s) (sym wide)
              (record { standing = (forked_at h).second; near = good_near types ran.store.values good })

          pub flip_answer : {change : ℤ} → Near change → {two final : List ℤ} → two ≡ lay one (s.at + 1 + w) (snapshot vs ran.store.values)
              → {x : ℤ} → x ≡ plus Ty.truth read (kept change) → final ≡ set two s.at (kept x)
              → {r : Reached} → FreshAs script node old (s.from + 1 + w) end ran s r → FlipsTo script node change old end s (Ok r) out final
          flip_answer {change} near {two} {final} snapped {x} is_x last {r} fresh = each change λ out₀ laid told.
              let f = h.fork in
              let d = got.value in
              let after = snapshot vs d.store in
              let new = plus Ty.truth z f.test.change in
              let words = if_words new f.before after f.test.words d.words in
              let width : length f.vs ≡ length vs = ap length (forked_at h).vs_are in
              let first : length f.before ≡ length vs = news_long begun in
              let second : length after ≡ length vs = length_snapshot vs d.store in
              let long : length words ≡ 1 + length f.before + length after + length f.test.words + length d.words
              = if_long new f.before after f.test.words d.words in
              let e1 : s.at + 1 + w ≡ s.at + 1 + length f.before = omega (arith, first, wide) in
              let e2 : s.at + 1 + 2 * length f.vs ≡ s.at + 1 + w + length after = omega (arith, second, width, wide) in
              let e3 : at' ≡ s.at + 1 + 2 * length f.vs + length f.test.words = omega (arith, width, wide, h.size) in
              let word_is : kept x ≡ new
              = ap (λ (y : ℤ). kept y) (is_x ∙ ap₂ {C = ℤ} (plus Ty.truth) read_is (near_kept change near)) ∙ plus_back z change
              ∙ ap (plus Ty.truth z) told in
              let lays : final ≡ lay out₀ s.at words
              = last
              ∙ ap₂ {C = List ℤ} (λ (l : List ℤ) (y : ℤ). set l s.at y)
              (snapped ∙ ap₂ {C = List ℤ} (λ (l store : List ℤ). lay l (s.at + 1 + w) (snapshot vs store)) (got.holds.lays ∙ ap (λ (l : List ℤ). lay l at' d.words) laid) got.holds.stores)
              word_is
              ∙ fork_laid_lem out₀ f.before after f.test.words d.words new s.at (s.at + 1 + w) (s.at + 1 + 2 * length f.vs) at' e1 e2 e3 in
              let ends : ran.at ≡ s.at + length words = omega (arith, got.holds.ends, e1, e2, e3, long) in
              let short : s.from + length words ≤ weight * d.steps + end = omega (
                arith,
                long,
                first,
                second,
                h.size,
                fork_inside h,
                bounded (store_known begun other) s.left d got.comes,
              ) in
              let came : Came (settled_as script node old (s.from + 1 + w) s ran.store.values d.steps words) s r old end out₀ final
              = fresh_came h.entered.sound flip_settles.standing fresh good d.steps words got.holds.leaves ends short lays in
              agrees_then (λ g. accepted (flipped_as g)) got.comes
              (both (subst (λ (cs : List ℤ). Came (whole (record { changes = put vs cs s.changes.values; counts = all_fresh d.steps; words = words })) s r old end out₀ final)
              (ap₂ {C = List ℤ} (λ (store : List ℤ) (n : ℕ). minus_all types vs (snapshot vs store) (olds old (s.from + 1 + n) vs)) got.holds.stores wide) came))
