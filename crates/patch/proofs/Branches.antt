-- An if whose condition is kept: the branch that it takes is visited as the last part, the snapshot after takes the changes behind it,
-- and the words, laid in this order, are those of the definition.
-- Assumes nothing.
use mathlib.Core.Path.{◌≡◌, refl, sym, ap, ap₂, ◌∙◌, subst}
use Prim.Native.Nat.{ℕ, ◌+◌, ◌*◌, ◌≤◌, ◌<◌}
use native.Mathlib.Omega.{arith}
use mathlib.Core.Bool.{Bool, true, false, true≢false}
use mathlib.Core.Option.{Option, some}
use mathlib.Core.List.{List}
use lib.ListN.{length, set}
use lib.IntN.{ℤ}
use Rattle.std.specs.Prelude.{Result, Ok, Err}
use Rattle.numbers.specs.Lay.{lay, set_lay}
use Rattle.rules.specs.Outcome.{accepted, refused, ◌>>=◌, choose, broken}
use Rattle.rules.specs.Outcome as Paper
use Rattle.rules.specs.Value.{Ty, at}
use Rattle.rules.specs.Tree.{Expression, Statement, mentions}
use Rattle.rules.specs.Table.{Node as Bytes, types_of, Part, statement}
use Rattle.rules.specs.Run.{holds, if_words}
use Rattle.rules.specs.Patch.{Visited, Walked, Fork, steps_of, moved_all, kept, visit, walk}
use Rattle.rules.proofs.Laws.Parts.{node_at, part_at}
use Rattle.rules.proofs.Laws.Size.{Small}
use Rattle.table.specs.Agrees.{both, neither, Accepts, accepts, handed_up}
use Rattle.table.specs.Paper.{refusal_for}
use Rattle.table.specs.declared.answer.Refusal.{Refusal}
use Rattle.table.specs.declared.answer.Changes.{Changes}
use Rattle.table.specs.declared.script.Script.{Script}
use Rattle.run.specs.Code.{farthest}
use Rattle.run.specs.Laws.Branches.{if_laid, if_long}
use Rattle.run.specs.Laws.Taken.{AsIf, as_if, taken_node, taken_here, taken_small, taken_below}
use Rattle.pieces.specs.Change.{AllNear}
use Rattle.pieces.specs.Old.{part}
use Rattle.pieces.specs.Snapshot.{Standing, MovedAs, MovesTo, olds}
use Rattle.pieces.specs.Laws.Snapshot.{olds_long, moved_long}
use Rattle.patch.specs.Laws.Head.{ForkAt, fork_at}
use Rattle.rules.proofs.Laws.Outcome.{accepted_of}
use Rattle.pieces.specs.Entry.{Sound, Came, VisitAs, whole, WalkAs, AdvancedBy}
use Rattle.patch.specs.Statement.{listed, Node, Visitable, VisitsTo}
use Rattle.patch.specs.Branch.{fork_of, fork_laid, Forked, KeepsTo}
use Rattle.pieces.specs.declared.entry.Reached.{Reached}
use Rattle.patch.proofs.Agreed.{agrees_then}
use Rattle.patch.proofs.Walks.{sound_advanced}
use Rattle.patch.proofs.Nodes.{list_is, named_of, child, same_tree}
use Rattle.patch.proofs.Sequences.{visit_last}

-- ---- the words of an if, laid in the order of the code: the condition's word last

pub fork_laid_lem : (out before after test branch : List ℤ) (z : ℤ) (at second third fourth : ℕ)
    → second ≡ at + 1 + length before → third ≡ second + length after → fourth ≡ third + length test
    → set (lay (lay (lay (lay out (at + 1) before) third test) fourth branch) second after) at z ≡ lay out at (if_words z before after test branch)
fork_laid_lem out before after test branch z at second third fourth e f g =
    set_lay (lay (lay (lay out (at + 1) before) third test) fourth branch) at second z after (omega arith)
    ∙ ap (λ (l : List ℤ). lay l second after) (set_lay (lay (lay out (at + 1) before) third test) at fourth z branch (omega arith))
    ∙ if_laid out before after test branch z at second third fourth e f g

-- ---- what the head told

module _ {script : Script} {node size : ℕ} {old : List ℤ} {end : ℕ} {s : Reached}
    (h : Forked script node size old end s) where
  abbrev k : Node script node
  k = h.entered.known

  abbrev sound : Sound old end s
  sound = h.entered.sound

  abbrev vs : List ℕ
  vs = listed script node

  abbrev its : AsIf script.checked.table.now node k.tree
  its = as_if k h.entered.kinded

  -- the node's list is that of its if
  vs_are : vs ≡ mentions (Statement.if node h.e h.a h.b)
  vs_are = list_is k ∙ ap mentions (same_tree k.here h.here)

  forks : fork_of (types_of script.checked.table.now) vs h.e s.left s.changes.values (part old s.from end) ≡ accepted h.fork
  forks = ap (λ (ws : List ℕ). fork_of (types_of script.checked.table.now) ws h.e s.left s.changes.values (part old s.from end)) vs_are ∙ h.forks

  pub forked_at : ForkAt script node (named_of k) old s.from end sound.inside.ends s.changes.values h.e s.left h.fork
  forked_at = fork_at script node (named_of k) old s.from end sound.inside.ends s.changes.values h.e s.left h.fork forks

  pub fork_inside : s.from + (1 + 2 * length vs + size) ≤ end
  fork_inside = omega (arith, forked_at.test.within, h.size)

  -- the same by the list as the code read it: the head ends inside, in the old record and in the new one
  module _ {ws : List ℕ} (wide : ws ≡ vs) where
    pub fork_fits : s.from + (1 + 2 * length ws + size) ≤ length old
    fork_fits = omega (arith, ap length wide, fork_inside, sound.inside.ends)

    pub fork_near : s.at + (1 + 2 * length ws + size) ≤ farthest
    fork_near = omega (arith, fork_fits, sound.place)

  -- ---- every way to know the node's if is this one

  abbrev if_of : List ℤ → (Statement → Statement → Fork → List ℤ → Type 0) → Statement → Type 0
  if_of out Q (Statement.if n e a b) = (f : Fork) → fork_of (types_of script.checked.table.now) (mentions (Statement.if n e a b)) e s.left s.changes.values
      (part old s.from end) ≡ accepted f
      → (out₀ : List ℤ) → out ≡ fork_laid out₀ s.at f → Q a b f out₀
  if_of out Q (Statement.skip n) = Unit {0}
  if_of out Q (Statement.assign n v e) = Unit {0}
  if_of out Q (Statement.sequence n a b) = Unit {0}
  if_of out Q (Statement.repeat n e a) = Unit {0}

  pub if_each : (out : List ℤ) (Q : Statement → Statement → Fork → List ℤ → Type 0)
      → ((out₀ : List ℤ) → out ≡ fork_laid out₀ s.at h.fork → Q h.a h.b h.fork out₀)
      → (n : ℕ) (e : Expression) (a b : Statement) → part_at script.checked.table.now node ≡ some (statement (Statement.if n e a b))
      → (f : Fork) → fork_of (types_of script.checked.table.now) (mentions (Statement.if n e a b)) e s.left s.changes.values (part old s.from end) ≡ accepted f
      → (out₀ : List ℤ) → out ≡ fork_laid out₀ s.at f → Q a b f out₀
  if_each out Q w n e a b here = subst (if_of out Q) (same_tree h.here here)
      (λ f g out₀ laid. subst (λ (x : Fork). Q h.a h.b x out₀) (accepted_of (sym h.forks ∙ g))
      (w out₀ (laid ∙ ap (fork_laid out₀ s.at) (sym (accepted_of (sym h.forks ∙ g))))))

  -- ---- the branches

  own_trees : (its.s ≡ h.a) × (its.t ≡ h.b)
  own_trees = of (sym its.is ∙ same_tree k.here h.here)
    where
      of : {n m : ℕ} {e f : Expression} {a b c d : Statement} → Statement.if n e a b ≡ Statement.if m f c d → (a ≡ c) × (b ≡ d)
      of p = (cc, cc)

  pub branch_here : (b : Bool) → part_at script.checked.table.now (taken_node script.checked.table.now node b) ≡ some (statement (choose b h.a h.b))
  branch_here b = taken_here k h.entered.kinded b
      ∙ ap₂ {C = Option Part} (λ (x y : Statement). some (statement (choose b x y))) own_trees.0 own_trees.1

  branch_small : (b : Bool) → Small (choose b h.a h.b)
  branch_small b = subst (λ (x : Statement). Small (choose b h.a x)) own_trees.1
      (subst (λ (x : Statement). Small (choose b x its.t)) own_trees.0 (taken_small k h.entered.kinded b))

  pub branch_below : (b : Bool) → taken_node script.checked.table.now node b < node
  branch_below = taken_below k h.entered.kinded

  pub branch_known : (b : Bool) → Node script (taken_node script.checked.table.now node b)
  branch_known b = child k (taken_node script.checked.table.now node b) (choose b h.a h.b) (branch_here b) (branch_small b)

  -- the branch that the code takes
  pub branch_is : {i : ℕ} {x : ℤ} {top : Bytes} → top ≡ node_at script.checked.table.now node → x ≡ at old s.from → i ≡ choose (holds x) top.b top.c
      → i ≡ taken_node script.checked.table.now node (holds h.fork.condition)
  branch_is read word e = e ∙ ap₂ {C = ℕ} (λ (y : ℤ) (n : Bytes). choose (holds y) n.b n.c) (word ∙ sym forked_at.condition) read

  -- ---- the condition is kept

  abbrev types : List Ty
  types = types_of script.checked.table.now

  abbrev z : ℤ
  z = h.fork.condition

  abbrev same : Statement
  same = choose (holds z) h.a h.b

  abbrev closed : Visited → List ℤ → Walked
  closed b after = record { changes = b.changes; counts = b.counts; words = if_words z h.fork.before after h.fork.test.words b.words }

  abbrev further : List ℕ → List ℤ → Visited → Paper.Outcome Walked
  further ws after b = moved_all types ws after b.changes >>= λ news. accepted (closed b news)

  chosen : (b : Bool) (x y : Statement) (last : Bool) (left : ℕ) (changes ws : List ℤ)
      → choose b (visit x (walk types x)) (visit y (walk types y)) last left changes ws ≡ visit (choose b x y) (walk types (choose b x y)) last left changes ws
  chosen true x y last left changes ws = refl
  chosen false x y last left changes ws = refl

  module _ {ws : List ℕ} (wide : ws ≡ vs) {u : Reached} (along : AdvancedBy (1 + 2 * length ws + size) s u) where
    step : AdvancedBy (1 + 2 * length vs + size) s u
    step = subst (λ (l : List ℕ). AdvancedBy (1 + 2 * length l + size) s u) wide along

    abbrev branched : Paper.Outcome Visited
    branched = visit same (walk types same) true u.left u.changes.values (part old u.from end)

    kept_is : kept types (choose (holds z) (visit h.a (walk types h.a)) (visit h.b (walk types h.b))) h.fork
        ≡ (branched >>= further vs (olds old (s.from + 1 + length vs) vs))
    unfolding kept
    kept_is =
        let f = h.fork in
        let place : s.from + 1 + 2 * length vs + length f.test.words ≡ u.from = omega (arith, step.from, h.size) in
        ap (λ (m : Paper.Outcome Visited). m >>= further f.vs f.after) (chosen (holds z) h.a h.b true f.left f.changes f.test.rest)
        ∙ ap₂ {C = Paper.Outcome Walked} (λ (ws : List ℕ) (after : List ℤ). visit same (walk types same) true f.left f.changes f.test.rest >>= further ws after) forked_at.vs_are forked_at.after
        ∙ ap₂ {C = Paper.Outcome Walked} (λ (n : ℕ) (cs : List ℤ). visit same (walk types same) true n cs f.test.rest >>= further vs (olds old (s.from + 1 + length vs) vs))
        (forked_at.left_is ∙ sym step.left) (forked_at.changes_are ∙ ap (λ (c : Changes). c.values) (sym step.changes))
        ∙ ap (λ (ws : List ℤ). visit same (walk types same) true u.left u.changes.values ws >>= further vs (olds old (s.from + 1 + length vs) vs))
        (forked_at.test.rest ∙ ap (λ (p : ℕ). part old p end) place)

    pub kept_visitable : {i : ℕ} → i ≡ taken_node script.checked.table.now node (holds z) → Visitable script i old end u
    kept_visitable e = subst (λ (j : ℕ). Visitable script j old end u) (sym e)
        (record { known = branch_known (holds z); sound = sound_advanced sound step fork_inside })

    module _ {i : ℕ} (is : i ≡ taken_node script.checked.table.now node (holds z)) {r : Result Reached Refusal} {out one : List ℤ}
        (p : VisitsTo script i true old end u r out one) where
      visited : VisitAs branched u r old end out one
      visited = p same (ap (part_at script.checked.table.now) is ∙ branch_here (holds z))

      -- the snapshot after, as it stands in the old record
      abbrev after : List ℤ
      after = olds old (s.from + 1 + length vs) vs

      each : (x : Result Reached Refusal) (final : List ℤ)
          → ((out₀ : List ℤ) → out ≡ fork_laid out₀ s.at h.fork → WalkAs (branched >>= further vs after) s x old end out₀ final)
          → KeepsTo script node old end s x out final
      each x final w = if_each out (λ a b f out₀. WalkAs (kept types (choose (holds f.condition) (visit a (walk types a)) (visit b (walk types b))) f) s x old end out₀ final)
          λ out₀ laid. subst (λ (m : Paper.Outcome Walked). WalkAs m s x old end out₀ final) (sym kept_is) (w out₀ laid)

      pub kept_refused : {q : Refusal} → r ≡ Err q → (final : List ℤ) → KeepsTo script node old end s (Err q) out final
      kept_refused {q} stops final = each (Err q) final λ out₀ laid. handed_up (further vs after) visited stops

      module _ {x : Reached} (goes : r ≡ Ok x) where
        went : Accepts (λ v to. Came v u to old end out one) branched x
        went = accepts visited goes

        abbrev v : Visited
        v = went.value

        abbrev came : Came v u x old end out one
        came = went.holds

        pub kept_near : AllNear x.changes.values
        kept_near = came.sound.near

        pub kept_standing : Standing script.checked.table.now script.lists.now.lists node old (s.from + 1 + length ws)
        kept_standing = subst (λ (l : List ℕ). Standing script.checked.table.now script.lists.now.lists node old (s.from + 1 + length l)) (sym wide) forked_at.second

        abbrev moves : Paper.Outcome (List ℤ)
        moves = moved_all types vs after x.changes.values

        -- what is shown of the snapshot that takes its changes is shown of the walk
        behind : (y : Result Reached Refusal) (final : List ℤ)
            → ((out₀ : List ℤ) → out ≡ fork_laid out₀ s.at h.fork → WalkAs (moves >>= λ news. accepted (closed v news)) s y old end out₀ final)
            → KeepsTo script node old end s y out final
        behind y final w = each y final λ out₀ laid. agrees_then (further vs after) went.comes
            (subst (λ (cs : List ℤ). WalkAs (moved_all types vs after cs >>= λ news. accepted (closed v news)) s y old end out₀ final) came.changes (w out₀ laid))

        closes : (news two final out₀ : List ℤ) → moves ≡ accepted news → out ≡ fork_laid out₀ s.at h.fork → two ≡ lay one (s.at + 1 + length vs) news
            → final ≡ set two s.at (at old s.from) → Came (whole (closed v news)) s x old end out₀ final
        closes news two final out₀ is laid moved last =
            let f = h.fork in
            let w = length vs in
            let width : length f.vs ≡ w = ap length forked_at.vs_are in
            let first : length f.before ≡ w
            = moved_long types vs (olds old (s.from + 1) vs) s.changes.values f.before
            (olds_long script.checked.table.now script.lists.now.lists node old (s.from + 1) forked_at.first) forked_at.moved in
            let second : length news ≡ w
            = moved_long types vs after x.changes.values news (olds_long script.checked.table.now script.lists.now.lists node old (s.from + 1 + w) forked_at.second) is in
            let e : s.at + 1 + w ≡ s.at + 1 + length f.before = omega (arith, first) in
            let g' : s.at + 1 + 2 * length f.vs ≡ s.at + 1 + w + length news = omega (arith, second, width) in
            let i' : u.at ≡ s.at + 1 + 2 * length f.vs + length f.test.words = omega (arith, step.at, h.size, width) in
            let words : final ≡ lay out₀ s.at (if_words z f.before news f.test.words v.words)
            = last
            ∙ ap₂ {C = List ℤ} (λ (l : List ℤ) (y : ℤ). set l s.at y)
            (moved ∙ ap (λ (l : List ℤ). lay l (s.at + 1 + w) news) (came.lays ∙ ap (λ (l : List ℤ). lay l u.at v.words) laid))
            (sym forked_at.condition)
            ∙ fork_laid_lem out₀ f.before news f.test.words v.words z s.at (s.at + 1 + w) (s.at + 1 + 2 * length f.vs) u.at e g' i' in
            let leaves : x.left + steps_of v.counts ≡ s.left = omega (arith, came.leaves, step.left) in
            let walks : x.walked ≡ s.walked + v.counts.walked = omega (arith, came.walks, step.walked) in
            let reuses : x.reused ≡ s.reused + v.counts.reused = omega (arith, came.reuses, step.reused) in
            let onward : s.from ≤ x.from = omega (arith, came.onward, step.from) in
            let ends : x.at ≡ s.at + length (if_words z f.before news f.test.words v.words)
            = omega (arith, came.ends, i', g', e, if_long z f.before news f.test.words v.words) in
            record {
              sound = came.sound;
              changes = came.changes;
              leaves = leaves;
              walks = walks;
              reuses = reuses;
              rest = sym (visit_last same (walk types same) u.left u.changes.values (part old u.from end) v went.comes) ∙ came.rest;
              onward = onward;
              ends = ends;
              lays = words;
            }

        module _ (fits : Bool) (two : List ℤ) (moving : MovesTo script.checked.table.now script.lists.now.lists node old (s.from + 1 + length ws) x.changes.values fits one (s.at + 1 + length ws) two) where
          m : MovedAs moves fits one (s.at + 1 + length vs) two
          m = subst (λ (l : List ℕ). MovesTo script.checked.table.now script.lists.now.lists node old (s.from + 1 + length l) x.changes.values fits one (s.at + 1 + length l) two) wide moving

          pub kept_broken : fits ≡ false → (final : List ℤ) → KeepsTo script node old end s (Err (refusal_for broken)) out final
          kept_broken wrong final = behind (Err (refusal_for broken)) final λ out₀ laid. stopped moves out₀ m
            where
              stopped : (o : Paper.Outcome (List ℤ)) (out₀ : List ℤ) → MovedAs o fits one (s.at + 1 + length vs) two
                  → WalkAs (o >>= λ news. accepted (closed v news)) s (Err (refusal_for broken)) old end out₀ final
              stopped (accepted news) out₀ g = absurd (true≢false (sym g.0 ∙ wrong))
              stopped (refused q) out₀ g = neither (ap refusal_for (sym g.1))

          pub kept_answer : fits ≡ true → (final : List ℤ) → final ≡ set two s.at (at old s.from) → KeepsTo script node old end s (Ok x) out final
          kept_answer right final last = behind (Ok x) final λ out₀ laid. ended moves refl out₀ laid m
            where
              ended : (o : Paper.Outcome (List ℤ)) → moves ≡ o → (out₀ : List ℤ) → out ≡ fork_laid out₀ s.at h.fork
                  → MovedAs o fits one (s.at + 1 + length vs) two → WalkAs (o >>= λ news. accepted (closed v news)) s (Ok x) old end out₀ final
              ended (refused q) is out₀ laid g = absurd (true≢false (sym right ∙ g.0))
              ended (accepted news) is out₀ laid g = both (closes news two final out₀ is laid g.1 last)
