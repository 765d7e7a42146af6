-- Ifs: the snapshot before, the condition, and the branch taken, whose snapshot after comes to stand before it; words laid at places that do
-- not overlap may be laid in any order.
-- Assumes nothing.
use Rattle.std.specs.Prelude.{◌≡◌, ℕ, ◌+◌, ◌-◌, ◌*◌, ◌≤◌, ◌<◌, ℤ, Result, Ok, Err}
use Rattle.std.proofs.Common.{sym, ◌∙◌, arith, add-one, length-append}
use Rattle.std.proofs.Math.Path.{ap, ap₂, subst}
use Rattle.std.proofs.Math.Option.{Option, some}
use mathlib.Core.List.{List, ◌++◌}
use Rattle.std.proofs.Math.ListN.{length, set}
use Rattle.std.specs.Int.Signed.{mag}
use mir.Syntax.{w64}
use mir.Val.{to_z, of_z}
use Rattle.numbers.specs.Lay.{lay, lay_append, lay_before, set_lay}
use Rattle.rules.specs.Outcome.{accepted, ◌>>=◌, choose}
use Rattle.rules.specs.Outcome as Paper
use Rattle.rules.specs.Value.{Ty, snapshot}
use Rattle.rules.specs.Tree.{Statement, mentions}
use Rattle.rules.specs.Table.{Node, Part, expression, statement}
use Rattle.rules.specs.Run.{Valued, Done, evaluate, holds, if_words, run}
use Rattle.rules.proofs.Laws.Store.{length_snapshot}
use Rattle.rules.proofs.Laws.Parts.{node_at, part_at}
use Rattle.rules.proofs.Laws.Size.{weight, few_operators}
use Rattle.rules.proofs.Laws.Inside.{inside}
use Rattle.table.specs.Agrees.{both, neither, Accepts, accepts, handed_up}
use Rattle.table.specs.Lists.{list_at}
use Rattle.table.specs.Sorts.{node_of}
use Rattle.table.specs.declared.answer.Refusal.{Refusal}
use Rattle.table.specs.declared.node.Node.{Node as Read}
use Rattle.table.specs.declared.script.Script.{Script}
use Rattle.run.specs.declared.statement.Ran.{Ran}
use Rattle.run.specs.Code.{farthest, ValuedAs, Evaluable, EvaluatesTo}
use Rattle.run.specs.Words.{Listed}
use Rattle.run.specs.Statement.{RanAs, PartsTo, TookAs, TakesTo, Known, Enterable, Takeable}
use Rattle.run.specs.Laws.Numbers.{word_back}
use Rattle.run.specs.Laws.Statements.{for_parts, list_is, listed_at, child_evaluable, record_short}
use Rattle.run.specs.Laws.Taken.{AsIf, as_if, if_small, if_variables, if_narrow}

-- ---- the words of an if, whatever the order they are laid in

pub if_laid : (out before after test branch : List ℤ) (z : ℤ) (at second third fourth : ℕ)
    → second ≡ at + 1 + length before → third ≡ second + length after → fourth ≡ third + length test
    → lay (lay (set (lay (lay out (at + 1) before) third test) at z) fourth branch) second after ≡ lay out at (if_words z before after test branch)
unfolding if_words lay
if_laid out before after test branch z at second third fourth e f g =
    ap (λ (l : List ℤ). lay (lay l fourth branch) second after) (set_lay (lay out (at + 1) before) at third z test (omega arith))
    ∙ ap (λ (l : List ℤ). lay (lay (lay l third test) fourth branch) second after) (set_lay out at (at + 1) z before (omega arith))
    ∙ lay_before (lay (lay (set out at z) (at + 1) before) third test) second fourth after branch (omega arith)
    ∙ ap (λ (l : List ℤ). lay l fourth branch) (lay_before (lay (set out at z) (at + 1) before) second third after test (omega arith))
    ∙ ap (λ (i : ℕ). lay (lay (lay (lay (set out at z) (at + 1) before) second after) third test) i branch) g
    ∙ sym (lay_append (lay (lay (set out at z) (at + 1) before) second after) third test branch)
    ∙ ap (λ (i : ℕ). lay (lay (lay (set out at z) (at + 1) before) second after) i (test ++ branch)) f
    ∙ sym (lay_append (lay (set out at z) (at + 1) before) second after (test ++ branch))
    ∙ ap (λ (i : ℕ). lay (lay (set out at z) (at + 1) before) i (after ++ (test ++ branch))) e
    ∙ sym (lay_append (set out at z) (at + 1) before (after ++ (test ++ branch)))
    ∙ ap (λ (i : ℕ). lay (set out at z) i (before ++ (after ++ (test ++ branch)))) (add-one at)

-- ---- the whole of an if

pub if_long : (z : ℤ) (before after test branch : List ℤ)
    → length (if_words z before after test branch) ≡ 1 + length before + length after + length test + length branch
unfolding if_words
if_long z before after test branch =
    omega (arith, length-append before (after ++ (test ++ branch)), length-append after (test ++ branch), length-append test branch)

-- the branch's answer, and the words round it
if_answer : (vs : List ℕ) (x : Valued) {m : Paper.Outcome Done} {r : Result Ran Refusal} (values out final : List ℤ) (left at second third fourth : ℕ)
    → second ≡ at + 1 + length vs → third ≡ second + length vs → fourth ≡ third + length x.words
    → TookAs vs m r (set (lay (lay out (at + 1) (snapshot vs values)) third x.words) at x.value) left second fourth final
    → RanAs (m >>= λ d. accepted (record { store = d.store; steps = d.steps; words = if_words x.value (snapshot vs values) (snapshot vs d.store) x.words d.words })) r out left at final
if_answer vs x values out final left at second third fourth e f g (neither h) = neither h
if_answer vs x values out final left at second third fourth e f g (both {a = d} {b = r} h) =
    let b : length (snapshot vs values) ≡ length vs = length_snapshot vs values in
    let a : length (snapshot vs d.store) ≡ length vs = length_snapshot vs d.store in
    let e' : second ≡ at + 1 + length (snapshot vs values) = omega arith in
    let f' : third ≡ second + length (snapshot vs d.store) = omega arith in
    let ends : r.at ≡ at + length (if_words x.value (snapshot vs values) (snapshot vs d.store) x.words d.words)
    = omega (arith, h.ends, if_long x.value (snapshot vs values) (snapshot vs d.store) x.words d.words) in
    both (record {
      stores = h.stores;
      leaves = h.leaves;
      ends = ends;
      lays = h.lays ∙ if_laid out (snapshot vs values) (snapshot vs d.store) x.words d.words x.value at second third fourth e' f' g;
    })

module _ {script : Script} {node : ℕ} {values : List ℤ} {left at : ℕ} (h : Enterable script node values left at 19) where
  abbrev bytes : List ℕ
  bytes = script.checked.table.now

  abbrev list : List ℕ
  list = list_at script.lists.now.lists node

  abbrev k : Known script node values
  k = h.inner.known

  abbrev own : AsIf bytes node h.inner.known.tree
  own = as_if k h.kinded

  few : few_operators own.e
  few = (if_small k h.kinded).0

  pub branch_listed : Listed script.lists.now.lists node (at + 1)
  branch_listed = listed_at k (at + 1) (omega (arith, h.inner.near))

  -- behind the snapshot, and as far again behind the room for the snapshot after, at the node that was read
  module _ {second : ℕ} (s : second ≡ at + 1 + length list) (x : Read) (read : node_of x ≡ node_at bytes node) where
    abbrev third : ℕ
    third = second + (second - (at + 1))

    third_is : third ≡ second + length list
    third_is = omega (arith, s)

    test_here : part_at bytes x.a ≡ some (expression Ty.truth own.e)
    test_here = ap (λ (n : Node). part_at bytes n.a) read ∙ own.test.1

    pub test_evaluable : Evaluable script.checked x.a values third
    test_evaluable =
        let near : third + 33_554_432 ≤ farthest = omega (arith, h.inner.near, if_narrow k h.kinded, third_is, s) in
        child_evaluable k test_here few near

    module _ {a : Result (ℤ × ℕ) Refusal} {one two : List ℤ} (answer : EvaluatesTo script.checked x.a values a one third two) where
      pub test_refused : {q : Refusal} → a ≡ Err q → (out final : List ℤ) → PartsTo script node values left (Err q) out at final
      unfolding inside
      test_refused {q} e out final = for_parts k own.is left (Err q) out at final (handed_up _ (answer Ty.truth own.e test_here) e)

      module _ {p : ℤ × ℕ} (answered : a ≡ Ok p) where
        -- the condition's value
        got : Accepts (ValuedAs one third two) (evaluate own.e values) p
        got = accepts (answer Ty.truth own.e test_here) answered

        pub branch_takeable : Takeable script node values left second p.1
        branch_takeable =
            let words : length got.value.words < 33_554_432 = record_short values own.e few got.value got.comes in
            let near : p.1 + weight * left ≤ farthest = omega (arith, h.inner.near, if_narrow k h.kinded, got.holds.ends, third_is, s) in
            let place : second + length (mentions k.tree) ≤ p.1 = omega (arith, got.holds.ends, ap length (list_is k), third_is) in
            record { known = k; kinded = h.kinded; near = near; place = place }

        -- the condition and the branch were handed on as words
        pub branch_answer : mag p.0 < 9_223_372_036_854_775_808 → (out three : List ℤ) → one ≡ lay out (at + 1) (snapshot list values)
            → three ≡ set two at (to_z w64 (of_z w64 p.0))
            → (r : Result Ran Refusal) (final : List ℤ) → TakesTo script node (to_z w64 (of_z w64 p.0)) values left r three second p.1 final
            → PartsTo script node values left r out at final
        unfolding inside
        branch_answer fits out three b c r final took =
            let vs = mentions (Statement.if node own.e own.s own.t) in
            let v = got.value in
            let same : list ≡ vs = if_variables k h.kinded in
            let value : to_z w64 (of_z w64 p.0) ≡ v.value = word_back p.0 fits ∙ got.holds.value in
            let words : three ≡ set (lay (lay out (at + 1) (snapshot vs values)) third v.words) at v.value
            = c ∙ ap₂ {C = List ℤ} (λ (l : List ℤ) (w : ℤ). set l at w)
            (got.holds.lays ∙ ap (λ (l : List ℤ). lay l third v.words) (b ∙ ap (λ (ws : List ℕ). lay out (at + 1) (snapshot ws values)) same)) value in
            let run_of : TookAs vs (choose (holds v.value) (run own.s) (run own.t) left values) r (set (lay (lay out (at + 1) (snapshot vs values)) third v.words) at v.value) left second p.1 final
            = subst (λ (l : List ℤ). TookAs vs (choose (holds v.value) (run own.s) (run own.t) left values) r l left second p.1 final) words
            (subst (λ (w : ℤ). TookAs vs (choose (holds w) (run own.s) (run own.t) left values) r three left second p.1 final) value
            (took node own.e own.s own.t (k.here ∙ ap {B = Option Part} (λ (s : Statement). some (statement s)) own.is))) in
            let second' : second ≡ at + 1 + length vs = s ∙ ap (λ (ws : List ℕ). at + 1 + length ws) same in
            let third' : third ≡ second + length vs = third_is ∙ ap (λ (ws : List ℕ). second + length ws) same in
            for_parts k own.is left r out at final
            (rw got.comes (if_answer vs v values out final left at second third p.1 second' third' got.holds.ends run_of))
