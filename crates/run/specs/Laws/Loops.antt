-- Repeats: the count, a snapshot and the iterations; words laid at places that do not overlap may be laid in any order.
-- Assumes nothing.
use Rattle.std.specs.Prelude.{◌≡◌, ℕ, ◌+◌, ◌*◌, ◌≤◌, ◌<◌, ℤ, Result, Ok, Err}
use Rattle.std.proofs.Common.{sym, ◌∙◌, arith, add-one, length-append}
use Rattle.std.proofs.Math.Path.{ap, ap₂, subst}
use Rattle.std.proofs.Math.Option.{Option, some}
use mathlib.Core.List.{List, ◌++◌}
use Rattle.std.proofs.Math.ListN.{length, set}
use Rattle.std.specs.Int.Signed.{mag}
use mir.Syntax.{w64}
use mir.Val.{to_z, of_z}
use Rattle.numbers.specs.Lay.{lay, lay_append, set_lay}
use Rattle.rules.specs.Outcome.{accepted, ◌>>=◌}
use Rattle.rules.specs.Outcome as Paper
use Rattle.rules.specs.Value.{Ty, snapshot}
use Rattle.rules.specs.Tree.{Expression, Statement, mentions}
use Rattle.rules.specs.Table.{Node, Kind, Part, expression, statement}
use Rattle.rules.specs.Run.{Valued, Done, evaluate, times, iterate, repeat_words, run}
use Rattle.rules.proofs.Laws.Mentions.{◌⊆◌, repeat_body}
use Rattle.rules.proofs.Laws.Store.{length_snapshot}
use Rattle.rules.proofs.Laws.Parts.{statement_of, node_at, part_at, child_at}
use Rattle.rules.proofs.Laws.Size.{weight, Small}
use Rattle.rules.proofs.Laws.Inside.{inside}
use Rattle.table.specs.Agrees.{both, neither, Accepts, accepts, handed_up}
use Rattle.table.specs.Lists.{list_at}
use Rattle.table.specs.Sorts.{node_of}
use Rattle.table.specs.declared.answer.Refusal.{Refusal}
use Rattle.table.specs.declared.node.Node.{Node as Read}
use Rattle.table.specs.declared.script.Script.{Script}
use Rattle.run.specs.declared.statement.Ran.{Ran}
use Rattle.run.specs.Code.{farthest, ValuedAs, Evaluable, EvaluatesTo}
use Rattle.run.specs.Words.{Listed}
use Rattle.run.specs.Statement.{RanAs, PartsTo, RepeatsTo, Known, Enterable, Repeatable}
use Rattle.run.specs.Laws.Numbers.{word_back}
use Rattle.run.specs.Laws.Statements.{built, for_parts, list_is, listed_at, child_evaluable, record_short}
use Rattle.run.specs.Laws.Sequences.{child_known}

-- ---- the words of a repeat, whatever the order they are laid in

pub repeat_laid : (out before test turns : List ℤ) (z : ℤ) (at second third : ℕ) → second ≡ at + 1 + length before → third ≡ second + length test
    → lay (set (lay (lay out (at + 1) before) second test) at z) third turns ≡ lay out at (repeat_words z before test turns)
unfolding repeat_words lay
repeat_laid out before test turns z at second third e f =
    ap (λ (l : List ℤ). lay l third turns) (set_lay (lay out (at + 1) before) at second z test (omega arith))
    ∙ ap (λ (l : List ℤ). lay (lay l second test) third turns) (set_lay out at (at + 1) z before (omega arith))
    ∙ ap (λ (i : ℕ). lay (lay (lay (set out at z) (at + 1) before) second test) i turns) f
    ∙ sym (lay_append (lay (set out at z) (at + 1) before) second test turns)
    ∙ ap (λ (i : ℕ). lay (lay (set out at z) (at + 1) before) i (test ++ turns)) e
    ∙ sym (lay_append (set out at z) (at + 1) before (test ++ turns))
    ∙ ap (λ (i : ℕ). lay (set out at z) i (before ++ (test ++ turns))) (add-one at)

pub repeat_long : (z : ℤ) (before test turns : List ℤ) → length (repeat_words z before test turns) ≡ 1 + length before + length test + length turns
unfolding repeat_words
repeat_long z before test turns = omega (arith, length-append before (test ++ turns), length-append test turns)

-- the iterations' answer, and the words round it
repeat_answer : (vs : List ℕ) (x : Valued) {m : Paper.Outcome Done} {r : Result Ran Refusal} (values out final : List ℤ) (left at second third : ℕ)
    → second ≡ at + 1 + length vs → third ≡ second + length x.words
    → RanAs m r (set (lay (lay out (at + 1) (snapshot vs values)) second x.words) at x.value) left third final
    → RanAs (m >>= λ d. accepted (record { store = d.store; steps = d.steps; words = repeat_words x.value (snapshot vs values) x.words d.words })) r out left at final
repeat_answer vs x values out final left at second third e f (neither h) = neither h
repeat_answer vs x values out final left at second third e f (both {a = d} {b = r} h) =
    let b : length (snapshot vs values) ≡ length vs = length_snapshot vs values in
    let e' : second ≡ at + 1 + length (snapshot vs values) = omega arith in
    let ends : r.at ≡ at + length (repeat_words x.value (snapshot vs values) x.words d.words)
    = omega (arith, h.ends, repeat_long x.value (snapshot vs values) x.words d.words) in
    both (record {
      stores = h.stores;
      leaves = h.leaves;
      ends = ends;
      lays = h.lays ∙ repeat_laid out (snapshot vs values) x.words d.words x.value at second third e' f;
    })

-- ---- the whole of a repeat

pub record AsRepeat (bytes : List ℕ) (node : ℕ) (tree : Statement) : Type 0 where
  pub e : Expression
  pub s : Statement
  pub is : tree ≡ Statement.repeat node e s
  pub counted : ((node_at bytes node).a < node) × (part_at bytes (node_at bytes node).a ≡ some (expression Ty.number e))
  pub bodied : ((node_at bytes node).b < node) × (part_at bytes (node_at bytes node).b ≡ some (statement s))

module _ {script : Script} {node : ℕ} {values : List ℤ} {left at : ℕ} (h : Enterable script node values left at 20) where
  abbrev bytes : List ℕ
  bytes = script.checked.table.now

  abbrev list : List ℕ
  list = list_at script.lists.now.lists node

  abbrev k : Known script node values
  k = h.inner.known

  pub as_repeat : AsRepeat bytes node h.inner.known.tree
  as_repeat =
      let p = built k Kind.repeat h.kinded in
      record {
        e = p.0;
        s = p.1;
        is = statement_of p.2;
        counted = child_at bytes script.checked.accepted.0 script.checked.accepted.1 node (node_at bytes node).a (expression Ty.number p.0) p.3;
        bodied = child_at bytes script.checked.accepted.0 script.checked.accepted.1 node (node_at bytes node).b (statement p.1) p.4;
      }

  pub repeat_small : Small (Statement.repeat node as_repeat.e as_repeat.s)
  repeat_small = subst Small as_repeat.is k.small

  pub repeat_variables : list ≡ mentions (Statement.repeat node as_repeat.e as_repeat.s)
  repeat_variables = list_is k ∙ ap mentions as_repeat.is

  pub loop_listed : Listed script.lists.now.lists node (at + 1)
  loop_listed = listed_at k (at + 1) (omega (arith, h.inner.near))

  -- behind the snapshot, at the node that was read
  module _ {second : ℕ} (s : second ≡ at + 1 + length list) (x : Read) (read : node_of x ≡ node_at bytes node) where
    count_here : part_at bytes x.a ≡ some (expression Ty.number as_repeat.e)
    count_here = ap (λ (n : Node). part_at bytes n.a) read ∙ as_repeat.counted.1

    pub count_evaluable : Evaluable script.checked x.a values second
    count_evaluable =
        let near : second + 33_554_432 ≤ farthest = omega (arith, h.inner.near, ap length repeat_variables, repeat_small.1) in
        child_evaluable k count_here repeat_small.0 near

    body_is : x.b ≡ (node_at bytes node).b
    body_is = ap (λ (n : Node). n.b) read

    body_here : part_at bytes x.b ≡ some (statement as_repeat.s)
    body_here = ap (part_at bytes) body_is ∙ as_repeat.bodied.1

    pub body_below : x.b < node
    body_below = subst (λ (i : ℕ). i < node) (sym body_is) as_repeat.bodied.0

    module _ {a : Result (ℤ × ℕ) Refusal} {one two : List ℤ} (answer : EvaluatesTo script.checked x.a values a one second two) where
      pub count_refused : {q : Refusal} → a ≡ Err q → (out final : List ℤ) → PartsTo script node values left (Err q) out at final
      unfolding inside
      count_refused {q} e out final = for_parts k as_repeat.is left (Err q) out at final (handed_up _ (answer Ty.number as_repeat.e count_here) e)

      module _ {p : ℤ × ℕ} (answered : a ≡ Ok p) where
        -- the count's value
        got : Accepts (ValuedAs one second two) (evaluate as_repeat.e values) p
        got = accepts (answer Ty.number as_repeat.e count_here) answered

        pub loop_repeatable : Repeatable script node x.b values left p.1
        loop_repeatable =
            let words : length got.value.words < 33_554_432 = record_short values as_repeat.e repeat_small.0 got.value got.comes in
            let near : p.1 + weight * left ≤ farthest = omega (arith, h.inner.near, ap length repeat_variables, repeat_small.1, got.holds.ends) in
            let within : mentions as_repeat.s ⊆ mentions k.tree
            = subst (λ (s : Statement). mentions as_repeat.s ⊆ mentions s) (sym as_repeat.is) (repeat_body node as_repeat.e as_repeat.s) in
            record { known = k; bodied = child_known body_here repeat_small.2 k.fine; within = within; near = near }

        -- the count was handed on as a word
        pub loop_answer : mag p.0 < 9_223_372_036_854_775_808 → (out three : List ℤ) → one ≡ lay out (at + 1) (snapshot list values)
            → three ≡ set two at (to_z w64 (of_z w64 p.0))
            → {count : ℕ} → count ≡ times (to_z w64 (of_z w64 p.0)) → (r : Result Ran Refusal) (final : List ℤ)
            → RepeatsTo script node x.b count values left r three p.1 final
            → PartsTo script node values left r out at final
        unfolding inside
        loop_answer fits out three b c counts r final turns =
            let vs = mentions (Statement.repeat node as_repeat.e as_repeat.s) in
            let v = got.value in
            let value : to_z w64 (of_z w64 p.0) ≡ v.value = word_back p.0 fits ∙ got.holds.value in
            let words : three ≡ set (lay (lay out (at + 1) (snapshot vs values)) second v.words) at v.value
            = c ∙ ap₂ {C = List ℤ} (λ (l : List ℤ) (w : ℤ). set l at w)
            (got.holds.lays ∙ ap (λ (l : List ℤ). lay l second v.words) (b ∙ ap (λ (ws : List ℕ). lay out (at + 1) (snapshot ws values)) repeat_variables)) value in
            let turns' : RanAs (iterate (run as_repeat.s) vs (times v.value) left values) r (set (lay (lay out (at + 1) (snapshot vs values)) second v.words) at v.value) left p.1 final
            = subst (λ (l : List ℤ). RanAs (iterate (run as_repeat.s) vs (times v.value) left values) r l left p.1 final) words
            (subst (λ (n : ℕ). RanAs (iterate (run as_repeat.s) vs n left values) r three left p.1 final) (counts ∙ ap times value)
            (turns (Statement.repeat node as_repeat.e as_repeat.s) as_repeat.s (k.here ∙ ap {B = Option Part} (λ (s : Statement). some (statement s)) as_repeat.is) body_here)) in
            let second' : second ≡ at + 1 + length vs = s ∙ ap (λ (ws : List ℕ). at + 1 + length ws) repeat_variables in
            for_parts k as_repeat.is left r out at final
            (rw got.comes (repeat_answer vs v values out final left at second p.1 second' got.holds.ends turns'))
