-- `pieces::entry::meet` meets its contract: each word is read back as it was written, so each test is the definition's.
-- Assumes nothing.
use mathlib.Core.Path.{◌≡◌, refl, sym, ap, ◌∙◌}
use Prim.Native.Nat.{ℕ, ◌+◌, ◌-◌}
use native.Mathlib.Omega.{arith}
use lib.IntN.{ℤ, pos, nat_abs}
use mir.Syntax.{w64}
use mir.Val.{to_z, of_z}
use mir.ValLaws.{to_z-of_z, to_z_pos}
use borrow.Author.Rules.{rules}
use Rattle.std.specs.Prelude.{Option, None, Some, Result, Ok, Err, ok_or}
use Rattle.std.specs.Result.{result_ok}
use Rattle.rules.specs.Value.{at}
use Rattle.table.specs.declared.answer.Refusal.{Refusal}
use Rattle.run.specs.Call.{limited}
use Rattle.run.specs.Laws.Statements.{refusal_up}
use Rattle.pieces.specs.Laws.Entry.{InSize, in_size, under_three, other_node, too_small, too_long, not_last, outside_limits, entry_met}
use Rattle.pieces.specs.Laws.Changes.{kept}
use Rattle.pieces.proofs.entry.meet.Goals as goal
use Rattle.pieces.proofs.entry.meet.Goals.{Else-size-end, After-read_limit}

-- the size that is read, and what it is where both its tests pass
size_back : (c : Else-size-end) → kept (at c.args.old.now (c.args.from + 1)) ≡ at c.args.old.now (c.args.from + 1)
size_back c = to_z-of_z w64 _ (search rules)

sized : (c : Else-size-end) → InSize (at c.args.old.now (c.args.from + 1)) (c.args.end - c.args.from)
sized c =
    let left_back : to_z w64 (c.args.end - c.args.from) ≡ pos (c.args.end - c.args.from) = to_z_pos w64 _ (omega (arith, c.well_formed, c.requires.0)) in
    in_size _ _ (size_back c) left_back c.if-size-lt3.false c.if-size-end.false

-- the steps' word, as a limit
limit : (c : After-read_limit) → c.read_limit.result ≡ limited (at c.args.old.now (c.args.from + 2))
limit c = c.read_limit.ensures ∙ ap limited (to_z-of_z w64 _ (search rules))

pub returns-then-end-from-lt3 : goal.returns-then-end-from-lt3
returns-then-end-from-lt3 c = under_three c.args.node c.args.last c.args.old.now c.args.from c.args.end c.requires.0 c.if-end-from-lt3.true

pub returns-then-old-from : goal.returns-then-old-from
returns-then-old-from c =
    let s = c.args in
    other_node s.node s.last s.old.now s.from s.end c.requires.0 c.if-end-from-lt3.false (λ e. c.if-old-from.true (ap (of_z w64) e))

pub returns-then-size-lt3 : goal.returns-then-size-lt3
returns-then-size-lt3 c =
    let s = c.args in
    let size : kept (at s.old.now (s.from + 1)) ≡ at s.old.now (s.from + 1) = to_z-of_z w64 _ (search rules) in
    too_small s.node s.last s.old.now s.from s.end c.requires.0 c.if-end-from-lt3.false size c.if-size-lt3.true

pub returns-then-size-end : goal.returns-then-size-end
returns-then-size-end c =
    let s = c.args in
    let size : kept (at s.old.now (s.from + 1)) ≡ at s.old.now (s.from + 1) = to_z-of_z w64 _ (search rules) in
    let left_back : to_z w64 (s.end - s.from) ≡ pos (s.end - s.from) = to_z_pos w64 _ (omega (arith, c.well_formed, c.requires.0)) in
    too_long s.node s.last s.old.now s.from s.end c.requires.0 c.if-end-from-lt3.false size left_back c.if-size-end.true

pub returns-then-not-ends : goal.returns-then-not-ends
returns-then-not-ends c =
    let s = c.args in
    let w = (goal.at.returns-then-not-ends c).Else-size-end in
    not_last s.node s.last s.old.now s.from s.end c.requires.0 c.if-end-from-lt3.false (sized w)
    (ap (λ (z : ℤ). s.from + nat_abs z) (size_back w)) (sym c.ends.ensures ∙ c.if-not-ends.true)

-- the test of the steps' word, by what it answers
limit_some : (o : Option ℕ) {steps : ℕ} → ok_or o Refusal.Broken ≡ Ok steps → o ≡ Some steps
limit_some None e = ap result_ok e
limit_some (Some n) e = ap result_ok e

abbrev reason : Result ℕ Refusal → Refusal
reason (Ok n) = Refusal.Broken
reason (Err q) = q

limit_none : (o : Option ℕ) {q : Refusal} → ok_or o Refusal.Broken ≡ Err q → (o ≡ None) × (q ≡ Refusal.Broken)
limit_none None e = (refl, sym (ap reason e))
limit_none (Some n) e = (ap result_ok e, sym (ap reason e))

pub returns-in_err-steps : goal.returns-in_err-steps
returns-in_err-steps c =
    let s = c.args in
    let none = limit_none _ (sym c.ok_or.ensures.value ∙ c.in_err-steps.was) in
    rw (refusal_up c.from_residual.ensures.1, none.1)
    (outside_limits s.node s.last s.old.now s.from s.end c.requires.0 c.if-end-from-lt3.false (sized (goal.at.returns-in_err-steps c).Else-size-end)
    (sym (limit (goal.at.returns-in_err-steps c).After-read_limit) ∙ none.0))

pub returns : goal.returns
returns c =
    let s = c.args in
    let w = (goal.at.returns c).Else-size-end in
    let here : at s.old.now s.from ≡ pos s.node
    = sym (to_z-of_z w64 _ (search rules)) ∙ ap (to_z w64) c.if-old-from.false ∙ to_z_pos w64 _ (omega (arith, c.requires)) in
    entry_met s.node s.last s.old.now s.from s.end c.requires.0 c.if-end-from-lt3.false (sized w) here
    (ap (λ (z : ℤ). s.from + nat_abs z) (size_back w)) (sym c.ends.ensures ∙ c.if-not-ends.false)
    (sym (limit (goal.at.returns c).After-read_limit) ∙ limit_some _ (sym c.ok_or.ensures.value ∙ c.in_ok-steps.was))
