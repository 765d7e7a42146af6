-- The proof of the cycle of calls round `visit`: each answer is a law of `Visits`, `Pays`, `Kinded`, `Sequences`, `Ifs`, `Branches`,
-- `Looped`, `Repeats`, `Iterations` or `Loops`, at what the calls before it gave.
-- Assumes nothing.
use mathlib.Core.Path.{◌≡◌, sym, ap, ◌∙◌}
use Prim.Native.Nat.{ℕ}
use native.Mathlib.Omega.{arith}
use lib.ListN.{set}
use mir.Syntax.{w64}
use mir.Val.{to_z, of_z}
use mir.ValLaws.{to_z-of_z}
use borrow.Author.Rules.{rules}
use Rattle.rules.specs.Table.{Node}
use Rattle.rules.specs.Run.{times as count_of, holds}
use Rattle.run.specs.Laws.Numbers.{word_back}
use Rattle.run.specs.Laws.Statements.{refusal_up}
use Rattle.run.specs.Laws.Taken.{taken_node}
use Rattle.pieces.specs.Laws.Snapshot.{named_row}
use Rattle.patch.proofs.Nodes.{named_of, inside}
use Rattle.patch.proofs.Kinded.{no_other_kind}
use Rattle.patch.proofs.Visits.{visit_broken, visit_skipped, visit_payable, visit_paid}
use Rattle.patch.proofs.Pays.{pay_dry, pay_inner, pay_refused, pay_place, pay_left, pay_openable, pay_answer}
use Rattle.patch.proofs.Sequences.{first_visitable, first_below, first_refused, second_visitable, second_below, sequence_answer}
use Rattle.patch.proofs.Ifs.{branch_refused, branch_forked, branch_near, branch_kept, branch_flipped}
use Rattle.patch.proofs.Branches.{forked_at, fork_fits, fork_near, branch_is, branch_below, kept_visitable, kept_refused, kept_near, kept_standing, kept_broken, kept_answer}
use Rattle.patch.proofs.Looped.{looped_refused, looped_counted, looped_answer}
use Rattle.patch.proofs.Counted.{counted_at, body_below}
use Rattle.patch.proofs.Repeats.{count_fits, count_near, was_is, next_is, turns_turnable, iterate_refused, iterate_behind, iterate_endable, iterate_answer}
use Rattle.patch.proofs.Iterations.{so_far_none, turns_all, again_turnable, again_refused, again_done}
use Rattle.patch.proofs.Loops.{turn_refused, turn_sound, turn_answer}
use Rattle.patch.proofs.statement.+visits.Goals as goal
use Rattle.patch.proofs.statement.+visits.Goals.{branch-In_ok-change, iterate-After-min-stay, kept-After-taken-same}

-- `branch` in the cycle: the head of the if, and then the branch, kept or flipped.

-- the condition's change is passed as it is
branch_back : (t : ℕ) (c : branch-In_ok-change t) → to_z w64 (of_z w64 c.in_ok-change.change) ≡ c.in_ok-change.change
branch_back t c = word_back c.in_ok-change.change (omega arith)

pub branch-returns-in_err-change : goal.branch-returns-in_err-change
branch-returns-in_err-change t c = rw (refusal_up c.from_residual.ensures.1) (branch_refused c.requires c.fork.ensures c.in_err-change.was _)

pub branch-kept-requires : goal.branch-kept-requires
branch-kept-requires t c = (omega (arith, c.decreases), branch_forked c.requires c.fork.ensures c.in_ok-change.was)

pub branch-returns-then-change-eq0 : goal.branch-returns-then-change-eq0
branch-returns-then-change-eq0 t c =
    branch_kept c.requires c.fork.ensures c.in_ok-change.was
    (sym (branch_back t (goal.at.branch-returns-then-change-eq0 t c).In_ok-change) ∙ ap (to_z w64) c.if-change-eq0.true) c.kept.result _ c.kept.ensures

pub branch-flipped-requires : goal.branch-flipped-requires
branch-flipped-requires t c = (
  branch_forked c.requires c.fork.ensures c.in_ok-change.was,
  branch_near c.requires c.fork.ensures c.in_ok-change.was (branch_back t (goal.at.branch-flipped-requires t c).In_ok-change),
)

pub branch-returns : goal.branch-returns
branch-returns t c =
    branch_flipped c.requires c.fork.ensures c.in_ok-change.was
    (λ e. c.if-change-eq0.false (ap (of_z w64) e)) (branch_back t (goal.at.branch-returns t c).In_ok-change)
    c.flipped.result _ c.flipped.ensures

-- `iterate` in the cycle: the iterations that stay are patched, the count is set in front, and the rest follow.

-- the old count and the new one
iterate_counts : (t : ℕ) (c : iterate-After-min-stay t) → (c.times-was.result ≡ count_of c.requires.count.head.word)
    × (c.times-next.result ≡ count_of c.requires.count.count.change)
iterate_counts t c = (
  was_is c.requires (to_z-of_z w64 _ (search rules)) c.times-was.ensures,
  next_is c.requires (to_z-of_z w64 _ c.ranges.new) c.times-next.ensures,
)

pub iterate-node-body-requires : goal.iterate-node-body-requires
iterate-node-body-requires t c = inside c.requires.entered.known

pub iterate-mentions-w-requires : goal.iterate-mentions-w-requires
iterate-mentions-w-requires t c = inside c.requires.entered.known

pub iterate-bounds-old-from : goal.iterate-bounds-old-from
iterate-bounds-old-from t c = omega (arith, (counted_at c.requires).below.ordered, (counted_at c.requires).below.ends)

pub iterate-overflow_add-w-2 : goal.iterate-overflow_add-w-2
iterate-overflow_add-w-2 t c = omega (arith, count_fits c.requires c.mentions-w.ensures)

pub iterate-advanced-behind-requires : goal.iterate-advanced-behind-requires
iterate-advanced-behind-requires t c = (omega (arith, count_fits c.requires c.mentions-w.ensures), count_near c.requires c.mentions-w.ensures)

pub iterate-turns-requires : goal.iterate-turns-requires
iterate-turns-requires t c =
    (omega (arith, c.decreases, body_below c.requires (ap (λ (n : Node). n.b) c.node-body.ensures)), turns_turnable c.requires c.mentions-w.ensures c.advanced-behind.ensures c.node-body.ensures)

pub iterate-returns-in_err-gone : goal.iterate-returns-in_err-gone
iterate-returns-in_err-gone t c =
    let counts = iterate_counts t (goal.at.iterate-returns-in_err-gone t c).After-min-stay in
    rw (refusal_up c.from_residual.ensures.1)
    (iterate_refused c.requires c.mentions-w.ensures c.advanced-behind.ensures c.node-body.ensures counts.0 counts.1
    c.min-stay.ensures c.turns.ensures c.in_err-gone.was _)

pub iterate-last_of-last-requires : goal.iterate-last_of-last-requires
iterate-last_of-last-requires t c =
    let counts = iterate_counts t (goal.at.iterate-last_of-last-requires t c).After-min-stay in
    λ some. iterate_behind c.requires c.mentions-w.ensures c.advanced-behind.ensures c.node-body.ensures counts.0 counts.1
    c.min-stay.ensures c.turns.ensures c.in_ok-gone.was

pub iterate-ended-requires : goal.iterate-ended-requires
iterate-ended-requires t c =
    let counts = iterate_counts t (goal.at.iterate-ended-requires t c).After-min-stay in
    iterate_endable c.requires c.mentions-w.ensures c.advanced-behind.ensures c.node-body.ensures counts.0 counts.1
    c.min-stay.ensures c.turns.ensures c.in_ok-gone.was c.last_of-last.ensures

pub iterate-returns : goal.iterate-returns
iterate-returns t c =
    let counts = iterate_counts t (goal.at.iterate-returns t c).After-min-stay in
    iterate_answer c.requires c.mentions-w.ensures c.advanced-behind.ensures c.node-body.ensures counts.0 counts.1
    c.min-stay.ensures c.turns.ensures c.in_ok-gone.was c.last_of-last.ensures
    c.ended.result _ _ (c.put.ensures ∙ ap (set c.turns.new.out c.args.reached.at) (to_z-of_z w64 _ c.ranges.new)) c.ended.ensures

-- `kept` in the cycle: the branch that the condition takes is visited, and the snapshot after it takes its changes.

-- the branch that is taken
kept_same : (t : ℕ) (c : kept-After-taken-same t) → c.taken-same.result ≡ taken_node c.args.script.now.checked.table.now c.args.node (holds c.requires.fork.condition)
kept_same t c = branch_is c.requires c.node-top.ensures (to_z-of_z w64 _ (search rules)) c.taken-same.ensures

pub kept-bounds-old-from : goal.kept-bounds-old-from
kept-bounds-old-from t c = omega (arith, (forked_at c.requires).below.ordered, (forked_at c.requires).below.ends)

pub kept-mentions-w-requires : goal.kept-mentions-w-requires
kept-mentions-w-requires t c = inside c.requires.entered.known

pub kept-node-top-requires : goal.kept-node-top-requires
kept-node-top-requires t c = inside c.requires.entered.known

pub kept-overflow_add-w-2 : goal.kept-overflow_add-w-2
kept-overflow_add-w-2 t c = omega (arith, fork_fits c.requires c.mentions-w.ensures)

pub kept-advanced-behind-requires : goal.kept-advanced-behind-requires
kept-advanced-behind-requires t c = (omega (arith, fork_fits c.requires c.mentions-w.ensures), fork_near c.requires c.mentions-w.ensures)

pub kept-visit-requires : goal.kept-visit-requires
kept-visit-requires t c =
    let same = kept_same t (goal.at.kept-visit-requires t c).After-taken-same in
    (omega (arith, c.decreases, branch_below c.requires (holds c.requires.fork.condition), same), kept_visitable c.requires c.mentions-w.ensures c.advanced-behind.ensures same)

pub kept-returns-in_err-gone : goal.kept-returns-in_err-gone
kept-returns-in_err-gone t c =
    rw (refusal_up c.from_residual.ensures.1)
    (kept_refused c.requires c.mentions-w.ensures c.advanced-behind.ensures (kept_same t (goal.at.kept-returns-in_err-gone t c).After-taken-same)
    c.visit.ensures c.in_err-gone.was _)

pub kept-move_snapshot-requires : goal.kept-move_snapshot-requires
kept-move_snapshot-requires t c =
    let same = kept_same t (goal.at.kept-move_snapshot-requires t c).After-taken-same in (
      kept_standing c.requires c.mentions-w.ensures c.advanced-behind.ensures same c.visit.ensures c.in_ok-gone.was,
      (
        kept_near c.requires c.mentions-w.ensures c.advanced-behind.ensures same c.visit.ensures c.in_ok-gone.was,
        omega (arith, fork_near c.requires c.mentions-w.ensures),
      ),
    )

pub kept-returns-then-not-move_snapshot : goal.kept-returns-then-not-move_snapshot
kept-returns-then-not-move_snapshot t c =
    kept_broken c.requires c.mentions-w.ensures c.advanced-behind.ensures (kept_same t (goal.at.kept-returns-then-not-move_snapshot t c).After-taken-same)
    c.visit.ensures c.in_ok-gone.was _ _ c.move_snapshot.ensures c.if-not-move_snapshot.true _

pub kept-returns : goal.kept-returns
kept-returns t c =
    kept_answer c.requires c.mentions-w.ensures c.advanced-behind.ensures (kept_same t (goal.at.kept-returns t c).After-taken-same)
    c.visit.ensures c.in_ok-gone.was _ _ c.move_snapshot.ensures c.if-not-move_snapshot.false _
    (c.put.ensures ∙ ap (set c.move_snapshot.new.out c.args.reached.at) (to_z-of_z w64 _ (search rules)))

-- `looped` in the cycle: the head of the repeat, and then its iterations.

pub looped-returns-in_err-new : goal.looped-returns-in_err-new
looped-returns-in_err-new t c = rw (refusal_up c.from_residual.ensures.1) (looped_refused c.requires c.count.ensures c.in_err-new.was _)

pub looped-iterate-requires : goal.looped-iterate-requires
looped-iterate-requires t c =
    let back : to_z w64 (of_z w64 c.in_ok-new.new) ≡ c.in_ok-new.new = word_back c.in_ok-new.new (omega arith) in
    (omega (arith, c.decreases), looped_counted c.requires c.count.ensures c.in_ok-new.was back)

pub looped-returns : goal.looped-returns
looped-returns t c =
    let back : to_z w64 (of_z w64 c.in_ok-new.new) ≡ c.in_ok-new.new = word_back c.in_ok-new.new (omega arith) in
    looped_answer c.requires c.count.ensures c.in_ok-new.was back c.iterate.result _ c.iterate.ensures

-- `parts` in the cycle: the function of the entry's kind is called, and its answer handed on.

pub parts-node-requires : goal.parts-node-requires
parts-node-requires t c = inside c.requires.known

pub parts-unreachable-requires : goal.parts-unreachable-requires
parts-unreachable-requires t c =
    no_other_kind c.requires c.node.result c.node.ensures c.in_default.not-Assign c.in_default.not-Sequence c.in_default.not-If c.in_default.not-Repeat

-- `pay` in the cycle: a step, the parts, and then the opening words in front of them.

pub pay-returns-then-left-eq0 : goal.pay-returns-then-left-eq0
pay-returns-then-left-eq0 t c = pay_dry c.requires c.if-left-eq0.true c.args.out.now c.args.out.now

pub pay-parts-requires : goal.pay-parts-requires
pay-parts-requires t c = (omega (arith, c.decreases), pay_inner c.requires c.stepped.ensures)

pub pay-returns-in_err-gone : goal.pay-returns-in_err-gone
pay-returns-in_err-gone t c = rw (refusal_up c.from_residual.ensures.1) (pay_refused c.requires c.stepped.ensures c.parts.ensures c.in_err-gone.was _)

pub pay-overflow_sub-gone : goal.pay-overflow_sub-gone
pay-overflow_sub-gone t c = omega (arith, pay_place c.requires c.stepped.ensures c.parts.ensures c.in_ok-gone.was)

pub pay-overflow_sub-left : goal.pay-overflow_sub-left
pay-overflow_sub-left t c = pay_left c.requires c.stepped.ensures c.parts.ensures c.in_ok-gone.was

pub pay-open-requires : goal.pay-open-requires
pay-open-requires t c = pay_openable c.requires c.stepped.ensures c.parts.ensures c.in_ok-gone.was

pub pay-returns : goal.pay-returns
pay-returns t c = pay_answer c.requires c.stepped.ensures c.parts.ensures c.in_ok-gone.was _ c.«open».ensures

-- `sequence` in the cycle: the first entry, and the second from where the first ended.

pub sequence-node-top-requires : goal.sequence-node-top-requires
sequence-node-top-requires t c = inside c.requires.known

pub sequence-visit-requires : goal.sequence-visit-requires
sequence-visit-requires t c =
    (omega (arith, c.decreases, first_below c.requires c.node-top.ensures), first_visitable c.requires c.node-top.ensures)

pub sequence-returns-in_err-first : goal.sequence-returns-in_err-first
sequence-returns-in_err-first t c =
    rw (refusal_up c.from_residual.ensures.1) (first_refused c.requires c.node-top.ensures c.visit.ensures c.in_err-first.was _)

pub sequence-visit-requires-2 : goal.sequence-visit-requires-2
sequence-visit-requires-2 t c = (
  omega (arith, c.decreases, second_below c.requires c.node-top.ensures),
  second_visitable c.requires c.node-top.ensures c.visit.ensures c.in_ok-first.was,
)

pub sequence-returns : goal.sequence-returns
sequence-returns t c =
    sequence_answer c.requires c.node-top.ensures c.visit.ensures c.in_ok-first.was c.visit-2.result _ c.visit-2.ensures

-- `turn` in the cycle: the body is visited, and the snapshot behind it takes its changes.

pub turn-returns-in_err-gone : goal.turn-returns-in_err-gone
turn-returns-in_err-gone t c = rw (refusal_up c.from_residual.ensures.1) (turn_refused c.requires c.visit.ensures c.in_err-gone.was _)

pub turn-snapped-requires : goal.turn-snapped-requires
turn-snapped-requires t c = record { named = named_of c.requires.known; sound = turn_sound c.requires c.visit.ensures c.in_ok-gone.was }

pub turn-returns : goal.turn-returns
turn-returns t c = turn_answer c.requires c.visit.ensures c.in_ok-gone.was c.snapped.result _ c.snapped.ensures

-- `turns` in the cycle. The loop's invariant: so many iterations have come to this.

pub turns-loop-init : goal.turns-loop-init
turns-loop-init t c h = so_far_none h c.args.count c.args.out.now

pub turns-turn-requires : goal.turns-turn-requires
turns-turn-requires t c = (omega (arith, c.decreases), again_turnable c.requires c.args.count _ (c.loop.invariant c.requires))

pub turns-returns-in_err-so_far : goal.turns-returns-in_err-so_far
turns-returns-in_err-so_far t c =
    rw (refusal_up c.from_residual.ensures.1)
    (again_refused c.requires c.args.count _ (c.loop.invariant c.requires) c.loop-test.true c.turn.ensures c.in_err-so_far.was _)

pub turns-loop-preserved : goal.turns-loop-preserved
turns-loop-preserved t c h = again_done h c.args.count _ (c.loop.invariant h) c.loop-test.true c.turn.ensures c.in_ok-so_far.was

pub turns-returns : goal.turns-returns
turns-returns t c = turns_all c.requires c.args.count _ (c.loop.invariant c.requires) (omega (arith, c.loop-test.false, c.loop.auto.counter-end))

-- `visit` in the cycle: the entry is met, and then skipped, or paid for and walked.

pub visit-returns-in_err-met : goal.visit-returns-in_err-met
visit-returns-in_err-met t c = rw (refusal_up c.from_residual.ensures.1) (visit_broken c.args.last c.requires c.meet.ensures.0 c.in_err-met.was _ _)

pub visit-unchanged-requires : goal.visit-unchanged-requires
visit-unchanged-requires t c = named_row (named_of c.requires.known)

pub visit-returns-then-unchanged : goal.visit-returns-then-unchanged
visit-returns-then-unchanged t c =
    visit_skipped c.args.last c.requires c.meet.ensures.0 c.in_ok-met.was c.unchanged.ensures c.skip.result _ _ c.if-unchanged.true c.skip.ensures

pub visit-pay-requires : goal.visit-pay-requires
visit-pay-requires t c =
    (omega (arith, c.decreases), visit_payable c.args.last c.requires c.meet.ensures.0 c.in_ok-met.was c.unchanged.ensures c.if-unchanged.false)

pub visit-returns : goal.visit-returns
visit-returns t c =
    visit_paid c.args.last c.requires c.meet.ensures.0 c.in_ok-met.was c.unchanged.ensures c.pay.result _ _ c.if-unchanged.false c.pay.ensures
