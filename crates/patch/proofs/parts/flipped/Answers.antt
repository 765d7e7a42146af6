-- `patch::parts::flipped` meets its contract: the store that starts the other branch is the new snapshot before it, and what its run leaves,
-- with the snapshot after and the turned condition, is the definition's. Assumes nothing.
use Prim.Native.Nat.{◌+◌, ◌*◌, ◌≤◌}
use native.Mathlib.Omega.{arith}
use lib.ListN.{length}
use Rattle.run.specs.Code.{farthest}
use Rattle.run.specs.Laws.Statements.{refusal_up, listed_at}
use Rattle.patch.proofs.Nodes.{inside}
use Rattle.patch.proofs.Branches.{forked_at}
use Rattle.patch.proofs.Flips.{flip_passed, turned_fits, turned, flip_room, flip_runnable, flip_refused, flip_settles, flip_answer}
use Rattle.patch.proofs.parts.flipped.Goals as goal
use Rattle.patch.proofs.parts.flipped.Goals.{After-mentions-w}

room : (c : After-mentions-w) → let s = c.args in
    (s.reached.at + 1 + 2 * length c.mentions-w.result.now + s.length ≤ farthest) × (s.reached.from + 1 + 2 * length c.mentions-w.result.now + s.length ≤ length s.old.now)
room c = flip_room c.requires.0 c.mentions-w.ensures

pub mentions-w-requires : goal.mentions-w-requires
mentions-w-requires c = inside c.requires.0.entered.known

pub started-store-requires : goal.started-store-requires
started-store-requires c = ((forked_at c.requires.0).first, c.requires.0.entered.sound.near)

pub bounds-old-from : goal.bounds-old-from
bounds-old-from c = omega (arith, (room (goal.at.bounds-old-from c).After-mentions-w).1)

pub node-top-requires : goal.node-top-requires
node-top-requires c = inside c.requires.0.entered.known

pub overflow_sub-condition : goal.overflow_sub-condition
overflow_sub-condition c = turned_fits c.requires.0

pub overflow_add-behind-3 : goal.overflow_add-behind-3
overflow_add-behind-3 c = omega (arith, (room (goal.at.overflow_add-behind-3 c).After-mentions-w).0)

pub statement-requires : goal.statement-requires
statement-requires c =
    flip_runnable c.requires.0 c.started-store.ensures (turned c.requires.0 c.node-top.result c.node-top.ensures c.taken-other.ensures)
    c.mentions-w.ensures

pub returns-in_err-ran : goal.returns-in_err-ran
returns-in_err-ran c =
    rw (refusal_up c.from_residual.ensures.1)
    (flip_refused c.requires.0 c.started-store.ensures (turned c.requires.0 c.node-top.result c.node-top.ensures c.taken-other.ensures)
    c.mentions-w.ensures c.statement.ensures c.in_err-ran.was c.args.change)

pub snapshot-requires : goal.snapshot-requires
snapshot-requires c =
    listed_at c.requires.0.entered.known _ (omega (arith, (room (goal.at.snapshot-requires c).After-mentions-w).0))

pub plus-requires : goal.plus-requires
plus-requires c = flip_passed c.requires.0 c.args.change c.requires.1

pub freshened-requires : goal.freshened-requires
freshened-requires c =
    flip_settles c.requires.0 c.started-store.ensures (turned c.requires.0 c.node-top.result c.node-top.ensures c.taken-other.ensures)
    c.mentions-w.ensures c.statement.ensures c.in_ok-ran.was

pub returns : goal.returns
returns c =
    flip_answer c.requires.0 c.started-store.ensures (turned c.requires.0 c.node-top.result c.node-top.ensures c.taken-other.ensures)
    c.mentions-w.ensures c.statement.ensures c.in_ok-ran.was c.requires.1 c.snapshot.ensures.laid c.plus.ensures c.put.ensures
    c.freshened.ensures
