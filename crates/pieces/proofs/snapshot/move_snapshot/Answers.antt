-- `pieces::snapshot::move_snapshot` meets its contract. The loop's invariant: the first i of the new words are in their types and laid down;
-- the first that is not refuses. Assumes nothing.
use mathlib.Core.Path.{ap}
use native.Mathlib.Omega.{arith}
use lib.IntN.{pos}
use lib.ListN.{length}
use borrow.Author.Count.{below_none, below_more}
use Rattle.rules.specs.Table.{types_of}
use Rattle.run.specs.Laws.Numbers.{word}
use Rattle.run.specs.Laws.Laying.{laid_none, laid_by, laid_all}
use Rattle.pieces.specs.Laws.Snapshot.{named_row}
use Rattle.pieces.proofs.Snapshots.{moves_all, moves_not}
use Rattle.pieces.proofs.Turns.{whole, news_long, Reading, reading, passed_near, moved_is, moved_outside}
use Rattle.pieces.proofs.snapshot.move_snapshot.Goals as goal
use Rattle.pieces.proofs.snapshot.move_snapshot.Goals.{After-from-v}

pub of-v-items-requires : goal.of-v-items-requires
of-v-items-requires c = named_row c.requires.0.named

read : (c : After-from-v) → Reading c.args.t.now c.args.lists.now.lists c.args.node c.args.old.now c.args.from c.loop-i.i c.from-v.result
read c = reading c.requires.0 c.of-v-items.ensures c.loop-i-test.true c.from-v.ensures

pub type_of-requires : goal.type_of-requires
type_of-requires c = (c.requires.0.named.long, (read c).its.known)

pub loop-i-init : goal.loop-i-init
loop-i-init c = (below_none _, laid_none)

pub bounds-changes-v : goal.bounds-changes-v
bounds-changes-v c = (read (goal.at.bounds-changes-v c).After-from-v).its.low

pub moved-requires : goal.moved-requires
moved-requires c = passed_near (read (goal.at.moved-requires c).After-from-v) c.args.changes.now c.requires.1.0

pub returns-in_default : goal.returns-in_default
returns-in_default c =
    let read' = read (goal.at.returns-in_default c).After-from-v in
    moves_not (types_of c.args.t.now) c.args.changes.now _ _ (whole c.requires.0) c.args.out.now c.args.at _ c.loop-i.i
    read'.its.below
    (moved_outside read' c.args.changes.now c.requires.1.0 c.type_of.ensures c.moved.ensures c.in_default.is)

pub loop-i-preserved : goal.loop-i-preserved
loop-i-preserved c =
    let read' = read (goal.at.loop-i-preserved c).After-from-v in
    let told = moved_is read' c.args.changes.now c.requires.1.0 c.type_of.ensures c.moved.ensures c.in-Some.is in (
      below_more _ _ c.loop-i.invariant.0 told.0,
      laid_by (pos 0) c.loop-i.invariant.1 (omega (arith, read'.its.below, news_long c.requires.0 c.args.changes.now)) told.1
          (word c.in-Some.new (omega arith)) c.put.ensures,
    )

pub returns : goal.returns
returns c =
    let all = ap length c.of-v-items.ensures in
    moves_all (types_of c.args.t.now) c.args.changes.now _ _ (whole c.requires.0) c.args.out.now c.args.at _
    (λ k low. c.loop-i.invariant.0 k (omega (arith, all)))
    (laid_all c.loop-i.invariant.1 (omega (arith, all, news_long c.requires.0 c.args.changes.now)))
