-- `pieces::snapshot::started` meets its contract. The loop's invariant: the first i of the new values are put into a store of zeros; what a
-- turn computes is the next. Assumes nothing.
use mathlib.Core.Path.{ap}
use native.Mathlib.Omega.{arith}
use lib.ListN.{length}
use Rattle.rules.specs.Value.{zeros, most_variables}
use Rattle.pieces.specs.Laws.Snapshot.{named_row}
use Rattle.pieces.proofs.Snapshots.{put_none, put_all}
use Rattle.pieces.proofs.Turns.{news_long, Reading, reading, passed_near, plus_put}
use Rattle.pieces.proofs.snapshot.started.Goals as goal
use Rattle.pieces.proofs.snapshot.started.Goals.{After-from-v}

pub of-v-items-requires : goal.of-v-items-requires
of-v-items-requires c = named_row c.requires.0.named

read : (c : After-from-v) → Reading c.args.t.now c.args.lists.now.lists c.args.node c.args.old.now c.args.from c.loop-i.i c.from-v.result
read c = reading c.requires.0 c.of-v-items.ensures c.loop-i-test.true c.from-v.ensures

pub type_of-requires : goal.type_of-requires
type_of-requires c = (c.requires.0.named.long, (read c).its.known)

pub loop-i-init : goal.loop-i-init
unfolding zeros most_variables
loop-i-init c = put_none

pub bounds-changes-v : goal.bounds-changes-v
bounds-changes-v c = (read (goal.at.bounds-changes-v c).After-from-v).its.low

pub plus-requires : goal.plus-requires
plus-requires c = passed_near (read (goal.at.plus-requires c).After-from-v) c.args.changes.now c.requires.1

pub bounds-values-v : goal.bounds-values-v
bounds-values-v c = (read (goal.at.bounds-values-v c).After-from-v).its.low

pub loop-i-preserved : goal.loop-i-preserved
loop-i-preserved c =
    plus_put (read (goal.at.loop-i-preserved c).After-from-v) c.args.changes.now c.requires.1 c.type_of.ensures c.plus.result c.plus.type_inv
    c.plus.ensures c.loop-i.invariant

pub returns : goal.returns
returns c =
    let all = ap length c.of-v-items.ensures in
    put_all c.loop-i.invariant (omega (arith, all)) (omega (arith, all, news_long c.requires.0 c.args.changes.now))
