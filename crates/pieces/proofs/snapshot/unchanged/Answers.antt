-- `pieces::snapshot::unchanged` meets its contract. The loop's invariant: each variable before has change 0; the first that has not decides.
-- Assumes nothing.
use mathlib.Core.Path.{ap, ◌∙◌}
use native.Mathlib.Omega.{arith}
use mir.Syntax.{w64}
use mir.Val.{of_z}
use lib.ListN.{length}
use Rattle.rules.specs.Value.{at}
use Rattle.table.specs.Lists.{list_at}
use Rattle.pieces.proofs.Snapshots.{unchanged_all, unchanged_not}
use Rattle.pieces.proofs.Turns.{Listed, listed_one}
use Rattle.pieces.proofs.snapshot.unchanged.Goals as goal
use Rattle.pieces.proofs.snapshot.unchanged.Goals.{After-from}

read : (c : After-from) → Listed c.args.lists.now.lists c.args.node c.loop-v.v-index c.from.result
read c = listed_one c.requires c.of-v-items.ensures c.loop-v-test.true c.from.ensures

pub bounds-changes-from : goal.bounds-changes-from
bounds-changes-from c = (read c).low

pub returns-then-changes-from-ne0 : goal.returns-then-changes-from-ne0
returns-then-changes-from-ne0 c =
    let read' = read (goal.at.returns-then-changes-from-ne0 c).After-from in
    unchanged_not c.args.changes.now (list_at c.args.lists.now.lists c.args.node) c.loop-v.v-index read'.below
    (λ e. c.if-changes-from-ne0.true (ap (of_z w64) (ap (at c.args.changes.now) read'.is ∙ e)))

pub returns : goal.returns
returns c =
    unchanged_all c.args.changes.now (list_at c.args.lists.now.lists c.args.node)
    (λ k low. c.loop-v.invariant k (omega (arith, ap length c.of-v-items.ensures)))
