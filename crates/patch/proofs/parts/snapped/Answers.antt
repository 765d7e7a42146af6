-- `patch::parts::snapped` meets its contract: a snapshot that does not take its changes is broken; else the walk moves on behind it.
-- Assumes nothing.
use native.Mathlib.Omega.{arith}
use lib.ListN.{length}
use Prim.Native.Nat.{◌≤◌}
use Rattle.pieces.specs.Laws.Snapshot.{named_row}
use Rattle.patch.proofs.Heads.{snapped_broken, snapped_on}
use Rattle.patch.proofs.Nodes.{narrow}
use Rattle.patch.proofs.parts.snapped.Goals as goal

pub returns-then-not-patch_snapshot : goal.returns-then-not-patch_snapshot
returns-then-not-patch_snapshot c = snapped_broken c.requires c.args.out.now _ c.patch_snapshot.ensures c.if-not-patch_snapshot.true

pub advanced-requires : goal.advanced-requires
advanced-requires c =
    let h = c.requires.sound in
    let few : length c.of.result.now ≤ 32 = rw c.of.ensures (narrow c.requires.named) in
    (omega (arith, h.inside.ordered, h.inside.ends, few), omega (arith, h.place, h.inside.ordered, h.inside.ends, few))

pub returns : goal.returns
returns c = snapped_on c.requires c.args.out.now _ c.patch_snapshot.ensures c.if-not-patch_snapshot.false (rw c.of.ensures at c.advanced.ensures)

pub of-requires : goal.of-requires
of-requires c = named_row c.requires.named
