-- `pieces::snapshot::patch_snapshot` meets its contract: a snapshot that is read stands there, so it may be moved; either step refuses for
-- the whole. Assumes nothing.
use Rattle.pieces.proofs.Patching.{fits_standing, patched_not, patched_as}
use Rattle.pieces.proofs.snapshot.patch_snapshot.Goals as goal

pub move_snapshot-requires : goal.move_snapshot-requires
move_snapshot-requires c = (fits_standing c.requires.0 c.if-snapshot_fits.ensures, c.requires.1)

pub returns-then-snapshot_fits : goal.returns-then-snapshot_fits
returns-then-snapshot_fits c =
    patched_as c.requires.0 c.args.changes.now c.args.out.now c.args.at _ c.if-snapshot_fits.ensures c.move_snapshot.result c.move_snapshot.ensures

pub returns-else-snapshot_fits : goal.returns-else-snapshot_fits
returns-else-snapshot_fits c =
    rw c.if-snapshot_fits.false (patched_not c.requires.0 c.args.changes.now c.args.out.now c.args.at _ c.if-snapshot_fits.ensures)
