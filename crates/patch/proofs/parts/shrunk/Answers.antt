-- `patch::parts::shrunk` meets its contract: the last snapshot of the entry stands before its end, and the changes are settled against it.
-- Assumes nothing.
use mathlib.Core.Path.{refl}
use Rattle.patch.proofs.Nodes.{inside}
use Rattle.patch.proofs.Fresh.{store_near, from_last}
use Rattle.patch.proofs.Shrinking.{shrunk_short, shrunk_broken, tail_standing, shrunk_answer}
use Rattle.patch.proofs.parts.shrunk.Goals as goal

pub mentions-w-requires : goal.mentions-w-requires
mentions-w-requires c = inside c.requires.known

pub returns-then-end-from : goal.returns-then-end-from
returns-then-end-from c = shrunk_short c.requires c.mentions-w.ensures c.if-end-from.true

pub returns-then-not-snapshot_fits : goal.returns-then-not-snapshot_fits
returns-then-not-snapshot_fits c =
    shrunk_broken c.requires c.mentions-w.ensures c.if-end-from.false c.snapshot_fits.ensures
    c.if-not-snapshot_fits.true

pub settled-next-requires : goal.settled-next-requires
settled-next-requires c = (
  tail_standing c.requires c.mentions-w.ensures c.if-end-from.false c.snapshot_fits.ensures c.if-not-snapshot_fits.false,
  store_near (from_last c.requires.lastly c.started-store.ensures),
)

pub returns : goal.returns
returns c =
    shrunk_answer c.requires c.mentions-w.ensures c.if-end-from.false c.snapshot_fits.ensures c.if-not-snapshot_fits.false
    c.started-store.ensures (record { changes = c.settled-next.ensures; left = refl; walked = refl; reused = refl; from = refl; at = refl })
