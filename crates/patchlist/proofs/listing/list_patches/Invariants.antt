-- `patchlist::listing::list_patches` meets its contract. The loop's invariant: the record is the one that i patches hand on.
-- Assumes nothing.
use mathlib.Core.Path.{◌≡◌}
use Rattle.patchlist.specs.Session.{handed_on}
use Rattle.patchlist.proofs.listing.list_patches.Given as goal

abbrev pub invariant-loop-i : goal.invariant-loop-i
invariant-loop-i l = l.old ≡ handed_on l.session.table.now l.session.variables l.lists l.initial.old l.i
