-- `patchlist::listing::list_patch` meets its contract: the new record takes the old one's place only where the patch is accepted.
-- Assumes nothing.
use mathlib.Core.Path.{◌≡◌}
use lib.ListN.{length}
use Rattle.patchlist.proofs.Sessions.{handed_new, handed_old}
use borrow.Author.Rules.{rules}
use Rattle.patchlist.proofs.listing.list_patch.Goals as goal

pub returns-in-Accepted : goal.returns-in-Accepted
returns-in-Accepted c =
    let long : length c.patch-answer.new.out ≡ 2048 = search rules in
    handed_new c.args.session.now.table.now c.args.old.now c.args.changes.now c.patch-answer.result _ c.patch-answer.ensures long c.in-Accepted.is

pub returns-in_default : goal.returns-in_default
returns-in_default c =
    let long : length c.patch-answer.new.out ≡ 2048 = search rules in
    handed_old c.args.session.now.table.now c.args.old.now c.args.changes.now c.patch-answer.result _ c.patch-answer.ensures long
    c.in_default.field-0 c.in_default.is
