-- `patch::parts::head_fits` meets its contract: no word, or one of another type, is what reading it refuses; behind it the snapshot decides.
-- Assumes nothing.
use mathlib.Core.Path.{◌≡◌, sym, ◌∙◌}
use mir.Syntax.{w64}
use mir.ValLaws.{to_z-of_z}
use borrow.Author.Rules.{rules}
use Rattle.rules.specs.Value.{at}
use Rattle.table.specs.Kinds.{paper_type}
use Rattle.pieces.specs.Laws.Changes.{kept}
use Rattle.patch.proofs.Heads.{head_none, head_wrong, head_snapped}
use Rattle.patch.proofs.parts.head_fits.Goals as goal

pub returns-then-end-from : goal.returns-then-end-from
returns-then-end-from c = head_none c.requires (paper_type c.args.kind) c.args.out.now _ c.if-end-from.true

pub returns-then-not-in_type : goal.returns-then-not-in_type
returns-then-not-in_type c =
    let word_is : kept (at c.args.old.now c.args.reached.from) ≡ at c.args.old.now c.args.reached.from = to_z-of_z w64 _ (search rules) in
    head_wrong c.requires (paper_type c.args.kind) c.args.out.now _ c.if-end-from.false word_is (sym c.in_type.ensures ∙ c.if-not-in_type.true)

pub returns : goal.returns
returns c =
    let word_is : kept (at c.args.old.now c.args.reached.from) ≡ at c.args.old.now c.args.reached.from = to_z-of_z w64 _ (search rules) in
    head_snapped c.requires (paper_type c.args.kind) c.args.out.now _ c.if-end-from.false word_is (sym c.in_type.ensures ∙ c.if-not-in_type.false)
    c.patch_snapshot.result c.patch_snapshot.ensures
