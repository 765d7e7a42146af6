-- `table::header::Extent::of` meets its contract: the test of the header is that of the definition, and a right header tells the sizes.
-- Assumes nothing.
use mathlib.Core.Path.{refl, sym, ◌∙◌}
use native.Mathlib.Omega.{arith}
use Rattle.table.specs.Agrees.{agrees_ok, agrees_err}
use Rattle.table.specs.Laws.Tests.{header_told, headed, told_wrong, told_right}
use Rattle.table.proofs.header.Extent.of.Goals as goal

pub returns-then-not-header_fits : goal.returns-then-not-header_fits
returns-then-not-header_fits c =
    agrees_err (told_wrong _ (header_told c.args.bytes.now) (sym c.header_fits.ensures ∙ c.if-not-header_fits.true)) refl

pub pair-requires : goal.pair-requires
pair-requires c = let w = headed c.args.bytes.now (sym c.header_fits.ensures ∙ c.if-not-header_fits.false) in omega (arith, w.long)

pub pair-requires-2 : goal.pair-requires-2
pair-requires-2 c = let w = headed c.args.bytes.now (sym c.header_fits.ensures ∙ c.if-not-header_fits.false) in omega (arith, w.long)

pub invariant_of-result : goal.invariant_of-result
invariant_of-result c = record {
  headed = rw (c.pair.ensures.0, c.pair-2.ensures.0) (headed c.args.bytes.now (sym c.header_fits.ensures ∙ c.if-not-header_fits.false));
}

pub returns : goal.returns
returns c = agrees_ok (told_right _ (header_told c.args.bytes.now) (sym c.header_fits.ensures ∙ c.if-not-header_fits.false)) refl
