-- `simazokwa_patch` meets its contract: the patch answers by its definition, whose counts are words, and its answer's words are told.
-- Assumes nothing.
use mathlib.Core.Path.{sym, subst}
use native.Mathlib.Omega.{arith}
use Rattle.simazokwa.specs.Words.{Tellable}
use Rattle.simazokwa.specs.Counted.{patch_tellable}
use Rattle.simazokwa.specs.Laid.{patch_told}
use Rattle.simazokwa.proofs.simazokwa_patch.Goals as goal

pub tell-requires : goal.tell-requires
tell-requires c = subst Tellable (sym c.patch-made.ensures.answers) (patch_tellable _ _ _ _ (omega (arith, c.patch-made.auto)))

pub returns : goal.returns
returns c = patch_told c.patch-made.ensures c.tell.ensures.number c.tell.ensures.laid
