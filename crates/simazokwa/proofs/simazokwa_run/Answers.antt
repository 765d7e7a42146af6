-- `simazokwa_run` meets its contract: the run answers by its definition, whose counts are words, and its answer's words are told.
-- Assumes nothing.
use mathlib.Core.Path.{sym, subst}
use native.Mathlib.Omega.{arith}
use Rattle.simazokwa.specs.Words.{Tellable}
use Rattle.simazokwa.specs.Counted.{run_tellable}
use Rattle.simazokwa.specs.Laid.{run_told}
use mir.Syntax.{w64}
use mir.ValLaws.{to_z-of_z}
use Rattle.simazokwa.proofs.simazokwa_run.Goals as goal

pub tell-requires : goal.tell-requires
tell-requires c = subst Tellable (sym c.run-made.ensures.answers) (run_tellable _ _ _ _ (omega (arith, c.run-made.auto)))

pub returns : goal.returns
returns c =
    run_told c.run-made.ensures (to_z-of_z w64 c.args.limit c.ranges.limit) c.tell.ensures.number c.tell.ensures.laid
