-- `run::call::complete` meets its contract: the header's words are laid before the root's entry, and zeros behind it.
-- Assumes nothing.
use mathlib.Core.Path.{refl}
use native.Mathlib.Omega.{arith}
use Rattle.rules.specs.Value.{zeros, most_variables}
use Prim.Native.Nat.{◌-◌}
use Rattle.run.specs.Laws.Numbers.{three_put}
use Rattle.run.specs.Laws.Completed.{outputs_few, answer_is, buffer_is}
use Rattle.run.proofs.call.complete.Goals as goal

pub padded-outputs-requires : goal.padded-outputs-requires
padded-outputs-requires c = outputs_few c.requires

pub returns : goal.returns
unfolding zeros most_variables
returns c =
    let size = c.args.ran.at in
    let steps = c.args.limit - c.args.ran.left in
    λ d out e. (
      answer_is c.requires d out e _ refl refl refl refl refl refl c.padded-outputs.ensures refl,
      buffer_is c.requires d out e
          (three_put c.args.out.now 0 size c.args.limit steps (omega (arith, c.requires.near)) (omega (arith, c.requires.low)) (omega (arith, c.requires.low)) c.put.ensures c.put-2.ensures c.put-3.ensures)
          c.lay_slice-behind.ensures.laid
          c.lay_slice-behind.ensures.behind
          c.lay_slice.ensures.laid
          c.clear.ensures,
    )
