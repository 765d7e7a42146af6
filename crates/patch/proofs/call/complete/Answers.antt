-- `patch::call::complete` meets its contract: the header's words are laid before the root's entry, and zeros behind it.
-- Assumes nothing.
use mathlib.Core.Path.{refl}
use Prim.Native.Nat.{◌-◌, ◌<◌}
use native.Mathlib.Omega.{arith}
use Rattle.run.specs.Laws.Numbers.{three_put}
use Rattle.patch.proofs.Completing.{moved_few, counted, buffer_is, answer_is}
use Rattle.patch.proofs.call.complete.Goals as goal

pub padded-moved-requires : goal.padded-moved-requires
padded-moved-requires c = moved_few c.requires

pub overflow_sub-result : goal.overflow_sub-result
overflow_sub-result c = omega (arith, counted c.requires)

pub overflow_sub-result-2 : goal.overflow_sub-result-2
overflow_sub-result-2 c = omega (arith, counted c.requires)

pub returns : goal.returns
returns c h =
    let s = c.args in
    let r = s.reached in
    let near : r.at < 9_223_372_036_854_775_808 = omega (arith, h.near) in
    let low : s.limit < 9_223_372_036_854_775_808 = omega (arith, h.low) in
    let fewer : s.limit - r.left < 9_223_372_036_854_775_808 = omega (arith, h.low) in
    let three = three_put s.out.now 0 r.at s.limit (s.limit - r.left) near low fewer c.put.ensures c.put-2.ensures c.put-3.ensures in (
      answer_is h _ refl refl refl refl refl refl refl c.padded-moved.ensures,
      buffer_is h three c.lay_slice-behind.ensures.laid c.lay_slice-behind.ensures.behind c.lay_slice.ensures.laid c.clear.ensures,
    )
