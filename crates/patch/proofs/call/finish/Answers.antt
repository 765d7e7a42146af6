-- `patch::call::finish` meets its contract: the new inputs and outputs are made, and the outputs and then the room decide.
-- Assumes nothing.
use native.Mathlib.Omega.{arith}
use Rattle.patch.proofs.Inputs.{types_inside}
use Rattle.patch.proofs.Finishing.{table_sized, v_few, v_room, inputs_summed, outputs_summed, outputs_refused, room_refused, completable, completed}
use Rattle.patch.proofs.call.finish.Goals as goal

pub pair-v-requires : goal.pair-v-requires
pair-v-requires c = omega (arith, (table_sized c.requires).whole)

pub slice_bounds-sums-end : goal.slice_bounds-sums-end
slice_bounds-sums-end c = omega (arith, v_room c.requires c.pair-v.ensures.0)

pub sums-inputs-requires : goal.sums-inputs-requires
sums-inputs-requires c = inputs_summed c.requires c.pair-v.ensures.0

pub slice_bounds-sums-end-2 : goal.slice_bounds-sums-end-2
slice_bounds-sums-end-2 c = omega (arith, v_room c.requires c.pair-v.ensures.0)

pub sums-outputs-requires : goal.sums-outputs-requires
sums-outputs-requires c = outputs_summed c.requires c.pair-v.ensures.0

pub shared_ref_as_front-fits : goal.shared_ref_as_front-fits
shared_ref_as_front-fits c = v_few c.requires c.pair-v.ensures.0

pub fits-requires : goal.fits-requires
fits-requires c = types_inside (table_sized c.requires)

pub returns-then-not-fits : goal.returns-then-not-fits
returns-then-not-fits c h = outputs_refused h c.pair-v.ensures.0 c.sums-outputs.ensures c.fits.ensures _ _ c.if-not-fits.true

pub returns-then-out-reached : goal.returns-then-out-reached
returns-then-out-reached c h = room_refused h c.pair-v.ensures.0 c.sums-outputs.ensures c.fits.ensures _ _ c.if-not-fits.false c.if-out-reached.true

pub complete-requires : goal.complete-requires
complete-requires c = completable c.requires c.pair-v.ensures.0 c.sums-outputs.ensures c.sums-inputs.ensures c.if-out-reached.false

pub returns : goal.returns
returns c h =
    completed h c.pair-v.ensures.0 c.sums-outputs.ensures c.sums-inputs.ensures c.if-out-reached.false
    c.fits.ensures c.if-not-fits.false c.complete.result _ c.complete.ensures
