-- `patch::call::patch` meets its contract: the answer of the attempt, or its reason and a buffer of zeros.
-- Assumes nothing.
use Rattle.patch.proofs.Testing.{patch_answered, patch_refused}
use Rattle.patch.proofs.call.patch.Goals as goal

pub returns-in-Ok : goal.returns-in-Ok
returns-in-Ok c = patch_answered c.args.t.now c.args.old.now c.args.changes.now c.attempt.ensures c.in-Ok.is c.attempt.auto.out

pub returns-in-Err : goal.returns-in-Err
returns-in-Err c =
    patch_refused c.args.t.now c.args.old.now c.args.changes.now c.attempt.ensures c.in-Err.is c.refuse.result _ c.refuse.ensures
    c.refuse.auto.out c.attempt.auto.out
