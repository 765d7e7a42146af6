-- `patch::parts::ended` meets its contract: fewer iterations fall away, more come anew, and as many as there were leave nothing to do.
-- Assumes nothing.
use native.Mathlib.Omega.{arith}
use Rattle.patch.proofs.Endings.{ended_shrunk, ended_broken, ended_same}
use Rattle.patch.proofs.parts.ended.Goals as goal

pub returns-then-next-was : goal.returns-then-next-was
returns-then-next-was c = ended_shrunk c.requires _ _ (omega (arith, c.if-next-was.true)) (omega (arith, c.if-next-was.true)) c.shrunk.ensures

pub returns-then-reached-end : goal.returns-then-reached-end
returns-then-reached-end c = ended_broken c.requires _ _ (omega (arith, c.if-next-was.false)) c.if-reached-end.true

pub returns : goal.returns
returns c =
    ended_same c.requires _ _ (omega (arith, c.if-next-was.false)) (omega (arith, c.if-was-next.false)) c.if-reached-end.false
