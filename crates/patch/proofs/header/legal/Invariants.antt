-- `patch::header::legal` meets its contract. The loop's invariant: each input before i may take its change; the first that may not decides.
-- Assumes nothing.
use mathlib.Core.Path.{◌≡◌}
use mathlib.Core.Bool.{true}
use Prim.Native.Nat.{ℕ, ◌<◌}
use Rattle.rules.specs.Value.{at}
use Rattle.run.specs.Laws.Fitting.{type_by}
use Rattle.patch.specs.Call.{legal_change}
use Rattle.patch.proofs.header.legal.Given as goal

abbrev pub invariant-loop-i : goal.invariant-loop-i
invariant-loop-i l = (k : ℕ) → k < l.i → legal_change (type_by l.t k) (at l.inputs k) (at l.changes k) ≡ true
