-- `run::input::fits` meets its contract. The loop's invariant: each value before i is one of its type; the first that is not decides.
-- Assumes nothing.
use mathlib.Core.Path.{◌≡◌}
use mathlib.Core.Bool.{true}
use Prim.Native.Nat.{ℕ, ◌<◌}
use Rattle.rules.specs.Value.{in_type, at}
use Rattle.run.specs.Laws.Fitting.{type_by}
use Rattle.run.proofs.input.fits.Given as goal

abbrev pub invariant-loop-i : goal.invariant-loop-i
invariant-loop-i l = (k : ℕ) → k < l.i → in_type (type_by l.t k) (at l.inputs k) ≡ true
