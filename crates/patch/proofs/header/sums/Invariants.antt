-- `patch::header::sums` meets its contract. The loop's invariant: the first i sums are laid over the zeros.
-- Assumes nothing.
use mathlib.Core.Path.{◌≡◌}
use lib.ListN.{take}
use Rattle.numbers.specs.Lay.{lay}
use Rattle.rules.specs.Value.{zeros, most_variables, plus_all}
use Rattle.rules.specs.Table.{types_of}
use Rattle.patch.proofs.header.sums.Given as goal

abbrev pub invariant-loop-i : goal.invariant-loop-i
invariant-loop-i l = l.values ≡ lay (zeros most_variables) 0 (take l.i (plus_all (types_of l.t) l.words l.changes))
