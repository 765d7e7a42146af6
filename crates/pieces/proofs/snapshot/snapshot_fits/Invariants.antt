-- `pieces::snapshot::snapshot_fits` meets its contract. The loop's invariant: each word before i is in its type; the first that is not decides.
-- Assumes nothing.
use mathlib.Core.Path.{◌≡◌}
use mathlib.Core.Bool.{true}
use Prim.Native.Nat.{ℕ, ◌+◌, ◌<◌}
use lib.ListN.{get_or}
use Rattle.rules.specs.Value.{at, type_of, in_type}
use Rattle.rules.specs.Table.{types_of}
use Rattle.table.specs.Lists.{list_at}
use Rattle.pieces.proofs.snapshot.snapshot_fits.Given as goal

abbrev pub invariant-loop-i : goal.invariant-loop-i
invariant-loop-i l =
    (k : ℕ) → k < l.i → in_type (type_of (types_of l.t) (get_or (list_at l.lists.lists l.node) k 0)) (at l.old (l.from + k)) ≡ true
