-- `pieces::snapshot::unchanged` meets its contract. The loop's invariant: each variable before i has change 0; the first that has not decides.
-- Assumes nothing.
use mathlib.Core.Path.{◌≡◌}
use Prim.Native.Nat.{ℕ, ◌<◌}
use lib.ListN.{get_or}
use lib.IntN.{pos}
use Rattle.rules.specs.Value.{at}
use Rattle.table.specs.Lists.{list_at}
use Rattle.pieces.proofs.snapshot.unchanged.Given as goal

abbrev pub invariant-loop-v : goal.invariant-loop-v
invariant-loop-v l = (k : ℕ) → k < l.v-index → at l.changes (get_or (list_at l.lists.lists l.node) k 0) ≡ pos 0
