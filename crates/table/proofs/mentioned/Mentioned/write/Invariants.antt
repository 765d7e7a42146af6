-- `table::mentioned::Mentioned::write` meets its contract. The loop's invariant is `Laying`: the flagged variables below v are written.
-- Assumes nothing.
use mathlib.Core.Path.{◌≡◌}
use lib.ListN.{length}
use Rattle.table.specs.Rows.{Laying}
use Rattle.table.proofs.mentioned.Mentioned.write.Given as goal

abbrev pub invariant-loop-v : goal.invariant-loop-v
invariant-loop-v l = (length l.self.lists ≡ 16896) × Laying l.initial.self.lists l.n l.flags l.bound l.self.lists l.count l.v
