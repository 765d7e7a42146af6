-- `table::mentioned::Mentioned::fill` meets its contract. The loop's invariant: the nodes below n have their lists.
-- Assumes nothing.
use Rattle.table.specs.Listing.{Made}
use Rattle.table.proofs.mentioned.Mentioned.fill.Given as goal

abbrev pub invariant-loop-n : goal.invariant-loop-n
invariant-loop-n l = Made l.t l.self.lists l.n
