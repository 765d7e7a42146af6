-- `table::mentioned::Mentioned::of` meets its contract: the list is as long as the first byte of its row says.
-- Assumes nothing.
use mathlib.Core.Path.{◌≡◌, ap}
use Prim.Native.Nat.{ℕ, ◌+◌, ◌*◌, ◌-◌}
use native.Mathlib.Omega.{arith}
use lib.ListN.{get_or, take, drop}
use Rattle.table.specs.Lists.{list_at}
use Rattle.table.proofs.mentioned.Mentioned.of.Goals as goal

pub returns : goal.returns
unfolding list_at
returns c =
    let n = c.args.n in
    let e : 33 * n + 1 + c.from-count.result - (33 * n + 1) ≡ get_or c.args.self.now.lists (33 * n) 0 = omega arith in
    ap (λ (k : ℕ). take k (drop (33 * n + 1) c.args.self.now.lists)) e
