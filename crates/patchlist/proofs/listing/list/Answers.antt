-- `patchlist::listing::list` meets its contract: a session that opens has its header and its table, and at most 64 patches.
-- Assumes nothing.
use mathlib.Core.Path.{◌≡◌, sym, ap, ◌∙◌}
use Prim.Native.Nat.{◌+◌, ◌-◌}
use native.Mathlib.Omega.{arith}
use Rattle.rules.specs.Table.{u16}
use Rattle.patchlist.proofs.Sessions.{session_refused, session_opened}
use Rattle.patchlist.proofs.listing.list.Goals as goal

pub returns-then-not-opens : goal.returns-then-not-opens
returns-then-not-opens c = session_refused c.args.s.now c.args.last.now (sym c.opens.ensures ∙ c.if-not-opens.true)

pub returns : goal.returns
returns c =
    let n : 8 + c.pair-end.result - 8 ≡ u16 c.args.s.now 2 = omega (arith, c.pair-end.ensures.0) in
    session_opened c.args.s.now c.args.last.now (sym c.opens.ensures ∙ c.if-not-opens.false)
    (8 + c.pair-end.result - 8) (8 + c.pair-end.result) c.pair.result n (ap (8 +◌) c.pair-end.ensures.0) c.pair.ensures.0 c.list_table.ensures
