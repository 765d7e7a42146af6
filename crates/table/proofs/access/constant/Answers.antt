-- `table::access::constant` meets its contract: the four bytes are B and C, and what they are as a signed number is `signed`.
-- Assumes nothing.
use mathlib.Core.Path.{ap, ◌∙◌}
use Prim.Native.Nat.{◌+◌}
use native.Mathlib.Omega.{arith}
use borrow.Author.Rules.{rules}
use mir.Syntax.{w32, w64}
use mir.Val.{SFits}
use mir.ValLaws.{to_z-of_z}
use Rattle.rules.specs.Table.{read_node, constant_of, signed}
use Rattle.table.specs.Laws.Nodes.{u16_drop, signed_is, four_bytes}
use Rattle.table.proofs.access.constant.Goals as goal

pub returns : goal.returns
unfolding constant_of read_node
returns c =
    let t = c.args.t.now in
    let at = c.args.at in
    let wide : SFits w64 c.from.result = search rules in
    let narrow : SFits w32 c.from_le_bytes.result = search rules in
    rw (u16_drop t at 4, u16_drop t at 6)
    (to_z-of_z w64 _ wide ∙ c.from.ensures ∙ to_z-of_z w32 _ narrow ∙ c.from_le_bytes.ensures
    ∙ signed_is _ (omega (arith, c.type_inv.t (at + 4), c.type_inv.t (at + 5), c.type_inv.t (at + 6), c.type_inv.t (at + 7))) ∙ ap signed (four_bytes t at))
