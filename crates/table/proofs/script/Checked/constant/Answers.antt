-- `table::script::Checked::constant` meets its contract: the constant's bytes are those of its node.
-- Assumes nothing.
use mathlib.Core.Path.{ap, ◌∙◌}
use native.Mathlib.Omega.{arith}
use borrow.Author.Rules.{rules}
use mir.Syntax.{w64}
use mir.Val.{SFits}
use mir.ValLaws.{to_z-of_z}
use Rattle.rules.specs.Table.{constant_of}
use Rattle.table.specs.Laws.Reading.{sizes, node_place}
use Rattle.table.proofs.script.Checked.constant.Goals as goal

pub overflow_mul-n : goal.overflow_mul-n
overflow_mul-n c = let s = c.args.self.now in
    let w = sizes s.table.now s.base s.accepted s.based in omega (arith, w.small)

pub overflow_add-self : goal.overflow_add-self
overflow_add-self c = let s = c.args.self.now in
    let w = sizes s.table.now s.base s.accepted s.based in omega (arith, w.small, w.base_is, w.few)

pub constant-requires : goal.constant-requires
constant-requires c = let s = c.args.self.now in
    let w = sizes s.table.now s.base s.accepted s.based in omega (arith, w.whole)

pub returns : goal.returns
returns c =
    let s = c.args.self.now in
    let f : SFits w64 c.constant.result = search rules in
    to_z-of_z w64 _ f ∙ c.constant.ensures ∙ ap constant_of (node_place s.table.now s.base s.accepted s.based c.args.n)
