-- `table::mentioned::Mentioned::write` meets its contract. The loop's invariant is `Laying`: the flagged variables below v are written.
-- Assumes nothing.
use mathlib.Core.Path.{◌≡◌, ◌∙◌}
use Prim.Native.Nat.{◌≤◌}
use native.Mathlib.Omega.{arith}
use borrow.Author.Rules.{rules}
use lib.ListN.{length, length-set}
use Rattle.table.specs.Rows.{laying_none, laying_set, laying_pass, laying_done}
use Rattle.table.proofs.mentioned.Mentioned.write.Goals as goal
use Rattle.table.proofs.mentioned.Mentioned.write.Goals.{then-flags-v, else-flags-v}

pub loop-v-init : goal.loop-v-init
loop-v-init c =
    let all : length c.args.flags ≡ 32 = search rules in
    let long : length c.args.self.now.lists ≡ 16896 = search rules in
    let enough : c.args.bound ≤ length c.args.flags = omega (arith, all) in
    (long, laying_none c.args.self.now.lists c.args.n c.args.flags c.args.bound enough)

pub loop-v-preserved : goal.loop-v-preserved
loop-v-preserved c =
    let all : length c.args.flags ≡ 32 = search rules in
    let enough : c.args.bound ≤ length c.args.flags = omega (arith, all) in
    let a = c.args in
    let l = c.loop-v in
    let h = c.loop-v-test.true in
    elim c.if-flags-v.branch [
      | then-flags-v w ↦ rw (w.self-is, w.count-is)
          (length-set l.self.lists _ _ ∙ l.invariant.0, laying_set a.self.now.lists a.n a.flags a.bound enough l.self.lists l.count l.v l.invariant.1 h w.if-flags-v.true)
      | else-flags-v w ↦ rw (w.self-is, w.count-is)
          (l.invariant.0, laying_pass a.self.now.lists a.n a.flags a.bound enough l.self.lists l.count l.v l.invariant.1 h w.if-flags-v.false)
    ]

pub returns : goal.returns
returns c =
    let all : length c.args.flags ≡ 32 = search rules in
    let enough : c.args.bound ≤ length c.args.flags = omega (arith, all) in
    let a = c.args in
    let l = c.loop-v in
    laying_done a.self.now.lists a.n a.flags a.bound enough l.self.lists l.count l.v l.invariant.1 c.loop-v-test.false
