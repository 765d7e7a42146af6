-- `table::mentioned::Mentioned::fill` meets its contract. The loop's invariant: the nodes below n have their lists.
-- Assumes nothing.
use mathlib.Core.Path.{◌≡◌, refl, ap, ◌∙◌, subst}
use Prim.Native.Nat.{ℕ}
use native.Mathlib.Omega.{arith}
use borrow.Author.Rules.{rules}
use lib.ListN.{length, take}
use Rattle.rules.specs.Table.{variables, nodes}
use Rattle.rules.proofs.Laws.Rising.{rising}
use Rattle.table.specs.Rows.{laid}
use Rattle.table.specs.Listing.{Made, made_next, lists_all}
use Rattle.table.specs.Laws.Reading.{sizes}
use Rattle.table.proofs.mentioned.Mentioned.fill.Goals as goal

pub pair-variables-requires : goal.pair-variables-requires
pair-variables-requires c = let w = sizes c.args.t.now _ c.requires refl in omega (arith, w.whole, w.base_is)

pub pair-n-end-requires : goal.pair-n-end-requires
pair-n-end-requires c = let w = sizes c.args.t.now _ c.requires refl in omega (arith, w.whole, w.base_is)

pub flags_of-flags-requires : goal.flags_of-flags-requires
unfolding nodes
flags_of-flags-requires c =
    record { table = c.requires; inside = omega (arith, c.pair-n-end.ensures.0, c.loop-n-test.true); made = c.loop-n.invariant }

pub write-requires : goal.write-requires
unfolding variables nodes
write-requires c =
    let w = sizes c.args.t.now _ c.requires refl in
    (omega (arith, w.small, c.pair-n-end.ensures.0, c.loop-n-test.true), omega (arith, c.pair-variables.ensures.0, w.few))

pub loop-n-preserved : goal.loop-n-preserved
unfolding variables nodes
loop-n-preserved c =
    let all : length c.flags_of-flags.result ≡ 32 = search rules in
    let w = sizes c.args.t.now _ c.requires refl in
    let written : c.write.new.self.lists ≡ laid c.loop-n.self.lists c.loop-n.n (rising 0 (take (variables c.args.t.now) c.flags_of-flags.result))
    = c.write.ensures ∙ ap (λ (k : ℕ). laid c.loop-n.self.lists c.loop-n.n (rising 0 (take k c.flags_of-flags.result))) c.pair-variables.ensures.0 in
    rw written (made_next c.args.t.now c.requires c.loop-n.self.lists c.loop-n.n c.flags_of-flags.result
    (omega (arith, w.small, c.pair-n-end.ensures.0, c.loop-n-test.true)) c.loop-n.invariant all c.flags_of-flags.ensures)

pub returns : goal.returns
unfolding nodes
returns c =
    let e : c.loop-n.n ≡ nodes c.args.t.now = omega (arith, c.pair-n-end.ensures.0) in
    lists_all c.args.t.now c.requires c.loop-n.self.lists (subst (Made c.args.t.now c.loop-n.self.lists) e c.loop-n.invariant)
