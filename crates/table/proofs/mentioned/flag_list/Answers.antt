-- `table::mentioned::flag_list` meets its contract. The loop's invariant: the flags of the variables so far are set.
-- Assumes nothing.
use mathlib.Core.Path.{refl, sym, ap, ap₂, ◌∙◌, subst}
use mathlib.Core.Bool.{Bool, true}
use mathlib.Core.List.{List}
use Prim.Native.Nat.{ℕ, ◌<◌}
use native.Mathlib.Omega.{arith}
use native.Mathlib.Numerals.{add-one}
use lib.ListN.{length, get_or, take, set}
use lib.Seq.{take-suc}
use Rattle.std.proofs.Common.{take_all}
use Rattle.rules.proofs.Laws.Rising.{flagged, flagged_more}
use Rattle.table.specs.Laws.Row.{row_low}
use Rattle.table.proofs.mentioned.flag_list.Goals as goal

pub loop-v-init : goal.loop-v-init
unfolding flagged
loop-v-init c = refl

pub bounds-flags-from : goal.bounds-flags-from
bounds-flags-from c =
    let low = subst (λ (l : List ℕ). (i : ℕ) → i < length l → get_or l i 0 < 32) (sym c.of-v-items.ensures) (row_low c.requires) in
    omega (arith, low c.loop-v.v-index c.loop-v-test.true, c.from.ensures)

pub loop-v-preserved : goal.loop-v-preserved
loop-v-preserved c =
    let a = c.args in
    let i = c.loop-v.v-index in
    let all = c.of-v-items.result.now in
    ap₂ (λ (fs : List Bool) (v : ℕ). set fs v true) c.loop-v.invariant c.from.ensures
    ∙ sym (ap (flagged a.flags.now) (ap (λ (k : ℕ). take k all) (add-one i) ∙ take-suc all i 0 c.loop-v-test.true)
    ∙ flagged_more a.flags.now (take i all) (get_or all i 0))

pub returns : goal.returns
returns c = c.loop-v.invariant ∙ ap (flagged c.args.flags.now) (take_all c.loop-v.v-index c.of-v-items.result.now c.loop-v-test.false ∙ c.of-v-items.ensures)
